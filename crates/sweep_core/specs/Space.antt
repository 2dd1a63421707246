-- Which configurations a space has, and which ranges make a space.
use Rattle.std.specs.Prelude.{ℕ, ◌<◌, ◌*◌, ◌^◌, ◌&&◌, ◌||◌, not, nat_lt, nat_le, Bool, Option, None}
use Rattle.std.specs.Prelude.{Some, Result, Ok, Err, List, [], ◌∷◌, if◌then◌else◌, codes}
use Rattle.cache_core.specs.Powers.{is_power}
use Rattle.sweep_core.specs.declared.space.Config.{Config}
use Rattle.sweep_core.specs.declared.space.Which.{Which}
use Rattle.sweep_core.specs.declared.space.Which.TheVariants.{Bsize, Sets, Assoc, Size}
use Rattle.sweep_core.specs.declared.space.Cause.{Cause}
use Rattle.sweep_core.specs.declared.space.Cause.TheVariants.{NotPower, Limit, Reversed}
use Rattle.sweep_core.specs.declared.space.SpaceFault.{SpaceFault}

-- the name of a range
abbrev pub name_of : Which → List ℕ
name_of Bsize = codes "bsize"
name_of Sets = codes "sets"
name_of Assoc = codes "assoc"
name_of Size = codes "size"

-- the greatest block size, in bytes: the manual's limit, as the three that follow
abbrev pub largest_block : ℕ
largest_block = 2 ^ 20

-- the greatest number of sets
abbrev pub most_sets : ℕ
most_sets = 2 ^ 20

-- the greatest associativity
abbrev pub most_ways : ℕ
most_ways = 65536

-- the most lines of a cache
abbrev pub most_cache_lines : ℕ
most_cache_lines = 2 ^ 22

-- the lowest and the greatest value of each number, and whether associativities are powers of two
pub record Ranges : Type 0 where
  pub bsize : ℕ × ℕ
  pub sets : ℕ × ℕ
  pub assoc : ℕ × ℕ
  pub size : ℕ × ℕ
  pub powers : Bool

-- the ranges with these ends
abbrev pub ranges : ℕ × ℕ → ℕ × ℕ → ℕ × ℕ → ℕ × ℕ → Bool → Ranges
ranges bsize sets assoc size powers = record {
  bsize = bsize;
  sets = sets;
  assoc = assoc;
  size =
      size;
  powers = powers;
}

-- whether a number is in a range, ends included
abbrev pub is_in_range : ℕ × ℕ → ℕ → Bool
is_in_range range n = nat_le range.0 n && nat_le n range.1

-- the configuration of these numbers
abbrev pub config : ℕ → ℕ → ℕ → Config
config bsize sets assoc = record { bsize = bsize; sets = sets; assoc = assoc }

-- the bytes of all lines
abbrev pub bytes_of : Config → ℕ
bytes_of c = c.bsize * c.sets * c.assoc

-- the size of a configuration fits in 64 bits, and so does that of one way
abbrev pub HasSize : Config → Type 0
HasSize c = (c.bsize * c.sets < 2 ^ 64) × (bytes_of c < 2 ^ 64)

-- whether a configuration is one of a space
abbrev pub is_valid : Ranges → Config → Bool
is_valid space c =
    is_in_range space.bsize c.bsize && is_in_range space.sets c.sets && is_in_range
    space.assoc c.assoc
    && is_in_range space.size (bytes_of c)
    && is_power c.bsize && is_power c.sets && (not space.powers || is_power c.assoc)
    && nat_le (c.assoc * c.sets) most_cache_lines

-- why a range is refused, if it is: its lowest value is above the greatest
abbrev pub order_cause : ℕ × ℕ → Option Cause
order_cause range = if nat_lt range.1 range.0 then Some Reversed else None

-- why a range is refused, if it is: an end is outside 1 to the most, or else it is reversed
abbrev pub limit_cause : ℕ → ℕ × ℕ → Option Cause
limit_cause most range =
    if is_in_range (1, most) range.0 && is_in_range (1, most) range.1 then order_cause range
    else Some Limit

-- why a range is refused, if it is: an end is no power of two, or else as `limit_cause` says
abbrev pub power_cause : ℕ → ℕ × ℕ → Option Cause
power_cause most range =
    if is_power range.0 && is_power range.1 then limit_cause most range else Some NotPower

-- the first of some ranges that is refused
abbrev pub first_cause : List (Which × Option Cause) → Option SpaceFault
first_cause [] = None
first_cause ((which, None) ∷ more) = first_cause more
first_cause ((which, Some cause) ∷ more) = Some (record { which = which; cause = cause })

-- why these ranges make no space, if they make none
abbrev pub space_fault : Ranges → Option SpaceFault
space_fault space = first_cause (
    (Bsize, power_cause largest_block space.bsize)
    ∷ (Sets, power_cause most_sets space.sets)
    ∷ (Assoc, limit_cause most_ways space.assoc)
    ∷ (Size, order_cause space.size) ∷ [])

-- these ranges, or why they make no space
abbrev pub ranges_or : Ranges → Option SpaceFault → Result Ranges SpaceFault
ranges_or space None = Ok space
ranges_or space (Some fault) = Err fault

-- the space of some ranges
abbrev pub space_of : ℕ × ℕ → ℕ × ℕ → ℕ × ℕ → ℕ × ℕ → Bool → Result Ranges SpaceFault
space_of bsize sets assoc size powers =
    let space = ranges bsize sets assoc size powers in ranges_or space (space_fault space)
