-- References that wait to be fed.
use Rattle.std.specs.Prelude.{◌≡◌, ℕ, Bool, ◌==◌, ◌&&◌, nat_lt, ◌≤◌, ◌-◌, ◌/◌, ◌^◌, min, fold}
use Rattle.std.specs.Prelude.{List, [], ◌∷◌, ◌++◌, length, map, if◌then◌else◌, slice_index_or}
use Rattle.std.specs.List.{AllByRecursion}
use Rattle.std.specs.Option.{option_to_list}
use Rattle.trace_core.specs.declared.events.Kind.{Kind}
use Rattle.trace_core.specs.declared.events.Op.{Op}
use Rattle.trace_core.specs.declared.events.Op.TheVariants as op
use Rattle.trace_core.specs.Events.{references_to}
use Rattle.sweep_core.specs.declared.profiles.PairProfile.{PairProfile}
use Rattle.sweep_core.specs.internal.Feeding.{AreAlwaysBehind}
use Rattle.sweep_core.specs.internal.Pass.{kept_events}

-- a batch of references: those that wait, and how many were added so far, also those that need not
-- wait
pub record Batched (A : Type 0) : Type 0 where
  pub waiting : List A
  pub added : ℕ

-- how many references of an item with an operation a kind keeps
abbrev pub kept_count : Kind → Op → ℕ
kept_count kind op =
    let both = references_to op 0 in length (kept_events kind (both.0 ∷ option_to_list both.1))

-- that of each operation, in their order
abbrev pub kept_counts : Kind → List ℕ
kept_counts kind = map (kept_count kind) (op.Load ∷ op.Store ∷ op.Fetch ∷ op.Modify ∷ [])

-- whether an address lies in the same block of 2^bits bytes as the last of some others
abbrev pub is_in_last_block : ℕ → List ℕ → ℕ → Bool
is_in_last_block bits addrs addr =
    nat_lt 0 (length addrs) && slice_index_or addrs (length addrs - 1) 0 / 2 ^ bits
    == addr / 2 ^ bits

-- the addresses that wait, and one more, unless it lies in the same block as the last
abbrev pub with_waiting : ℕ → List ℕ → ℕ → List ℕ
with_waiting bits addrs addr =
    if is_in_last_block bits addrs addr then addrs else addrs ++ addr ∷ []

-- no block of some profiles is smaller than 2^bits bytes
abbrev pub AreNoFiner : ℕ → List PairProfile → Type 0
AreNoFiner bits xs = AllByRecursion (λ x. bits ≤ x.profile.geometry.b) xs

-- no block of some profiles is smaller than this size, a power of two
abbrev pub AreNoSmaller : ℕ → List PairProfile → Type 0
AreNoSmaller size xs = (bits : ℕ) × (size ≡ 2 ^ bits) × AreNoFiner bits xs

-- the block bits of the smallest blocks that some profiles have
abbrev pub finest_bits : List PairProfile → ℕ
finest_bits xs = fold (λ bits x. min bits x.profile.geometry.b) 20 xs

-- Of n references the last ones wait. All others were fed, except some that found their block in
-- front.
pub record AreWaiting (n : ℕ) (addrs : List ℕ) (xs : List PairProfile) : Type 0 where
  pub waiting : length addrs ≤ n
  pub behind : AreAlwaysBehind (n - length addrs) xs
