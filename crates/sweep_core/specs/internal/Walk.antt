-- How the configurations of a space are walked: the pairs of block size and set count one after
-- another, and of each its associativities.
use Rattle.std.specs.Prelude.{ℕ, ◌≡◌, ◌-◌, ◌*◌, ◌/◌, ◌%◌, ◌^◌, ◌<◌, ◌≤◌, ◌&&◌, Bool, true, Option}
use Rattle.std.specs.Prelude.{List, map, filter, flat_map}
use Rattle.std.specs.List.{range_with_len}
use Rattle.sweep_core.specs.declared.space.Config.{Config}
use Rattle.sweep_core.specs.declared.request.Request.{Request}
use Rattle.sweep_core.specs.declared.space.configs.PairRows.{PairRows}
use Rattle.sweep_core.specs.declared.space.configs.Ways.{Ways}
use Rattle.sweep_core.specs.Space.{Ranges, config, is_valid}
use Rattle.cache_core.specs.Powers.{is_power}
use Rattle.sweep_core.specs.Table.{is_after, numbers, first_rows}
use Rattle.sweep_core.specs.internal.Runs.{run_of, ways_after}

-- the pair with an index, of all 441 in order
abbrev pub pair_at : ℕ → ℕ × ℕ
pair_at k = (2 ^ (k / 21), 2 ^ (k % 21))

-- the configurations of a space that are of a pair and greater than a triple, in order
unfoldable pub rows_of_pair : Ranges → Option Config → ℕ × ℕ → List Config
rows_of_pair space after p = filter (λ c. is_valid space c && is_after after c)
    (map (config p.0 p.1) (numbers space.assoc))

-- those of all pairs from an index on
unfoldable pub rows_from : Ranges → Option Config → ℕ → List Config
rows_from space after k = flat_map (λ i. rows_of_pair space after (pair_at i))
    (range_with_len k (441 - k))

-- the rows that a request may still write: at most this many, of the pairs from an index on
abbrev pub rows_left : Request → ℕ → Option ℕ → List Config
rows_left r k most = first_rows most (rows_from r.space r.after k)

-- a configuration of a space, and the greatest associativity of its pair
pub record HasDepth (space : Ranges) (c : Config) (depth : ℕ) : Type 0 where
  pub valid : is_valid space c ≡ true
  pub reached : is_valid space (record c { assoc = depth }) ≡ true
  pub greatest : (e : ℕ) → is_valid space (record c { assoc = e }) ≡ true → e ≤ depth

-- these are the configurations of a pair that are greater than a triple
pub record HasRows (space : Ranges) (after : Option Config) (p : ℕ × ℕ)
    (rows : PairRows) : Type 0 where
  pub deep : HasDepth space rows.first rows.depth
  pub some : 1 ≤ rows.count
  pub first : rows.first ≡ config p.0 p.1 rows.first.assoc
  pub whole : rows_of_pair space after p ≡ run_of space.powers rows.first rows.count
  pub fits : ways_after space.powers rows.first.assoc rows.count ≤ 2 ^ 63

-- an associativity is allowed: any, or a power of two alone
abbrev pub IsAllowed : Bool → ℕ → Type 0
IsAllowed powers e = powers ≡ true → is_power e ≡ true

-- between two numbers no associativity is allowed
abbrev pub NoWays : ℕ → ℕ → Bool → Type 0
NoWays lowest most powers = (e : ℕ) → lowest ≤ e → e ≤ most → IsAllowed powers e → ⊥

-- the allowed associativities between two numbers: the first, and how many there are up to the
-- greatest number
pub record AreWays (lowest most : ℕ) (powers : Bool) (ways : Ways) : Type 0 where
  pub some : 1 ≤ ways.count
  pub from : lowest ≤ ways.first
  pub first : IsAllowed powers ways.first
  pub least : (e : ℕ) → lowest ≤ e → IsAllowed powers e → ways.first ≤ e
  pub within : (k : ℕ) → k < ways.count → ways_after powers ways.first k ≤ most
  pub whole : most < ways_after powers ways.first ways.count
  pub last : ways_after powers ways.first (ways.count - 1) ≡ ways.last
  pub deepest : IsAllowed powers ways.last
  pub greatest : (e : ℕ) → e ≤ most → IsAllowed powers e → e ≤ ways.last
  pub fits : ways_after powers ways.first ways.count ≤ 2 * most
