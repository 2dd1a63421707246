-- The blocks of the rows that a request has are within the limit, and what was read is the text's.
use Rattle.std.proofs.Common.{◌≡◌, ◌≤◌, ◌^◌, ℕ, true, List, Option, None, Some, ap, subst}
use Rattle.std.proofs.Common.{arith}
use Rattle.std.specs.Prelude.{IfSome, Contains}
use Rattle.std.specs.List.{All, AllByRecursion as Each}
use Rattle.std.proofs.lemmas.Bool.{and_parts}
use Rattle.std.proofs.lemmas.List.Elements.{All-take, All-map, All-contains_itself}
use Rattle.std.proofs.lemmas.List.Elements.{recursion_from_All}
use Rattle.std.proofs.lemmas.Option.{IfSome_then}
use Rattle.std.proofs.Math.Pow.{pow_mono}
use Rattle.trace_core.specs.declared.events.Event.{Event}
use Rattle.trace_core.specs.Reading.{events}
use Rattle.cache_core.specs.Powers.{is_power, log2}
use Rattle.full_profile.specs.declared.counts.FullCounts.{FullCounts}
use Rattle.sweep_core.specs.Space.{Ranges, is_valid, largest_block}
use Rattle.sweep_core.specs.Table.{first_rows}
use Rattle.sweep_core.specs.SweepText.{configs_of, rows_of}
use Rattle.sweep_core.specs.FullText.{full_row_counts}
use Rattle.sweep_core.specs.FullRows.{FullCountedSweep, full_counted_rows, full_counted_sweep}
use Rattle.sweep_core.specs.declared.request.Request.{Request}
use Rattle.sweep_core.specs.declared.space.Config.{Config}
use Rattle.callers.specs.Traffic.{HasLeastTrafficIfAny}

-- a block size is a power of two whose exponent is at most 20
pub is_small : (c : Config) → 2 ^ log2 c.bsize ≡ c.bsize → log2 c.bsize ≤ 20 →
    c.bsize ≤ largest_block
is_small c is few = let most : 2 ^ log2 c.bsize ≤ 2 ^ 20 = pow_mono few in omega (arith, is, most)

-- the block size of a valid configuration is a power of two
pub block_is_power : (space : Ranges) (c : Config) → is_valid space c ≡ true →
    is_power c.bsize ≡ true
block_is_power space c valid =
    (and_parts _ _ (and_parts _ _ (and_parts _ _ (and_parts _ _ valid).0).0).0).1

all_first : {A : Type 0} (P : A → Type 0) (n : Option ℕ) (xs : List A) → All P xs →
    All P (first_rows n xs)
all_first P None xs all = all
all_first P (Some n) xs all = All-take P n xs all

-- what is true of each configuration of a request's table is true of its rows
pub of_rows : (P : Config → Type 0) (r : Request) (es : List Event)
    → ((c : Config) → Contains (configs_of r) c → P c)
    → Each (λ row. P row.0) (full_counted_rows es (rows_of r))
of_rows P r es each =
    recursion_from_All (λ (row : Config × FullCounts). P row.0) (full_counted_rows es (rows_of r))
    (All-map (λ (row : Config × FullCounts). P row.0) (λ c. (c, full_row_counts es c)) (rows_of r)
    (all_first P r.rows (configs_of r)
    (λ k d lt. each _ (All-contains_itself (configs_of r) k d lt))))

-- the row that was chosen of those that were counted is that of the text's
pub least_read : (size : ℕ) (r : Request) (remaining : Option (List ℕ)) (counts : FullCountedSweep)
    (found : Option (Config × FullCounts))
    → IfSome remaining (λ text. counts ≡ full_counted_sweep r (events r.format r.kind text))
    → HasLeastTrafficIfAny size counts.rows found
    → IfSome remaining (λ text. HasLeastTrafficIfAny size (full_counted_rows
    (events r.format r.kind text) (rows_of r)) found)
least_read size r remaining counts found known least =
    IfSome_then remaining known (λ text is.
    subst (λ rows. HasLeastTrafficIfAny size rows found)
    (ap (λ (c : FullCountedSweep). c.rows) is) least)
