-- The copybacks that were counted, apart from the profile that counts them.
use Rattle.std.specs.Prelude.{ℕ, ◌+◌, ◌<◌, ◌^◌, nat_lt, if◌then◌else◌, List, [], ◌∷◌, length, fold}
use Rattle.std.specs.Prelude.{replicate, sum, sum_by}
use Rattle.profile_core.specs.profile.State.{one_more_at}
use Rattle.full_profile.specs.declared.copies.Emptying.{Emptying}
use Rattle.full_profile.specs.declared.copies.Emptying.TheVariants.{Flush, End}
use Rattle.full_profile.specs.State.{FullState}

-- each in the caches of more than `above` ways and of at most `up_to`; these ends are counted
pub record CopiesValue : Type 0 where
  pub above : List ℕ
  pub up_to : List ℕ

-- none, for numbers of ways up to a depth
abbrev pub no_copies : ℕ → CopiesValue
no_copies depth = record { above = replicate (depth + 1) 0; up_to = replicate (depth + 1) 0 }

-- one more, if there are such caches
abbrev pub with_copy : ℕ → ℕ → CopiesValue → CopiesValue
with_copy above up_to c = if nat_lt above up_to then record {
  above = one_more_at c.above above;
  up_to = one_more_at c.up_to up_to;
} else c

-- the blocks of a list more, the last one first: that at each index in the caches of up to so many
-- ways
unfoldable pub with_copies_of : (ℕ → ℕ) → ℕ → List ℕ → CopiesValue → CopiesValue
with_copies_of up_to index [] c = c
with_copies_of up_to index (clean ∷ cleans) c =
    with_copy clean (up_to index) (with_copies_of up_to (index + 1) cleans c)

-- the blocks of all lists more
abbrev pub with_all_copies : (ℕ → ℕ) → List (List ℕ) → CopiesValue → CopiesValue
with_all_copies up_to lists c = fold (λ d cleans. with_copies_of up_to 0 cleans d) c lists

-- the most ways of a cache that copies back the block at each index when lists are emptied: a flush
-- copies back what is held too, the end of a trace only what was evicted
abbrev pub up_to_of : Emptying → ℕ → ℕ → ℕ
up_to_of Flush depth = λ index. depth
up_to_of End depth = λ index. index

-- the copybacks of a profile
abbrev pub copies_of : FullState → CopiesValue
copies_of v = record { above = v.copied_above; up_to = v.copied_up_to }

-- there is room for the copybacks of these lists of blocks, of at most `depth` each
pub record CanTake (depth : ℕ) (lists : List (List ℕ)) (c : CopiesValue) : Type 0 where
  pub above_within : depth < length c.above
  pub within : depth < length c.up_to
  pub above_few : sum c.above + sum_by length lists < 2 ^ 63
  pub few : sum c.up_to + sum_by length lists < 2 ^ 63
