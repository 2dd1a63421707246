-- Recency lists with a clean depth beside each block.
use Rattle.std.specs.Prelude.{ℕ, ◌≡◌, ◌≤◌, ◌-◌, ◌^◌, ◌==◌, if◌then◌else◌, List, [], ◌∷◌, length}
use Rattle.std.specs.Prelude.{take, map, replicate, slice_set, slice_index, slice_index_or}
use Rattle.std.specs.List.{remove}
use Rattle.trace_core.specs.declared.events.Access.{Access}
use Rattle.cache_core.specs.Touched.{TouchedValue, Covers}
use Rattle.profile_core.specs.profile.RecencyList.{index_of, is_in, move_to_front}
use Rattle.full_profile.specs.declared.marked_lists.MarkedTouch.{MarkedTouch}
use Rattle.full_profile.specs.declared.marked_lists.MarkedTouch.TheVariants.{Behind, New, Full}
use Rattle.full_profile.specs.State.{clean_in_front}

-- a list of blocks for each set, of at most `depth` each, and their clean depths
pub record Marked : Type 0 where
  pub depth : ℕ
  pub blocks : List (List ℕ)
  pub cleans : List (List ℕ)

-- the list of a set, and its clean depths
abbrev pub blocks_in : Marked → ℕ → List ℕ
blocks_in m set = slice_index_or m.blocks set []

abbrev pub cleans_in : Marked → ℕ → List ℕ
cleans_in m set = slice_index_or m.cleans set []

-- empty lists for a number of sets
abbrev pub empty_marked : ℕ → ℕ → Marked
empty_marked sets depth =
    record { depth = depth; blocks = replicate sets []; cleans = replicate sets [] }

-- the same sets, whose lists are empty
abbrev pub emptied : Marked → Marked
emptied m = record m {
  blocks = replicate (length m.blocks) [];
  cleans = replicate (length m.cleans) [];
}

-- the front of a set's list with this clean depth
abbrev pub after_mark_in_front : Marked → ℕ → ℕ → Marked
after_mark_in_front m set clean =
    record m { cleans = slice_set m.cleans set (slice_set (cleans_in m set) 0 clean) }

-- the front of a set's list written
abbrev pub after_write_in_front : Marked → ℕ → Marked
after_write_in_front m set = after_mark_in_front m set 0

-- the clean depths of a list in whose front a block comes by an access
abbrev pub cleans_after : ℕ → Access → ℕ → List ℕ → List ℕ → List ℕ
cleans_after depth access block blocks cleans = take depth
    (clean_in_front depth access block blocks cleans ∷ remove cleans (index_of block blocks))

-- the lists after an access brought a block to the front of its set's
abbrev pub after_access : Marked → ℕ → ℕ → Access → Marked
after_access m set block access = record m {
  blocks = slice_set m.blocks set (take m.depth (move_to_front block (blocks_in m set)));
  cleans = slice_set m.cleans set
      (cleans_after m.depth access block (blocks_in m set) (cleans_in m set));
}

-- where an access finds its block
abbrev pub marked_touch_of : ℕ → ℕ → List ℕ → List ℕ → MarkedTouch
marked_touch_of depth block blocks cleans =
    if is_in block blocks
    then Behind (index_of block blocks) (slice_index cleans (index_of block blocks))
    else if length blocks == depth then Full (slice_index cleans (depth - 1)) else New
    (length blocks)

-- the lists once that of a set is empty
abbrev pub without_list : Marked → ℕ → Marked
without_list m set = record m {
  blocks = slice_set m.blocks set [];
  cleans = slice_set m.cleans set [];
}

-- each list has as many clean depths as blocks
pub record AreAlike (m : Marked) : Type 0 where
  pub set_count : length m.cleans ≡ length m.blocks
  pub same_lengths : (set : ℕ) → length (cleans_in m set) ≡ length (blocks_in m set)

-- and the sets that have a block are listed
pub record AreTouched (m : Marked) (touched : TouchedValue) : Type 0 where
  pub alike : AreAlike m
  pub few : length m.blocks ≤ 2 ^ 22
  pub small : m.depth ≤ 2 ^ 22
  pub short : (set : ℕ) → length (blocks_in m set) ≤ m.depth
  pub covers : Covers touched (map length m.blocks)
