-- Recency lists with a clean depth beside each block, each in two parts: the first blocks, and
-- those behind them.
use Rattle.std.specs.Prelude.{ℕ, ◌≡◌, ◌≤◌, ◌+◌, ◌-◌, ◌^◌, ◌==◌, max, if◌then◌else◌, List, [], ◌∷◌}
use Rattle.std.specs.Prelude.{◌++◌}
use Rattle.std.specs.Prelude.{length, slice_index, slice_index_or}
use Rattle.trace_core.specs.declared.events.Access.{Access}
use Rattle.trace_core.specs.Events.{is_write}
use Rattle.deep_list.specs.Deep.{Deep, index_of_block, has_block}
use Rattle.profile_core.specs.internal.set_lists.LongLists.{whole_lists, nothing, rest_of, AreSplit}
use Rattle.full_profile.specs.declared.marked_lists.MarkedTouch.{MarkedTouch}
use Rattle.full_profile.specs.declared.marked_lists.MarkedTouch.TheVariants.{Behind, New, Full}
use Rattle.full_profile.specs.internal.Marked.{Marked, AreAlike}
use Rattle.full_profile.specs.internal.Sound.{plain_lists}

-- the clean depths of each list with those behind them
abbrev pub whole_cleans : List (List ℕ) → List (Deep ℕ) → List (List ℕ)
whole_cleans [] far = []
whole_cleans (cleans ∷ near) [] = cleans ∷ near
whole_cleans (cleans ∷ near) (d ∷ far) = (cleans ++ d.values) ∷ whole_cleans near far

-- the lists with those behind them, of at most `beyond` blocks each
abbrev pub whole_marked : Marked → ℕ → List (Deep ℕ) → Marked
whole_marked near beyond far = record {
  depth = near.depth + beyond;
  blocks = whole_lists near.blocks far;
  cleans = whole_cleans near.cleans far;
}

-- the clean depths behind the list of a set
abbrev pub values_of : List (Deep ℕ) → ℕ → List ℕ
values_of far set = (slice_index_or far set nothing).values

-- where an access finds its block, if it is not among the first n blocks, and d are the others
abbrev pub rest_touch_of : ℕ → ℕ → Deep ℕ → MarkedTouch
rest_touch_of n block d =
    if has_block block d.blocks
    then Behind (n + index_of_block block d.blocks)
    (slice_index d.values (index_of_block block d.blocks))
    else if length d.blocks == d.cap then Full (slice_index d.values (d.cap - 1)) else New
    (n + length d.blocks)

-- the clean depth of a block in front, from where an access found it
abbrev pub front_clean_of : ℕ → Access → MarkedTouch → ℕ
front_clean_of depth access (Behind distance clean) =
    if is_write access then 0 else max clean distance
front_clean_of depth access (New held) = if is_write access then 0 else depth
front_clean_of depth access (Full clean) = if is_write access then 0 else depth

-- a block that was found stands at most so far behind the front
abbrev pub IsWithin : ℕ → MarkedTouch → Type 0
IsWithin depth (Behind distance clean) = distance ≤ depth
IsWithin depth (New held) = Unit {0}
IsWithin depth (Full clean) = Unit {0}

-- the invariant: behind each row is a list, which has blocks only if the row is full
pub record InParts (near : Marked) (beyond : ℕ) (far : List (Deep ℕ)) : Type 0 where
  pub split : AreSplit (plain_lists near) beyond far
  pub some : 1 ≤ beyond
  pub small : near.depth + beyond ≤ 2 ^ 22
  pub alike : AreAlike near
  pub beside : (set : ℕ) → length (values_of far set) ≡ length (rest_of far set)
