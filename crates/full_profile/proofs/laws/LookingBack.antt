-- What the cache of so many ways does at an event, by the lists of a full profile that was fed the
-- events before.
use Rattle.std.proofs.Common.{◌≡◌, ℕ, ◌+◌, ◌<◌, ◌≤◌, ◌^◌, ◌&&◌}
use Rattle.std.proofs.Common.{not, ltb, leb, min, List, [], ◌∷◌, ◌++◌, length, take}
use Rattle.std.proofs.Common.{refl, sym, ◌∙◌, ap, arith, append-nil}
use Rattle.std.proofs.Common.{append_assoc}
use Rattle.std.proofs.lemmas.Bool.Decides.{nat_tests}
use Rattle.std.proofs.lemmas.List.{take-take}
use Rattle.std.proofs.lemmas.Nat.{mod_below, pow_pos}
use Rattle.trace_core.specs.declared.events.Ref.{Ref}
use Rattle.trace_core.specs.declared.events.Event.{Event}
use Rattle.cache_core.specs.Geometry.{GeometryValue, block_of, set_of}
use Rattle.cache_core.specs.Windows.{Occurrence, window, distinct_of_set, distance}
use Rattle.cache_core.specs.Windows.{blocks_seen, is_hit, is_evict}
use Rattle.cache_core.specs.LruLaws.{occurrence_after}
use Rattle.profile_core.specs.profile.RecencyList.{index_of, is_in}
use Rattle.profile_core.specs.profile.State.{ProfileState, list_of}
use Rattle.profile_core.specs.profile.ProfileStandsFor.{ProfileStandsFor}
use Rattle.profile_core.proofs.profile.Steps.{Finds, finds}
use Rattle.full_profile.specs.LookBack.{held_blocks, sum_after}

-- the same geometry with another number of lines in each set
abbrev pub with_ways : GeometryValue → ℕ → GeometryValue
with_ways g ways = record g { e = ways }

window_same : (g : GeometryValue) (ways : ℕ) (es : List Event) →
    window (with_ways g ways) es ≡ window g es
unfolding window
window_same g ways es = refl

blocks_same : (g : GeometryValue) (ways k : ℕ) (w : List ℕ) →
    distinct_of_set (with_ways g ways) k w ≡ distinct_of_set g k w
unfolding distinct_of_set
blocks_same g ways k w = refl

-- one event more
pub sum_after_push : (count : List Event → Event → ℕ) (before es : List Event) (e : Event) →
    sum_after count before (es ++ e ∷ []) ≡ sum_after count before es + count (before ++ es) e
unfolding sum_after
sum_after_push count before [] e =
    ap (λ b. count b e + 0) (sym (append-nil before)) ∙ omega arith
sum_after_push count before (x ∷ es) e =
    let more = sum_after_push count (before ++ x ∷ []) es e in
    let joined : count ((before ++ x ∷ []) ++ es) e ≡ count (before ++ x ∷ es) e =
    ap (λ b. count b e) (append_assoc before (x ∷ []) es) in
    omega (arith, more, joined)

-- a block at distance d among n, as a list of at most m blocks has it
near_first : (d n m ways : ℕ) → ways ≤ m →
    (ltb d n && ltb d ways) ≡ (ltb (min d m) (min m n) && ltb (min d m) ways)
near_first d n m ways le = grind (arith, nat_tests)

many_listed : (n m ways : ℕ) → ways ≤ m → leb ways n ≡ leb ways (min m n)
many_listed n m ways le = grind (arith, nat_tests)

module _ (es : List Event) (v : ProfileState) (stands : ProfileStandsFor es v) (ways : ℕ)
    (within : ways ≤ v.geometry.e) where
  -- the blocks that the cache holds are the first ones of the list
  pub held_is : (k : ℕ) → k < 2 ^ v.geometry.s →
      held_blocks (with_ways v.geometry ways) es k ≡ take ways (list_of v k)
  held_is k lt =
      ap (take ways) (blocks_same v.geometry ways k (window (with_ways v.geometry ways) es)
      ∙ ap (distinct_of_set v.geometry k) (window_same v.geometry ways es))
      ∙ sym (take-take ways v.geometry.e _ within)
      ∙ ap (take ways) (sym (stands.lists k lt))

  abbrev pub at : Ref → Occurrence
  at r = occurrence_after (with_ways v.geometry ways) es r

  abbrev pub block : Ref → ℕ
  block r = block_of v.geometry r.addr

  abbrev pub listed : Ref → List ℕ
  listed r = list_of v (set_of v.geometry r.addr)

  finds_there : (r : Ref) → Finds (with_ways v.geometry ways) v.geometry.e (at r) (listed r)
  finds_there r =
      let k : ℕ = set_of v.geometry r.addr in
      finds (with_ways v.geometry ways) v.geometry.e (at r) (listed r)
      (stands.lists k (mod_below (block r) (2 ^ v.geometry.s) (pow_pos v.geometry.s))
      ∙ ap (take v.geometry.e) (ap (distinct_of_set v.geometry k)
      (sym (window_same v.geometry ways es))
      ∙ sym (blocks_same v.geometry ways k (window (with_ways v.geometry ways) es))))

  -- a hit of the cache, by the index of the block
  pub hit_is : (r : Ref) → is_hit (with_ways v.geometry ways) (at r) ≡ (is_in (block r) (listed r)
      && ltb (index_of (block r) (listed r)) ways)
  hit_is r =
      let f = finds_there r in
      let d : ℕ = distance (with_ways v.geometry ways) (at r) in
      let seen : ℕ = blocks_seen (with_ways v.geometry ways) (at r) in
      cc (near_first d seen v.geometry.e ways within, f.last, f.found, f.index)

  -- an eviction of the cache
  pub evict_is : (r : Ref) → is_evict (with_ways v.geometry ways) (at r) ≡
      (not (is_in (block r) (listed r) && ltb (index_of (block r) (listed r)) ways)
      && leb ways (length (listed r)))
  evict_is r =
      let f = finds_there r in
      let seen : ℕ = blocks_seen (with_ways v.geometry ways) (at r) in
      cc (hit_is r, many_listed seen v.geometry.e ways within, f.len)
