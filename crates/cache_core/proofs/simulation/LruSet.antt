-- One visit of a set of an LRU cache. The stack of a set is its different blocks, the most recent
-- first; the set holds its front again.
use Rattle.std.proofs.Common.{◌≡◌, ℕ, zero, suc, ◌+◌, ◌-◌, ◌<◌, ◌≤◌, Bool, true, false, not, ◌&&◌}
use Rattle.std.proofs.Common.{◌==◌, cond, eqb, ltb, leb, min, List, [], ◌∷◌, ◌++◌, length, take}
use Rattle.std.proofs.Common.{map, get_or, set, Option, Some, None, refl, sym, ◌∙◌, ap, arith}
use Rattle.std.proofs.Common.{length-take}
use Rattle.std.specs.Prelude.{is_some, slice_get, remove}
use Rattle.std.specs.List.{list_any, list_all, position_or_len}
use Rattle.std.proofs.lemmas.Bool.{or_parts, ltb-true, false≢true}
use Rattle.std.proofs.lemmas.List.{append-nil, drop_all, take_all, length-map}
use Rattle.std.proofs.lemmas.List.Edits.{length-remove}
use Rattle.std.proofs.lemmas.List.Sums.{prefix_len-le-length}
use Rattle.trace_core.specs.declared.events.Ref.{Ref}
use Rattle.cache_core.specs.declared.outcome.Slot.{Slot}
use Rattle.cache_core.specs.declared.outcome.Outcome.{Outcome}
use Rattle.cache_core.specs.declared.design.WriteMode.{WriteMode}
use Rattle.cache_core.specs.declared.design.AllocMode.TheVariants.{Always}
use Rattle.cache_core.specs.declared.design.Repl.TheVariants.{Lru}
use Rattle.cache_core.specs.Geometry.{GeometryValue, block_of, set_of_block}
use Rattle.cache_core.specs.cache.Outcomes.{is_dirtied}
use Rattle.cache_core.specs.cache.Order.{Visits, VisitsAt, Touches, TakesIn, with_dirty_at}
use Rattle.cache_core.specs.cache.Order.{position_of}
use Rattle.cache_core.specs.Windows.{Occurrence, distinct_of_set, distance, blocks_seen, is_hit}
use Rattle.cache_core.specs.Windows.{is_evict}
use Rattle.cache_core.proofs.Lists.{is, other, IsOnce-take, remove_is, filter_all, list_any_is}
use Rattle.cache_core.proofs.Lists.{position_or_len-take}
use Rattle.cache_core.proofs.Distances.{IsOnce-distinct_of_set, distance_is, has_last_is}
use Rattle.cache_core.proofs.Distances.{take-distinct_of_set-same}

abbrev pub blocks_of : List Slot → List ℕ
blocks_of slots = map (λ slot. slot.block) slots

-- where a block stands among slots is where it stands among their blocks
len_blocks : (x : ℕ) (slots : List Slot) → position_or_len (λ (slot : Slot). slot.block == x)
    slots ≡ position_or_len (is x) (blocks_of slots)
len_blocks x [] = refl
len_blocks x (slot ∷ slots) = ap (λ n. cond (not (eqb slot.block x)) (1 + n) 0) (len_blocks x slots)

test_blocks : (x : ℕ) (slots : List Slot) →
    ltb (position_or_len (λ (slot : Slot). slot.block == x) slots) (length slots) ≡ list_any (is x)
    (blocks_of slots)
test_blocks x slots = cc (
  len_blocks x slots,
  length-map slots (λ slot. slot.block),
  list_any_is (is x) (blocks_of slots),
)

record FoundAt (x : ℕ) (slots : List Slot) (at : ℕ) : Type 0 where
  there : list_any (is x) (blocks_of slots) ≡ true
  index : at ≡ position_or_len (is x) (blocks_of slots)

position_some : (x : ℕ) (slots : List Slot) (at : ℕ) → position_of x slots ≡ Some at →
    FoundAt x slots at
position_some x slots at e = record {
  there = grind (arith, e, test_blocks x slots);
  index =
      grind (arith, e, len_blocks x slots);
}

pub position_none : (x : ℕ) (slots : List Slot) → position_of x slots ≡ None →
    list_any (is x) (blocks_of slots) ≡ false
position_none x slots e = grind (arith, test_blocks x slots)

at_position : (x : ℕ) (xs : List ℕ) → list_any (is x) xs ≡ true →
    slice_get xs (position_or_len (is x) xs) ≡ Some x
at_position x [] h = absurd (false≢true h)
at_position x (y ∷ ys) h = let rest = at_position x ys in grind arith

block_at : (slots : List Slot) (n : ℕ) (y : Slot) → slice_get slots n ≡ Some y →
    slice_get (blocks_of slots) n ≡ Some y.block
block_at [] n y e = absurd cc
block_at (l ∷ ls) zero y e = let q : l ≡ y = cc in ap (λ (z : Slot). Some z.block) q
block_at (l ∷ ls) (suc n) y e = block_at ls n y e

blocks_remove : (slots : List Slot) (n : ℕ) → blocks_of (remove slots n) ≡ remove
    (blocks_of slots) n
blocks_remove [] zero = refl
blocks_remove [] (suc n) = refl
blocks_remove (l ∷ ls) zero = refl
blocks_remove (l ∷ ls) (suc n) = ap (λ xs. l.block ∷ xs) (blocks_remove ls n)

blocks_set : (slots : List Slot) (n : ℕ) (none : Slot) →
    blocks_of (set slots n (record (get_or slots n none) { dirty = true })) ≡ blocks_of slots
blocks_set [] zero none = refl
blocks_set [] (suc n) none = refl
blocks_set (l ∷ ls) zero none = refl
blocks_set (l ∷ ls) (suc n) none = ap (λ xs. l.block ∷ xs) (blocks_set ls n none)

blocks_marked : (d : Bool) (slots : List Slot) (at : ℕ) →
    blocks_of (with_dirty_at d slots at) ≡ blocks_of slots
blocks_marked d slots at = grind (arith, blocks_set)

none_is : (x : ℕ) (xs : List ℕ) → list_any (is x) xs ≡ false → list_all (other x) xs ≡ true
none_is x [] h = refl
none_is x (y ∷ ys) h = let parts = or_parts (eqb y x) (list_any (is x) ys) h in
    grind (arith, none_is x ys parts.1)

hit_within : (d n m : ℕ) → d ≤ n → (ltb d n && ltb d m) ≡ ltb (min d m) (min m n)
hit_within d n m h = grind arith

-- the stack of a reference's set: its different blocks, the most recent first
abbrev stack : GeometryValue → Occurrence → List ℕ
stack g p = distinct_of_set g (set_of_block g p.block) p.window

-- the front of the stack, before the reference and after it
abbrev pub front : GeometryValue → Occurrence → List ℕ
front g p = take g.e (stack g p)

abbrev pub front_after : GeometryValue → Occurrence → List ℕ
front_after g p = take g.e (distinct_of_set g (set_of_block g p.block) (p.block ∷ p.window))

-- a hit, by the front of the stack
is_hit_is : (g : GeometryValue) (p : Occurrence) →
    is_hit g p ≡ list_any (is p.block) (front g p)
is_hit_is g p =
    let index : ℕ = position_or_len (is p.block) (stack g p) in
    ap (λ b. b && ltb (distance g p) g.e) (has_last_is g p ∙ list_any_is (is p.block) (stack g p))
    ∙ ap (λ d. ltb index (length (stack g p)) && ltb d g.e) (distance_is g p)
    ∙ hit_within index (length (stack g p)) g.e
    (prefix_len-le-length (λ y. not (eqb y p.block)) (stack g p))
    ∙ ap (λ d. ltb d (min g.e (length (stack g p))))
    (sym (position_or_len-take (is p.block) g.e (stack g p)))
    ∙ ap (ltb (position_or_len (is p.block) (front g p))) (sym (length-take g.e (stack g p)))
    ∙ sym (list_any_is (is p.block) (front g p))

-- an eviction, by the number of different blocks
evict_is : (g : GeometryValue) (p : Occurrence) (hit : Bool) → is_hit g p ≡ hit →
    is_evict g p ≡ (not hit && leb g.e (blocks_seen g p))
evict_is g p hit e = ap (λ t. not t && leb g.e (blocks_seen g p)) e

-- what a visit by a reference leads to
pub record Moves (g : GeometryValue) (p : Occurrence) (outcome : Outcome)
    (new : List Slot) : Type 0 where
  pub front : blocks_of new ≡ front_after g p
  pub hits : outcome.hit ≡ is_hit g p
  pub evicts : is_some outcome.evicted ≡ is_evict g p

full : (e n : ℕ) → min e n ≡ e → leb e n ≡ true
full e n h = grind arith

-- a block in front of others, whose last one goes
last_out : (n x : ℕ) (xs : List ℕ) → length xs ≡ suc n → x ∷ remove xs n ≡ take (suc n) (x ∷ xs)
last_out n x xs e = ap (λ r. x ∷ r)
    (ap (λ s. take n xs ++ s) (drop_all (suc n) xs (omega (arith, e))) ∙ append-nil (take n xs))

module _ (g : GeometryValue) (p : Occurrence) (some : 1 ≤ g.e) where
  -- the index of the block among the front's blocks
  abbrev index : ℕ
  index = position_or_len (is p.block) (front g p)

  -- the slot at that index is the block's
  touched_block : (slots : List Slot) (x : Slot) → blocks_of slots ≡ front g p →
      list_any (is p.block) (front g p) ≡ true →
      slice_get slots index ≡ Some x → x.block ≡ p.block
  touched_block slots x held there got =
      cc (block_at slots index x got, at_position p.block (front g p) there)

  -- the front with its block brought to the front
  front_moved : list_any (is p.block) (front g p) ≡ true →
      p.block ∷ remove (front g p) index ≡ front_after g p
  front_moved there =
      let inside : index < length (front g p) =
      ltb-true _ _ (sym (list_any_is (is p.block) (front g p)) ∙ there) in
      let short : length (p.block ∷ remove (front g p) index) ≤ g.e =
      omega (arith, length-remove (front g p) index inside, length-take g.e (stack g p)) in
      sym (take_all g.e (p.block ∷ remove (front g p) index) short) ∙
      take-distinct_of_set-same g g.e p.block p.window some

  -- a block that is held comes to the front
  hit_moves : (d : Bool) (old new : List Slot) (at : ℕ) → blocks_of old ≡ front g p →
      FoundAt p.block old at →
      Touches (Some Lru) (with_dirty_at d old at) at new →
      blocks_of new ≡ front_after g p
  hit_moves d old new at h f t =
      let kept : blocks_of (with_dirty_at d old at) ≡ front g p = blocks_marked d old at ∙ h in
      let there : list_any (is p.block) (front g p) ≡ true =
      ap (list_any (is p.block)) (sym h) ∙ f.there in
      let at_is : at ≡ index = f.index ∙ ap (position_or_len (is p.block)) h in
      let first = touched_block (with_dirty_at d old at) t.0 kept there
      (ap (slice_get (with_dirty_at d old at)) (sym at_is) ∙ t.1) in
      let rest : blocks_of (remove (with_dirty_at d old at) at) ≡ remove (front g p) index =
      blocks_remove (with_dirty_at d old at) at ∙ ap (λ xs. remove xs at) kept ∙
      ap (remove (front g p)) at_is in
      ap blocks_of t.2 ∙ ap (λ x. x ∷ blocks_of (remove (with_dirty_at d old at) at)) first ∙
      ap (λ xs. p.block ∷ xs) rest ∙ front_moved there

  -- the front after a block that it doesn't hold
  miss_front : list_any (is p.block) (front g p) ≡ false →
      take g.e (p.block ∷ front g p) ≡ front_after g p
  miss_front none =
      let same : remove (front g p) index ≡ front g p =
      remove_is p.block (front g p) (IsOnce-take g.e (stack g p)
      (IsOnce-distinct_of_set g (set_of_block g p.block) p.window))
      ∙ filter_all (other p.block) (front g p) (none_is p.block (front g p) none) in
      ap (λ xs. take g.e (p.block ∷ xs)) (sym same) ∙ take-distinct_of_set-same g g.e p.block
      p.window some

  -- a set that doesn't hold the block
  record Misses (old : List Slot) : Type 0 where
    absent : list_any (is p.block) (front g p) ≡ false
    missed : is_hit g p ≡ false
    long : length (front g p) ≡ length old

  misses : (old : List Slot) → blocks_of old ≡ front g p →
      list_any (is p.block) (blocks_of old) ≡ false → Misses old
  misses old h none = grind (arith, is_hit_is, length-map)

  -- a block that isn't held is put in front, and the last leaves a full set
  fill_moves : (number : ℕ) (d : Bool) (old new : List Slot) (outcome : Outcome)
      (evicted : Option Slot) →
      blocks_of old ≡ front g p → list_any (is p.block) (blocks_of old) ≡ false →
      TakesIn (Some Lru) number g.e old (record { block = p.block; dirty = d }) evicted new →
      outcome.hit ≡ false → outcome.evicted ≡ evicted →
      Moves g p outcome new
  fill_moves number d old new outcome None h none taken hit left =
      grind (arith, misses, take_all, miss_front, length-take)
  fill_moves number d old new outcome (Some gone) h none taken hit left =
      let m = misses old h none in
      let last : ℕ = length old - 1 in
      let count : suc last ≡ g.e = omega (arith, taken.0) in
      record {
        front = ap blocks_of taken.1.1 ∙ ap (λ xs. p.block ∷ xs) (blocks_remove old last ∙
            ap (λ xs. remove xs last) h)
            ∙ last_out last p.block (front g p) (omega (arith, m.long, taken.0)) ∙
            ap (λ n. take n (p.block ∷ front g p)) count ∙ miss_front m.absent;
        hits = hit ∙ sym m.missed;
        evicts = ap is_some left
            ∙ sym (evict_is g p false m.missed ∙ full g.e (length (stack g p))
            (omega (arith, m.long, taken.0, length-take g.e (stack g p))));
      }

-- a visit of a set that holds the front of its stack
pub visit_moves : (g : GeometryValue) (write : WriteMode) (numbers : ℕ → ℕ) (ref : Ref) (w : List ℕ)
    (old : List Slot) (outcome : Outcome)
    (new : List Slot)
    (rest : ℕ → ℕ) → 1 ≤ g.e → blocks_of old ≡ take g.e
    (distinct_of_set g (set_of_block g (block_of g ref.addr)) w) →
    Visits (record { geometry = g; write = write; allocate = Always }) (Some Lru) numbers ref old
    outcome new rest →
    Moves g (record { block = block_of g ref.addr; window = w }) outcome new
visit_moves g write numbers ref w old outcome new rest some h v =
    by_index (position_of (block_of g ref.addr) old) refl v
  where
    p : Occurrence
    p = record { block = block_of g ref.addr; window = w }

    by_index : (o : Option ℕ) → position_of p.block old ≡ o →
        VisitsAt o (record { geometry = g; write = write; allocate = Always }) (Some Lru) numbers
        ref old outcome new rest → Moves g p outcome new
    by_index None e x =
        fill_moves g p some (numbers 0) (is_dirtied write ref.access) old new outcome
        outcome.evicted h (position_none p.block old e) x.order
        (ap (λ (o : Outcome). o.hit) x.effect) refl
    by_index (Some at) e x =
        let f = position_some p.block old at e in
        let hit : is_hit g p ≡ true = is_hit_is g p ∙ ap (list_any (is p.block))
        (sym h) ∙ f.there in
        record {
          front = hit_moves g p some (is_dirtied write ref.access) old new at h f x.order;
          hits = ap (λ (o : Outcome). o.hit) x.effect ∙ sym hit;
          evicts = ap (λ (o : Outcome). is_some o.evicted) x.effect ∙ sym (evict_is g p true hit);
        }
