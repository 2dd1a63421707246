-- One access to a cache whose blocks are found by an index: its set is another, and the invariant
-- stays.
use Rattle.std.proofs.Common.{◌≡◌, ℕ, suc, ◌+◌, ◌*◌, ◌^◌, ◌<◌, ◌≤◌, Bool, true, false}
use Rattle.std.proofs.Common.{List, []}
use Rattle.std.proofs.Common.{◌∷◌, length, set, get_or, refl, sym, ◌∙◌, ap, subst, arith}
use Rattle.std.proofs.Common.{Option, Some, None, length-set}
use Rattle.std.specs.Prelude.{slice_get, ◌↔◌}
use Rattle.std.proofs.Common.{inl, inr}
use Rattle.std.proofs.lemmas.Bool.{false≢true, cases_lt}
use Rattle.std.proofs.lemmas.Option.{slice_get_within, slice_get-get_or}
use Rattle.std.proofs.Math.Nat.{mul-le-mul_right}
use Rattle.block_index.specs.SlotLists.{has_slot, index_of_slot, is_listed}
use Rattle.block_index.specs.BlockIndex.{IndexValue, HasBlock, NoSlotHas}
use Rattle.cache_core.specs.declared.outcome.Slot.{Slot}
use Rattle.cache_core.specs.declared.design.Design.{Design}
use Rattle.cache_core.specs.Geometry.{set_of_block}
use Rattle.cache_core.specs.replacement.Rules.{rules}
use Rattle.cache_core.specs.cache.Order.{position_of, with_dirty_at, Touches, TakesIn}
use Rattle.cache_core.specs.internal.cache.SlotOrder.{OrderValue, order_of, with_order, with_moved}
use Rattle.cache_core.specs.internal.cache.SlotOrder.{with_next, victim_index}
use Rattle.cache_core.specs.internal.cache.Indexed.{slot_at, set_at, sets_at, counts_of, with_mark}
use Rattle.cache_core.specs.internal.cache.Indexed.{Holds, IsIndexed}
use Rattle.cache_core.proofs.cache.indexed.SlotsApart.{same_or, slot_in, map_kept}
use Rattle.cache_core.proofs.cache.indexed.IndexedLaw.{found_at, found_nowhere, sets_written}
use Rattle.cache_core.proofs.cache.indexed.IndexedLaw.{other_slot, new_slot, mark_other, marked_set}
use Rattle.cache_core.proofs.cache.indexed.IndexedLaw.{slot_block}
use Rattle.cache_core.proofs.cache.indexed.HeldLaw.{with_block, in_no_other, by_set, held_put}
use Rattle.cache_core.proofs.cache.indexed.HeldLaw.{held_moved, packed_set, packed_moved, by_bool}
use Rattle.cache_core.proofs.cache.indexed.PolicySlots.{moved_in, moved_once, moved_length}
use Rattle.cache_core.proofs.cache.indexed.PolicySlots.{next_self, next_other, next_once}
use Rattle.cache_core.proofs.cache.indexed.PolicySlots.{next_length, touches, takes_in, takes_over}
use Rattle.cache_core.proofs.cache.indexed.WaysLaw.{counted, counts_set, count_kept}

mark_length : (mark : Bool) (dirty : List Bool) (s : ℕ) →
    length (with_mark mark dirty s) ≡ length dirty
mark_length false dirty s = refl
mark_length true dirty s = length-set dirty s true

-- the segment of a set ends where the next one begins, or before the end of all
wide : (e k n : ℕ) → k < n → k * e + e ≤ e * n
wide e k n lt =
    let rows : suc k ≤ n = omega (arith, lt) in
    omega (arith, mul-le-mul_right e rows)

one_segment : (e j k s : ℕ) → j * e ≤ s → s < j * e + e → k * e ≤ s → s < k * e + e → j ≡ k
one_segment e j k s a b c f = elim (cases_lt j k) [
  | inl lt ↦
      let rows : suc j ≤ k = omega (arith, lt) in
      absurd (omega (arith, mul-le-mul_right e rows, b, c))
  | inr ge ↦ elim (cases_lt k j) [
    | inl lt ↦
        let rows : suc k ≤ j = omega (arith, lt) in
        absurd (omega (arith, mul-le-mul_right e rows, f, a))
    | inr le ↦ omega (arith, ge, le)
  ]
]

pub in_no_list : (s : ℕ) (sets : List (List ℕ)) →
    ((j : ℕ) → has_slot s (order_of sets j) ≡ false) → is_listed sets s ≡ false
in_no_list s [] none = refl
in_no_list s (xs ∷ sets) none =
    let rest = in_no_list s sets (λ j. none (suc j)) in
    let first = none 0 in
    grind arith

free_slot : (index : IndexValue) (s : ℕ) → s < length index.blocks →
    ((c : ℕ) → HasBlock index s c → ⊥) → slice_get index.blocks s ≡ Some None
free_slot index s lt none = by (get_or index.blocks s None) (slice_get-get_or index.blocks s None
    lt)
  where
    by : (o : Option ℕ) → slice_get index.blocks s ≡ Some o → slice_get index.blocks s ≡ Some None
    by None e = e
    by (Some c) e = absurd (none c e)

module _ (d : Design) (index : IndexValue) (dirty : List Bool) (order : OrderValue) (k : ℕ)
    (i : IsIndexed d index dirty order) (lt : k < 2 ^ d.geometry.s) where
  pub in_sets : k < length order.sets
  in_sets = omega (arith, i.sets, lt)

  abbrev xs : List ℕ
  xs = order_of order.sets k

  pub count_is : get_or (counts_of order.sets) k 0 ≡ length xs
  count_is = sym (counted order.sets (counts_of order.sets) k refl)

  -- a slot has the block
  module _ (s b : ℕ) (has : HasBlock index s b) (own : set_of_block d.geometry b ≡ k) where
    pub inside : has_slot s xs ≡ true
    inside = subst (λ (n : ℕ). has_slot s (order_of order.sets n) ≡ true) own
        (i.held.listed s b has)

    pub in_blocks : s < length index.blocks
    in_blocks = slice_get_within index.blocks s (Some b) has

    pub in_marks : s < length dirty
    in_marks = omega (arith, in_blocks, i.slots, i.marks)

    pub hit_found : position_of b (set_at index dirty xs) ≡ Some (index_of_slot s xs)
    hit_found = subst (λ (n : ℕ). position_of b (set_at index dirty (order_of order.sets n))
        ≡ Some (index_of_slot s (order_of order.sets n))) own
        (found_at d.geometry index dirty order.sets s b i.held has)

    module _ (mark : Bool) where
      abbrev ys : List ℕ
      ys = with_moved (rules order.policy).touched s xs

      abbrev marks : List Bool
      marks = with_mark mark dirty s

      pub hit_indexed : IsIndexed d index marks (with_order order k ys)
      hit_indexed = record {
        geometry = i.geometry;
        ways = i.ways;
        sets = length-set order.sets k ys ∙ i.sets;
        slots = i.slots;
        marks = mark_length mark dirty s ∙ i.marks;
        few = by_set order.sets k ys in_sets (λ n zs. length zs ≤ d.geometry.e)
            (omega (arith, i.few k, moved_length (rules order.policy).touched s xs inside))
            (λ n ne. i.few n);
        held = held_moved d.geometry index order.sets k ys i.held in_sets
            (moved_once (rules order.policy).touched s xs (i.held.once k))
            (λ t. moved_in (rules order.policy).touched s t xs inside);
        packed = packed_moved d.geometry.e order.sets k ys in_sets i.packed
            (λ t. moved_in (rules order.policy).touched s t xs inside)
            (moved_length (rules order.policy).touched s xs inside);
      }

      pub hit_counts : counts_of (set order.sets k ys) ≡ counts_of order.sets
      hit_counts = counts_set order.sets k ys ∙ count_kept (counts_of order.sets) k (length ys)
          (count_is ∙ sym (moved_length (rules order.policy).touched s xs inside))

      pub hit_sets : sets_at index marks (set order.sets k ys)
          ≡ set (sets_at index dirty order.sets) k (set_at index marks ys)
      hit_sets = sets_written index index dirty marks order.sets k ys
          (λ n ne. map_kept (slot_at index dirty) (slot_at index marks) s (order_of order.sets n)
          (λ t differ. mark_other index dirty mark s t differ)
          (in_no_other d.geometry index order.sets n k s i.held inside ne))

      pub hit_order : Touches (Some order.policy)
          (with_dirty_at mark (set_at index dirty xs) (index_of_slot s xs)) (index_of_slot s xs)
          (set_at index marks ys)
      hit_order = subst (λ (zs : List Slot). Touches (Some order.policy) zs (index_of_slot s xs)
          (set_at index marks ys))
          (sym (marked_set index dirty mark s xs (i.held.once k) inside in_marks))
          (touches order.policy (slot_at index marks) s xs inside)

  -- no slot has the block
  module _ (b : ℕ) (none : NoSlotHas index b) where
    pub miss_found : position_of b (set_at index dirty xs) ≡ None
    miss_found = found_nowhere d.geometry index dirty order.sets k b i.held none

    module _ (own : set_of_block d.geometry b ≡ k) (address : b * 2 ^ d.geometry.b < 2 ^ 64)
        (mark : Bool) where
      -- the set is full: a slot gives up its block
      module _ (s number : ℕ) (full : length xs ≡ d.geometry.e)
          (victim : slice_get xs (victim_index (rules order.policy).victim number (length xs))
          ≡ Some s) where
        pub leaving : has_slot s xs ≡ true
        leaving = slot_in xs (victim_index (rules order.policy).victim number (length xs)) s victim

        pub gone : Holds d.geometry index k s
        gone = i.held.holds k s leaving

        pub leaving_in_blocks : s < length index.blocks
        leaving_in_blocks = slice_get_within index.blocks s (Some gone.block) gone.has

        pub leaving_in_marks : s < length dirty
        leaving_in_marks = omega (arith, leaving_in_blocks, i.slots, i.marks)

        abbrev zs : List ℕ
        zs = with_moved (rules order.policy).placed s xs

        abbrev over : IndexValue
        over = with_block index s (Some b)

        pub over_indexed : IsIndexed d over (set dirty s mark) (with_order order k zs)
        over_indexed = record {
          geometry = i.geometry;
          ways = i.ways;
          sets = length-set order.sets k zs ∙ i.sets;
          slots = length-set index.blocks s (Some b) ∙ i.slots;
          marks = length-set dirty s mark ∙ i.marks;
          few = by_set order.sets k zs in_sets (λ n ws. length ws ≤ d.geometry.e)
              (omega (arith, i.few k, moved_length (rules order.policy).placed s xs leaving))
              (λ n ne. i.few n);
          held = held_put d.geometry index order.sets k s b zs i.held in_sets leaving_in_blocks none
              own address
              (λ j ne. in_no_other d.geometry index order.sets j k s i.held leaving ne)
              (moved_once (rules order.policy).placed s xs (i.held.once k))
              (moved_in (rules order.policy).placed s s xs leaving ∙ leaving)
              (λ t ne. moved_in (rules order.policy).placed s t xs leaving);
          packed = packed_moved d.geometry.e order.sets k zs in_sets i.packed
              (λ t. moved_in (rules order.policy).placed s t xs leaving)
              (moved_length (rules order.policy).placed s xs leaving);
        }

        pub over_counts : counts_of (set order.sets k zs) ≡ counts_of order.sets
        over_counts = counts_set order.sets k zs ∙ count_kept (counts_of order.sets) k (length zs)
            (count_is ∙ sym (moved_length (rules order.policy).placed s xs leaving))

        pub over_sets : sets_at over (set dirty s mark) (set order.sets k zs)
            ≡ set (sets_at index dirty order.sets) k (set_at over (set dirty s mark) zs)
        over_sets = sets_written index over dirty (set dirty s mark) order.sets k zs
            (λ n ne. map_kept (slot_at index dirty) (slot_at over (set dirty s mark)) s
            (order_of order.sets n)
            (λ t differ. other_slot index dirty s (Some b) mark t differ)
            (in_no_other d.geometry index order.sets n k s i.held leaving ne))

        pub over_taken : TakesIn (Some order.policy) number d.geometry.e (set_at index dirty xs)
            (record { block = b; dirty = mark }) (Some (slot_at index dirty s))
            (set_at over (set dirty s mark) zs)
        over_taken = subst (λ (new : Slot). TakesIn (Some order.policy) number d.geometry.e
            (set_at index dirty xs) new (Some (slot_at index dirty s))
            (set_at over (set dirty s mark) zs))
            (new_slot index dirty s b mark leaving_in_blocks leaving_in_marks)
            (takes_over order.policy number d.geometry.e (slot_at index dirty)
            (slot_at over (set dirty s mark)) s xs
            (λ t differ. other_slot index dirty s (Some b) mark t differ) (i.held.once k) leaving
            full victim)

        pub over_victim : (slot_at index dirty s).block * 2 ^ d.geometry.b < 2 ^ 64
        over_victim = subst (λ (c : ℕ). c * 2 ^ d.geometry.b < 2 ^ 64)
            (sym (slot_block index dirty s gone.block gone.has)) gone.address

      -- the set is not full: its next slot gets the block
      module _ (s : ℕ) (room : length xs < d.geometry.e)
          (next : s ≡ k * d.geometry.e + length xs) where
        below : k * d.geometry.e + d.geometry.e ≤ d.geometry.e * 2 ^ d.geometry.s
        below = wide d.geometry.e k (2 ^ d.geometry.s) lt

        pub next_in_blocks : s < length index.blocks
        next_in_blocks = omega (arith, below, i.slots, next, room)

        pub next_in_marks : s < length dirty
        next_in_marks = omega (arith, below, i.marks, next, room)

        not_in : (j : ℕ) → has_slot s (order_of order.sets j) ≡ true → ⊥
        not_in j h =
            let within = (i.packed j s).0 h in
            let same : j ≡ k = one_segment d.geometry.e j k s
            (omega (arith, within.0)) (omega (arith, within.1, i.few j))
            (omega (arith, next)) (omega (arith, next, room)) in
            let here = (i.packed k s).0
            (subst (λ (n : ℕ). has_slot s (order_of order.sets n) ≡ true) same h) in
            omega (arith, here.1, next)

        pub unlisted : (j : ℕ) → has_slot s (order_of order.sets j) ≡ false
        unlisted j = by_bool (λ v. (has_slot s (order_of order.sets j) ≡ v) →
            has_slot s (order_of order.sets j) ≡ false) (has_slot s (order_of order.sets j))
            (λ e. absurd (not_in j e)) (λ e. e) refl

        pub none_listed : is_listed order.sets s ≡ false
        none_listed = in_no_list s order.sets unlisted

        pub next_free : slice_get index.blocks s ≡ Some None
        next_free = free_slot index s next_in_blocks
            (λ c h. false≢true (sym (unlisted (set_of_block d.geometry c)) ∙ i.held.listed s c h))

        abbrev ns : List ℕ
        ns = with_next (rules order.policy).placed s xs

        abbrev more : IndexValue
        more = with_block index s (Some b)

        long : length ns ≡ suc (length xs)
        long = next_length (rules order.policy).placed s xs

        here_now : (t : ℕ) → (has_slot t ns ≡ true) ↔
            ((k * d.geometry.e ≤ t) × (t < k * d.geometry.e + length ns))
        here_now t = (
          λ h. same_or _ s t
              (λ q. (omega (arith, next, q), omega (arith, next, q, long)))
              (λ ne. let was = (i.packed k t).0
              (sym (next_other (rules order.policy).placed s t xs ne) ∙ h) in
              (was.0, omega (arith, was.1, long))),
          λ w. same_or _ s t
              (λ q. subst (λ (u : ℕ). has_slot u ns ≡ true) q
              (next_self (rules order.policy).placed s xs))
              (λ ne. next_other (rules order.policy).placed s t xs ne
              ∙ (i.packed k t).1 (w.0, omega (arith, w.1, long, next, ne))),
        )

        pub more_indexed : IsIndexed d more (set dirty s mark) (with_order order k ns)
        more_indexed = record {
          geometry = i.geometry;
          ways = i.ways;
          sets = length-set order.sets k ns ∙ i.sets;
          slots = length-set index.blocks s (Some b) ∙ i.slots;
          marks = length-set dirty s mark ∙ i.marks;
          few = by_set order.sets k ns in_sets (λ n ws. length ws ≤ d.geometry.e)
              (omega (arith, room, long)) (λ n ne. i.few n);
          held = held_put d.geometry index order.sets k s b ns i.held in_sets next_in_blocks none
              own address (λ j ne. unlisted j)
              (next_once (rules order.policy).placed s xs (unlisted k) (i.held.once k))
              (next_self (rules order.policy).placed s xs)
              (λ t ne. next_other (rules order.policy).placed s t xs (λ q. ne (sym q)));
          packed = packed_set d.geometry.e order.sets k ns in_sets i.packed here_now;
        }

        pub more_counts : counts_of (set order.sets k ns)
            ≡ set (counts_of order.sets) k (suc (length xs))
        more_counts = counts_set order.sets k ns
            ∙ ap (λ n. set (counts_of order.sets) k n) long

        pub more_sets : sets_at more (set dirty s mark) (set order.sets k ns)
            ≡ set (sets_at index dirty order.sets) k (set_at more (set dirty s mark) ns)
        more_sets = sets_written index more dirty (set dirty s mark) order.sets k ns
            (λ n ne. map_kept (slot_at index dirty) (slot_at more (set dirty s mark)) s
            (order_of order.sets n)
            (λ t differ. other_slot index dirty s (Some b) mark t differ) (unlisted n))

        pub more_taken : (number : ℕ) → TakesIn (Some order.policy) number d.geometry.e
            (set_at index dirty xs) (record { block = b; dirty = mark }) None
            (set_at more (set dirty s mark) ns)
        more_taken number = subst (λ (new : Slot). TakesIn (Some order.policy) number d.geometry.e
            (set_at index dirty xs) new None (set_at more (set dirty s mark) ns))
            (new_slot index dirty s b mark next_in_blocks next_in_marks)
            (takes_in order.policy number d.geometry.e (slot_at index dirty)
            (slot_at more (set dirty s mark)) s xs
            (λ t differ. other_slot index dirty s (Some b) mark t differ) (unlisted k) room)

-- a block is between the first slot of its set and the last, and each of these has one
pub block_between : (d : Design) (index : IndexValue) (dirty : List Bool) (order : OrderValue)
    (k : ℕ) → IsIndexed d index dirty order → (b s : ℕ) → k ≡ set_of_block d.geometry b →
    HasBlock index s b → (k * d.geometry.e ≤ s) ×
    (s < k * d.geometry.e + length (order_of order.sets k))
block_between d index dirty order k i b s is h = (i.packed k s).0
    (subst (λ (n : ℕ). has_slot s (order_of order.sets n) ≡ true) (sym is) (i.held.listed s b h))

pub block_there : (d : Design) (index : IndexValue) (dirty : List Bool) (order : OrderValue)
    (k : ℕ) → IsIndexed d index dirty order → (s : ℕ) → k * d.geometry.e ≤ s →
    s < k * d.geometry.e + length (order_of order.sets k) → (b : ℕ) × HasBlock index s b
block_there d index dirty order k i s le lt =
    let h = i.held.holds k s ((i.packed k s).1 (le, lt)) in
    (h.block, h.has)
