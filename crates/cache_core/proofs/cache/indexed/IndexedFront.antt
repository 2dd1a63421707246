-- An access that finds its block in the first slot of its set, by an index.
use Rattle.std.proofs.Common.{◌≡◌, ◌≢◌, ℕ, ◌^◌, ◌<◌, Bool, true, false, eqb, List}
use Rattle.std.proofs.Common.{[], ◌∷◌, length, set, get_or}
use Rattle.std.proofs.Common.{refl, sym, ◌∙◌, ap, subst, arith, Option, Some, None}
use Rattle.std.specs.Prelude.{slice_get, is_some}
use Rattle.std.proofs.lemmas.List.{set-get_or, length-map}
use Rattle.std.proofs.lemmas.Option.{slice_get_within}
use Rattle.block_index.specs.SlotLists.{has_slot, index_of_slot}
use Rattle.block_index.specs.BlockIndex.{IndexValue, HasBlock}
use Rattle.trace_core.specs.declared.events.Ref.{Ref}
use Rattle.cache_core.specs.declared.outcome.Slot.{Slot}
use Rattle.cache_core.specs.declared.outcome.Outcome.{Outcome}
use Rattle.cache_core.specs.declared.design.Design.{Design}
use Rattle.cache_core.specs.declared.design.Repl.{Repl}
use Rattle.cache_core.specs.Geometry.{block_of, set_of, set_of_block}
use Rattle.cache_core.specs.cache.Outcomes.{outcome_of, on_hit, is_dirtied, two_options}
use Rattle.cache_core.specs.cache.Outcomes.{through_writes}
use Rattle.cache_core.specs.cache.Order.{Accesses, Visits, Touches, with_dirty_at, position_of}
use Rattle.cache_core.specs.cache.Order.{DirtiesByWrites}
use Rattle.cache_core.specs.internal.cache.Order.{holds_first, hits_in_front}
use Rattle.cache_core.specs.internal.cache.SlotOrder.{OrderValue, order_of}
use Rattle.cache_core.specs.internal.cache.Indexed.{slot_at, set_at, sets_at, with_mark}
use Rattle.cache_core.specs.internal.cache.Indexed.{IsIndexed, indexed_contents}
use Rattle.cache_core.proofs.cache.indexed.SlotsApart.{slot_in, some_is, index_once, index_within}
use Rattle.cache_core.proofs.cache.indexed.SlotsApart.{map_kept}
use Rattle.cache_core.proofs.cache.indexed.IndexedLaw.{slot_block, sets_read, sets_written}
use Rattle.cache_core.proofs.cache.indexed.IndexedLaw.{marked_set, mark_other}
use Rattle.cache_core.proofs.cache.indexed.HeldLaw.{in_no_other}
use Rattle.cache_core.proofs.cache.indexed.IndexedDeeds.{in_sets, hit_found}
use Rattle.cache_core.proofs.cache.indexed.IndexedVisit.{visits_hit, set_accesses, set_dirties}
use Rattle.cache_core.proofs.cache.FrontLaw.{touched_in_front, nothing_sent, itself}

first_holds : (index : IndexValue) (dirty : List Bool) (xs : List ℕ) (s b c : ℕ) →
    slice_get xs 0 ≡ Some s → HasBlock index s b →
    holds_first c (set_at index dirty xs) ≡ eqb b c
first_holds index dirty [] s b c e h = absurd (cc)
first_holds index dirty (x ∷ xs) s b c e h =
    ap (λ (t : ℕ). eqb (slot_at index dirty t).block c) (some_is x s e)
    ∙ ap (λ (n : ℕ). eqb n c) (slot_block index dirty s b h)

module _ (d : Design) (index : IndexValue) (dirty : List Bool) (order : OrderValue) (ref : Ref)
    (k s b : ℕ) (i : IsIndexed d index dirty order) (set_is : k ≡ set_of d.geometry ref.addr)
    (within : k < 2 ^ d.geometry.s) (first : slice_get (order_of order.sets k) 0 ≡ Some s)
    (has : HasBlock index s b) (outcome : Outcome)
    (is : outcome ≡ outcome_of (on_hit d.write ref)) where
  abbrev xs : List ℕ
  xs = order_of order.sets k

  -- whether the first slot has the block
  pub front_told : is_some (get_or outcome.down 0 None) ≡ false →
      hits_in_front d (sets_at index dirty order.sets) ref ≡ eqb b (block_of d.geometry ref.addr)
  front_told sent =
      let down : is_some (get_or (two_options (through_writes d.write ref)) 0 None) ≡ false =
      rw is at sent in
      let holds : holds_first (block_of d.geometry ref.addr)
      (get_or (sets_at index dirty order.sets) (set_of d.geometry ref.addr) [])
      ≡ eqb b (block_of d.geometry ref.addr) =
      ap (λ (n : ℕ). holds_first (block_of d.geometry ref.addr)
      (get_or (sets_at index dirty order.sets) n [])) (sym set_is)
      ∙ ap (holds_first (block_of d.geometry ref.addr)) (sets_read index dirty order.sets k)
      ∙ first_holds index dirty xs s b (block_of d.geometry ref.addr) first has in
      rw (holds, nothing_sent (through_writes d.write ref), down)
      (itself (eqb b (block_of d.geometry ref.addr)))

  pub front_in : has_slot s xs ≡ true
  front_in = slot_in xs 0 s first

  module _ (same : b ≡ block_of d.geometry ref.addr) (marks : List Bool)
      (marked : marks ≡ with_mark (is_dirtied d.write ref.access) dirty s) where
    own : set_of_block d.geometry b ≡ k
    own = ap (set_of_block d.geometry) same ∙ sym set_is

    at_first : index_of_slot s xs ≡ 0
    at_first = index_once xs 0 s (i.held.once k) first

    in_marks : s < length dirty
    in_marks =
        let held = i.held.holds k s front_in in
        omega (arith, slice_get_within index.blocks s (Some held.block) held.has, i.slots, i.marks)

    found : position_of (block_of d.geometry ref.addr) (set_at index dirty xs) ≡ Some 0
    found = ap (λ (c : ℕ). position_of c (set_at index dirty xs)) (sym same)
        ∙ hit_found d index dirty order k i within s b has own ∙ ap Some at_first

    now : with_dirty_at (is_dirtied d.write ref.access) (set_at index dirty xs) 0
        ≡ set_at index marks xs
    now = ap (with_dirty_at (is_dirtied d.write ref.access) (set_at index dirty xs)) (sym at_first)
        ∙ marked_set index dirty (is_dirtied d.write ref.access) s xs (i.held.once k) front_in
        in_marks
        ∙ ap (λ (m : List Bool). set_at index m xs) (sym marked)

    some : 0 < length (set_at index marks xs)
    some = omega (arith, index_within s xs front_in, length-map xs (slot_at index marks))

    touched : (policy : Option Repl) →
        Touches policy (with_dirty_at (is_dirtied d.write ref.access) (set_at index dirty xs) 0) 0
        (set_at index marks xs)
    touched policy = subst (λ (ys : List Slot). Touches policy ys 0 (set_at index marks xs))
        (sym now) (touched_in_front policy (set_at index marks xs) some)

    visits : (policy : Option Repl) (numbers : ℕ → ℕ) →
        Visits d policy numbers ref
        (get_or (sets_at index dirty order.sets) (set_of d.geometry ref.addr) []) outcome
        (set_at index marks xs) numbers
    visits policy numbers =
        let read : get_or (sets_at index dirty order.sets) (set_of d.geometry ref.addr) []
        ≡ set_at index dirty xs =
        ap (λ (n : ℕ). get_or (sets_at index dirty order.sets) n []) (sym set_is)
        ∙ sets_read index dirty order.sets k in
        subst (λ (ys : List Slot). Visits d policy numbers ref ys outcome (set_at index marks xs)
        numbers) (sym read)
        (visits_hit d policy numbers numbers ref outcome (set_at index dirty xs)
        (set_at index marks xs) 0 found (touched policy) refl is)

    others : (t : ℕ) → t ≢ s → slot_at index marks t ≡ slot_at index dirty t
    others t ne = ap (λ (m : List Bool). slot_at index m t) marked
        ∙ mark_other index dirty (is_dirtied d.write ref.access) s t ne

    all_sets : sets_at index marks order.sets
        ≡ set (sets_at index dirty order.sets) (set_of d.geometry ref.addr) (set_at index marks xs)
    all_sets =
        ap (sets_at index marks) (sym (set-get_or order.sets k []))
        ∙ sets_written index index dirty marks order.sets k xs
        (λ n ne. map_kept (slot_at index dirty) (slot_at index marks) s (order_of order.sets n)
        others (in_no_other d.geometry index order.sets n k s i.held front_in ne))
        ∙ ap (λ (n : ℕ). set (sets_at index dirty order.sets) n (set_at index marks xs)) set_is

    in_views : set_of d.geometry ref.addr < length (sets_at index dirty order.sets)
    in_views = omega (
      arith,
      set_is,
      in_sets d index dirty order k i within,
      length-map order.sets (set_at index dirty),
    )

    pub front_accesses : (policy : Option Repl) (numbers : ℕ → ℕ) →
        Accesses (indexed_contents d policy numbers index dirty order) ref outcome
        (indexed_contents d policy numbers index marks order)
    front_accesses policy numbers = set_accesses d policy numbers numbers ref outcome policy refl
        (sets_at index dirty order.sets) (sets_at index marks order.sets) (set_at index marks xs)
        in_views all_sets (visits policy numbers)

    pub front_dirties : DirtiesByWrites (sets_at index dirty order.sets) ref outcome
        (sets_at index marks order.sets)
    front_dirties = set_dirties d None (λ n. 0) (λ n. 0) ref outcome None refl
        (sets_at index dirty order.sets) (sets_at index marks order.sets) (set_at index marks xs)
        in_views all_sets (visits None (λ n. 0)) (omega (arith, i.geometry.some))
