-- One access to a cache whose blocks are found by an index: a hit, a block that is placed, or a
-- reference that is passed on.
use Rattle.std.proofs.Common.{◌≡◌, ℕ, ◌^◌, ◌<◌, Bool, true, false, List, [], length}
use Rattle.std.proofs.Common.{set, get_or}
use Rattle.std.proofs.Common.{refl, sym, ◌∙◌, ap, subst, arith, Option, Some, None}
use Rattle.std.proofs.lemmas.List.{set-get_or, length-map}
use Rattle.block_index.specs.SlotLists.{index_of_slot}
use Rattle.block_index.specs.BlockIndex.{IndexValue, HasBlock, NoSlotHas}
use Rattle.trace_core.specs.declared.events.Ref.{Ref}
use Rattle.cache_core.specs.declared.outcome.Slot.{Slot}
use Rattle.cache_core.specs.declared.outcome.Outcome.{Outcome}
use Rattle.cache_core.specs.declared.design.Design.{Design}
use Rattle.cache_core.specs.declared.design.Repl.{Repl}
use Rattle.cache_core.specs.Geometry.{block_of, set_of, set_of_block}
use Rattle.cache_core.specs.cache.Outcomes.{outcome_of, on_hit, on_passing, on_placing, is_dirtied}
use Rattle.cache_core.specs.cache.Outcomes.{is_allocated}
use Rattle.cache_core.specs.replacement.Rules.{rules}
use Rattle.cache_core.specs.cache.Order.{Accesses, Visits, TakesIn, position_of}
use Rattle.cache_core.specs.cache.Order.{random_numbers_after, with_dirty_at, Touches}
use Rattle.cache_core.specs.cache.Order.{DirtiesByWrites}
use Rattle.cache_core.specs.internal.cache.SlotOrder.{OrderValue, order_of, with_order, with_moved}
use Rattle.cache_core.specs.internal.cache.Indexed.{set_at, sets_at, with_mark, IsIndexed}
use Rattle.cache_core.specs.internal.cache.Indexed.{indexed_contents}
use Rattle.cache_core.proofs.cache.indexed.IndexedLaw.{sets_read}
use Rattle.cache_core.proofs.cache.indexed.IndexedDeeds.{in_sets, hit_found, hit_order, hit_sets}
use Rattle.cache_core.proofs.cache.indexed.IndexedDeeds.{miss_found}
use Rattle.cache_core.proofs.cache.indexed.IndexedVisit.{visits_hit, visits_passed, visits_placed}
use Rattle.cache_core.proofs.cache.indexed.IndexedVisit.{set_accesses, set_dirties}

module _ (d : Design) (index : IndexValue) (dirty : List Bool) (order : OrderValue) (ref : Ref)
    (k b : ℕ) (i : IsIndexed d index dirty order) (k_is : k ≡ set_of d.geometry ref.addr)
    (b_is : b ≡ block_of d.geometry ref.addr) (within : k < 2 ^ d.geometry.s)
    (outcome : Outcome) where
  abbrev xs : List ℕ
  xs = order_of order.sets k

  abbrev views : List (List Slot)
  views = sets_at index dirty order.sets

  pub own_set : set_of_block d.geometry b ≡ k
  own_set = ap (set_of_block d.geometry) b_is ∙ sym k_is

  read : get_or views (set_of d.geometry ref.addr) [] ≡ set_at index dirty xs
  read = ap (λ (n : ℕ). get_or views n []) (sym k_is) ∙ sets_read index dirty order.sets k

  in_views : set_of d.geometry ref.addr < length views
  in_views = omega (
    arith,
    k_is,
    in_sets d index dirty order k i within,
    length-map order.sets (set_at index dirty),
  )

  -- a hit
  module _ (s : ℕ) (mark : Bool) (has : HasBlock index s b)
      (mark_is : mark ≡ is_dirtied d.write ref.access)
      (is : outcome ≡ outcome_of (on_hit d.write ref)) where
    abbrev ys : List ℕ
    ys = with_moved (rules order.policy).touched s xs

    abbrev marks : List Bool
    marks = with_mark mark dirty s

    visits_it : (numbers : ℕ → ℕ) → Visits d (Some order.policy) numbers ref
        (get_or views (set_of d.geometry ref.addr) []) outcome (set_at index marks ys) numbers
    visits_it numbers =
        let order_is : Touches (Some order.policy)
        (with_dirty_at (is_dirtied d.write ref.access) (set_at index dirty xs)
        (index_of_slot s xs)) (index_of_slot s xs) (set_at index marks ys) =
        subst (λ (m : Bool). Touches (Some order.policy)
        (with_dirty_at m (set_at index dirty xs) (index_of_slot s xs)) (index_of_slot s xs)
        (set_at index marks ys)) mark_is
        (hit_order d index dirty order k i within s b has own_set mark) in
        subst (λ (zs : List Slot). Visits d (Some order.policy) numbers ref zs outcome
        (set_at index marks ys) numbers) (sym read)
        (visits_hit d (Some order.policy) numbers numbers ref outcome (set_at index dirty xs)
        (set_at index marks ys) (index_of_slot s xs)
        (ap (λ (c : ℕ). position_of c (set_at index dirty xs)) (sym b_is)
        ∙ hit_found d index dirty order k i within s b has own_set) order_is refl is)

    written : sets_at index marks (set order.sets k ys)
        ≡ set views (set_of d.geometry ref.addr) (set_at index marks ys)
    written = hit_sets d index dirty order k i within s b has own_set mark
        ∙ ap (λ (n : ℕ). set views n (set_at index marks ys)) k_is

    pub hit_accesses : (numbers : ℕ → ℕ) →
        Accesses (indexed_contents d (Some order.policy) numbers index dirty order) ref outcome
        (indexed_contents d (Some order.policy) numbers index marks (with_order order k ys))
    hit_accesses numbers = set_accesses d (Some order.policy) numbers numbers ref outcome
        (Some order.policy) refl views (sets_at index marks (set order.sets k ys))
        (set_at index marks ys) in_views written (visits_it numbers)

    pub hit_dirties : DirtiesByWrites views ref outcome (sets_at index marks (set order.sets k ys))
    hit_dirties = set_dirties d (Some order.policy) (λ n. 0) (λ n. 0) ref outcome
        (Some order.policy) refl views (sets_at index marks (set order.sets k ys))
        (set_at index marks ys) in_views written (visits_it (λ n. 0))
        (omega (arith, i.geometry.some))

  -- no slot has the block
  module _ (none : NoSlotHas index b) where
    nowhere : position_of (block_of d.geometry ref.addr) (set_at index dirty xs) ≡ None
    nowhere = ap (λ (c : ℕ). position_of c (set_at index dirty xs)) (sym b_is)
        ∙ miss_found d index dirty order k i within b none

    -- the reference is passed on
    module _ (refused : is_allocated d.allocate ref.access ≡ false)
        (is : outcome ≡ outcome_of (on_passing ref)) where
      passes : (policy : Option Repl) (numbers : ℕ → ℕ) → Visits d policy numbers ref
          (get_or views (set_of d.geometry ref.addr) []) outcome
          (get_or views (set_of d.geometry ref.addr) []) numbers
      passes policy numbers =
          visits_passed d policy numbers numbers ref outcome
          (get_or views (set_of d.geometry ref.addr) [])
          (get_or views (set_of d.geometry ref.addr) [])
          (ap (position_of (block_of d.geometry ref.addr)) read ∙ nowhere) refused refl refl is

      pub passed_accesses : (policy : Option Repl) (numbers : ℕ → ℕ) →
          Accesses (indexed_contents d policy numbers index dirty order) ref outcome
          (indexed_contents d policy numbers index dirty order)
      passed_accesses policy numbers = set_accesses d policy numbers numbers ref outcome policy refl
          views views (get_or views (set_of d.geometry ref.addr) []) in_views
          (sym (set-get_or views (set_of d.geometry ref.addr) [])) (passes policy numbers)

      pub passed_dirties : DirtiesByWrites views ref outcome views
      passed_dirties = set_dirties d None (λ n. 0) (λ n. 0) ref outcome None refl
          views views (get_or views (set_of d.geometry ref.addr) []) in_views
          (sym (set-get_or views (set_of d.geometry ref.addr) [])) (passes None (λ n. 0))
          (omega (arith, i.geometry.some))

    -- the block is placed
    module _ (mark : Bool) (mark_is : mark ≡ is_dirtied d.write ref.access)
        (allowed : is_allocated d.allocate ref.access ≡ true) (policy later : Option Repl)
        (numbers rest : ℕ → ℕ) (new : List (List Slot)) (here : List Slot) (gone : Option Slot)
        (taken : TakesIn policy (numbers 0) d.geometry.e
        (set_at index dirty (order_of order.sets (set_of_block d.geometry b)))
        (record { block = b; dirty = mark }) gone here)
        (placed : new ≡ set views (set_of_block d.geometry b) here)
        (drawn : rest ≡ random_numbers_after policy gone numbers)
        (is : outcome ≡ outcome_of (on_placing d.geometry d.write ref b gone)) where
      gone_is : outcome.evicted ≡ gone
      gone_is = ap (λ (o : Outcome). o.evicted) is

      same_slot : ◌≡◌ {A = Slot} (record { block = b; dirty = mark })
          (record { block = block_of d.geometry ref.addr; dirty = is_dirtied d.write ref.access })
      same_slot = ap (λ (c : ℕ). record { block = c; dirty = mark }) b_is
          ∙ ap (λ (m : Bool). record { block = block_of d.geometry ref.addr; dirty = m }) mark_is

      there : set_at index dirty (order_of order.sets (set_of_block d.geometry b))
          ≡ get_or views (set_of d.geometry ref.addr) []
      there = ap (λ (n : ℕ). set_at index dirty (order_of order.sets n)) own_set ∙ sym read

      places : Visits d policy numbers ref (get_or views (set_of d.geometry ref.addr) []) outcome
          here rest
      places = visits_placed d policy numbers rest ref outcome
          (get_or views (set_of d.geometry ref.addr) []) here
          (ap (position_of (block_of d.geometry ref.addr)) read ∙ nowhere) allowed
          (subst (λ (e : Option Slot). TakesIn policy (numbers 0) d.geometry.e
          (get_or views (set_of d.geometry ref.addr) [])
          (record { block = block_of d.geometry ref.addr; dirty = is_dirtied d.write ref.access }) e
          here) (sym gone_is)
          (subst (λ (x : Slot). TakesIn policy (numbers 0) d.geometry.e
          (get_or views (set_of d.geometry ref.addr) []) x gone here) same_slot
          (subst (λ (ys : List Slot). TakesIn policy (numbers 0) d.geometry.e ys
          (record { block = b; dirty = mark }) gone here) there taken)))
          (subst (λ (e : Option Slot). rest ≡ random_numbers_after policy e numbers) (sym gone_is)
          drawn)
          (subst (λ (e : Option Slot). outcome ≡ outcome_of (on_placing d.geometry d.write ref
          (block_of d.geometry ref.addr) e)) (sym gone_is)
          (subst (λ (c : ℕ). outcome ≡ outcome_of (on_placing d.geometry d.write ref c gone)) b_is
          is))

      set_in : new ≡ set views (set_of d.geometry ref.addr) here
      set_in = placed ∙ ap (λ (n : ℕ). set views n here) (own_set ∙ k_is)

      pub placed_accesses : (after : OrderValue) (index' : IndexValue) (dirty' : List Bool) →
          sets_at index' dirty' after.sets ≡ new → later ≡ policy →
          Accesses (indexed_contents d policy numbers index dirty order) ref outcome
          (indexed_contents d later rest index' dirty' after)
      placed_accesses after index' dirty' same kept = set_accesses d policy numbers rest ref outcome
          later kept views (sets_at index' dirty' after.sets) here in_views (same ∙ set_in) places

      pub placed_dirties : DirtiesByWrites views ref outcome new
      placed_dirties = set_dirties d policy numbers rest ref outcome policy refl views new here
          in_views set_in places (omega (arith, i.geometry.some))
