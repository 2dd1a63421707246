-- A set of a cache whose blocks are found by an index is emptied, from its last slot on.
use Rattle.std.proofs.Common.{◌≡◌, ℕ, ◌+◌, ◌<◌, ◌≤◌, Bool, false, cond, List, [], ◌∷◌, ◌++◌}
use Rattle.std.proofs.Common.{length, set, get_or}
use Rattle.std.proofs.Common.{refl, sym, ◌∙◌, ap, subst, arith, None, length-set}
use Rattle.std.proofs.Common.{length-append}
use Rattle.std.proofs.lemmas.List.{get_or-set_same, set-get_or}
use Rattle.block_index.specs.BlockIndex.{IndexValue}
use Rattle.cache_core.specs.Geometry.{GeometryValue}
use Rattle.cache_core.specs.cache.Order.{dirty_in}
use Rattle.cache_core.specs.internal.cache.SlotOrder.{OrderValue, order_of, with_order}
use Rattle.cache_core.specs.internal.cache.Indexed.{set_at, IsHeld, Holds}
use Rattle.cache_core.proofs.cache.indexed.HeldLaw.{with_block}
use Rattle.cache_core.proofs.cache.indexed.SlotOrderDeeds.{set_again}
use Rattle.cache_core.proofs.cache.indexed.IndexedEmptying.{pop_inside, pop_within, pop_held}
use Rattle.cache_core.proofs.cache.indexed.IndexedEmptying.{dirty_push}

-- How far a set is emptied: what was dirty in it is counted.
pub record Popping (g : GeometryValue) (dirty : List Bool) (k : ℕ) (first : IndexValue)
    (start : OrderValue) (index : IndexValue) (order : OrderValue) (count : ℕ) : Type 0 where
  pub held : IsHeld g index order.sets
  pub slots : length index.blocks ≡ length first.blocks
  pub rest : order ≡ with_order start k (order_of order.sets k)
  pub within : k < length order.sets
  pub counted : count + dirty_in (set_at first dirty (order_of order.sets k))
      ≡ dirty_in (set_at first dirty (order_of start.sets k))
  pub few : count + length (order_of order.sets k) ≤ length (order_of start.sets k)

-- at first nothing is counted
pub popping_none : (g : GeometryValue) (dirty : List Bool) (k : ℕ) (index : IndexValue)
    (order : OrderValue) → IsHeld g index order.sets → k < length order.sets →
    Popping g dirty k index order index order 0
popping_none g dirty k index order held within = record {
  held = held;
  slots = refl;
  rest = ap (λ ys. record order { sets = ys }) (sym (set-get_or order.sets k []));
  within = within;
  counted = omega arith;
  few = omega arith;
}

-- one slot more leaves
module _ (g : GeometryValue) (dirty : List Bool) (k : ℕ) (first : IndexValue) (start : OrderValue)
    (index : IndexValue) (order : OrderValue) (count : ℕ)
    (p : Popping g dirty k first start index order count) (s : ℕ) (xs : List ℕ)
    (left : OrderValue) (is : order_of order.sets k ≡ xs ++ s ∷ [])
    (taken : left ≡ with_order order k xs) where
  pub slot_held : Holds g index k s
  slot_held = p.held.holds k s (pop_inside g index order.sets k s xs p.held p.within is)

  pub slot_within : s < length index.blocks
  slot_within = pop_within g index order.sets k s xs p.held p.within is

  left_sets : left.sets ≡ set order.sets k xs
  left_sets = ap (λ (o : OrderValue). o.sets) taken

  left_here : order_of left.sets k ≡ xs
  left_here = ap (λ ys. order_of ys k) left_sets ∙ get_or-set_same order.sets k xs [] p.within

  pub shorter : length (order_of left.sets k) < length (order_of order.sets k)
  shorter = omega (
    arith,
    ap (λ (ys : List ℕ). length ys) left_here,
    ap (λ (ys : List ℕ). length ys) is,
    length-append xs (s ∷ []),
  )

  pub one_popped : (after : IndexValue) (more : ℕ) → after ≡ with_block index s None →
      more ≡ cond (get_or dirty s false) 1 0 → more ≤ 1 →
      Popping g dirty k first start after left (count + more)
  one_popped after more gone found one = record {
    held = subst (λ (i : IndexValue). IsHeld g i left.sets) (sym gone)
        (subst (λ (ys : List (List ℕ)). IsHeld g (with_block index s None) ys) (sym left_sets)
        (pop_held g index order.sets k s xs p.held p.within is));
    slots = ap (λ (i : IndexValue). length i.blocks) gone ∙ length-set index.blocks s None ∙
        p.slots;
    rest = taken ∙ ap (λ (o : OrderValue). with_order o k xs) p.rest
        ∙ ap (λ ys. record start { sets = ys })
        (set_again start.sets k (order_of order.sets k) xs
        ∙ ap (set start.sets k) (sym left_here));
    within = omega (arith, p.within, ap length left_sets, length-set order.sets k xs);
    counted = omega (
      arith,
      p.counted,
      found,
      ap (λ ys. dirty_in (set_at first dirty ys)) is,
      dirty_push first dirty xs s,
      ap (λ ys. dirty_in (set_at first dirty ys)) left_here,
    );
    few = omega (arith, p.few, shorter, one);
  }
