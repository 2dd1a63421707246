-- Whether a cache whose blocks are found by an index holds the block of a reference.
use Rattle.std.proofs.Common.{◌≡◌, ℕ, ◌^◌, ◌<◌, Bool, true, false, List, [], get_or}
use Rattle.std.proofs.Common.{sym, ◌∙◌, ap, arith}
use Rattle.std.specs.Prelude.{is_some}
use Rattle.std.proofs.lemmas.Bool.{true≢false}
use Rattle.std.proofs.Math.Nat.{one-le-pow}
use Rattle.block_index.specs.BlockIndex.{IndexValue, HasBlock, NoSlotHas}
use Rattle.trace_core.specs.declared.events.Ref.{Ref}
use Rattle.cache_core.specs.declared.outcome.Slot.{Slot}
use Rattle.cache_core.specs.declared.design.Design.{Design}
use Rattle.cache_core.specs.Geometry.{GeometryValue, block_of, set_of, set_of_block}
use Rattle.cache_core.specs.cache.Order.{position_of}
use Rattle.cache_core.specs.internal.cache.Held.{holds_block}
use Rattle.cache_core.specs.internal.cache.SlotOrder.{OrderValue, order_of}
use Rattle.cache_core.specs.internal.cache.Indexed.{set_at, sets_at, IsIndexed}
use Rattle.cache_core.proofs.cache.indexed.IndexedLaw.{sets_read}
use Rattle.cache_core.proofs.cache.indexed.IndexedDeeds.{hit_found, miss_found}

pub set_within : (g : GeometryValue) (addr : ℕ) → set_of g addr < 2 ^ g.s
set_within g addr =
    let some : 0 < 2 ^ g.s = one-le-pow g.s 2 (omega arith) in
    omega arith

module _ (d : Design) (index : IndexValue) (dirty : List Bool) (order : OrderValue) (ref : Ref)
    (k b : ℕ) (i : IsIndexed d index dirty order) (k_is : k ≡ set_of d.geometry ref.addr)
    (b_is : b ≡ block_of d.geometry ref.addr) (within : k < 2 ^ d.geometry.s) where
  own : set_of_block d.geometry b ≡ k
  own = ap (set_of_block d.geometry) b_is ∙ sym k_is

  -- it is looked for in its set
  there : holds_block d (sets_at index dirty order.sets) ref
      ≡ is_some (position_of b (set_at index dirty (order_of order.sets k)))
  there = ap (λ (n : ℕ). is_some (position_of (block_of d.geometry ref.addr)
      (get_or (sets_at index dirty order.sets) n []))) (sym k_is)
      ∙ ap (λ (ys : List Slot). is_some (position_of (block_of d.geometry ref.addr) ys))
      (sets_read index dirty order.sets k)
      ∙ ap (λ (c : ℕ). is_some (position_of c (set_at index dirty (order_of order.sets k))))
      (sym b_is)

  pub slot_held : (s : ℕ) → HasBlock index s b →
      true ≡ holds_block d (sets_at index dirty order.sets) ref
  slot_held s has = sym (there ∙ ap is_some (hit_found d index dirty order k i within s b has own))

  pub none_held : NoSlotHas index b → false ≡ holds_block d (sets_at index dirty order.sets) ref
  none_held none = sym (there ∙ ap is_some (miss_found d index dirty order k i within b none))

  pub held_nowhere : holds_block d (sets_at index dirty order.sets) ref ≡ false → NoSlotHas index b
  held_nowhere missed s has = true≢false (slot_held s has ∙ missed)
