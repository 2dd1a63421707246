-- The first slot is marked in its segment, and the segment is written back.
use Rattle.std.proofs.Common.{◌≡◌, true, [], Some, arith, take-take, sym, ap, ◌∙◌}
use Rattle.cache_core.specs.Geometry.{block_of}
use Rattle.cache_core.specs.cache.Outcomes.{is_dirtied, through_writes}
use Rattle.cache_core.specs.cache.Order.{position_of}
use Rattle.cache_core.proofs.cache.Slabs.{segment_slots}
use Rattle.cache_core.proofs.cache.FrontLaw.{front_kept, front_access, front_dirty, front_read}
use Rattle.cache_core.proofs.cache.FrontLaw.{told_in_front, unsent, stays_here, marked}
use Rattle.cache_core.proofs.cache.walked.visit_front.Goals as goal

pub returns-then-not-is_in_front-clause-answers : goal.returns-then-not-is_in_front-clause-answers
returns-then-not-is_in_front-clause-answers c =
    grind (
      arith,
      take-take,
      told_in_front c.args.design c.args.filled.now c.set_of-set.result c.e-ways.result
          c.args.slots.now c.args.reference c.requires.slab c.e-ways.ensures.value
          c.set_of-set.ensures.value c.set_of-set.ensures.within c.is_in_front.result,
    )

pub returns-then-not-is_write-clause-access : goal.returns-then-not-is_write-clause-access
returns-then-not-is_write-clause-access c = λ policy numbers.
    front_read c.args.design c.args.filled.now c.set_of-set.result c.e-ways.result
    c.args.slots.now c.args.reference c.requires.slab c.e-ways.ensures.value
    c.set_of-set.ensures.within (grind (arith, take-take))
    (sym c.is_write.ensures ∙ c.if-not-is_write.true) policy numbers c.set_of-set.ensures.value

pub returns-then-not-is_write-clause-answers : goal.returns-then-not-is_write-clause-answers
returns-then-not-is_write-clause-answers c =
    grind (
      arith,
      take-take,
      unsent c.args.design.write c.args.reference
          (sym c.is_write.ensures ∙ c.if-not-is_write.true),
      told_in_front c.args.design c.args.filled.now c.set_of-set.result c.e-ways.result
          c.args.slots.now c.args.reference c.requires.slab c.e-ways.ensures.value
          c.set_of-set.ensures.value c.set_of-set.ensures.within c.is_in_front.result,
    )

module _ (c : goal.After-slots-1) where
  first : position_of (block_of c.args.design.geometry c.args.reference.addr)
      (segment_slots c.e-ways.result c.args.filled.now c.set_of-set.result c.args.slots.now)
      ≡ Some 0
  first = grind (arith, take-take)

  dirtied : is_dirtied c.args.design.write c.args.reference.access ≡ true
  dirtied = ap (λ write. is_dirtied write c.args.reference.access) c.in-Back.is
      ∙ sym c.is_write.ensures ∙ c.if-not-is_write.false

  unsent_back : through_writes c.args.design.write c.args.reference ≡ []
  unsent_back = ap (λ write. through_writes write c.args.reference) c.in-Back.is

  segment_is : c.mark_front.new.slots ≡ marked c.args.design c.args.filled.now c.set_of-set.result
      c.e-ways.result c.args.slots.now c.args.reference c.requires.slab c.e-ways.ensures.value
      c.set_of-set.ensures.within first
  segment_is = rw dirtied c.mark_front.ensures

pub returns-in-Back-clause-slab : goal.returns-in-Back-clause-slab
returns-in-Back-clause-slab c =
    rw (segment_is c)
    (front_kept c.args.design c.args.filled.now c.set_of-set.result c.e-ways.result
    c.args.slots.now c.args.reference c.requires.slab c.e-ways.ensures.value
    c.set_of-set.ensures.within (first c))

pub returns-in-Back-clause-access : goal.returns-in-Back-clause-access
returns-in-Back-clause-access c = λ policy numbers.
    rw (segment_is c)
    (front_access c.args.design c.args.filled.now c.set_of-set.result c.e-ways.result
    c.args.slots.now c.args.reference c.requires.slab c.e-ways.ensures.value
    c.set_of-set.ensures.within (first c) policy numbers _
    c.set_of-set.ensures.value (stays_here c.args.design.write c.args.reference (unsent_back c)))

pub returns-in-Back-clause-dirty : goal.returns-in-Back-clause-dirty
returns-in-Back-clause-dirty c =
    rw (segment_is c)
    (front_dirty c.args.design c.args.filled.now c.set_of-set.result c.e-ways.result
    c.args.slots.now c.args.reference c.requires.slab c.e-ways.ensures.value
    c.set_of-set.ensures.within (first c) _
    (stays_here c.args.design.write c.args.reference (unsent_back c)))

pub returns-in-Back-clause-answers : goal.returns-in-Back-clause-answers
returns-in-Back-clause-answers c =
    grind (
      arith,
      take-take,
      unsent_back c,
      told_in_front c.args.design c.args.filled.now c.set_of-set.result c.e-ways.result
          c.args.slots.now c.args.reference c.requires.slab c.e-ways.ensures.value
          c.set_of-set.ensures.value c.set_of-set.ensures.within c.is_in_front.result,
    )
