-- The addresses of the slots fit after a use, since it keeps the slots but for a mark.
use Rattle.std.proofs.Common.{true, arith, sym, subst}
use Rattle.cache_core.specs.internal.cache.Slab.{Addressable}
use Rattle.cache_core.proofs.replacement.Addresses.{marked_fits, touched_fits}
use Rattle.cache_core.proofs.cache.walked.one_set.use_slot.Goals as goal
use Rattle.cache_core.proofs.cache.walked.one_set.use_slot.Goals.{then-dirty, else-dirty}

pub returns-clause-addresses : goal.returns-clause-addresses
returns-clause-addresses g c = λ b fit.
    touched_fits b _ c.if-dirty.slots c.args.at _ (omega arith) c.touch.ensures.order
    (elim c.if-dirty.branch [
      | then-dirty w ↦ subst (Addressable b) (sym w.slots-is)
          (marked_fits b true c.args.slots.now c.args.at c.requires fit)
      | else-dirty w ↦ subst (Addressable b) (sym w.slots-is) fit
    ])
