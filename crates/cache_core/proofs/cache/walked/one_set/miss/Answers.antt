-- The addresses of the slots fit after a miss, and so does that of the slot that left.
use Rattle.std.proofs.Common.{arith}
use Rattle.std.proofs.lemmas.List.{take_min}
use Rattle.cache_core.proofs.replacement.Addresses.{victim_fits, placed_fits}
use Rattle.cache_core.proofs.cache.walked.one_set.miss.Goals as goal

pub placing_outcome-outcome-requires-clause-victim :
    goal.placing_outcome-outcome-requires-clause-victim
placing_outcome-outcome-requires-clause-victim g c =
    grind (
      arith,
      victim_fits c.args.design.geometry.b _ _ _ _ _ _ _ (omega arith) c.place-evicted.ensures.order
          c.requires.addresses,
    )

pub returns-clause-addresses : goal.returns-clause-addresses
returns-clause-addresses g c = grind (arith, placed_fits, take_min)

pub returns-clause-victim : goal.returns-clause-victim
returns-clause-victim g c = grind (
  arith,
  victim_fits c.args.design.geometry.b _ _ _ _ _ _ _
      (omega arith) c.place-evicted.ensures.order c.requires.addresses,
)
