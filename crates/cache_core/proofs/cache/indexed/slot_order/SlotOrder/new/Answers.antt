-- No slot is filled.
use Rattle.std.proofs.Common.{ap}
use Rattle.cache_core.proofs.cache.indexed.slot_order.SlotOrder.new.Goals as goal

pub invariant_of-result : goal.invariant_of-result
invariant_of-result c = rw c.in_ok-filled.ensures c.in_ok-lists.ensures.kept

pub returns : goal.returns
returns c = rw c.in_ok-filled.ensures
    (ap (λ sets. record { policy = c.args.policy; ways = c.args.ways; sets = sets })
    c.in_ok-lists.ensures.empty)
