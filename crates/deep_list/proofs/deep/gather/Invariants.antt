use Rattle.std.proofs.Common.{◌≡◌, length}
use Rattle.deep_list.specs.Slots.{live_items}
use Rattle.deep_list.specs.Deep.{IsGathering}
use Rattle.deep_list.proofs.deep.gather.Given as goal

abbrev pub invariant-loop-from : goal.invariant-loop-from
invariant-loop-from g l = record {
  gathering : IsGathering l.from l.to l.fn.slots l.slots;
  values : live_items l.values l.slots.live ≡ live_items l.fn.values l.fn.slots.live;
  beside : length l.values ≡ length l.fn.values;
}

abbrev pub decreases-loop-from : goal.decreases-loop-from
decreases-loop-from g l = l.from
