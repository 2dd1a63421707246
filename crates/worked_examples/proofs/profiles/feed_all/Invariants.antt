use Rattle.std.proofs.Common.{◌≡◌, ◌+◌}
use Rattle.profile_core.specs.profile.State.{fed_of}
use Rattle.worked_examples.proofs.profiles.feed_all.Given as goal

abbrev pub invariant-loop-addr : goal.invariant-loop-addr
invariant-loop-addr l = record {
  fed : fed_of l.profile ≡ fed_of l.initial.profile + l.addr-index;
  geometry : l.profile.geometry ≡ l.initial.profile.geometry;
}
