-- What still waits is fed, and then each profile catches up.
use Rattle.sweep_core.proofs.Waiting.{waiting-few, waiting-led}
use Rattle.sweep_core.proofs.pass.read_trace.Goals as goal

pub feed-requires-clause-few : goal.feed-requires-clause-few
feed-requires-clause-few g c =
    let read = c.read_entries-read in
    waiting-few read.new.batch.added read.new.batch.waiting read.new.profiles read.ensures.waiting
    read.ensures.few

pub feed-requires-clause-led : goal.feed-requires-clause-led
feed-requires-clause-led g c =
    let read = c.read_entries-read in
    waiting-led read.new.batch.added read.new.batch.waiting read.new.profiles read.ensures.waiting
