-- What still waits is fed, and then each profile ends.
use Rattle.std.proofs.Common.{sym, ◌∙◌, subst}
use Rattle.std.specs.List.{flat_map}
use Rattle.trace_core.specs.Events.{events_of}
use Rattle.trace_core.proofs.WholeTraces.{holds-less}
use Rattle.sweep_core.specs.internal.Full.{full_pairs_ended, full_pairs_fed, FedFullAtMost}
use Rattle.sweep_core.proofs.FullLemmas.{waiting-few, waiting-alike, waiting-behind, ended-is}
use Rattle.sweep_core.proofs.full.pass.read_full.Goals as goal

pub feed-requires-clause-few : goal.feed-requires-clause-few
feed-requires-clause-few g c =
    let read = c.read_full_entries-read in
    waiting-few read.new.batch.added read.new.batch.waiting read.new.profiles read.ensures.waiting
    read.ensures.few

pub feed-requires-clause-alike : goal.feed-requires-clause-alike
feed-requires-clause-alike g c =
    let read = c.read_full_entries-read in
    waiting-alike read.new.batch.added read.new.batch.waiting read.new.profiles read.ensures.waiting

pub end_full-requires-clause-behind : goal.end_full-requires-clause-behind
end_full-requires-clause-behind g c =
    let read = c.read_full_entries-read in
    subst (λ n. FedFullAtMost n c.feed.new.profiles) (sym (c.added.ensures ∙ c.feed.ensures.same))
    (subst (FedFullAtMost read.new.batch.added) (sym c.feed.ensures.fed)
    (waiting-behind read.new.batch.added read.new.batch.waiting read.new.profiles
    read.ensures.waiting))

pub returns-clause-fed : goal.returns-clause-fed
returns-clause-fed g c =
    let read = c.read_full_entries-read in
    holds-less (λ es held. c.end_full.ensures
    ∙ (λ i. full_pairs_ended ((c.added.ensures ∙ c.feed.ensures.same) i) (c.feed.ensures.fed i))
    ∙ ended-is read.new.batch.added (flat_map (events_of c.args.kind) es) c.args.profiles.now
    (full_pairs_fed read.new.batch.waiting read.new.profiles) held) read.ensures.fed
