-- An entry that was read is one that the system was stepped through.
use Rattle.std.proofs.Common.{◌∷◌, [], ◌∙◌, arith, length-append, append-nil}
use Rattle.std.proofs.lemmas.Result.{err_from_is_err_and}
use Rattle.trace_core.specs.declared.events.Kind.TheVariants.{All}
use Rattle.trace_core.specs.Task.{entries_of}
use Rattle.trace_core.proofs.EntryEvents.{events_more}
use Rattle.trace_core.proofs.WholeTraces.{reads-none, reads-more, reads-end, reads-fault}
use Rattle.trace_core.proofs.WholeTraces.{holds-less, not-ahead, begins-ahead, caught-end}
use Rattle.trace_core.proofs.WholeTraces.{caught-fault}
use Rattle.commands.proofs.DinLemmas.{adds-append}
use Rattle.commands.proofs.din.stats_of_trace.Goals as goal

pub loop-system-init : goal.loop-system-init
loop-system-init g c =
    let told = c.none-ahead.ensures in (
      reads-none (g.S.Source.view c.args.source.now)
          (not-ahead c.args.lines.now _ told ∙ c.requires.begun) (
            λ plan seed events good stands. rw (append-nil events) stands,
            omega (arith, c.requires.new),
          ),
      begins-ahead c.args.lines.now _ told,
    )

pub step-requires : goal.step-requires
step-requires g c =
    let so_far = c.loop-system.invariant.0 in
    let bears = rw c.in-Some.is at c.in_ok-entry.ensures.entry in
    omega (
      arith,
      so_far.few,
      so_far.holds.1,
      bears.1,
      c.next_ahead.ensures.within,
      c.next_ahead.ensures.limited,
    )

pub loop-system-preserved : goal.loop-system-preserved
loop-system-preserved g c =
    let so_far = c.loop-system.invariant.0 in
    let es = entries_of so_far.read in
    let next = c.next_ahead.ensures in (
      reads-more so_far next.reached next.entry c.in_ok-entry.was c.in-Some.is (
        rw (events_more All es c.in-Some.entry) (adds-append so_far.holds.0 c.step.ensures.stands),
        omega (
          arith,
          so_far.holds.1,
          c.step.ensures.steps,
          length-append es (c.in-Some.entry ∷ []),
        ),
      ),
      next.ahead,
    )

pub returns-in_err-entry-clause-stepped : goal.returns-in_err-entry-clause-stepped
returns-in_err-entry-clause-stepped g c =
    let p = err_from_is_err_and c.from_residual.result c.from_residual.ensures.1 in
    let next = c.next_ahead.ensures in
    let run = caught-fault _ _ next.caught_up c.in_err-entry.was
    (reads-fault c.loop-system.invariant.0 next.reached c.in_err-entry.was) in
    (c.loop-system.system, holds-less (λ es held. held.0) run, rw p.1 tt)

pub returns-clause-stepped : goal.returns-clause-stepped
returns-clause-stepped g c =
    let next = c.next_ahead.ensures in
    let run = caught-end _ _ next.caught_up c.in_ok-entry.was c.in_default.is
    (reads-end c.loop-system.invariant.0 next.reached c.in_ok-entry.was c.in_default.is) in
    (c.loop-system.system, holds-less (λ es held. held.0) run, c.stats.ensures.value)
