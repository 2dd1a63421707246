-- One step more, with an entry or without.
use Rattle.std.proofs.Common.{refl, sym, ap, ◌∙◌, Some}
use Rattle.trace_core.proofs.Turns.{Skips-start, Skips-advances, Skips-more}
use Rattle.trace_core.proofs.scan.Scan.next_any.Goals as goal

pub loop-self-init : goal.loop-self-init
loop-self-init g c = (Skips-start _ c.args.self.now, λ ne. (refl, refl))

pub returns-in-Some-clause-advances : goal.returns-in-Some-clause-advances
returns-in-Some-clause-advances g c =
    Skips-advances (g.S.Source.view c.step.new.source) c.step.new.self c.loop-self.invariant.0
    c.in-Open.is (Some c.in-Some.entry)
    c.in-Some.ensures.advances

pub loop-self-preserved : goal.loop-self-preserved
loop-self-preserved g c = (
  Skips-more (g.S.Source.view c.step.new.source) c.step.new.self
      c.loop-self.invariant.0 c.in-Open.is
      c.in_default-step.ensures.advances c.in_default-step.ensures.steps,
  λ ne. absurd (ne (ap (λ s. s.state) (sym (c.loop-self.invariant.1 ne).1) ∙ c.in-Open.is)),
)
