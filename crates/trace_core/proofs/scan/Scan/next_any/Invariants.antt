-- What the scan has done so far without an entry, and how far it is from its end.
use Rattle.std.proofs.Common.{◌≡◌, ◌≢◌}
use Rattle.trace_core.specs.declared.state.ReaderState.TheVariants as state
use Rattle.trace_core.proofs.Turns.{Skips, turns}
use Rattle.trace_core.proofs.scan.Scan.next_any.Given as goal

abbrev pub invariant-loop-self : goal.invariant-loop-self
invariant-loop-self g l =
    Skips (g.S.Source.view l.initial.source) (g.S.Source.view l.source) l.initial.self l.self
    × (l.initial.self.state ≢ state.Open → (l.source ≡ l.initial.source) ×
    (l.self ≡ l.initial.self))

abbrev pub decreases-loop-self : goal.decreases-loop-self
decreases-loop-self g l = turns l.self
