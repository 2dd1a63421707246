-- What was written so far, and what is left.
use Rattle.std.proofs.Common.{◌≡◌, ℕ, ◌≤◌, length, take, drop}
use Rattle.trace_core.specs.Device.{Wrote}
use Rattle.trace_core.proofs.io.write_all.Given as goal

-- the rest is what the sink has not yet taken
abbrev pub invariant-loop-rest : goal.invariant-loop-rest
invariant-loop-rest g l =
    (n : ℕ) × (n ≤ length l.bytes) × (l.rest ≡ drop n l.bytes) ×
    Wrote (g.S.Sink.view l.initial.sink) (g.S.Sink.view l.sink) (take n l.bytes)

abbrev pub decreases-loop-rest : goal.decreases-loop-rest
decreases-loop-rest g l = length l.rest
