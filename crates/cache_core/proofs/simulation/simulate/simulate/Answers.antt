-- Each access takes the simulation one reference further, and in the end its counts are the
-- windows' and so the machine's.
use Rattle.std.proofs.Common.{map, take, List, [], sym, ap, subst, ◌∙◌}
use Rattle.std.proofs.lemmas.List.{take_all}
use Rattle.trace_core.specs.declared.events.Event.{Event}
use Rattle.trace_core.specs.declared.events.Event.TheVariants as event
use Rattle.trace_core.specs.declared.events.Ref.{Ref}
use Rattle.trace_core.specs.declared.events.Access.TheVariants.{Fetch}
use Rattle.cache_core.specs.declared.design.WriteMode.TheVariants.{Back}
use Rattle.cache_core.specs.Simulation.{SimulationStandsFor}
use Rattle.cache_core.specs.Windows.{counts}
use Rattle.cache_core.proofs.simulation.LruRun.{count_law}
use Rattle.cache_core.proofs.simulation.Simulating.{simulated_within, within_with}
use Rattle.cache_core.proofs.Pushes.{taken_more}
use Rattle.cache_core.proofs.simulation.simulate.simulate.Goals as goal

pub loop-reference-init : goal.loop-reference-init
loop-reference-init c =
    let new = c.in_ok-simulation.ensures in
    record {
      simulates = new;
      few =
          simulated_within c.args.geometry.now [] c.in_ok-simulation.simulation new;
    }

pub loop-reference-preserved : goal.loop-reference-preserved
loop-reference-preserved c =
    let none : Ref = record { access = Fetch; addr = 0 } in
    let g = c.args.geometry.now in
    let i = c.loop-reference.reference-index in
    let step = c.access.ensures.stands g (map (λ x. event.Reference x) (take i c.args.refs.now))
    c.loop-reference.invariant.simulates in
    let taken = taken_more c.args.refs.now i none c.loop-reference-test.true in
    record {
      simulates = subst (λ (events : List Event). SimulationStandsFor g events c.access.new.self)
          (sym taken) step.0;
      few = rw c.access.ensures.counted (within_with i c.loop-reference.simulation.counts
          c.access.result c.loop-reference.invariant.few);
    }

pub returns-clause-windows : goal.returns-clause-windows
returns-clause-windows c =
    let g = c.args.geometry.now in
    let i = c.loop-reference.reference-index in
    c.counts.ensures.trace g (map (λ x. event.Reference x) (take i c.args.refs.now))
    c.loop-reference.invariant.simulates
    ∙ ap (λ xs. counts g (map (λ x. event.Reference x) xs))
    (take_all i c.args.refs.now c.loop-reference-test.false)

pub returns-clause-machine : goal.returns-clause-machine
returns-clause-machine c =
    cc (
      returns-clause-windows c,
      count_law c.args.geometry.now Back
          (map (λ x. event.Reference x) c.args.refs.now) c.loop-reference.invariant.simulates.some,
    )
