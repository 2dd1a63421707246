-- What the simulation stands for as the references are taken one by one.
use Rattle.std.proofs.Common.{map, take}
use Rattle.trace_core.specs.declared.events.Event.TheVariants as event
use Rattle.cache_core.specs.Simulation.{SimulationCountsWithin, SimulationStandsFor}
use Rattle.cache_core.proofs.simulation.simulate.simulate.Given as goal

abbrev pub invariant-loop-reference : goal.invariant-loop-reference
invariant-loop-reference l = record {
  simulates : SimulationStandsFor l.geometry (map event.Reference (take l.reference-index l.refs))
      l.simulation;
  few : SimulationCountsWithin l.reference-index l.simulation.counts;
}
