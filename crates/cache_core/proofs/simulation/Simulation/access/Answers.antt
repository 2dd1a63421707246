-- Each lookup leads to the list with its reference behind it.
use Rattle.cache_core.specs.declared.simulation.Lookup.TheVariants.{Hit, Miss, MissEviction}
use Rattle.cache_core.proofs.simulation.Simulating.{simulates_lookup}
use Rattle.cache_core.proofs.simulation.Simulation.access.Goals as goal

pub returns-in-Hit-clause-stands : goal.returns-in-Hit-clause-stands
returns-in-Hit-clause-stands c = λ g events.
    simulates_lookup g events c.args.self.now c.look_up-lookup.new.self c.args.reference
    c.look_up-lookup.result Hit c.look_up-lookup.ensures c.in-Hit.is

pub returns-in-Miss-clause-stands : goal.returns-in-Miss-clause-stands
returns-in-Miss-clause-stands c = λ g events.
    simulates_lookup g events c.args.self.now c.look_up-lookup.new.self c.args.reference
    c.look_up-lookup.result Miss c.look_up-lookup.ensures c.in-Miss.is

pub returns-in-MissEviction-clause-stands : goal.returns-in-MissEviction-clause-stands
returns-in-MissEviction-clause-stands c = λ g events.
    simulates_lookup g events c.args.self.now c.look_up-lookup.new.self c.args.reference
    c.look_up-lookup.result MissEviction c.look_up-lookup.ensures c.in-MissEviction.is
