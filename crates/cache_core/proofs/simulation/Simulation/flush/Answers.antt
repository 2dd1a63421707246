-- A flush leads to the list with a flush behind it.
use Rattle.std.proofs.Common.{◌∙◌, sym}
use Rattle.cache_core.specs.declared.design.WriteMode.TheVariants.{Back}
use Rattle.cache_core.specs.LruLaws.{lru_machine}
use Rattle.cache_core.specs.Simulation.{lru_contents}
use Rattle.cache_core.proofs.cache.RunLaw.{flush_run}
use Rattle.cache_core.proofs.simulation.Simulating.{counts-flush}
use Rattle.cache_core.proofs.simulation.Simulation.flush.Goals as goal

pub returns-clause-stands : goal.returns-clause-stands
returns-clause-stands c = λ g events h.
    record {
      some = h.some;
      cache = (flush_run (lru_machine g Back) events (lru_contents c.args.self.now.cache)
          c.flush.result (lru_contents c.flush.new.self) h.cache c.flush.ensures).0;
      counts = h.counts ∙ sym (counts-flush g events);
    }
