-- A new simulation has the counts of no event.
use Rattle.std.proofs.Common.{refl}
use Rattle.cache_core.specs.declared.design.WriteMode.TheVariants.{Back}
use Rattle.cache_core.specs.LruLaws.{lru_machine}
use Rattle.cache_core.specs.Windows.{counts, occurrences_after}
use Rattle.cache_core.specs.Simulation.{lru_contents}
use Rattle.cache_core.proofs.cache.RunLaw.{start_law}
use Rattle.cache_core.proofs.simulation.Simulation.new.Goals as goal

pub returns : goal.returns
unfolding counts occurrences_after
returns c =
    let new = c.in_ok-cache.ensures in
    record {
      some = new.limits.some;
      cache = start_law (lru_machine c.args.geometry Back) (lru_contents c.in_ok-cache.cache)
          new.design refl refl new.empty;
      counts = refl;
    }
