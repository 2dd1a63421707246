-- The mask takes the block modulo the number of sets.
use Rattle.std.proofs.Common.{refl}
use Rattle.std.proofs.lemmas.Nat.{and_mask}
use Rattle.cache_core.proofs.geometry.Geometry.set_of_block.Goals as goal

pub returns-clause-value : goal.returns-clause-value
returns-clause-value c = rw (
  c.self.invariant.1,
  and_mask c.args.block c.self.inside.s,
  ← c.self.view_is,
) refl
