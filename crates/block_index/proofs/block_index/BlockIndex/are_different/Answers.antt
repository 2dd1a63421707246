use Rattle.std.proofs.Common.{subst}
use Rattle.block_index.specs.BlockIndex.{IndexValue, AreDifferent}
use Rattle.block_index.proofs.IndexLemmas.{are_different}
use Rattle.block_index.proofs.block_index.BlockIndex.are_different.Goals as goal

pub returns : goal.returns
returns c =
    let P : IndexValue → Type 0 = AreDifferent in
    subst P c.self.view_is (are_different c.self.invariant)
