use Rattle.std.proofs.Common.{◌≡◌, ◌∙◌, ℕ, Some, get_or, sym, ap, subst, arith}
use Rattle.std.specs.Prelude.{slice_get}
use Rattle.std.proofs.lemmas.List.{get_or_read}
use Rattle.block_index.specs.BlockIndex.{HasBlock}
use Rattle.block_index.proofs.IndexLemmas.{within-has, listed-has}
use Rattle.block_index.proofs.block_index.BlockIndex.block.Goals as goal

pub index-requires : goal.index-requires
index-requires c =
    let s = c.self.inside in
    omega (
      arith,
      within-has s.chains.lists s.blocks.items c.args.slot (Some c.requires.0)
          (ap (λ w. slice_get w.blocks c.args.slot) c.self.view_is ∙ c.requires.1),
      s.blocks.ok.0,
    )

pub returns : goal.returns
returns c =
    let s = c.self.inside in
    let has = ap (λ w. slice_get w.blocks c.args.slot) c.self.view_is ∙ c.requires.1 in
    let at = listed-has s.chains.lists s.blocks.items c.args.slot c.requires.0 has in
    let read : c.index.result.now ≡ get_or s.blocks.items c.args.slot 0 =
    get_or_read s.blocks.items c.args.slot c.index.result.now
    (within-has s.chains.lists s.blocks.items c.args.slot (Some c.requires.0) has)
    c.index.ensures 0 in
    let P : ℕ → Type 0 = λ b. HasBlock c.args.self.now c.args.slot b in
    subst P (sym at.1 ∙ sym read) c.requires.1
