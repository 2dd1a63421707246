use Rattle.std.proofs.Common.{ap, ◌∙◌, arith, []}
use Rattle.std.proofs.lemmas.List.{nil_from_length}
use Rattle.deep_list.proofs.DeepLemmas.{deep_of, same_deep}
use Rattle.deep_list.proofs.deep.DeepList.clear.Goals as goal

pub returns : goal.returns
returns g c =
    let list = c.loop-self.self in
    same_deep list.cap
    (nil_from_length list.blocks (omega (arith, c.len.ensures.value, c.loop-self-test.false)))
    (nil_from_length list.values (omega (
      arith,
      c.len.ensures.beside,
      c.len.ensures.value,
      c.loop-self-test.false,
    )))
    ∙ ap (λ n. deep_of n [] []) c.loop-self.invariant
