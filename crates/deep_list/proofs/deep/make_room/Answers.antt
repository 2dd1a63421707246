use Rattle.std.proofs.Common.{ℕ, sym, subst, arith}
use Rattle.deep_list.specs.Deep.{IsRanked}
use Rattle.deep_list.proofs.DeepLemmas.{gathered_ranked}
use Rattle.deep_list.proofs.deep.make_room.Goals as goal

pub returns-clause-ranked : goal.returns-clause-ranked
returns-clause-ranked g c =
    let top : ℕ = c.gather-top.result in
    let slots = c.gather-top.new.slots in
    let chains = c.file_all.new.chains in
    let P : ℕ → Type 0 = λ end. IsRanked top end slots chains in
    subst P (sym c.len.ensures)
    (gathered_ranked chains c.gather-top.ensures.slots
    (omega (arith, c.gather-top.ensures.slots.long, c.requires.ranked.small))
    c.file_all.ensures.chains c.file_all.ensures.filed c.requires.once)
