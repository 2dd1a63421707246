use Rattle.std.proofs.Common.{length, ap, sym, refl, ◌∙◌}
use Rattle.deep_list.proofs.DeepLemmas.{held_length, length-values}
use Rattle.deep_list.proofs.deep.DeepList.len.Goals as goal

pub returns-clause-value : goal.returns-clause-value
returns-clause-value g c = held_length c.self.invariant ∙ ap (λ d. length d.blocks) c.self.view_is

pub returns-clause-beside : goal.returns-clause-beside
returns-clause-beside g c =
    sym (ap (λ d. length d.values) c.self.view_is)
    ∙ length-values c.self.invariant c.self.inside.values.items refl
    ∙ ap (λ d. length d.blocks) c.self.view_is
