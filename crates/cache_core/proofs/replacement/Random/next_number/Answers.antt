-- A word of the generator is the next random number.
use Rattle.rand_pcg.specs.Lcg.{Lcg}
use Rattle.rand_pcg.specs.Pcg.{pcg32}
use Rattle.std.proofs.Common.{ℕ, ap, ◌∙◌, sym}
use Rattle.cache_core.proofs.replacement.RandomNumberLemmas.{random_number-first}
use Rattle.cache_core.proofs.replacement.RandomNumberLemmas.{random_number-rest}
use Rattle.cache_core.proofs.replacement.Random.next_number.Goals as goal

pub returns-clause-number : goal.returns-clause-number
returns-clause-number c =
    ap (λ (p : ℕ × Lcg). p.0) c.next_word.ensures ∙ ap (λ g. (pcg32 g).0) c.self.view_is ∙
    sym (random_number-first c.args.self.now)

pub returns-clause-rest : goal.returns-clause-rest
returns-clause-rest c =
    random_number-rest c.args.self.now c.next_word.new.self
    (ap (λ (p : ℕ × Lcg). p.1) c.next_word.ensures ∙ ap (λ g. (pcg32 g).1) c.self.view_is)
