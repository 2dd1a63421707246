-- The random numbers of a generator, one after another.
use Rattle.std.proofs.Common.{◌≡◌, ℕ, ◌+◌, suc, refl, sym, ap, ◌∙◌, add-one}
use Rattle.rand_pcg.specs.Lcg.{Lcg, state_after}
use Rattle.rand_pcg.specs.Pcg.{pcg32}
use Rattle.cache_core.specs.replacement.RandomNumbers.{random_number}

pub random_number-first : (g : Lcg) → random_number g 0 ≡ (pcg32 g).0
unfolding state_after
random_number-first g = refl

random_number-suc : (g : Lcg) (n : ℕ) → random_number g (suc n) ≡ random_number (pcg32 g).1 n
unfolding state_after
random_number-suc g n = refl

-- the random numbers after the first are those of the generator after its step
pub random_number-rest : (g h : Lcg) → h ≡ (pcg32 g).1 →
    random_number h ≡ (λ n. random_number g (n + 1))
random_number-rest g h e = rw e
    (λ i n. (sym (ap (random_number g) (add-one n) ∙ random_number-suc g n)) i)
