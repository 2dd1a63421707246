-- The pairs of some configurations.
use Rattle.std.proofs.Common.{◌≡◌, ℕ, true, not, List, [], ◌∷◌, ap, ◌∙◌}
use Rattle.std.specs.List.{AllByRecursion as Each}
use Rattle.std.proofs.lemmas.Bool.{and_parts, and_from, eqb-true, eq-eqb}
use Rattle.sweep_core.specs.declared.space.Config.{Config}
use Rattle.sweep_core.specs.Work.{pair_of, has_pair, pairs}
use Rattle.sweep_core.proofs.Lists.{Each-filter}

-- what is true of each configuration's pair is true of each pair
pub Each-pairs : (P : ℕ × ℕ → Type 0) (cs : List Config) → Each (λ c. P (pair_of c)) cs →
    Each P (pairs cs)
unfolding pairs
Each-pairs P [] h = tt
Each-pairs P (c ∷ cs) h = (
  h.0,
  Each-filter P (λ p. not (has_pair p c)) (pairs cs)
      (Each-pairs P cs h.1),
)

-- the test of a pair is that it is the configuration's
pub has_pair-is : (p : ℕ × ℕ) (c : Config) → has_pair p c ≡ true → pair_of c ≡ p
has_pair-is p c h =
    let w = and_parts _ _ h in ap (λ b. (b, c.sets)) (eqb-true _ _ w.0) ∙
    ap (λ s. (p.0, s)) (eqb-true _ _ w.1)

pub has_pair-from : (p : ℕ × ℕ) (c : Config) → pair_of c ≡ p → has_pair p c ≡ true
has_pair-from p c e = and_from _ _ (eq-eqb _ _ (ap (λ q. q.0) e)) (eq-eqb _ _ (ap (λ q. q.1) e))
