-- The elements of a list of which one is set, or that are all the same.
use Rattle.std.proofs.Common.{ℕ, zero, suc, ◌≡◌, ◌<◌, inl, inr, List, length, get_or, set, refl}
use Rattle.std.proofs.Common.{sym, subst}
use Rattle.std.specs.Prelude.{replicate}
use Rattle.std.proofs.lemmas.Bool.{cases_eq}
use Rattle.std.proofs.lemmas.Grind.{get_or-set_at}
use Rattle.std.proofs.lemmas.List.{get_or-set_other}

-- a fact that holds for the element that is set, and for the others, holds for all
pub all_set : {A : Type 0} (P : ℕ → A → Type 0) (xs : List A) (k : ℕ) (y d : A) → k < length xs →
    P k y → ((i : ℕ) → (i ≡ k → ⊥) → P i (get_or xs i d)) → (i : ℕ) → P i (get_or (set xs k y) i d)
all_set P xs k y d lt here others i = elim (cases_eq i k) [
  | inl same ↦ subst (P i) (sym (get_or-set_at xs k i y d same lt))
      (subst (λ j. P j y) (sym same) here)
  | inr other ↦ subst (P i) (sym (get_or-set_other xs k i y d other)) (others i other)
]

pub all_same : {A : Type 0} (n k : ℕ) (d : A) → get_or (replicate n d) k d ≡ d
all_same zero k d = refl
all_same (suc n) zero d = refl
all_same (suc n) (suc k) d = all_same n k d
