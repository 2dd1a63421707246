-- A reference at a cache, as its machine sees it: what happens to the set that it comes to, and to
-- the others.
use Rattle.std.proofs.Common.{◌≡◌, ◌≢◌, ℕ, ◌∙◌, ap, sym, subst, ⊎_elim}
use Rattle.std.proofs.lemmas.Bool.Decides.{eqb_tells}
use Rattle.trace_core.specs.declared.events.Ref.{Ref}
use Rattle.cache_core.specs.declared.outcome.Outcome.{Outcome}
use Rattle.cache_core.specs.declared.design.Design.{Design}
use Rattle.cache_core.specs.Geometry.{set_of}
use Rattle.cache_core.specs.cache.Machine.{Machine}
use Rattle.cache_core.specs.cache.Order.{Contents, Accesses, Visits, slots_of}

-- a fact that holds for one set, and for each other set, holds for each set
pub at_each : (P : ℕ → Type 0) (k : ℕ) → P k → ((j : ℕ) → j ≢ k → P j) → (j : ℕ) → P j
at_each P k here others j = ⊎_elim (λ t. subst P (sym t.1) here) (λ f. others j f.1) (eqb_tells j k)

-- the set of a reference
abbrev pub set_for : Machine → Ref → ℕ
set_for m ref = set_of m.design.geometry ref.addr

module _ (m : Machine) (old : Contents) (ref : Ref) (outcome : Outcome) (new : Contents)
    (same : old.design ≡ m.design)
    (access : Accesses old ref outcome new) where
  pub visit_for : Visits m.design old.policy old.random_numbers ref
      (slots_of old.sets (set_for m ref)) outcome
      (slots_of new.sets (set_for m ref)) new.random_numbers
  visit_for = subst (λ (d : Design). Visits d old.policy old.random_numbers ref
      (slots_of old.sets (set_of d.geometry ref.addr)) outcome
      (slots_of new.sets (set_of d.geometry ref.addr)) new.random_numbers) same access.visit

  pub others_for : (k : ℕ) → k ≢ set_for m ref → slots_of new.sets k ≡ slots_of old.sets k
  others_for k ne = access.others k
      (λ q. ne (q ∙ ap (λ (d : Design). set_of d.geometry ref.addr) same))
