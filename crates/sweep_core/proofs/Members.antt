-- The table rises, and its members are the valid configurations after a triple.
use Rattle.std.proofs.Common.{◌≡◌, Bool, true, ◌&&◌, List, [], ◌∷◌, refl, sym, ap, ◌∙◌, Option, inl}
use Rattle.std.proofs.Common.{inr, subst}
use Rattle.std.specs.Prelude.{◌↔◌, filter, Contains}
use Rattle.std.specs.List.{AllByRecursion as Each}
use Rattle.std.proofs.lemmas.Bool.{cases_Bool, cond-true, cond-false, and_parts, and_from}
use Rattle.std.proofs.lemmas.Bool.{false≢true}
use Rattle.sweep_core.specs.declared.space.Config.{Config}
use Rattle.sweep_core.specs.Space.{Ranges, is_valid}
use Rattle.sweep_core.specs.Table.{is_less, is_after, table, all_configs, IsRising}
use Rattle.sweep_core.proofs.Lists.{Member, Each-member, Each-weaker, Each-filter, Each-get_or}
use Rattle.sweep_core.proofs.Lists.{contains-of, member-of, passes-all, kept-of}
use Rattle.sweep_core.proofs.Validity.{IsLimited}
use Rattle.sweep_core.proofs.Rising.{all_configs-rise, valid-member}
use Rattle.sweep_core.proofs.Orders.{is_less-asym, is_less-same}

Rising-filter : (p : Config → Bool) (xs : List Config) → IsRising xs → IsRising (filter p xs)
Rising-filter p [] h = tt
Rising-filter p (x ∷ xs) h =
    elim (cases_Bool (p x)) [
      | inl passes ↦ subst IsRising (sym (cond-true _ _ _ passes))
          (Each-filter (λ y. is_less x y ≡ true) p xs h.0, Rising-filter p xs h.1)
      | inr fails ↦ subst IsRising (sym (cond-false _ _ _ fails)) (Rising-filter p xs h.1)
    ]

pub table-rises : (space : Ranges) (after : Option Config) → IsRising (table space after)
unfolding table
table-rises space after = Rising-filter (λ c. is_valid space c && is_after after c)
    (all_configs space.assoc) (all_configs-rise space.assoc)

pub table-has : (space : Ranges) (after : Option Config) (c : Config) → IsLimited space →
    is_valid space c ≡ true → is_after after c ≡ true
    → Contains (table space after) c
unfolding table
table-has space after c l v a =
    contains-of c _ (kept-of (λ d. is_valid space d && is_after after d) c (all_configs space.assoc)
    (and_from _ _ v a) (valid-member space c l v))

pub table-only : (space : Ranges) (after : Option Config) (c : Config) →
    Contains (table space after) c → (is_valid space c ≡ true) × (is_after after c ≡ true)
unfolding table
table-only space after c m =
    let p : Config → Bool = λ d. is_valid space d && is_after after d in
    and_parts _ _ (subst (λ (d : Config). p d ≡ true) m.2
    (Each-get_or (λ d. p d ≡ true) (filter p (all_configs space.assoc)) m.0 c m.1
    (passes-all p (all_configs space.assoc))))

no-loop : (c d : Config) → is_less c d ≡ true → is_less d c ≡ true → ⊥
no-loop c d p q = false≢true (sym (is_less-asym c d p) ∙ q)

-- a list has the first member of another, and that one its first: they are the same
same-head : (c d : Config) (cs ds : List Config) → IsRising (c ∷ cs) → IsRising (d ∷ ds) →
    Member c (d ∷ ds) → Member d (c ∷ cs) → d ≡ c
same-head c d cs ds p q (inl e) n = e
same-head c d cs ds p q (inr m) (inl e) = sym e
same-head c d cs ds p q (inr m) (inr n) =
    absurd (no-loop c d (Each-member _ d cs p.0 n) (Each-member _ c ds q.0 m))

-- a configuration behind the first one of a rising list is also behind it in another list with the
-- same first one
behind : (c d x : Config) (cs ds : List Config) → d ≡ c → IsRising (c ∷ cs) → Member x cs →
    Member x (d ∷ ds) → Member x ds
behind c d x cs ds same p m (inr n) = n
behind c d x cs ds same p m (inl e) =
    absurd (false≢true (sym (is_less-same c) ∙ ap (is_less c) (sym same ∙ e) ∙
    Each-member _ x cs p.0 m))

same-members : (cs ds : List Config) → IsRising cs → IsRising ds →
    ((c : Config) → Member c cs → Member c ds) → ((c : Config) → Member c ds → Member c cs)
    → cs ≡ ds
same-members [] [] p q f g = refl
same-members [] (d ∷ ds) p q f g = absurd (g d (inl refl))
same-members (c ∷ cs) [] p q f g = absurd (f c (inl refl))
same-members (c ∷ cs) (d ∷ ds) p q f g =
    let same : d ≡ c = same-head c d cs ds p q (f c (inl refl)) (g d (inl refl)) in
    ap (λ x. x ∷ cs) (sym same) ∙ ap (λ l. d ∷ l) (same-members cs ds p.1 q.1
    (λ x m. behind c d x cs ds same p m (f x (inr m)))
    (λ x m. behind d c x ds cs (sym same) q m (g x (inr m))))

pub table-unique : (cs ds : List Config) → IsRising cs → IsRising ds →
    ((c : Config) → Contains cs c ↔ Contains ds c) → cs ≡ ds
table-unique cs ds p q same =
    same-members cs ds p q (λ c m. member-of c ds ((same c).0 (contains-of c cs m)))
    (λ c m. member-of c cs ((same c).1 (contains-of c ds m)))

-- each of the table is a configuration of the space, after the triple
pub table-each : (space : Ranges) (after : Option Config) → Each (λ c. (is_valid space c ≡ true) ×
    (is_after after c ≡ true)) (table space after)
unfolding table
table-each space after =
    Each-weaker (λ c. (is_valid space c && is_after after c) ≡ true) _ (λ c h. let w =
    and_parts _ _ h in (w.0, w.1)) _
    (passes-all (λ c. is_valid space c && is_after after c) (all_configs space.assoc))
