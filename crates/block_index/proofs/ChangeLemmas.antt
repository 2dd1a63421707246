-- Which slots are in which list, after a change to one.
use Rattle.std.proofs.Common.{◌≡◌, ℕ, zero, suc, ◌<◌, ◌⊎◌, inl, inr, true, false}
use Rattle.std.proofs.Common.{◌||◌, List, [], ◌∷◌, length, get_or, set, refl, sym, ◌∙◌, ap, subst}
use Rattle.std.proofs.Common.{arith, get_or-set_same, get_or-set_other}
use Rattle.std.specs.List.{remove}
use Rattle.std.proofs.lemmas.Bool.{cases_eq, ne_eqb, false_from_ne_true}
use Rattle.block_index.specs.SlotLists.{SlotListsValue, has_slot, is_listed, index_of_slot, list_at}
use Rattle.block_index.specs.SlotLists.{with_first, without_slot, AreOnce, AreApart}
use Rattle.block_index.proofs.ListLemmas.{has-head, has-cases, has-remove, not-and-has, not-listed}
use Rattle.block_index.proofs.ListLemmas.{once-remove, listed, listed-in, gone, same-has}

-- with slot s in front of list k
module _ (v : SlotListsValue) (k s : ℕ) (kl : k < length v.lists) where
  pub pushed_at : list_at (with_first v k s) k ≡ s ∷ list_at v k
  pushed_at = get_or-set_same v.lists k (s ∷ list_at v k) [] kl

  pub pushed_other : (j : ℕ) → (j ≡ k → ⊥) → list_at (with_first v k s) j ≡ list_at v j
  pushed_other j ne = get_or-set_other v.lists k j (s ∷ list_at v k) [] ne

  pub pushed_has : (j t : ℕ) → has_slot t (list_at (with_first v k s) j) ≡ true →
      ((s ≡ t) × (j ≡ k)) ⊎ (has_slot t (list_at v j) ≡ true)
  pushed_has j t inside =
      let P : List ℕ → Type 0 = λ xs. has_slot t xs ≡ true in
      let Q : ℕ → Type 0 = λ i. has_slot t (list_at v i) ≡ true in
      let R : ℕ → Type 0 = λ i. has_slot t (list_at (with_first v k s) i) ≡ true in
      elim (cases_eq j k) [
        | inl e ↦ elim (has-cases t s (list_at v k) (subst P pushed_at (subst R e inside))) [
          | inl f ↦ inl (f, e)
          | inr f ↦ inr (subst Q (sym e) f)
        ]
        | inr ne ↦ inr (subst P (pushed_other j ne) inside)
      ]

  pub pushed_listed : is_listed (with_first v k s).lists s ≡ true
  pushed_listed =
      let P : List ℕ → Type 0 = λ xs. has_slot s xs ≡ true in
      listed s (with_first v k s).lists k (subst P (sym pushed_at) (has-head s (list_at v k)))

  module _ (free : is_listed v.lists s ≡ false) where
    pub not_in : (j t : ℕ) → s ≡ t → has_slot t (list_at v j) ≡ true → ⊥
    not_in j t e inside =
        let P : ℕ → Type 0 = λ u. has_slot u (list_at v j) ≡ true in
        not-and-has s (list_at v j) (not-listed s v.lists j free) (subst P (sym e) inside)

    pub pushed_apart : s < v.slots → AreApart v → AreApart (with_first v k s)
    pushed_apart sl apart = record {
      below = λ j t inside. elim (pushed_has j t inside) [
        | inl e ↦ omega (arith, e.0, sl)
        | inr e ↦ apart.below j t e
      ];
      one_list = λ i j t in_i in_j. elim (pushed_has i t in_i) [
        | inl e ↦ elim (pushed_has j t in_j) [
          | inl f ↦ e.1 ∙ sym f.1
          | inr f ↦ absurd (not_in j t e.0 f)
        ]
        | inr e ↦ elim (pushed_has j t in_j) [
          | inl f ↦ absurd (not_in i t f.0 e)
          | inr f ↦ apart.one_list i j t e f
        ]
      ];
      once = λ j.
          let P : List ℕ → Type 0 = AreOnce in
          let Q : ℕ → Type 0 = λ i. AreOnce (list_at (with_first v k s) i) in
          elim (cases_eq j k) [
            | inl e ↦ subst Q (sym e) (subst P (sym pushed_at)
                (not-listed s v.lists k free, apart.once k))
            | inr ne ↦ subst P (sym (pushed_other j ne)) (apart.once j)
          ];
    }

-- with slot s taken out of list k
module _ (v : SlotListsValue) (k s : ℕ) (kl : k < length v.lists) where
  abbrev left : List ℕ
  left = remove (list_at v k) (index_of_slot s (list_at v k))

  pub removed_at : list_at (without_slot v k s) k ≡ left
  removed_at = get_or-set_same v.lists k left [] kl

  pub removed_other : (j : ℕ) → (j ≡ k → ⊥) → list_at (without_slot v k s) j ≡ list_at v j
  removed_other j ne = get_or-set_other v.lists k j left [] ne

  pub removed_has : (j t : ℕ) → has_slot t (list_at (without_slot v k s) j) ≡ true →
      has_slot t (list_at v j) ≡ true
  removed_has j t on =
      let P : List ℕ → Type 0 = λ xs. has_slot t xs ≡ true in
      let Q : ℕ → Type 0 = λ i. has_slot t (list_at v i) ≡ true in
      let R : ℕ → Type 0 = λ i. has_slot t (list_at (without_slot v k s) i) ≡ true in
      elim (cases_eq j k) [
        | inl e ↦ subst Q (sym e) (has-remove t (index_of_slot s (list_at v k)) (list_at v k)
            (subst P removed_at (subst R e on)))
        | inr ne ↦ subst P (removed_other j ne) on
      ]

  module _ (apart : AreApart v) where
    pub removed_apart : AreApart (without_slot v k s)
    removed_apart = record {
      below = λ j t on. apart.below j t (removed_has j t on);
      one_list = λ i j t on_i on_j. apart.one_list i j t (removed_has i t on_i)
          (removed_has j t on_j);
      once = λ j.
          let P : List ℕ → Type 0 = AreOnce in
          let Q : ℕ → Type 0 = λ i. AreOnce (list_at (without_slot v k s) i) in
          elim (cases_eq j k) [
            | inl e ↦ subst Q (sym e) (subst P (sym removed_at)
                (once-remove (index_of_slot s (list_at v k)) (list_at v k) (apart.once k)))
            | inr ne ↦ subst P (sym (removed_other j ne)) (apart.once j)
          ];
    }

    pub removed_listed : has_slot s (list_at v k) ≡ true →
        is_listed (without_slot v k s).lists s ≡ false
    removed_listed inside =
        false_from_ne_true (is_listed (without_slot v k s).lists s) (λ on.
        let at = listed-in s (without_slot v k s).lists on in
        let P : List ℕ → Type 0 = λ xs. has_slot s xs ≡ true in
        let R : ℕ → Type 0 = λ i. has_slot s (list_at (without_slot v k s) i) ≡ true in
        let e : at.0 ≡ k = apart.one_list at.0 k s (removed_has at.0 s at.2) inside in
        not-and-has s left (gone s (list_at v k) (apart.once k))
        (subst P removed_at (subst R e at.2)))

-- the other slots are listed as before
pub pushed_same : (lists : List (List ℕ)) (k s t : ℕ) → (t ≡ s → ⊥) →
    is_listed (set lists k (s ∷ get_or lists k [])) t ≡ is_listed lists t
pushed_same [] k s t ne = refl
pushed_same (xs ∷ lists) zero s t ne =
    ap (λ b. (b || has_slot t xs) || is_listed lists t) (ne_eqb s t (λ e. ne (sym e)))
pushed_same (xs ∷ lists) (suc k) s t ne =
    ap (λ b. has_slot t xs || b) (pushed_same lists k s t ne)

pub removed_same : (lists : List (List ℕ)) (k s t : ℕ) → (t ≡ s → ⊥) →
    is_listed (set lists k (remove (get_or lists k []) (index_of_slot s (get_or lists k [])))) t
    ≡ is_listed lists t
removed_same [] k s t ne = refl
removed_same (xs ∷ lists) zero s t ne = ap (λ b. b || is_listed lists t) (same-has s t xs ne)
removed_same (xs ∷ lists) (suc k) s t ne =
    ap (λ b. has_slot t xs || b) (removed_same lists k s t ne)
