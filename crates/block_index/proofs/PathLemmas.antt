-- Paths from node to node, after a change to the links.
use Rattle.std.proofs.Common.{◌≡◌, ℕ, zero, suc, ◌-◌, ◌<◌, ◌≤◌, inl, inr, true, false, ltb}
use Rattle.std.proofs.Common.{List, [], ◌∷◌, length, get_or, set, refl, sym, ◌∙◌, ap, subst}
use Rattle.std.proofs.Common.{arith, length-set, get_or-set_same, get_or-set_other}
use Rattle.std.specs.Prelude.{slice_get, Some, None}
use Rattle.std.specs.List.{remove}
use Rattle.std.proofs.lemmas.Bool.{cases_eq, lt-ltb, le-ltb, cond-true, cond-false, false≢true}
use Rattle.block_index.specs.Chains.{IsAfter, IsOnChain}
use Rattle.block_index.specs.SlotLists.{has_slot, index_of_slot, AreOnce, IsLink, IsPath}
use Rattle.block_index.specs.SlotLists.{linked_slots, slot_at_node}
use Rattle.block_index.proofs.ListLemmas.{has-head, has-here, has-behind, has-cases, has-other}
use Rattle.block_index.proofs.ListLemmas.{not-head, not-tail, not-both, not-and-has, index-here}
use Rattle.block_index.proofs.ListLemmas.{index-behind}

-- links that a change leaves alone
pub link_kept : (before after : List ℕ) (q v p w a b : ℕ) → (a ≡ p → ⊥) → (b ≡ q → ⊥) →
    IsLink before after a b → IsLink (set before q v) (set after p w) a b
link_kept before after q v p w a b na nb l = record {
  after_is = get_or-set_other after p a w 0 na ∙ l.after_is;
  before_is = get_or-set_other before q b v 0 nb ∙ l.before_is;
}

pub path_kept : (before after : List ℕ) (q v p w a : ℕ) (xs : List ℕ) (b : ℕ) →
    has_slot p (a ∷ xs) ≡ false → has_slot q (b ∷ xs) ≡ false → IsPath before after a xs b →
    IsPath (set before q v) (set after p w) a xs b
path_kept before after q v p w a [] b np nq l =
    link_kept before after q v p w a b (not-head p a [] np) (not-head q b [] nq) l
path_kept before after q v p w a (x ∷ xs) b np nq (l, path) =
    let nx = not-tail q b (x ∷ xs) nq in (
      link_kept before after q v p w a x (not-head p a (x ∷ xs) np) (not-head q x xs nx) l,
      path_kept before after q v p w x xs b (not-tail p a (x ∷ xs) np)
          (not-both q b xs (not-head q b (x ∷ xs) nq) (not-tail q x xs nx)) path,
    )

module _ (before after : List ℕ) where
  pub back_and_forth : (a : ℕ) (xs : List ℕ) (b : ℕ) → IsPath before after a xs b →
      get_or before (get_or after a 0) 0 ≡ a
  back_and_forth a [] b l = ap (λ n. get_or before n 0) l.after_is ∙ l.before_is
  back_and_forth a (x ∷ xs) b (l, path) = ap (λ n. get_or before n 0) l.after_is ∙ l.before_is

  -- the node before a slot of the path leads to it
  pub forth : (a : ℕ) (xs : List ℕ) (b s : ℕ) → IsPath before after a xs b →
      has_slot s xs ≡ true → get_or after (get_or before s 0) 0 ≡ s
  forth a [] b s l h = absurd (cc)
  forth a (x ∷ xs) b s (l, path) h =
      elim (has-cases s x xs h) [
        | inl e ↦ ap (λ n. get_or after (get_or before n 0) 0) (sym e)
            ∙ ap (λ n. get_or after n 0) l.before_is ∙ l.after_is ∙ e
        | inr e ↦ forth x xs b s path e
      ]

  -- and the one after it leads back
  pub back : (a : ℕ) (xs : List ℕ) (b s : ℕ) → IsPath before after a xs b →
      has_slot s xs ≡ true → get_or before (get_or after s 0) 0 ≡ s
  back a [] b s l h = absurd (cc)
  back a (x ∷ xs) b s (l, path) h =
      elim (has-cases s x xs h) [
        | inl e ↦ ap (λ n. get_or before (get_or after n 0) 0) (sym e)
            ∙ back_and_forth x xs b path ∙ e
        | inr e ↦ back x xs b s path e
      ]

  -- what follows a node of the path is on it, and what goes before
  pub after_on : (a : ℕ) (xs : List ℕ) (b n : ℕ) → IsPath before after a xs b →
      has_slot n (a ∷ xs) ≡ true → has_slot (get_or after n 0) (b ∷ xs) ≡ true
  after_on a [] b n l h =
      let e : a ≡ n = elim (has-cases n a [] h) [ inl e ↦ e | inr e ↦ absurd (cc) ] in
      has-here (get_or after n 0) b [] (sym l.after_is ∙ ap (λ m. get_or after m 0) e)
  after_on a (x ∷ xs) b n (l, path) h =
      let m : ℕ = get_or after n 0 in
      elim (has-cases n a (x ∷ xs) h) [
        | inl e ↦ has-behind m b (x ∷ xs)
            (has-here m x xs (sym l.after_is ∙ ap (λ i. get_or after i 0) e))
        | inr e ↦ elim (has-cases m b xs (after_on x xs b n path e)) [
          | inl f ↦ has-here m b (x ∷ xs) f
          | inr f ↦ has-behind m b (x ∷ xs) (has-behind m x xs f)
        ]
      ]

  pub before_on : (a : ℕ) (xs : List ℕ) (b n : ℕ) → IsPath before after a xs b →
      has_slot n (b ∷ xs) ≡ true → has_slot (get_or before n 0) (a ∷ xs) ≡ true
  before_on a [] b n l h =
      let e : b ≡ n = elim (has-cases n b [] h) [ inl e ↦ e | inr e ↦ absurd (cc) ] in
      has-here (get_or before n 0) a [] (sym l.before_is ∙ ap (λ m. get_or before m 0) e)
  before_on a (x ∷ xs) b n (l, path) h =
      let m : ℕ = get_or before n 0 in
      let rest : has_slot n (b ∷ xs) ≡ true → has_slot m (a ∷ x ∷ xs) ≡ true =
      λ e. has-behind m a (x ∷ xs) (before_on x xs b n path e) in
      elim (has-cases n b (x ∷ xs) h) [
        | inl e ↦ rest (has-here n b xs e)
        | inr e ↦ elim (has-cases n x xs e) [
          | inl f ↦ has-here m a (x ∷ xs) (sym l.before_is ∙ ap (λ i. get_or before i 0) f)
          | inr f ↦ rest (has-behind n b xs f)
        ]
      ]

  -- the list of a path is read off the links
  pub linked_slots-path : (slots n a : ℕ) (xs : List ℕ) (b : ℕ) → IsPath before after a xs b →
      ((s : ℕ) → has_slot s xs ≡ true → s < slots) → slots ≤ b → length xs ≤ n
      → linked_slots after slots n (get_or after a 0) ≡ xs
  unfolding linked_slots
  linked_slots-path slots zero a [] b l below le long = refl
  linked_slots-path slots (suc n) a [] b l below le long =
      let m : ℕ = get_or after a 0 in
      cond-false (ltb m slots) (m ∷ linked_slots after slots n (get_or after m 0)) []
      (le-ltb m slots (omega (arith, l.after_is, le)))
  linked_slots-path slots zero a (x ∷ xs) b path below le long = absurd (omega (arith, long))
  linked_slots-path slots (suc n) a (x ∷ xs) b (l, path) below le long =
      let m : ℕ = get_or after a 0 in
      cond-true (ltb m slots) (m ∷ linked_slots after slots n (get_or after m 0)) []
      (lt-ltb m slots (omega (arith, l.after_is, below x (has-head x xs))))
      ∙ ap (λ i. i ∷ linked_slots after slots n (get_or after i 0)) l.after_is
      ∙ ap (λ t. x ∷ t) (linked_slots-path slots n x xs b path
      (λ s h. below s (has-behind s x xs h)) le (omega (arith, long)))

  module _ (slots : ℕ) where
    -- what is on the chain behind a path's first node is on the path, and the other way round
    pub path_on_chain : (a : ℕ) (xs : List ℕ) (b s : ℕ) → IsPath before after a xs b →
        ((t : ℕ) → has_slot t xs ≡ true → t < slots) → has_slot s xs ≡ true
        → IsOnChain after slots (get_or after a 0) s
    path_on_chain a [] b s l below inside = absurd (false≢true inside)
    path_on_chain a (x ∷ xs) b s (l, path) below inside =
        elim (has-cases s x xs inside) [
          | inl e ↦ (0, l.after_is ∙ e)
          | inr e ↦
              let rest = path_on_chain x xs b s path (λ t h. below t (has-behind t x xs h)) e in
              let P : ℕ → Type 0 = λ i. IsAfter after slots rest.0 (get_or after i 0) s in (
                suc rest.0,
                (
                  omega (arith, l.after_is, below x (has-head x xs)),
                  subst P (sym l.after_is) rest.1,
                ),
              )
        ]

    pub on_chain_path : (n a : ℕ) (xs : List ℕ) (b s : ℕ) → IsPath before after a xs b →
        slots ≤ b → s < slots → IsAfter after slots n (get_or after a 0) s → has_slot s xs ≡ true
    on_chain_path zero a [] b s l le lt same = absurd (omega (arith, l.after_is, le, lt, same))
    on_chain_path (suc n) a [] b s l le lt (within, at) =
        absurd (omega (arith, l.after_is, le, within))
    on_chain_path zero a (x ∷ xs) b s (l, path) le lt same =
        has-here s x xs (sym l.after_is ∙ same)
    on_chain_path (suc n) a (x ∷ xs) b s (l, path) le lt (within, at) =
        let P : ℕ → Type 0 = λ i. IsAfter after slots n (get_or after i 0) s in
        has-behind s x xs (on_chain_path n x xs b s path le lt (subst P l.after_is at))

    pub path_first : (a : ℕ) (xs : List ℕ) (b : ℕ) → IsPath before after a xs b →
        ((s : ℕ) → has_slot s xs ≡ true → s < slots) → slots ≤ b
        → slot_at_node slots (get_or after a 0) ≡ slice_get xs 0
    path_first a [] b l below le =
        let m : ℕ = get_or after a 0 in
        cond-false (ltb m slots) (Some m) None (le-ltb m slots (omega (arith, l.after_is, le)))
    path_first a (x ∷ xs) b (l, path) below le =
        let m : ℕ = get_or after a 0 in
        cond-true (ltb m slots) (Some m) None
        (lt-ltb m slots (omega (arith, l.after_is, below x (has-head x xs))))
        ∙ ap (λ i. Some i) l.after_is

    last_is : (a x : ℕ) (xs : List ℕ) (b : ℕ) → IsPath before after a (x ∷ xs) b →
        slice_get (x ∷ xs) (length xs) ≡ Some (get_or before b 0)
    last_is a x [] b (l, path) = ap (λ i. Some i) (sym path.before_is)
    last_is a x (y ∷ xs) b (l, path) = last_is x y xs b path

    pub path_last : (a : ℕ) (xs : List ℕ) (b : ℕ) → IsPath before after a xs b →
        ((s : ℕ) → has_slot s xs ≡ true → s < slots) → slots ≤ a
        → slot_at_node slots (get_or before b 0) ≡ slice_get xs (length xs - 1)
    path_last a [] b l below le =
        let m : ℕ = get_or before b 0 in
        cond-false (ltb m slots) (Some m) None (le-ltb m slots (omega (arith, l.before_is, le)))
    path_last a (x ∷ xs) b (l, path) below le =
        let m : ℕ = get_or before b 0 in
        let on = before_on x xs b b path (has-head b xs) in
        let e : length (x ∷ xs) - 1 ≡ length xs = omega arith in
        cond-true (ltb m slots) (Some m) None (lt-ltb m slots (below m on))
        ∙ sym (ap (slice_get (x ∷ xs)) e ∙ last_is a x xs b (l, path))

-- a slot s in front, between node h and the one after it
module _ (before after : List ℕ) (h s : ℕ) where
  abbrev pub before_pushed : List ℕ
  before_pushed = set (set before s h) (get_or after h 0) s

  abbrev pub after_pushed : List ℕ
  after_pushed = set (set after s (get_or after h 0)) h s

  module _ (sb : s < length before) (sa : s < length after) (ha : h < length after)
      (nb : get_or after h 0 < length before) (other : h ≡ s → ⊥) where
    link_front : (s ≡ get_or after h 0 → ⊥) → IsLink before_pushed after_pushed h s
    link_front ne = record {
      after_is = get_or-set_same (set after s (get_or after h 0)) h s 0
          (omega (arith, ha, length-set after s (get_or after h 0)));
      before_is = get_or-set_other (set before s h) (get_or after h 0) s s 0 ne
          ∙ get_or-set_same before s h 0 sb;
    }

    link_behind : IsLink before_pushed after_pushed s (get_or after h 0)
    link_behind = record {
      after_is = get_or-set_other (set after s (get_or after h 0)) h s s 0 (λ e. other (sym e))
          ∙ get_or-set_same after s (get_or after h 0) 0 sa;
      before_is = get_or-set_same (set before s h) (get_or after h 0) s 0
          (omega (arith, nb, length-set before s h));
    }

    pub pushed_path : (xs : List ℕ) → IsPath before after h xs h → has_slot s xs ≡ false →
        has_slot h xs ≡ false → AreOnce xs → IsPath before_pushed after_pushed h (s ∷ xs) h
    pushed_path [] l ns nh once =
        let P : ℕ → Type 0 = λ n. IsLink before_pushed after_pushed s n in (
          link_front (λ e. other (sym (e ∙ l.after_is))),
          subst P l.after_is link_behind,
        )
    pushed_path (x ∷ xs) (l, path) ns nh once =
        let f : ℕ = get_or after h 0 in
        let P : ℕ → Type 0 = λ n. IsLink before_pushed after_pushed s n in
        let Q : ℕ → Type 0 = λ n. has_slot n xs ≡ false in
        let nf : has_slot f (h ∷ xs) ≡ false =
        not-both f h xs (λ e. not-head h x xs nh (sym (e ∙ l.after_is)))
        (subst Q (sym l.after_is) once.0) in (
          link_front (λ e. not-head s x xs ns (sym (e ∙ l.after_is))),
          (
            subst P l.after_is link_behind,
            path_kept (set before s h) (set after s f) f s h s x xs h nh nf
                (path_kept before after s h s f x xs h ns
                (not-both s h xs other (not-tail s x xs ns)) path),
          ),
        )

-- slot s taken out, from between nodes p and q
module _ (before after : List ℕ) (p q s : ℕ) (p_is : get_or before s 0 ≡ p)
    (q_is : get_or after s 0 ≡ q) (forth_is : get_or after p 0 ≡ s) (back_is : get_or before q 0 ≡
    s)
    (pa : p < length after) (qb : q < length before) where
  link_across : (b : ℕ) → q ≡ b → IsLink (set before q p) (set after p q) p b
  link_across b e =
      let P : ℕ → Type 0 = λ n. IsLink (set before q p) (set after p q) p n in
      subst P e record {
        after_is = get_or-set_same after p q 0 pa;
        before_is = get_or-set_same before q p 0 qb;
      }

  spliced : (xs : List ℕ) (b : ℕ) → IsPath before after s xs b → has_slot p xs ≡ false →
      has_slot b xs ≡ false → AreOnce xs → IsPath (set before q p) (set after p q) p xs b
  spliced [] b l np nb once = link_across b (sym q_is ∙ l.after_is)
  spliced (x ∷ xs) b (l, path) np nb once =
      let e : q ≡ x = sym q_is ∙ l.after_is in
      let Q : ℕ → Type 0 = λ n. has_slot n (b ∷ xs) ≡ false in
      let nq : has_slot x (b ∷ xs) ≡ false =
      not-both x b xs (λ f. not-head b x xs nb (sym f)) once.0 in (
        link_across x e,
        path_kept before after q p p q x xs b np (subst Q (sym e) nq) path,
      )

  pub removed_path : (a : ℕ) (xs : List ℕ) (b : ℕ) → IsPath before after a xs b →
      has_slot a xs ≡ false → has_slot b xs ≡ false → AreOnce xs → has_slot s xs ≡ true
      → IsPath (set before q p) (set after p q) a (remove xs (index_of_slot s xs)) b
  removed_path a [] b l na nb once has = absurd (cc)
  removed_path a (x ∷ xs) b (l, path) na nb once has =
      let R : ℕ → Type 0 = λ i. IsPath (set before q p) (set after p q) a (remove (x ∷ xs) i) b in
      let start : (a' : ℕ) → Type 0 = λ n. IsPath (set before q p) (set after p q) n xs b in
      let along : (a' : ℕ) → Type 0 = λ n. IsPath before after n xs b in
      let Q : ℕ → Type 0 = λ n. has_slot n xs ≡ false in
      let S : ℕ → Type 0 = λ n. has_slot n (x ∷ xs) ≡ false in
      elim (cases_eq x s) [
        | inl e ↦
            let same : a ≡ p = sym l.before_is ∙ ap (λ n. get_or before n 0) e ∙ p_is in
            subst R (sym (index-here s x xs e)) (subst start (sym same)
            (spliced xs b (subst along e path) (subst Q same (not-tail a x xs na))
            (not-tail b x xs nb) once.1))
        | inr other ↦ subst R (sym (index-behind s x xs other)) (
          link_kept before after q p p q a x
              (λ e. other (sym l.after_is ∙ ap (λ n. get_or after n 0) e ∙ forth_is))
              (λ e. not-and-has s (x ∷ xs) (subst S (sym l.before_is ∙
              ap (λ n. get_or before n 0) e ∙ back_is) na) has)
              l,
          removed_path x xs b path once.0 (not-tail b x xs nb) once.1 (has-other s x xs has other),
        )
      ]
