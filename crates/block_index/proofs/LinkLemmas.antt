-- Lists that are linked, after a change to one of them.
use Rattle.std.proofs.Common.{◌≡◌, ℕ, zero, suc, refl, ◌+◌, ◌-◌, ◌<◌, ◌≤◌, ◌^◌, inl, inr, true}
use Rattle.std.proofs.Common.{false}
use Rattle.std.proofs.Common.{List, [], ◌∷◌, length, get_or, set, drop, sym, ◌∙◌, ap, subst, arith}
use Rattle.std.proofs.Common.{length-set}
use Rattle.std.specs.Prelude.{replicate, slice_get}
use Rattle.std.specs.List.{remove}
use Rattle.std.proofs.lemmas.Bool.{cases_eq, false_from_ne_true, false≢true}
use Rattle.std.proofs.lemmas.List.{get_or-drop, length-drop, length-replicate}
use Rattle.block_index.specs.Chains.{IsOnChain}
use Rattle.block_index.specs.SlotLists.{SlotListsValue, has_slot, is_listed, index_of_slot, list_at}
use Rattle.block_index.specs.SlotLists.{with_first, without_slot, AreOnce, IsPath}
use Rattle.block_index.specs.SlotLists.{linked_slots, linked_lists, slot_at_node, AreLinked}
use Rattle.block_index.proofs.ListLemmas.{has-head, has-behind, has-cases, not-both}
use Rattle.block_index.proofs.ListLemmas.{not-and-has, not-listed, lists-of_each}
use Rattle.block_index.proofs.ListLemmas.{length-le_slots}
use Rattle.block_index.proofs.ChangeLemmas.{pushed_at, pushed_other, pushed_apart, removed_at}
use Rattle.block_index.proofs.ChangeLemmas.{removed_other, removed_apart}
use Rattle.block_index.proofs.PathLemmas.{back, forth, back_and_forth, after_on, before_on}
use Rattle.block_index.proofs.PathLemmas.{path_kept, linked_slots-path, pushed_path, removed_path}
use Rattle.block_index.proofs.PathLemmas.{before_pushed, after_pushed, path_first, path_last}
use Rattle.block_index.proofs.PathLemmas.{path_on_chain, on_chain_path}

empty_at : (n k : ℕ) → get_or {A = List ℕ} (replicate n []) k [] ≡ []
empty_at zero k = refl
empty_at (suc n) zero = refl
empty_at (suc n) (suc k) = empty_at n k

none_has : (n k s : ℕ) → has_slot s (get_or {A = List ℕ} (replicate n []) k []) ≡ true → ⊥
none_has n k s inside =
    let P : List ℕ → Type 0 = λ xs. has_slot s xs ≡ true in
    false≢true (subst P (empty_at n k) inside)

module _ {before after : List ℕ} {v : SlotListsValue} (h : AreLinked before after v) where
  -- the lists are those that are read off the links
  pub read_off : linked_lists after v.slots ≡ v
  read_off =
      let made : List (List ℕ) → SlotListsValue = λ ls. record { slots = v.slots; lists = ls } in
      ap made (lists-of_each (linked_slots after v.slots v.slots) (drop v.slots after) v.lists
      (omega (arith, length-drop v.slots after, h.after_long))
      (λ k lt. ap (linked_slots after v.slots v.slots) (get_or-drop v.slots after k 0)
      ∙ linked_slots-path before after v.slots v.slots (v.slots + k) (list_at v k) (v.slots + k)
      (h.paths k lt) (h.apart.below k) (omega arith)
      (length-le_slots (list_at v k) v.slots (h.apart.once k) (h.apart.below k))))

  pub not_head : (k j : ℕ) → has_slot (v.slots + k) (list_at v j) ≡ false
  not_head k j =
      false_from_ne_true (has_slot (v.slots + k) (list_at v j))
      (λ inside. absurd (omega (arith, h.apart.below j (v.slots + k) inside)))

  -- the nodes of a list
  pub node_small : (k n : ℕ) → k < length v.lists →
      has_slot n ((v.slots + k) ∷ list_at v k) ≡ true → n < v.slots + length v.lists
  node_small k n lt on =
      elim (has-cases n (v.slots + k) (list_at v k) on) [
        | inl e ↦ omega (arith, e, lt)
        | inr e ↦ omega (arith, h.apart.below k n e)
      ]

  pub after_small : (k n : ℕ) → k < length v.lists →
      has_slot n ((v.slots + k) ∷ list_at v k) ≡ true → get_or after n 0 < v.slots + length v.lists
  after_small k n lt on =
      node_small k (get_or after n 0) lt
      (after_on before after (v.slots + k) (list_at v k) (v.slots + k) n (h.paths k lt) on)

  pub before_small : (k n : ℕ) → k < length v.lists →
      has_slot n ((v.slots + k) ∷ list_at v k) ≡ true → get_or before n 0 < v.slots + length v.lists
  before_small k n lt on =
      node_small k (get_or before n 0) lt
      (before_on before after (v.slots + k) (list_at v k) (v.slots + k) n (h.paths k lt) on)

  -- what the calls that read return
  pub list_first : (k : ℕ) → k < length v.lists →
      slot_at_node v.slots (get_or after (v.slots + k) 0) ≡ slice_get (list_at v k) 0
  list_first k kl =
      path_first before after v.slots (v.slots + k) (list_at v k) (v.slots + k) (h.paths k kl)
      (h.apart.below k) (omega arith)

  pub list_last : (k : ℕ) → k < length v.lists →
      slot_at_node v.slots (get_or before (v.slots + k) 0) ≡ slice_get (list_at v k)
      (length (list_at v k) - 1)
  list_last k kl =
      path_last before after v.slots (v.slots + k) (list_at v k) (v.slots + k) (h.paths k kl)
      (h.apart.below k) (omega arith)

  -- what is on a list is on the chain that begins behind its head, and the other way round
  pub list_on_chain : (k s : ℕ) → k < length v.lists → has_slot s (list_at v k) ≡ true →
      IsOnChain after v.slots (get_or after (v.slots + k) 0) s
  list_on_chain k s kl inside =
      path_on_chain before after v.slots (v.slots + k) (list_at v k) (v.slots + k) s (h.paths k kl)
      (h.apart.below k) inside

  pub on_chain_list : (k s : ℕ) → k < length v.lists → s < v.slots →
      IsOnChain after v.slots (get_or after (v.slots + k) 0) s → has_slot s (list_at v k) ≡ true
  on_chain_list k s kl sl on =
      on_chain_path before after v.slots on.0 (v.slots + k) (list_at v k) (v.slots + k) s
      (h.paths k kl) (omega arith) sl on.1

  -- with slot s in front of list k
  module _ (k s : ℕ) (kl : k < length v.lists) (sl : s < v.slots)
      (free : is_listed v.lists s ≡ false) where
    head_other : (j : ℕ) → (j ≡ k → ⊥) → has_slot (v.slots + k) ((v.slots + j) ∷ list_at v j) ≡
        false
    head_other j ne =
        not-both (v.slots + k) (v.slots + j) (list_at v j) (λ e. ne (omega (arith, e))) (not_head k
        j)

    -- the node after the head of list k is on no other list
    next_other : (j : ℕ) → j < length v.lists → (j ≡ k → ⊥) →
        has_slot (get_or after (v.slots + k) 0) ((v.slots + j) ∷ list_at v j) ≡ false
    next_other j jl ne =
        let f : ℕ = get_or after (v.slots + k) 0 in
        let P : ℕ → Type 0 = λ n. has_slot n ((v.slots + j) ∷ list_at v j) ≡ true in
        false_from_ne_true (has_slot f ((v.slots + j) ∷ list_at v j))
        (λ inside. not-and-has (v.slots + k) ((v.slots + j) ∷ list_at v j) (head_other j ne)
        (subst P
        (back_and_forth before after (v.slots + k) (list_at v k) (v.slots + k) (h.paths k kl))
        (before_on before after (v.slots + j) (list_at v j) (v.slots + j) f (h.paths j jl) inside)))

    free_at : (j : ℕ) → has_slot s ((v.slots + j) ∷ list_at v j) ≡ false
    free_at j =
        not-both s (v.slots + j) (list_at v j) (λ e. absurd (omega (arith, e, sl)))
        (not-listed s v.lists j free)

    abbrev before' : List ℕ
    before' = before_pushed before after (v.slots + k) s

    abbrev after' : List ℕ
    after' = after_pushed before after (v.slots + k) s

    pushed_paths : (j : ℕ) → j < length v.lists →
        IsPath before' after' (v.slots + j) (list_at (with_first v k s) j) (v.slots + j)
    pushed_paths j jl =
        let head : ℕ = v.slots + k in
        let f : ℕ = get_or after head 0 in
        let P : List ℕ → Type 0 = λ xs. IsPath before' after' (v.slots + j) xs (v.slots + j) in
        let Q : List ℕ → Type 0 = λ xs. IsPath before' after' head xs head in
        let R : ℕ → Type 0 =
        λ i. IsPath before' after' (v.slots + i) (list_at (with_first v k s) i) (v.slots + i) in
        elim (cases_eq j k) [
          | inl e ↦ subst R (sym e) (subst Q (sym (pushed_at v k s kl))
              (pushed_path before after head s (omega (arith, h.before_long, sl))
              (omega (arith, h.after_long, sl)) (omega (arith, h.after_long, kl))
              (omega (arith, h.before_long, after_small k head kl (has-head head (list_at v k))))
              (λ e. absurd (omega (arith, e, sl))) (list_at v k) (h.paths k kl)
              (not-listed s v.lists k free) (not_head k k) (h.apart.once k)))
          | inr ne ↦ subst P (sym (pushed_other v k s kl j ne))
              (path_kept (set before s head) (set after s f) f s head s (v.slots + j) (list_at v j)
              (v.slots + j) (head_other j ne) (next_other j jl ne)
              (path_kept before after s head s f (v.slots + j) (list_at v j) (v.slots + j)
              (free_at j) (free_at j) (h.paths j jl)))
        ]

    pub pushed_linked : AreLinked before' after' (with_first v k s)
    pushed_linked =
        let head : ℕ = v.slots + k in
        let f : ℕ = get_or after head 0 in
        let long = length-set v.lists k (s ∷ list_at v k) in record {
          few = omega (arith, h.few, long);
          before_long =
              omega (
                arith,
                h.before_long,
                long,
                length-set (set before s head) f s,
                length-set before s head,
              );
          after_long =
              omega (
                arith,
                h.after_long,
                long,
                length-set (set after s f) head s,
                length-set after s f,
              );
          paths = λ j jl. pushed_paths j (omega (arith, jl, long));
          apart = pushed_apart v k s kl free sl h.apart;
        }

  -- with slot s taken out of list k
  module _ (k s : ℕ) (kl : k < length v.lists) (inside : has_slot s (list_at v k) ≡ true) where
    abbrev p : ℕ
    p = get_or before s 0

    abbrev q : ℕ
    q = get_or after s 0

    on : has_slot s ((v.slots + k) ∷ list_at v k) ≡ true
    on = has-behind s (v.slots + k) (list_at v k) inside

    pub p_small : p < v.slots + length v.lists
    p_small = before_small k s kl on

    pub q_small : q < v.slots + length v.lists
    q_small = after_small k s kl on

    forth_is : get_or after p 0 ≡ s
    forth_is = forth before after (v.slots + k) (list_at v k) (v.slots + k) s (h.paths k kl) inside

    back_is : get_or before q 0 ≡ s
    back_is = back before after (v.slots + k) (list_at v k) (v.slots + k) s (h.paths k kl) inside

    -- slot s is on no other list
    away : (j : ℕ) → (j ≡ k → ⊥) → has_slot s ((v.slots + j) ∷ list_at v j) ≡ true → ⊥
    away j ne there =
        elim (has-cases s (v.slots + j) (list_at v j) there) [
          | inl e ↦ absurd (omega (arith, e, h.apart.below k s inside))
          | inr e ↦ ne (h.apart.one_list j k s e inside)
        ]

    p_other : (j : ℕ) → j < length v.lists → (j ≡ k → ⊥) →
        has_slot p ((v.slots + j) ∷ list_at v j) ≡ false
    p_other j jl ne =
        let P : ℕ → Type 0 = λ n. has_slot n ((v.slots + j) ∷ list_at v j) ≡ true in
        false_from_ne_true (has_slot p ((v.slots + j) ∷ list_at v j))
        (λ there. away j ne (subst P forth_is
        (after_on before after (v.slots + j) (list_at v j) (v.slots + j) p (h.paths j jl) there)))

    q_other : (j : ℕ) → j < length v.lists → (j ≡ k → ⊥) →
        has_slot q ((v.slots + j) ∷ list_at v j) ≡ false
    q_other j jl ne =
        let P : ℕ → Type 0 = λ n. has_slot n ((v.slots + j) ∷ list_at v j) ≡ true in
        false_from_ne_true (has_slot q ((v.slots + j) ∷ list_at v j))
        (λ there. away j ne (subst P back_is
        (before_on before after (v.slots + j) (list_at v j) (v.slots + j) q (h.paths j jl) there)))

    removed_paths : (j : ℕ) → j < length v.lists →
        IsPath (set before q p) (set after p q) (v.slots + j) (list_at (without_slot v k s) j)
        (v.slots + j)
    removed_paths j jl =
        let head : ℕ = v.slots + k in
        let P : List ℕ → Type 0 =
        λ xs. IsPath (set before q p) (set after p q) (v.slots + j) xs (v.slots + j) in
        let Q : List ℕ → Type 0 = λ xs. IsPath (set before q p) (set after p q) head xs head in
        let R : ℕ → Type 0 =
        λ i. IsPath (set before q p) (set after p q) (v.slots + i) (list_at (without_slot v k s) i)
        (v.slots + i) in
        elim (cases_eq j k) [
          | inl e ↦ subst R (sym e) (subst Q (sym (removed_at v k s kl))
              (removed_path before after p q s refl refl forth_is back_is
              (omega (arith, h.after_long, p_small)) (omega (arith, h.before_long, q_small)) head
              (list_at v k) head (h.paths k kl) (not_head k k) (not_head k k) (h.apart.once k)
              inside))
          | inr ne ↦ subst P (sym (removed_other v k s kl j ne))
              (path_kept before after q p p q (v.slots + j) (list_at v j) (v.slots + j)
              (p_other j jl ne) (q_other j jl ne) (h.paths j jl))
        ]

    pub removed_linked : AreLinked (set before q p) (set after p q) (without_slot v k s)
    removed_linked =
        let long = length-set v.lists k (remove (list_at v k) (index_of_slot s (list_at v k))) in
        record {
          few = omega (arith, h.few, long);
          before_long = omega (arith, h.before_long, long, length-set before q p);
          after_long = omega (arith, h.after_long, long, length-set after p q);
          paths = λ j jl. removed_paths j (omega (arith, jl, long));
          apart = removed_apart v k s kl h.apart;
        }

-- the same where the links were read into variables
pub linked_again : {before after : List ℕ} {v : SlotListsValue} → AreLinked before after v →
    AreLinked before after (linked_lists after v.slots)
linked_again {before} {after} h =
    let P : SlotListsValue → Type 0 = λ w. AreLinked before after w in
    subst P (sym (read_off h)) h

pub pushed : {before after : List ℕ} {v : SlotListsValue} → AreLinked before after v →
    (k s f : ℕ) → k < length v.lists → s < v.slots → is_listed v.lists s ≡ false
    → f ≡ get_or after (v.slots + k) 0
    → AreLinked (set (set before s (v.slots + k)) f s) (set (set after s f) (v.slots + k) s)
    (with_first v k s)
pushed {before} {after} {v} h k s f kl sl free is =
    let P : ℕ → Type 0 = λ n. AreLinked (set (set before s (v.slots + k)) n s)
    (set (set after s n) (v.slots + k) s) (with_first v k s) in
    subst P (sym is) (pushed_linked h k s kl sl free)

pub removed : {before after : List ℕ} {v : SlotListsValue} → AreLinked before after v →
    (k s p q : ℕ) → k < length v.lists → has_slot s (list_at v k) ≡ true
    → p ≡ get_or before s 0 → q ≡ get_or after s 0
    → AreLinked (set before q p) (set after p q) (without_slot v k s)
removed {before} {after} {v} h k s p q kl inside p_is q_is =
    let P : ℕ → Type 0 = λ n. AreLinked (set before (get_or after s 0) n)
    (set after n (get_or after s 0)) (without_slot v k s) in
    let Q : ℕ → Type 0 = λ n. AreLinked (set before n p) (set after p n) (without_slot v k s) in
    subst Q (sym q_is) (subst P (sym p_is) (removed_linked h k s kl inside))

-- empty lists, with each node after itself and before itself
pub none_linked : (slots lists : ℕ) (nodes : List ℕ) → slots + lists ≤ 2 ^ 23 →
    length nodes ≡ slots + lists → ((k : ℕ) → k < length nodes → get_or nodes k 0 ≡ k)
    → AreLinked nodes nodes (record { slots = slots; lists = replicate lists [] })
none_linked slots lists nodes few long own =
    let n = length-replicate {A = List ℕ} lists [] in record {
      few = omega (arith, few, n);
      before_long = omega (arith, long, n);
      after_long = omega (arith, long, n);
      paths = λ k lt.
          let is = own (slots + k) (omega (arith, long, lt, n)) in
          let P : List ℕ → Type 0 = λ xs. IsPath nodes nodes (slots + k) xs (slots + k) in
          subst P (sym (empty_at lists k)) record { after_is = is; before_is = is };
      apart = record {
        below = λ k s inside. absurd (none_has lists k s inside);
        one_list = λ j k s inside _. absurd (none_has lists j s inside);
        once = λ k. let P : List ℕ → Type 0 = AreOnce in subst P (sym (empty_at lists k)) tt;
      };
    }
