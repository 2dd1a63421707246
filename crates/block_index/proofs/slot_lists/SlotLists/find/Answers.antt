use Rattle.std.proofs.Common.{◌≡◌, ◌+◌, ◌<◌, ◌≤◌, ◌∙◌, ◌⊎◌, ℕ, List, Option, Some, None, inl, inr}
use Rattle.std.proofs.Common.{length, get_or, ap, sym, subst, arith, true}
use Rattle.std.specs.Prelude.{MatchOption}
use Rattle.std.proofs.lemmas.List.{get_or_read}
use Rattle.block_index.specs.Chains.{IsOnChain, IsSought, IsFirst}
use Rattle.block_index.specs.SlotLists.{SlotListsValue, has_slot, list_at, linked_lists}
use Rattle.block_index.specs.SlotLists.{AreLinked, NoneOfListHas}
use Rattle.block_index.proofs.LinkLemmas.{list_on_chain, on_chain_list}
use Rattle.block_index.proofs.slot_lists.SlotLists.find.Goals as goal

module _ {before after : List ℕ} {v : SlotListsValue} (h : AreLinked before after v) (k : ℕ)
    (kl : k < length v.lists) (blocks : List ℕ) (long : length blocks ≡ v.slots)
    (from end b a : ℕ) (a_is : a ≡ get_or after (v.slots + k) 0) where
  on_list : (r : Option ℕ)
      → MatchOption r ((s : ℕ) → IsSought after blocks a from end b s → ⊥)
      (IsFirst after blocks a from end b)
      → MatchOption r (NoneOfListHas v k blocks b from end)
      (λ s. (s < v.slots) × (get_or blocks s 0 ≡ b)
      × ((has_slot s (list_at v k) ≡ true) ⊎ ((from ≤ s) × (s < end))))
  on_list None none = λ s inside from_on before_end is.
      let P : ℕ → Type 0 = λ i. IsSought after blocks i from end b s in
      let Q : ℕ → Type 0 = λ n. IsOnChain after n (get_or after (v.slots + k) 0) s in
      none s (subst P (sym a_is) (record {
        on_chain = subst Q (sym long) (list_on_chain h k s kl inside);
        from_on = from_on;
        before_end = before_end;
        block = is;
      }))
  on_list (Some s) found =
      let lt : s < v.slots = omega (arith, found.within, long) in (
        lt,
        found.block,
        elim found.place [
          | inl on ↦
              let P : ℕ → ℕ → Type 0 = λ n i. IsOnChain after n i s in
              let here = subst (λ i. P v.slots i) a_is (subst (λ n. P n a) long on) in
              inl (on_chain_list h k s kl lt here)
          | inr among ↦ inr among
        ],
      )

pub returns : goal.returns
returns c =
    let s = c.self.inside in
    let v : SlotListsValue = linked_lists s.after.items s.slots in
    let i = c.self.invariant in
    let kl : c.args.list < length v.lists =
    omega (arith, c.requires.list, ap (λ w. length w.lists) c.self.view_is) in
    let read : c.index.result.now ≡ get_or s.after.items (s.slots + c.args.list) 0 =
    get_or_read s.after.items (s.slots + c.args.list) c.index.result.now
    (omega (arith, i.after_long, kl)) c.index.ensures 0 in
    let long : length c.args.blocks.now ≡ s.slots =
    c.requires.blocks ∙ sym (ap (λ w. w.slots) c.self.view_is) in
    let R : SlotListsValue → Type 0 = λ w. MatchOption c.find_on_chain.result
    (NoneOfListHas w c.args.list c.args.blocks.now c.args.block c.args.from c.args.end)
    (λ t. (t < w.slots) × (get_or c.args.blocks.now t 0 ≡ c.args.block)
    × ((has_slot t (list_at w c.args.list) ≡ true) ⊎ ((c.args.from ≤ t) × (t < c.args.end)))) in
    let P : List ℕ → Type 0 = λ links. MatchOption c.find_on_chain.result
    ((t : ℕ) → IsSought links c.args.blocks.now c.index.result.now c.args.from c.args.end
    c.args.block t → ⊥)
    (IsFirst links c.args.blocks.now c.index.result.now c.args.from c.args.end c.args.block) in
    subst R c.self.view_is
    (on_list i c.args.list kl c.args.blocks.now long c.args.from c.args.end c.args.block
    c.index.result.now read c.find_on_chain.result
    (subst P c.deref.ensures.value c.find_on_chain.ensures))
