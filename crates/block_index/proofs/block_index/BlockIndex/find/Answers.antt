use Rattle.std.proofs.Common.{◌≡◌, ◌+◌, ◌/◌, ◌<◌, ◌≤◌, ◌∙◌, ◌⊎◌, ℕ, Option, Some, None, length}
use Rattle.std.proofs.Common.{get_or, inl, inr, sym, ap, subst, arith, true, List}
use Rattle.std.specs.Prelude.{MatchOption}
use Rattle.block_index.specs.Chains.{chain_of_block}
use Rattle.block_index.specs.SlotLists.{SlotListsValue, has_slot, list_at, AreApart, NoneOfListHas}
use Rattle.block_index.specs.BlockIndex.{IndexValue, HasBlock, NoSlotHas, AreOnChains}
use Rattle.block_index.proofs.IndexLemmas.{listed-has, length-listed, on_chain, has_chain, value}
use Rattle.block_index.proofs.block_index.BlockIndex.find.Goals as goal

module _ {blocks : List ℕ} {v : SlotListsValue} (h : AreOnChains blocks v) (apart : AreApart v)
    (k b from end : ℕ) (is : k ≡ chain_of_block (length v.lists) b)
    (within : (s : ℕ) → HasBlock (value h) s b → (from ≤ s) × (s < end))
    (filled : (s : ℕ) → from ≤ s → s < end → (x : ℕ) × HasBlock (value h) s x) where
  of_list : (r : Option ℕ) → MatchOption r (NoneOfListHas v k blocks b from end)
      (λ s. (s < v.slots) × (get_or blocks s 0 ≡ b)
      × ((has_slot s (list_at v k) ≡ true) ⊎ ((from ≤ s) × (s < end))))
      → MatchOption r (NoSlotHas (value h) b) (λ s. HasBlock (value h) s b)
  of_list None none = λ s has.
      let at = within s has in
      let P : ℕ → Type 0 = λ j. has_slot s (list_at v j) ≡ true in
      none s (subst P (sym is) (on_chain h s b has)) at.0 at.1 (listed-has v.lists blocks s b has).1
  of_list (Some s) (lt, block, place) =
      let P : ℕ → Type 0 = λ x. HasBlock (value h) s x in
      elim place [
        | inl inside ↦ subst P block (has_chain h apart k s inside)
        | inr among ↦
            let has = filled s among.0 among.1 in
            subst P (sym (listed-has v.lists blocks s has.0 has.1).1 ∙ block) has.1
      ]

pub find-requires-clause-end : goal.find-requires-clause-end
find-requires-clause-end c =
    let blocks = c.self.inside.blocks.items in
    omega (
      arith,
      c.requires.end,
      ap (λ w. length w.blocks) c.self.view_is,
      length-listed c.self.inside.chains.lists 0 blocks,
      c.self.invariant.slots_are,
    )

pub returns : goal.returns
returns c =
    let h = c.self.invariant in
    let chains_are : c.len.result / 2 + 1 ≡ length c.self.inside.chains.lists =
    omega (arith, c.len.ensures, h.chains_are, c.self.inside.blocks.ok.0) in
    let is = c.chain_among-chain.ensures.is ∙ ap (λ n. chain_of_block n c.args.block) chains_are in
    let b : ℕ = c.args.block in
    let P : IndexValue → Type 0 = λ w. ((s : ℕ) → HasBlock w s b → (c.args.from ≤ s) ×
    (s < c.args.end)) → ((s : ℕ) → c.args.from ≤ s → s < c.args.end → (x : ℕ) × HasBlock w s x)
    → MatchOption c.find.result (NoSlotHas w b) (λ s. HasBlock w s b) in
    let v = c.self.inside.chains in
    let k : ℕ = c.chain_among-chain.result in
    let Q : List ℕ → Type 0 = λ blocks. MatchOption c.find.result
    (NoneOfListHas v k blocks b c.args.from c.args.end)
    (λ s. (s < v.slots) × (get_or blocks s 0 ≡ b)
    × ((has_slot s (list_at v k) ≡ true) ⊎ ((c.args.from ≤ s) × (s < c.args.end)))) in
    subst P c.self.view_is (λ within filled.
    of_list h c.are_apart.ensures k b c.args.from c.args.end is within filled c.find.result
    (subst Q c.deref.ensures.value c.find.ensures))
    c.requires.within c.requires.filled
