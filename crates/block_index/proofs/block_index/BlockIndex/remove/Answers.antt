use Rattle.std.proofs.Common.{◌≡◌, ◌+◌, ◌/◌, ◌<◌, ◌∙◌, ℕ, List, Option, Some, None, length, get_or}
use Rattle.std.proofs.Common.{set}
use Rattle.std.proofs.Common.{sym, ap, subst, arith, true}
use Rattle.std.specs.Prelude.{slice_get}
use Rattle.std.proofs.lemmas.List.{get_or_read}
use Rattle.block_index.specs.SlotLists.{SlotListsValue, has_slot, list_at}
use Rattle.block_index.specs.Chains.{chain_of_block}
use Rattle.block_index.specs.BlockIndex.{IndexValue, blocks_listed, AreOnChains}
use Rattle.block_index.proofs.IndexLemmas.{within-has, listed-has, on_chain, removed_indexed}
use Rattle.block_index.proofs.IndexLemmas.{removed_blocks}
use Rattle.block_index.proofs.block_index.BlockIndex.remove.Goals as goal
use Rattle.block_index.proofs.block_index.BlockIndex.remove.Goals.{After-len}
use Rattle.block_index.proofs.block_index.BlockIndex.remove.Goals.{After-chain_among-chain}

module _ (c : After-len) where
  slot_in : c.args.slot < length c.self.inside.blocks.items
  slot_in =
      within-has c.self.inside.chains.lists c.self.inside.blocks.items c.args.slot
      (Some c.requires.0)
      (ap (λ w. slice_get w.blocks c.args.slot) c.self.view_is ∙ c.requires.1)

module _ (c : After-chain_among-chain) where
  abbrev blocks : List ℕ
  blocks = c.self.inside.blocks.items

  abbrev lists : List (List ℕ)
  lists = c.self.inside.chains.lists

  abbrev chain : ℕ
  chain = c.chain_among-chain.result

  chains_are : c.len.result / 2 + 1 ≡ length lists
  chains_are =
      omega (arith, c.len.ensures, c.self.invariant.chains_are, c.self.inside.blocks.ok.0)

  list_in : chain < length lists
  list_in = omega (arith, c.chain_among-chain.ensures.within, chains_are)

  had : slice_get (blocks_listed lists 0 blocks) c.args.slot ≡ Some (Some c.requires.0)
  had = ap (λ w. slice_get w.blocks c.args.slot) c.self.view_is ∙ c.requires.1

  read : c.index.result.now ≡ get_or blocks c.args.slot 0
  read =
      get_or_read blocks c.args.slot c.index.result.now
      (within-has lists blocks c.args.slot (Some c.requires.0) had) c.index.ensures 0

  chain_is : chain_of_block (length lists) c.requires.0 ≡ chain
  chain_is =
      ap (chain_of_block (length lists))
      (sym (listed-has lists blocks c.args.slot c.requires.0 had).1 ∙ sym read)
      ∙ sym (c.chain_among-chain.ensures.is ∙
      ap (λ n. chain_of_block n c.index.result.now) chains_are)

  inside : has_slot c.args.slot (list_at c.self.inside.chains chain) ≡ true
  inside =
      let P : ℕ → Type 0 = λ k. has_slot c.args.slot (list_at c.self.inside.chains k) ≡ true in
      subst P chain_is (on_chain c.self.invariant c.args.slot c.requires.0 had)

pub index-requires : goal.index-requires
index-requires c =
    omega (
      arith,
      slot_in (goal.at.index-requires c).After-len,
      c.self.inside.blocks.ok.0,
    )

pub remove-requires-clause-list : goal.remove-requires-clause-list
remove-requires-clause-list c =
    list_in (goal.at.remove-requires-clause-list c).After-chain_among-chain

pub remove-requires-clause-listed : goal.remove-requires-clause-listed
remove-requires-clause-listed c =
    inside (goal.at.remove-requires-clause-listed c).After-chain_among-chain

pub invariant_of-self : goal.invariant_of-self
invariant_of-self c =
    let at = (goal.at.invariant_of-self c).After-chain_among-chain in
    let P : SlotListsValue → Type 0 = λ v. AreOnChains (blocks at) v in
    subst P (sym c.remove.ensures)
    (removed_indexed c.self.invariant (chain at) c.args.slot (list_in at))

pub returns : goal.returns
returns c =
    let at = (goal.at.returns c).After-chain_among-chain in
    let made : List (Option ℕ) → IndexValue = λ bs. record { blocks = bs } in
    ap (λ v. made (blocks_listed v.lists 0 (blocks at))) c.remove.ensures
    ∙ ap made (removed_blocks c.self.inside.chains (blocks at) (chain at) c.args.slot
    (list_in at) c.are_apart.ensures (inside at))
    ∙ ap (λ w. made (set w.blocks c.args.slot None)) c.self.view_is
