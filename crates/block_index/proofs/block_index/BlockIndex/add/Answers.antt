use Rattle.std.proofs.Common.{◌≡◌, ◌+◌, ◌/◌, ◌<◌, ◌∙◌, ℕ, List, Option, Some, None, length, set}
use Rattle.std.proofs.Common.{sym, ap}
use Rattle.std.proofs.Common.{subst, arith, false}
use Rattle.std.specs.Prelude.{slice_get}
use Rattle.block_index.specs.SlotLists.{SlotListsValue, is_listed, with_first}
use Rattle.block_index.specs.Chains.{chain_of_block}
use Rattle.block_index.specs.BlockIndex.{IndexValue, HasBlock, blocks_listed}
use Rattle.block_index.specs.BlockIndex.{AreOnChains}
use Rattle.block_index.proofs.IndexLemmas.{within-has, free-has, added_indexed, added_blocks}
use Rattle.block_index.proofs.block_index.BlockIndex.add.Goals as goal
use Rattle.block_index.proofs.block_index.BlockIndex.add.Goals.{After-chain_among-chain}

module _ (c : After-chain_among-chain) where
  abbrev blocks : List ℕ
  blocks = c.self.inside.blocks.items

  abbrev lists : List (List ℕ)
  lists = c.self.inside.chains.lists

  abbrev chain : ℕ
  chain = c.chain_among-chain.result

  chains_are : c.len.result / 2 + 1 ≡ length lists
  chains_are =
      omega (arith, c.len.ensures, c.self.invariant.chains_are, c.self.inside.blocks.ok.0)

  list_in : chain < length lists
  list_in = omega (arith, c.chain_among-chain.ensures.within, chains_are)

  chain_is : chain_of_block (length lists) c.args.block ≡ chain
  chain_is = sym (c.chain_among-chain.ensures.is ∙ ap (λ n. chain_of_block n c.args.block)
      chains_are)

  had : slice_get (blocks_listed lists 0 blocks) c.args.slot ≡ Some None
  had = ap (λ w. slice_get w.blocks c.args.slot) c.self.view_is ∙ c.requires.free

  slot_in : c.args.slot < length blocks
  slot_in = within-has lists blocks c.args.slot None had

  free : is_listed lists c.args.slot ≡ false
  free = free-has lists blocks c.args.slot had

  indexed : AreOnChains (set blocks c.args.slot c.args.block)
      (with_first c.self.inside.chains chain c.args.slot)
  indexed =
      added_indexed c.self.invariant chain c.args.slot c.args.block list_in chain_is free slot_in
      (λ t has. let P : IndexValue → Type 0 = λ w. HasBlock w t c.args.block in
      c.requires.other t (subst P c.self.view_is has))
      c.are_apart.ensures

pub index_mut-requires : goal.index_mut-requires
index_mut-requires c =
    omega (
      arith,
      slot_in (goal.at.index_mut-requires c).After-chain_among-chain,
      c.self.inside.blocks.ok.0,
    )

pub push_front-requires-clause-slot : goal.push_front-requires-clause-slot
push_front-requires-clause-slot c =
    omega (
      arith,
      slot_in (goal.at.push_front-requires-clause-slot c).After-chain_among-chain,
      c.self.invariant.slots_are,
    )

pub push_front-requires-clause-free : goal.push_front-requires-clause-free
push_front-requires-clause-free c =
    free (goal.at.push_front-requires-clause-free c).After-chain_among-chain

pub invariant_of-self : goal.invariant_of-self
invariant_of-self c =
    let at = (goal.at.invariant_of-self c).After-chain_among-chain in
    let P : SlotListsValue → Type 0 =
    λ v. AreOnChains (set (blocks at) c.args.slot c.args.block) v in
    subst P (sym c.push_front.ensures) (indexed at)

pub returns : goal.returns
returns c =
    let at = (goal.at.returns c).After-chain_among-chain in
    let made : List (Option ℕ) → IndexValue = λ bs. record { blocks = bs } in
    ap (λ v. made (blocks_listed v.lists 0 (set (blocks at) c.args.slot c.args.block)))
    c.push_front.ensures
    ∙ ap made (added_blocks c.self.inside.chains (blocks at) (chain at) c.args.slot (list_in at)
    c.args.block)
    ∙ ap (λ w. made (set w.blocks c.args.slot (Some c.args.block))) c.self.view_is
