use Rattle.std.proofs.Common.{◌≡◌, ◌<◌, ◌≤◌, ◌∙◌, ℕ, length, get_or, set, ap, sym, arith}
use Rattle.std.proofs.lemmas.List.{get_or_read}
use Rattle.block_index.specs.Chains.{chain_of_block}
use Rattle.deep_list.specs.Chains.{ChainsValue, with_slot}
use Rattle.deep_list.proofs.ChainLemmas.{chain_small}
use Rattle.deep_list.proofs.chains.Chains.add.Goals as goal

pub returns : goal.returns
returns c =
    let heads = c.self.inside.heads.items in
    let long : c.len.result ≡ length heads =
    omega (arith, c.len.ensures, c.self.inside.heads.ok.0) in
    let chain_is : c.chain_among-chain.result ≡ chain_of_block (length heads) c.args.block =
    c.chain_among-chain.ensures.is ∙ ap (λ n. chain_of_block n c.args.block) long in
    let some : 1 ≤ length heads = omega (
      arith,
      c.requires.some,
      ap (λ v. length v.heads) c.self.view_is,
    ) in
    let within : c.chain_among-chain.result < length heads =
    omega (arith, chain_is, chain_small (length heads) c.args.block some) in
    let read : get_or heads c.chain_among-chain.result 0 ≡ c.index.result.now =
    sym (get_or_read heads c.chain_among-chain.result c.index.result.now within
    c.index.ensures 0) in
    let made : ℕ → ℕ → ChainsValue = λ k head. record {
      heads = set heads k c.args.slot;
      next =
          set c.self.inside.next.items c.args.slot head;
    } in
    ap (made c.chain_among-chain.result) (sym read) ∙ ap (λ k. made k (get_or heads k 0)) chain_is
    ∙ ap (λ v. with_slot v c.args.slot (chain_of_block (length v.heads) c.args.block))
    c.self.view_is
