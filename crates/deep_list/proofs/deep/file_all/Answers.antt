use Rattle.std.proofs.Common.{◌≡◌, ◌+◌, ◌-◌, ◌<◌, ◌∙◌, ℕ, length, get_or, sym, ap, arith}
use Rattle.std.proofs.Common.{subst}
use Rattle.block_index.specs.Chains.{chain_of_block}
use Rattle.deep_list.specs.Chains.{ChainsValue, AreChains, AreFiledFrom, with_slot}
use Rattle.deep_list.proofs.ChainLemmas.{chain_small, chains_more, filed_more}
use Rattle.deep_list.proofs.deep.file_all.Goals as goal

pub loop-slot-preserved : goal.loop-slot-preserved
loop-slot-preserved c =
    let slots = c.args.slots.now in
    let before = c.loop-slot.invariant in
    let chains = c.loop-slot.chains in
    let t : ℕ = c.loop-slot.slot - 1 in
    let next : t + 1 ≡ c.loop-slot.slot = omega (arith, c.loop-slot-test.true) in
    let lt : t < length slots.live = omega (arith, next, before.1) in
    let are = before.2 in
    let P : ChainsValue → Type 0 = λ v. AreChains t (length slots.live) v ×
    AreFiledFrom t v slots in
    let is = c.add.ensures ∙ ap (λ x. with_slot chains t (chain_of_block (length chains.heads) x))
    c.block.ensures in
    let made = subst P (sym is) (
      chains_more are t next lt (chain_of_block (length chains.heads) (get_or slots.blocks t 0))
          (chain_small (length chains.heads) (get_or slots.blocks t 0) are.some),
      filed_more are t next lt slots before.3,
    ) in
    (omega (arith, c.loop-slot-test.true), omega (arith, before.1), made.0, made.1)
