-- What is on a chain, behind one of its slots.
use Rattle.std.proofs.Common.{◌≡◌, ℕ, zero, suc, ◌<◌, ◌≤◌, List, get_or, refl, sym, subst, arith}
use Rattle.block_index.specs.Chains.{IsAfter, IsOnChain}

module _ (links : List ℕ) (slots : ℕ) where
  after_more : (n a s : ℕ) → s < slots → IsAfter links slots n a s →
      IsAfter links slots (suc n) a (get_or links s 0)
  after_more zero a s lt same =
      let P : ℕ → Type 0 = λ i. get_or links i 0 ≡ get_or links s 0 in
      (omega (arith, same, lt), subst P (sym same) refl)
  after_more (suc n) a s lt (within, at) = (within, after_more n (get_or links a 0) s lt at)

  -- the node after a slot of the chain
  pub on_chain_more : (a s : ℕ) → s < slots → IsOnChain links slots a s →
      IsOnChain links slots a (get_or links s 0)
  on_chain_more a s lt (n, at) = (suc n, after_more n a s lt at)

  -- what comes after a slot that is not wanted
  pub on_chain_past : (a s : ℕ) → (a ≡ s → ⊥) → IsOnChain links slots a s →
      IsOnChain links slots (get_or links a 0) s
  on_chain_past a s other (zero, same) = absurd (other same)
  on_chain_past a s other (suc n, (within, at)) = (n, at)

  -- nothing comes after a node that is no slot
  pub on_chain_end : (a s : ℕ) → slots ≤ a → IsOnChain links slots a s → a ≡ s
  on_chain_end a s end (zero, same) = same
  on_chain_end a s end (suc n, (within, at)) = absurd (omega arith)
