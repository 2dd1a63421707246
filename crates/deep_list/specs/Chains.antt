-- Chains of slots, by which the slot of a block is found.
use Rattle.std.specs.Prelude.{ℕ, ◌≡◌, ◌≤◌, ◌<◌, ◌^◌, List, length, replicate, slice_set}
use Rattle.std.specs.Prelude.{slice_index}
use Rattle.block_index.specs.Chains.{chain_of_block, IsOnChain}
use Rattle.deep_list.specs.Slots.{SlotsValue}

-- the first slot of each chain, and for each slot the one after it on its chain; the number of
-- slots stands for none
pub record ChainsValue : Type 0 where
  pub heads : List ℕ
  pub next : List ℕ

-- slot s is on the chain of block x
abbrev pub IsFiled : ChainsValue → ℕ → ℕ → Type 0
IsFiled v x s = IsOnChain v.next (length v.next)
    (slice_index v.heads (chain_of_block (length v.heads) x)) s

-- each live slot is on the chain of its block
abbrev pub AreFiled : ChainsValue → SlotsValue → Type 0
AreFiled v slots = (s : ℕ) → slice_index slots.live s ≡ 1 → IsFiled v (slice_index slots.blocks s) s

-- the live slots from n on are on the chains of their blocks
abbrev pub AreFiledFrom : ℕ → ChainsValue → SlotsValue → Type 0
AreFiledFrom n v slots = (s : ℕ) → n ≤ s → slice_index slots.live s ≡ 1 →
    IsFiled v (slice_index slots.blocks s) s

-- with slot s in front of chain k
abbrev pub with_slot : ChainsValue → ℕ → ℕ → ChainsValue
with_slot v s k = record {
  heads = slice_set v.heads k s;
  next =
      slice_set v.next s (slice_index v.heads k);
}

-- as many chains and slots, with all chains empty
abbrev pub empty_chains : ChainsValue → ChainsValue
empty_chains v = record v { heads = replicate (length v.heads) (length v.next) }

-- chains of n slots, on which slots rise, and none is before `top`
pub record AreChains (top n : ℕ) (v : ChainsValue) : Type 0 where
  pub some : 1 ≤ length v.heads
  pub few : length v.heads ≤ 2 ^ 24
  pub long : length v.next ≡ n
  pub heads_from : (k : ℕ) → k < length v.heads → top ≤ slice_index v.heads k
  pub heads_within : (k : ℕ) → slice_index v.heads k ≤ n
  pub next_from : (s : ℕ) → top ≤ s → s < n → s < slice_index v.next s
  pub next_within : (s : ℕ) → slice_index v.next s ≤ n
