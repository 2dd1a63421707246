-- Chains of slots, on which the slot of a block is looked for.
use Rattle.std.specs.Prelude.{ℕ, zero, suc, ◌≡◌, ◌≤◌, ◌<◌, ◌*◌, ◌/◌, ◌%◌, ◌^◌, ◌⊎◌, List, length}
use Rattle.std.specs.Prelude.{slice_index}

-- the chain of block b among n
abbrev pub chain_of_block : ℕ → ℕ → ℕ
chain_of_block n b = b * 0x9E37_79B9_7F4A_7C15 % 2 ^ 64 / 2 ^ 32 * n / 2 ^ 32

-- node s is n links after node a, all before it being slots
abbrev pub IsAfter : List ℕ → ℕ → ℕ → ℕ → ℕ → Type 0
IsAfter links slots zero a s = a ≡ s
IsAfter links slots (suc n) a s = (a < slots) × IsAfter links slots n (slice_index links a) s

-- node s is on the chain that begins with node a, or ends it
abbrev pub IsOnChain : List ℕ → ℕ → ℕ → ℕ → Type 0
IsOnChain links slots a s = (n : ℕ) × IsAfter links slots n a s

-- slot s of the chain that begins with node a has block b, and is from `from` on and before `end`
pub record IsSought (links blocks : List ℕ) (a from end b s : ℕ) : Type 0 where
  pub on_chain : IsOnChain links (length blocks) a s
  pub from_on : from ≤ s
  pub before_end : s < end
  pub block : slice_index blocks s ≡ b

-- slot s has block b, and on the chain or in the order of the slots no sought one comes before it
pub record IsFirst (links blocks : List ℕ) (a from end b s : ℕ) : Type 0 where
  pub within : s < length blocks
  pub block : slice_index blocks s ≡ b
  pub place : IsOnChain links (length blocks) a s ⊎ ((from ≤ s) × (s < end))
  pub first : (t : ℕ) → IsSought links blocks a from end b t →
      IsOnChain links (length blocks) s t ⊎ (s ≤ t)
