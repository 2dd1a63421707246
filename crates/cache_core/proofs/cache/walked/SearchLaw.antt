-- Where a search for a block ends.
use Rattle.std.proofs.Common.{◌≡◌, ℕ, ◌<◌, ◌≤◌, ◌==◌, false, List, length}
use Rattle.std.proofs.Common.{get_or, Option, Some, None, arith, refl}
use Rattle.std.specs.Prelude.{is_some}
use Rattle.std.proofs.lemmas.List.Sums.{position_or_len_is}
use Rattle.std.proofs.lemmas.Bool.{eq-eqb, true≢false}
use Rattle.cache_core.specs.declared.outcome.Slot.{Slot}
use Rattle.cache_core.specs.cache.Order.{position_of}
use Rattle.cache_core.specs.internal.cache.Order.{NoneBefore}

-- at the first slot that holds it
pub found_at : (block : ℕ) (slots : List Slot) (at : ℕ) (d : Slot) → NoneBefore block slots at →
    at < length slots → (get_or slots at d).block ≡ block → Some at ≡ position_of block slots
found_at block slots at d before within here =
    let p = position_or_len_is (λ (x : Slot). x.block == block) slots at d (omega arith)
    (λ k lt. before k d lt (omega arith)) (λ _. eq-eqb _ block here) in
    grind arith

-- or behind all
pub found_nowhere : (block : ℕ) (slots : List Slot) (at : ℕ) → NoneBefore block slots at →
    length slots ≤ at → None ≡ position_of block slots
found_nowhere block slots at before past =
    let d : Slot = record { block = 0; dirty = false } in
    let p = position_or_len_is (λ (x : Slot). x.block == block) slots (length slots) d (omega arith)
    (λ k lt. before k d (omega arith) lt) (λ lt. absurd (omega arith)) in
    grind arith

-- a block that is not among the slots of its set stands at no index
pub not_held : (o : Option ℕ) → is_some o ≡ false → o ≡ None
not_held None none = refl
not_held (Some at) none = absurd (true≢false none)
