use Rattle.std.proofs.Common.{◌≡◌, ◌+◌, ◌∙◌, ◌++◌, ◌∷◌, ℕ, [], zero, suc, sym, ap, arith}
use Rattle.std.specs.List.{range_with_len}
use Rattle.block_index.proofs.slot_lists.numbers.Goals as goal

one_more : (a n : ℕ) → range_with_len a (suc n) ≡ range_with_len a n ++ (a + n) ∷ []
one_more a zero = let e : a ≡ a + 0 = omega arith in ap (λ i. i ∷ []) e
one_more a (suc n) =
    let e : a + 1 + n ≡ a + suc n = omega arith in
    ap (λ xs. a ∷ xs) (one_more (a + 1) n ∙
    ap (λ i. range_with_len (a + 1) n ++ i ∷ []) e)

pub loop-number-preserved : goal.loop-number-preserved
loop-number-preserved c =
    let n : ℕ = c.loop-number.number in
    let pushed : c.push.new.self.items ≡ c.loop-number.all.items ++ n ∷ [] =
    c.in_ok-push.ensures.items in
    let suc_is : suc n ≡ n + 1 = omega arith in
    let same : 0 + n ≡ n = omega arith in
    pushed ∙ ap (λ xs. xs ++ n ∷ []) c.loop-number.invariant
    ∙ sym (ap (λ i. range_with_len 0 n ++ i ∷ []) same)
    ∙ sym (one_more 0 n) ∙ ap (range_with_len 0) suc_is
