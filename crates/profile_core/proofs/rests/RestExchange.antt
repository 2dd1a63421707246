-- A rest that gets another block in front, and lacks the one that is looked for, or its last.
use Rattle.std.proofs.Common.{◌≡◌, ℕ, suc, ◌+◌, ◌<◌, ◌≤◌, false, eqb, List, ◌∷◌, ◌++◌, length}
use Rattle.std.proofs.Common.{take, drop, set, ◌∙◌, ap, arith, add-one}
use Rattle.std.specs.List.{remove}
use Rattle.profile_core.specs.declared.rows.row.Shifted.TheVariants.{Found, Out}
use Rattle.profile_core.specs.profile.RecencyList.{index_of}
use Rattle.profile_core.specs.internal.set_lists.Moves.{shifted_of}
use Rattle.profile_core.proofs.rows.Bringing.{IsShifted, shifted_index, shifted_last, row_found}
use Rattle.profile_core.proofs.rows.Bringing.{row_grown, size}
use Rattle.profile_core.proofs.Shifting.{index_behind, other_front}

-- lists with one block in front, without it
without_front : (x h n : ℕ) (zs ws : List ℕ) → take (suc h) (x ∷ zs) ≡ take (n + 1) (x ∷ ws) →
    take h zs ≡ take n ws
without_front x h n zs ws e = ap (drop 1) (e ∙ ap (λ j. take j (x ∷ ws)) (add-one n))

module _ {x y h : ℕ} {rest after : List ℕ} (s : IsShifted x y h rest after)
    (other : eqb y x ≡ false) where
  abbrev list : List ℕ
  list = take h rest

  -- the rest then, if it were not longer than before
  abbrev then : List ℕ
  then = y ∷ remove list (index_of x list)

  gone : remove (y ∷ list) (index_of x (y ∷ list)) ≡ then
  gone = ap (remove (y ∷ list)) (index_behind x y list (other_front x y list other))

  pub rest_found : (distance : ℕ) → Found distance ≡ shifted_of x (y ∷ list) →
      take h (after ++ drop h rest) ≡ take (length rest) then
  rest_found distance found =
      let at = shifted_index x (y ∷ list) distance found in
      without_front x h (length rest) _ _ (row_found s (omega (arith, at.0, at.1, size s)))
      ∙ ap (take (length rest)) gone

  pub found_small : (distance : ℕ) → Found distance ≡ shifted_of x (y ∷ list) → distance ≤ h
  found_small distance found =
      let at = shifted_index x (y ∷ list) distance found in
      omega (arith, at.1, size s)

  pub rest_grown : (last : ℕ) → h < length rest → Out last ≡ shifted_of x (y ∷ list) →
      take (suc h) (set (after ++ drop h rest) h last) ≡ take (length rest) then
  rest_grown last lt out =
      let at = shifted_last x (y ∷ list) last out in
      without_front x (suc h) (length rest) _ _ (row_grown s last lt at.0 at.1)
      ∙ ap (take (length rest)) gone
