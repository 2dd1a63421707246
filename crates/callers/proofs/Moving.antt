-- The row of the least traffic of some rows, and of one row more.
use Rattle.std.proofs.Common.{◌≡◌, ◌≤◌, ◌<◌, ℕ, Bool, true, false, List, [], ◌∷◌, ◌++◌, None, Some}
use Rattle.std.proofs.Common.{Option, refl, sym, ◌∙◌, arith}
use Rattle.std.specs.Prelude.{IfSome, MatchOption, nat_lt}
use Rattle.std.proofs.lemmas.Bool.{ltb-true, ltb-false, false≢true}
use Rattle.std.proofs.lemmas.List.Elements.{Contains-append_left, Contains-push}
use Rattle.full_profile.specs.declared.counts.FullCounts.{FullCounts}
use Rattle.sweep_core.specs.Space.{bytes_of}
use Rattle.sweep_core.specs.declared.space.Config.{Config}
use Rattle.callers.specs.Traffic.{traffic_of, HasLeastTrafficIfAny}
use Rattle.callers.proofs.Choosing.{one_more}

abbrev Row : Type 0
Row = Config × FullCounts

abbrev TooLarge : ℕ → Row → Type 0
TooLarge size row = size < bytes_of row.0

abbrev NoLess : ℕ → Row → Row → Type 0
NoLess size row r = bytes_of r.0 ≤ size → traffic_of row ≤ traffic_of r

-- the next row is chosen
pub chosen : (size : ℕ) (rows : List Row) (best : Option Row) (row : Row)
    → HasLeastTrafficIfAny size rows best → bytes_of row.0 ≤ size
    → IfSome best (λ b. traffic_of row < traffic_of b)
    → HasLeastTrafficIfAny size (rows ++ row ∷ []) (Some row)
chosen size rows None row so_far fits less = record {
  among = Contains-push rows row;
  fits = fits;
  least = one_more (TooLarge size) (NoLess size row) rows row
      (λ r above low. absurd (omega (arith, above, low))) so_far (λ _. omega arith);
}
chosen size rows (Some b) row so_far fits less = record {
  among = Contains-push rows row;
  fits = fits;
  least = one_more (NoLess size b) (NoLess size row) rows row
      (λ r above low. omega (arith, above low, less)) so_far.least (λ _. omega arith);
}

-- why the best so far stays before a row: it is too large, or moves no less
abbrev pub Stays : ℕ → Option Row → Row → Type 0
Stays size best row = (best ≡ None → size < bytes_of row.0) ×
    IfSome best (λ b. NoLess size b row)

pub kept : (size : ℕ) (rows : List Row) (best : Option Row) (row : Row)
    → HasLeastTrafficIfAny size rows best → Stays size best row
    → HasLeastTrafficIfAny size (rows ++ row ∷ []) best
kept size rows None row so_far stays = one_more (TooLarge size) (TooLarge size) rows row
    (λ r above. above) so_far (stays.0 refl)
kept size rows (Some b) row so_far stays = record {
  among = Contains-append_left rows (row ∷ []) b so_far.among;
  fits = so_far.fits;
  least = one_more (NoLess size b) (NoLess size b) rows row (λ r above. above) so_far.least
      stays.1;
}

-- what the test of the traffic says
abbrev Tells : Option Row → Row → Bool → Type 0
Tells best row less = MatchOption best (less ≡ true) (λ b. less ≡ nat_lt (traffic_of row)
    (traffic_of b))

pub is_less : (best : Option Row) (row : Row) (less : Bool) → Tells best row less →
    less ≡ true → IfSome best (λ b. traffic_of row < traffic_of b)
is_less None row less tells is_true = tt
is_less (Some b) row less tells is_true =
    ltb-true (traffic_of row) (traffic_of b) (sym tells ∙ is_true)

pub is_no_less : (size : ℕ) (best : Option Row) (row : Row) (less : Bool) → Tells best row less →
    less ≡ false → Stays size best row
is_no_less size None row less tells is_false =
    (λ none. absurd (false≢true (sym is_false ∙ tells)), tt)
is_no_less size (Some b) row less tells is_false =
    (λ none. absurd cc, λ low. ltb-false (traffic_of row) (traffic_of b) (sym tells ∙ is_false))

pub is_too_large : (size : ℕ) (best : Option Row) (row : Row) → size < bytes_of row.0 →
    Stays size best row
is_too_large size None row above = (λ none. above, tt)
is_too_large size (Some b) row above = (λ none. above, λ low. absurd (omega (arith, above, low)))
