-- The smallest cache of some rows, of one row more, and of the rows that were read.
use Rattle.std.proofs.Common.{◌≡◌, ◌≤◌, ◌<◌, ℕ, Bool, true, false, List, [], ◌∷◌, ◌++◌, None, Some}
use Rattle.std.proofs.Common.{Option, refl, ap, sym, ◌∙◌, subst, arith}
use Rattle.std.specs.Prelude.{IfSome, MatchOption, nat_lt}
use Rattle.std.specs.List.{AllByRecursion as Each}
use Rattle.std.proofs.lemmas.Bool.{ltb-true, ltb-false, false≢true}
use Rattle.std.proofs.lemmas.List.Elements.{Contains-append_left, Contains-push}
use Rattle.std.proofs.lemmas.Option.{IfSome_then}
use Rattle.trace_core.specs.Reading.{events}
use Rattle.cache_core.specs.declared.outcome.Counts.{Counts}
use Rattle.sweep_core.specs.Space.{bytes_of}
use Rattle.sweep_core.specs.Rows.{CountedSweep, counted_rows, counted_sweep}
use Rattle.sweep_core.specs.SweepText.{rows_of}
use Rattle.sweep_core.specs.declared.request.Request.{Request}
use Rattle.sweep_core.specs.declared.space.Config.{Config}
use Rattle.callers.specs.Smallest.{IsSmallestIfAny}

-- what is true of each row so far and of the next
pub one_more : {A : Type 0} (P Q : A → Type 0) (rows : List A) (row : A) → ((r : A) → P r → Q r)
    → Each P rows → Q row → Each Q (rows ++ row ∷ [])
one_more P Q [] row weaker each new = (new, tt)
one_more P Q (r ∷ rows) row weaker each new =
    (weaker r each.0, one_more P Q rows row weaker each.1 new)

abbrev TooMany : ℕ → Config × Counts → Type 0
TooMany most row = most < row.1.misses

abbrev AtLeast : ℕ → Config → Config × Counts → Type 0
AtLeast most c row = row.1.misses ≤ most → bytes_of c ≤ bytes_of row.0

-- the next one is chosen
pub chosen : (most : ℕ) (rows : List (Config × Counts)) (best : Option Config) (c : Config)
    (n : Counts) → IsSmallestIfAny most rows best
    → n.misses ≤ most → IfSome best (λ b. bytes_of c < bytes_of b) → IsSmallestIfAny most (rows ++
    (c, n) ∷ []) (Some c)
chosen most rows None c n so_far few less = record {
  counts = n;
  among = Contains-push rows (c, n);
  few = few;
  least = one_more (TooMany most) (AtLeast most c) rows (c, n)
      (λ row above low. absurd (omega (arith, above, low))) so_far (λ _. omega arith);
}
chosen most rows (Some b) c n so_far few less = record {
  counts = n;
  among = Contains-push rows (c, n);
  few = few;
  least = one_more (AtLeast most b) (AtLeast most c) rows (c, n)
      (λ row above low. omega (arith, above low, less)) so_far.least (λ _. omega arith);
}

-- it misses too often, or is no smaller
pub kept : (most : ℕ) (rows : List (Config × Counts)) (best : Option Config) (c : Config)
    (n : Counts) → IsSmallestIfAny most rows best
    → (best ≡ None → most < n.misses) → IfSome best (λ b. n.misses ≤ most →
    bytes_of b ≤ bytes_of c) → IsSmallestIfAny most (rows ++ (c, n) ∷ []) best
kept most rows None c n so_far none some = one_more (TooMany most) (TooMany most) rows (c, n)
    (λ row above. above) so_far (none refl)
kept most rows (Some b) c n so_far none some = record {
  counts = so_far.counts;
  among = Contains-append_left rows ((c, n) ∷ []) (b, so_far.counts) so_far.among;
  few = so_far.few;
  least = one_more (AtLeast most b) (AtLeast most b) rows (c, n) (λ row above. above)
      so_far.least some;
}

-- why the best so far stays before a row
abbrev pub Stays : ℕ → Option Config → Config → Counts → Type 0
Stays most best c n = (best ≡ None → most < n.misses) × IfSome best (λ b. n.misses ≤ most →
    bytes_of b ≤ bytes_of c)

-- what the test of the sizes says
abbrev Tells : Option Config → Config → Bool → Type 0
Tells best c smaller = MatchOption best (smaller ≡ true) (λ b. smaller ≡ nat_lt (bytes_of c)
    (bytes_of b))

pub is_less : (best : Option Config) (c : Config) (smaller : Bool) → Tells best c smaller →
    smaller ≡ true → IfSome best (λ b. bytes_of c < bytes_of b)
is_less None c smaller tells is_true = tt
is_less (Some b) c smaller tells is_true = ltb-true (bytes_of c) (bytes_of b) (sym tells ∙ is_true)

pub is_no_less : (most : ℕ) (best : Option Config) (c : Config) (n : Counts) (smaller : Bool) →
    Tells best c smaller → smaller ≡ false
    → (best ≡ None → most < n.misses) × IfSome best (λ b. n.misses ≤ most → bytes_of b ≤ bytes_of c)
is_no_less most None c n smaller tells is_false =
    (λ none. absurd (false≢true (sym is_false ∙ tells)), tt)
is_no_less most (Some b) c n smaller tells is_false =
    (λ none. absurd cc, λ low. ltb-false (bytes_of c) (bytes_of b) (sym tells ∙ is_false))

pub misses_more : (most : ℕ) (best : Option Config) (c : Config) (n : Counts) → most < n.misses
    → (best ≡ None → most < n.misses) × IfSome best (λ b. n.misses ≤ most → bytes_of b ≤ bytes_of c)
misses_more most None c n above = (λ none. above, tt)
misses_more most (Some b) c n above = (λ none. above, λ low. absurd (omega (arith, above, low)))

-- the smallest of the rows that were counted is that of the text's
pub smallest_read : (most : ℕ) (r : Request) (remaining : Option (List ℕ)) (counts : CountedSweep)
    (rows : List (Config × Counts)) (found : Option Config)
    → rows ≡ counts.rows → IfSome remaining (λ text. counts ≡ counted_sweep r
    (events r.format r.kind text)) → IsSmallestIfAny most rows found
    → IfSome remaining (λ text. IsSmallestIfAny most (counted_rows (events r.format r.kind text)
    (rows_of r)) found)
smallest_read most r remaining counts rows found same known smallest =
    IfSome_then remaining known (λ text is.
    subst (λ rows. IsSmallestIfAny most rows found)
    (same ∙ ap (λ (c : CountedSweep). c.rows) is) smallest)
