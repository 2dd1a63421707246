-- What follows a member of the table is the table after it.
use Rattle.std.proofs.Common.{◌≡◌, ℕ, Bool, true, false, ◌&&◌, List, [], ◌∷◌, ◌++◌, take, drop}
use Rattle.std.proofs.Common.{take-append-drop, sym, refl, subst, cond, ap, ◌∙◌, Option, None, Some}
use Rattle.std.proofs.Common.{inl, inr, append_assoc, append-nil}
use Rattle.std.specs.Prelude.{filter}
use Rattle.std.proofs.lemmas.Bool.{cases_Bool, cond-true, cond-false}
use Rattle.sweep_core.specs.declared.space.Config.{Config}
use Rattle.sweep_core.specs.Space.{Ranges, is_valid}
use Rattle.sweep_core.specs.Table.{IsRising, is_less, is_after, table, all_configs, first_rows}
use Rattle.sweep_core.specs.Table.{more_rows}
use Rattle.std.specs.List.{flat_map}
use Rattle.std.proofs.lemmas.List.Concat.{flat_map-append}
use Rattle.std.proofs.Math.Seq.{take-add}
use Rattle.trace_core.specs.declared.events.Event.{Event}
use Rattle.sweep_core.specs.SweepText.{rows_text, row_of, row_counts, configs_of, header_of}
use Rattle.sweep_core.specs.SweepText.{sweep_text}
use Rattle.sweep_core.specs.Pages.{ArePages}
use Rattle.sweep_core.specs.declared.request.Request.{Request}
use Rattle.trace_core.specs.Reading.{events}
use Rattle.std.specs.List.{AllByRecursion as Each}
use Rattle.sweep_core.proofs.Lists.{Each-split, filter-all}
use Rattle.sweep_core.proofs.Members.{table-each, table-rises}
use Rattle.sweep_core.proofs.Orders.{is_less-asym, is_less-same, later_after}

-- a filter that another has gone before
filter-again : (p q r : Config → Bool) → ((d : Config) → q d ≡ (p d && r d)) → (gs : List Config) →
    filter q gs ≡ filter r (filter p gs)
filter-again p q r both [] = refl
filter-again p q r both (g ∷ gs) =
    elim (cases_Bool (p g)) [
      | inl passes ↦ ap (λ b. cond b (g ∷ filter q gs) (filter q gs)) (both g ∙
          ap (λ b. b && r g) passes)
          ∙ ap (λ l. cond (r g) (g ∷ l) l) (filter-again p q r both gs) ∙
          ap (filter r) (sym (cond-true _ _ _ passes))
      | inr fails ↦ cond-false _ _ _ (both g ∙ ap (λ b. b && r g) fails) ∙
          filter-again p q r both gs ∙ ap (filter r) (sym (cond-false _ _ _ fails))
    ]

-- in a rising list the configurations greater than one are those that follow it
rest-of : (c : Config) (xs ys : List Config) → IsRising (xs ++ c ∷ ys) →
    filter (is_less c) (xs ++ c ∷ ys) ≡ ys
rest-of c [] ys r = cond-false _ _ _ (is_less-same c) ∙ filter-all (is_less c) ys r.0
rest-of c (x ∷ xs) ys r =
    cond-false _ _ _ (is_less-asym x c (Each-split (λ d. is_less x d ≡ true) xs (c ∷ ys) r.0).1.0) ∙
    rest-of c xs ys r.1

pub table-rest : (space : Ranges) (after : Option Config) (c : Config) (xs ys : List Config) →
    table space after ≡ xs ++ c ∷ ys → table space (Some c) ≡ ys
unfolding table
table-rest space after c xs ys e =
    let here = (Each-split _ xs (c ∷ ys)
    (subst (Each (λ d. (is_valid space d ≡ true) × (is_after after d ≡ true))) e
    (table-each space after))).1.0.1 in
    filter-again (λ d. is_valid space d && is_after after d) (λ d. is_valid space d && is_less c d)
    (is_less c) (λ d. later d here) (all_configs space.assoc)
    ∙ ap (filter (is_less c)) e ∙ rest-of c xs ys (subst IsRising e (table-rises space after))
  where
    later : (d : Config) → is_after after c ≡ true →
        (is_valid space d && is_less c d) ≡ ((is_valid space d && is_after after d) && is_less c d)
    later d here =
        elim (cases_Bool (is_less c d)) [
          | inl less ↦ rw (less, later_after after c d here less) (same (is_valid space d))
          | inr other ↦ rw other (none (is_valid space d) (is_after after d))
        ]
      where
        same : (v : Bool) → (v && true) ≡ ((v && true) && true)
        same true = refl
        same false = refl

        none : (v a : Bool) → (v && false) ≡ ((v && a) && false)
        none true true = refl
        none true false = refl
        none false a = refl

pub first_rows-join : {A : Type 0} (n : ℕ) (m : Option ℕ) (xs : List A) → take n xs ++
    first_rows m (drop n xs) ≡ first_rows (more_rows n m) xs
first_rows-join n None xs = take-append-drop n xs
first_rows-join n (Some m) xs = sym (take-add n m xs)

pub rows-join : (space : Ranges) (after : Option Config) (n : ℕ) (m : Option ℕ) (c : Config)
    (front : List Config) (es : List Event)
    → take n (table space after) ≡ front ++ c ∷ []
    → rows_text es (take n (table space after)) ++
    rows_text es (first_rows m (table space (Some c)))
    ≡ rows_text es (first_rows (more_rows n m) (table space after))
unfolding rows_text
rows-join space after n m c front es last =
    let whole : table space after ≡ front ++ c ∷ drop n (table space after) =
    sym (take-append-drop n (table space after)) ∙ ap (λ l. l ++ drop n (table space after)) last ∙
    append_assoc front (c ∷ []) (drop n (table space after)) in
    let rest = table-rest space after c front (drop n (table space after)) whole in
    sym (flat_map-append (λ d. row_of d (row_counts es d)) (take n (table space after))
    (first_rows m (table space (Some c))))
    ∙ ap (flat_map (λ d. row_of d (row_counts es d))) (ap (λ l. take n (table space after) ++
    first_rows m l) rest ∙ first_rows-join n m (table space after))

pub texts-join : (r : Request) (text : List ℕ) (n : ℕ) (m : Option ℕ) (front : List Config)
    (c : Config) → take n (configs_of r) ≡ front ++ c ∷ []
    → sweep_text (record r { rows = Some n }) text ++
    sweep_text (record r { after = Some c; rows = m }) text
    ≡ sweep_text (record r { rows = more_rows n m }) text
unfolding sweep_text
texts-join r text n m front c last =
    let es = events r.format r.kind text in
    append_assoc (header_of r.after) (rows_text es (take n (configs_of r)))
    (rows_text es (first_rows m (table r.space (Some c))))
    ∙ ap (λ l. header_of r.after ++ l) (rows-join r.space r.after n m c front es last)

last-page : (n : ℕ) (r : Request) (text : List ℕ) → drop n (configs_of r) ≡ []
    → sweep_text (record r { rows = Some n }) text ≡ sweep_text (record r { rows = None }) text
unfolding sweep_text
last-page n r text none =
    ap (λ rows. header_of r.after ++ rows_text (events r.format r.kind text) rows)
    (sym (append-nil (take n (configs_of r))) ∙ ap (λ l. take n (configs_of r) ++ l) (sym none) ∙
    take-append-drop n (configs_of r))

pub pages-join : (n : ℕ) (r : Request) (pages : List Request) (text : List ℕ) → ArePages n r pages
    → flat_map (λ page. sweep_text page text) pages ≡ sweep_text (record r { rows = None }) text
pages-join n r [] text are = absurd are
pages-join n r (page ∷ []) text (is, last) =
    append-nil (sweep_text page text) ∙ ap (λ p. sweep_text p text) is ∙ last-page n r text last
pages-join n r (page ∷ next ∷ more) text (is, front, last, ends, rest) =
    ap (λ p. sweep_text p text ++ flat_map (λ q. sweep_text q text) (next ∷ more)) is
    ∙ ap (λ l. sweep_text (record r { rows = Some n }) text ++ l)
    (pages-join n (record r { after = Some last }) (next ∷ more) text rest)
    ∙ texts-join r text n None front last ends
