-- The lists of all sets, where each is what a row begins with, and beside them their clean depths.
use Rattle.std.proofs.Common.{◌≡◌, ℕ, ◌<◌, List, [], length, take, get_or, set, refl, sym, ◌∙◌, ap}
use Rattle.std.proofs.Common.{arith, length-set, get_or-set_same, get_or-set_other}
use Rattle.std.specs.Prelude.{replicate}
use Rattle.std.proofs.lemmas.List.{length-replicate, get_or-replicate}
use Rattle.profile_core.specs.internal.rows.Rows.{rows_by_set}
use Rattle.profile_core.proofs.Elements.{all_same}
use Rattle.profile_core.proofs.RowsBySet.{rows_put, rows_same}
use Rattle.full_profile.specs.internal.Marked.{Marked}

abbrev pub lists_of : (ℕ → List ℕ) → List ℕ → List (List ℕ)
lists_of row lens = rows_by_set (length lens) (λ k. take (get_or lens k 0) (row k))

-- one row written anew, and the length of its list
pub listed_put : (row row' : ℕ → List ℕ) (k : ℕ) (lens new : List ℕ) (len : ℕ) → k < length lens →
    take len (row' k) ≡ new → ((j : ℕ) → (j ≡ k → ⊥) → row' j ≡ row j) →
    lists_of row' (set lens k len) ≡ set (lists_of row lens) k new
listed_put row row' k lens new len lt is others =
    let list = λ (j : ℕ). take (get_or lens j 0) (row j) in
    let list' = λ (j : ℕ). take (get_or (set lens k len) j 0) (row' j) in
    ap (λ n. rows_by_set n list') (length-set lens k len)
    ∙ rows_put (length lens) k list list' new lt
    (ap (λ n. take n (row' k)) (get_or-set_same lens k len 0 lt) ∙ is)
    (λ j _ other. ap (λ n. take n (row' j)) (get_or-set_other lens k j len 0 other)
    ∙ ap (take (get_or lens j 0)) (others j other))

-- only the length of a list written
pub listed_cut : (row : ℕ → List ℕ) (k : ℕ) (lens : List ℕ) → k < length lens →
    lists_of row (set lens k 0) ≡ set (lists_of row lens) k []
listed_cut row k lens lt = listed_put row row k lens [] 0 lt refl (λ _ _. refl)

-- all lists are empty
pub none_listed : (m : ℕ) (row : ℕ → List ℕ) {lens : List ℕ} → lens ≡ replicate m 0 →
    lists_of row lens ≡ replicate m []
none_listed m row {lens} none =
    let count : length lens ≡ m = ap length none ∙ length-replicate m 0 in
    rows_same (length lens) (λ k. take (get_or lens k 0) (row k)) (replicate m [])
    (length-replicate m [] ∙ sym count)
    (λ k lt. ap (λ ns. take (get_or ns k 0) (row k)) none
    ∙ ap (λ n. take n (row k)) (all_same m k 0)
    ∙ sym (get_or-replicate m k [] [] (omega (arith, lt, count))))

-- lists and clean depths of which those of set k are written anew, as new arrays have them
pub lists_written : (k : ℕ) (new clean_new : List ℕ) {d : ℕ}
    {blocks cleans blocks' cleans' : List (List ℕ)} {m : Marked} →
    record { depth = d; blocks = blocks; cleans = cleans } ≡ m → blocks' ≡ set blocks k new →
    cleans' ≡ set cleans k clean_new → record { depth = d; blocks = blocks'; cleans = cleans' }
    ≡ record m { blocks = set m.blocks k new; cleans = set m.cleans k clean_new }
lists_written k new clean_new {d} {blocks} {cleans} {blocks'} {cleans'} seen b c =
    ap (λ ls. record { depth = d; blocks = ls; cleans = cleans' }) b
    ∙ ap (λ ls. record { depth = d; blocks = set blocks k new; cleans = ls }) c
    ∙ ap (λ (v : Marked). record v {
      blocks = set v.blocks k new;
      cleans = set v.cleans k clean_new;
    }) seen
