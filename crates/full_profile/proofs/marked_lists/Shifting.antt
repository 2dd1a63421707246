-- Lists that are shifted by one index, with a number in front, until a block is found.
use Rattle.std.proofs.Common.{◌≡◌, ℕ, ◌+◌, ◌<◌, ◌≤◌, true, false, eqb, List, ◌∷◌, ◌++◌, length}
use Rattle.std.proofs.Common.{take, drop, get_or, set, sym, ◌∙◌, ap, arith, add-one, below_more}
use Rattle.std.proofs.Common.{append-nil}
use Rattle.std.specs.List.{remove}
use Rattle.std.proofs.lemmas.Bool.{eqb-true}
use Rattle.std.proofs.lemmas.List.{take_all, drop_all}
use Rattle.profile_core.specs.profile.RecencyList.{index_of}
use Rattle.profile_core.proofs.Shifting.{passed_at, passed_more, index_found, index_end}
use Rattle.profile_core.proofs.Shifting.{is_found, is_absent, length-remove, remove_end}
use Rattle.full_profile.specs.declared.marked_lists.row.Shifted.TheVariants.{Found, Out}
use Rattle.full_profile.specs.internal.Rows.{marked_shift_of}

-- after i numbers of a list were passed: each moved by one index, with y in front
pub record IsCarried (y i carried : ℕ) (xs now : List ℕ) : Type 0 where
  pub within : i ≤ length xs
  pub carried_is : carried ≡ get_or (y ∷ xs) i 0
  pub now_is : now ≡ take i (y ∷ xs) ++ drop i xs

found_at : (y i : ℕ) (xs : List ℕ) → i < length xs →
    take (i + 1) (y ∷ xs) ++ drop (i + 1) xs ≡ take (length xs) (y ∷ remove xs i)
found_at y i xs lt = grind (arith, add-one, take_all, length-remove)

all_at : (y i : ℕ) (xs : List ℕ) → i ≡ length xs →
    take i (y ∷ xs) ++ drop i xs ≡ take (length xs) (y ∷ remove xs (length xs))
all_at y i xs e = grind (arith, drop_all, append-nil, remove_end)

module _ {y i carried : ℕ} {xs now : List ℕ} (p : IsCarried y i carried xs now) where
  module _ (lt : i < length xs) where
    pub next_is : get_or now i 0 ≡ get_or xs i 0
    next_is = ap (λ l. get_or l i 0) p.now_is ∙ passed_at y xs i lt

    put_is : {put : ℕ} → put ≡ carried →
        set now i put ≡ take (i + 1) (y ∷ xs) ++ drop (i + 1) xs
    put_is put = grind (arith, passed_more)

    pub carried_next : {other put : ℕ} → put ≡ carried → other ≡ get_or now i 0 →
        IsCarried y (i + 1) other xs (set now i put)
    carried_next put is = record {
      within = omega (arith, lt);
      carried_is = is ∙ next_is ∙ ap (λ j. get_or (y ∷ xs) j 0) (sym (add-one i));
      now_is = put_is put;
    }

    pub carried_found : {put : ℕ} → put ≡ carried →
        set now i put ≡ take (length xs) (y ∷ remove xs i)
    carried_found put = put_is put ∙ found_at y i xs lt

  pub carried_all : i ≡ length xs → now ≡ take (length xs) (y ∷ remove xs (length xs))
  carried_all e = p.now_is ∙ all_at y i xs e

-- a block is looked for in a list, whose clean depths move with it
pub record ArePassed (block clean i carried carried_clean : ℕ)
    (blocks cleans now now_cleans : List ℕ) : Type 0 where
  pub beside : length cleans ≡ length blocks
  pub others : (k : ℕ) → k < i → eqb (get_or blocks k 0) block ≡ false
  pub block_carried : IsCarried block i carried blocks now
  pub clean_carried : IsCarried clean i carried_clean cleans now_cleans

module _ {block clean i carried carried_clean : ℕ} {blocks cleans now now_cleans : List ℕ}
    (p : ArePassed block clean i carried carried_clean blocks cleans now now_cleans) where
  module _ (lt : i < length blocks) {put put_clean other other_clean : ℕ} (put_is : put ≡ carried)
      (put_clean_is : put_clean ≡ carried_clean) (other_is : other ≡ get_or now i 0)
      (other_clean_is : other_clean ≡ get_or now_cleans i 0) where
    clean_lt : i < length cleans
    clean_lt = omega (arith, lt, p.beside)

    block_is : other ≡ get_or blocks i 0
    block_is = other_is ∙ next_is p.block_carried lt

    pub passed_next : eqb other block ≡ false →
        ArePassed block clean (i + 1) other other_clean blocks cleans (set now i put)
        (set now_cleans i put_clean)
    passed_next ne = record {
      beside = p.beside;
      others = below_more _ _ p.others (ap (λ z. eqb z block) (sym block_is) ∙ ne);
      block_carried = carried_next p.block_carried lt put_is other_is;
      clean_carried = carried_next p.clean_carried clean_lt put_clean_is other_clean_is;
    }

    module _ (is : eqb other block ≡ true) where
      pub index_is : index_of block blocks ≡ i
      index_is = index_found block i blocks lt p.others
          (sym block_is ∙ eqb-true other block is)

      pub passed_found : Found i other_clean ≡ marked_shift_of block block blocks clean cleans
      passed_found =
          let at : other_clean ≡ get_or cleans i 0 =
          other_clean_is ∙ next_is p.clean_carried clean_lt in
          grind (arith, is_found, index_is, at)

      pub found_blocks : set now i put ≡ take (length blocks)
          (block ∷ remove blocks (index_of block blocks))
      found_blocks = carried_found p.block_carried lt put_is ∙
          ap (λ j. take (length blocks) (block ∷ remove blocks j)) (sym index_is)

      pub found_cleans : set now_cleans i put_clean ≡ take (length cleans)
          (clean ∷ remove cleans (index_of block blocks))
      found_cleans = carried_found p.clean_carried clean_lt put_clean_is ∙
          ap (λ j. take (length cleans) (clean ∷ remove cleans j)) (sym index_is)

  module _ (end : i ≡ length blocks) where
    nowhere : index_of block blocks ≡ length blocks
    nowhere = index_end block blocks (λ k lt. p.others k (omega (arith, end, lt)))

    pub passed_all : Out carried carried_clean ≡ marked_shift_of block block blocks clean cleans
    passed_all =
        let first : carried ≡ get_or (block ∷ blocks) (length blocks) 0 =
        p.block_carried.carried_is ∙ ap (λ j. get_or (block ∷ blocks) j 0) end in
        let second : carried_clean ≡ get_or (clean ∷ cleans) (length blocks) 0 =
        p.clean_carried.carried_is ∙ ap (λ j. get_or (clean ∷ cleans) j 0) end in
        grind (arith, is_absent, nowhere, first, second)

    pub all_blocks : now ≡ take (length blocks) (block ∷ remove blocks (index_of block blocks))
    all_blocks = carried_all p.block_carried end ∙
        ap (λ j. take (length blocks) (block ∷ remove blocks j)) (sym nowhere)

    pub all_cleans : now_cleans ≡ take (length cleans)
        (clean ∷ remove cleans (index_of block blocks))
    all_cleans = carried_all p.clean_carried (omega (arith, end, p.beside)) ∙
        ap (λ j. take (length cleans) (clean ∷ remove cleans j))
        (p.beside ∙ sym nowhere)
