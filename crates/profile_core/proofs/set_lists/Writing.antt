-- A set's list is written anew: what stands in all lists then, and that they are still sound.
use Rattle.std.proofs.Common.{◌≡◌, ℕ, ◌+◌, ◌*◌, ◌<◌, ◌≤◌, ◌^◌, List, [], ◌∷◌, length, take, get_or}
use Rattle.std.proofs.Common.{set, refl, sym, ◌∙◌, ap, subst, arith, add-one, length-set, true}
use Rattle.std.proofs.Common.{false, not, ◌&&◌, cond, eqb}
use Rattle.std.proofs.Math.Seq.{take-nil}
use Rattle.std.proofs.lemmas.Bool.{ne_eqb}
use Rattle.std.proofs.lemmas.List.{set-get_or, get_or-set_other}
use Rattle.cache_core.specs.Touched.{TouchedValue, Covers, after_count, with_set}
use Rattle.cache_core.proofs.TouchedSets.{covers_change}
use Rattle.profile_core.specs.profile.RecencyList.{is_front, move_to_front}
use Rattle.profile_core.specs.internal.set_lists.Moves.{is_second}
use Rattle.profile_core.specs.internal.rows.Rows.{RowsValue, row_for, with_row, list_in_row}
use Rattle.profile_core.specs.internal.set_lists.Lists.{lists_in, IsListed, IsBroughtInRow}
use Rattle.profile_core.proofs.rows.Bringing.{row_exchanged, second_long}
use Rattle.profile_core.proofs.Elements.{all_set}
use Rattle.profile_core.proofs.set_lists.ListLemmas.{HasList, list_set, within, among_rows, list_is}
use Rattle.profile_core.proofs.set_lists.ListLemmas.{list_size, row_long, len_read, front_read}

-- what is known where set k is touched: its list, whose length and front are read
pub record IsReadList (k held front : ℕ) (fronts : List ℕ) (rows : RowsValue) (lens : List ℕ)
    (touched : TouchedValue) (lists : List (List ℕ)) : Type 0 where
  pub known : HasList k fronts rows lens touched lists
  pub held_is : held ≡ get_or lens k 0
  pub front_is : front ≡ get_or fronts k 0

-- all lists once block x was brought to the front of set k's, with rows of n numbers
pub record IsBrought (n k x : ℕ) (fronts : List ℕ) (rows : RowsValue) (lens : List ℕ)
    (touched : TouchedValue) (lists : List (List ℕ)) : Type 0 where
  pub listed : IsListed fronts rows lens touched
  pub stride_is : rows.stride ≡ n
  pub lists_are : lists_in fronts rows.rows lens ≡ set lists k
      (take (n + 1) (move_to_front x (get_or lists k [])))

-- the list of the sets that have a block, where a set with a block has some again
covers_kept : (touched : TouchedValue) (lens : List ℕ) (k held len : ℕ) → k < length lens →
    held ≡ get_or lens k 0 → 0 < held → Covers touched lens
    → Covers touched (set lens k len)
covers_kept touched lens k held len lt is some covers =
    let filled : eqb held 0 ≡ false = ne_eqb held 0 (λ e. absurd (omega (arith, e, some))) in
    let grown : TouchedValue = record touched {
      sets =
          with_set touched.capacity k touched.sets;
    } in
    let same : after_count k held len touched ≡ touched =
    ap (λ b. cond (b && not (eqb len 0)) grown touched) filled in
    subst (λ listed. Covers listed (set lens k len)) same
    (covers_change touched lens k held len lt is covers)

module _ {k held front : ℕ} {fronts : List ℕ} {rows : RowsValue} {lens : List ℕ}
    {touched : TouchedValue} {lists : List (List ℕ)}
    (t : IsReadList k held front fronts rows lens touched lists) where
  abbrev list : List ℕ
  list = get_or lists k []

  abbrev n : ℕ
  n = rows.stride

  pub held_short : held ≤ n + 1
  held_short = omega (arith, t.held_is, t.known.sound.short k)

  -- the list, as what is read of it says
  pub list_read : list ≡ list_in_row rows k front held
  list_read = grind (arith, list_is)

  list_long : length list ≡ held
  list_long = list_size t.known ∙ sym t.held_is

  -- it is written anew, with block x in front
  module _ {len x : ℕ} (front' : ℕ) (new : List ℕ) {touched' : TouchedValue}
      (long : length new ≡ n) (some : 0 < len) (short : len ≤ n + 1)
      (is : take len (front' ∷ new) ≡ take (n + 1) (move_to_front x list))
      (covers : Covers touched' (set lens k len)) where
    brought : IsBrought n k x (set fronts k front') (with_row rows k new) (set lens k len) touched'
        lists
    brought = record {
      listed = record {
        fronts_len = length-set fronts k front' ∙ t.known.sound.fronts_len ∙ sym (length-set lens k
            len);
        rows_len = omega (
          arith,
          t.known.sound.rows_len,
          length-set lens k len,
          length-set rows.rows k new,
        );
        long = λ i lt. all_set (λ j row. j < length rows.rows → length row ≡ n) rows.rows k new []
            (among_rows t.known) (λ _. long) (λ j _. t.known.sound.long j) i
            (omega (arith, lt, length-set rows.rows k new));
        small = subst (λ (m : ℕ). m * (n + 1) ≤ 2 ^ 22) (sym (length-set lens k len))
            t.known.sound.small;
        short = all_set (λ _ m. m ≤ n + 1) lens k len 0 (within t.known) short
            (λ j _. t.known.sound.short j);
        blank = all_set (λ j m. m ≡ 0 → get_or (set fronts k front') j 0 ≡ 0) lens k len 0
            (within t.known) (λ none. absurd (omega (arith, none, some)))
            (λ j other none. get_or-set_other fronts k j front' 0 other ∙
            t.known.sound.blank j none);
        covers = covers;
      };
      stride_is = refl;
      lists_are =
          list_set k front' new len fronts rows.rows lens t.known.sound.fronts_len
          t.known.sound.rows_len (within t.known)
          ∙ ap (λ ls. set ls k (take len (front' ∷ new))) t.known.lists_are
          ∙ ap (set lists k) is;
    }

  -- a list of two blocks has a number behind its front
  pub some_behind : (x : ℕ) → is_second x list ≡ true → 0 < n
  some_behind x second = omega (arith, second_long x list second, list_long, held_short)

  -- it exchanges its first two blocks
  pub second_brought : {x front' : ℕ} {rows' : RowsValue} → front' ≡ x →
      rows' ≡ with_row rows k (set (row_for rows k) 0 front) →
      is_front x list ≡ false → is_second x list ≡ true →
      IsBrought n k x (set fronts k front') rows' lens touched lists
  second_brought {x} {front'} {rows'} is put other second =
      let new = set (row_for rows k) 0 front in
      let len_kept : set lens k held ≡ lens = ap (set lens k) t.held_is ∙ set-get_or lens k 0 in
      subst (λ rs. IsBrought n k x (set fronts k front') rs lens touched lists) (sym put)
      (subst (λ ls. IsBrought n k x (set fronts k front') (with_row rows k new) ls touched lists)
      len_kept (brought front' new (length-set (row_for rows k) 0 front ∙ row_long t.known)
      (omega (arith, list_long, second_long x list second)) held_short
      (ap (λ f. take held (f ∷ new)) is ∙ row_exchanged x held front n (row_for rows k) list
      list_read list_long held_short (row_long t.known) other second)
      (subst (λ ls. Covers touched ls) (sym len_kept) t.known.sound.covers)))

  -- a block is brought to the front in its row
  pub row_brought : {x front' len : ℕ} {rows' : RowsValue} →
      IsBroughtInRow x (list_in_row rows k front held) front' (row_for rows' k) len →
      length (row_for rows' k) ≡ n → rows' ≡ with_row rows k (row_for rows' k) → 0 < held →
      IsBrought n k x (set fronts k front') rows' (set lens k len) touched lists
  row_brought {x} {front'} {len} {rows'} r long others some =
      let new = row_for rows' k in
      subst (λ rs. IsBrought n k x (set fronts k front') rs (set lens k len) touched lists)
      (sym others) (brought front' new long r.some (omega (arith, r.row.fits, long))
      (r.list_is ∙ ap (λ ys. take (length new + 1) (move_to_front x ys)) (sym list_read) ∙
      ap (λ j. take (j + 1) (move_to_front x list)) long)
      (covers_kept touched lens k held len (within t.known) t.held_is some t.known.sound.covers))

module _ {k : ℕ} {fronts : List ℕ} {rows : RowsValue} {lens : List ℕ} {touched : TouchedValue}
    {lists : List (List ℕ)} (l : HasList k fronts rows lens touched lists) where
  -- the length and the front as they are read
  pub read_at : {held front : ℕ} → held ≡ get_or lens k held → front ≡ get_or fronts k front →
      IsReadList k held front fronts rows lens touched lists
  read_at held front =
      record { known = l; held_is = len_read l held; front_is = front_read l front }

  -- an empty list gets its first block
  pub first_brought : (x : ℕ) {touched' : TouchedValue} → get_or lists k [] ≡ [] →
      touched' ≡ after_count k 0 1 touched →
      IsBrought rows.stride k x (set fronts k x) rows (set lens k 1) touched' lists
  first_brought x {touched'} none grown =
      let t : IsReadList k 0 (get_or fronts k 0) fronts rows lens touched lists = record {
        known = l;
        held_is = omega (arith, list_size l, ap length none);
        front_is = refl;
      } in
      let kept : with_row rows k (row_for rows k) ≡ rows =
      ap (λ rs. record rows { rows = rs }) (set-get_or rows.rows k []) in
      subst (λ rs. IsBrought rows.stride k x (set fronts k x) rs (set lens k 1) touched' lists) kept
      (brought t x (row_for rows k) (row_long l) (omega arith) (omega arith)
      (sym (ap (λ ys. take (rows.stride + 1) (move_to_front x ys)) none ∙
      ap (λ j. take j (x ∷ [])) (add-one rows.stride) ∙ ap (λ ys. x ∷ ys) (take-nil rows.stride)))
      (subst (λ u. Covers u (set lens k 1)) (sym grown)
      (covers_change touched lens k 0 1 (within l) t.held_is l.sound.covers)))
