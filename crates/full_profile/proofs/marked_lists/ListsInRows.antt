-- Lists that rows begin with: what is read of one, and one of them written anew.
use Rattle.std.proofs.Common.{◌≡◌, ℕ, zero, suc, ◌+◌, ◌*◌, ◌-◌, ◌<◌, ◌≤◌, ◌^◌, List, [], ◌∷◌}
use Rattle.std.proofs.Common.{length}
use Rattle.std.proofs.Common.{take}
use Rattle.std.proofs.Common.{drop, get_or, set, refl, sym, ◌∙◌, ap, subst, arith, length-set}
use Rattle.std.proofs.Common.{get_or-set_same, get_or-take}
use Rattle.std.proofs.Math.Nat.{mul-le-mul_right}
use Rattle.std.proofs.Common.{get_or-drop}
use Rattle.std.proofs.lemmas.List.{length-take-le, get_or_read, set-get_or}
use Rattle.std.proofs.lemmas.List.{take_all}
use Rattle.profile_core.proofs.Elements.{all_set}
use borrow.Rule.Slice.PartMut.{put_mid}
use Rattle.full_profile.specs.internal.Marked.{Marked, blocks_in, cleans_in}
use Rattle.full_profile.specs.internal.Rows.{AreRows, listed, all_listed}
use Rattle.profile_core.proofs.RowParts.{in_front, part_long, part_read, part_first, part_here}
use Rattle.profile_core.proofs.RowParts.{part_other, part_kept}
use Rattle.profile_core.proofs.RowsBySet.{length-rows_by_set, rows_at}
use Rattle.profile_core.specs.internal.rows.PlainRows.{plain_row}
use Rattle.full_profile.proofs.marked_lists.RowLists.{listed_put, listed_cut, lists_written}

-- what is known where the list of set k is asked for
pub record HasList (d k : ℕ) (blocks cleans lens : List ℕ) (m : Marked) : Type 0 where
  pub sound : AreRows d blocks cleans lens
  pub seen : record {
    depth = d;
    blocks = all_listed d blocks lens;
    cleans = all_listed d cleans lens;
  } ≡ m
  pub is_set : k < length m.blocks

pub known : {d k : ℕ} {blocks cleans lens : List ℕ} {m : Marked} → AreRows d blocks cleans lens →
    record {
      depth = d;
      blocks = all_listed d blocks lens;
      cleans = all_listed d cleans lens;
    } ≡ m → k < length m.blocks → HasList d k blocks cleans lens m
known sound seen is_set = record { sound = sound; seen = seen; is_set = is_set }

-- the sets are as many as the lengths
pub set_count : (d : ℕ) (blocks cleans lens : List ℕ) {m : Marked} → record {
  depth = d;
  blocks = all_listed d blocks lens;
  cleans = all_listed d cleans lens;
} ≡ m → length lens ≡ length m.blocks
set_count d blocks cleans lens seen =
    sym (length-rows_by_set (length lens) (listed d blocks lens)) ∙ ap (λ v. length v.blocks) seen

-- the front of a list, or 0
front_of : (len d : ℕ) (row : List ℕ) → 1 ≤ d → (len ≡ 0 → get_or row 0 0 ≡ 0) →
    get_or row 0 0 ≡ get_or (take len row) 0 0
front_of zero d row some blank = blank refl
front_of (suc len) d [] some blank = refl
front_of (suc len) d (x ∷ row) some blank = refl

first_set : (n : ℕ) (row : List ℕ) (x : ℕ) → 0 < n → take n (set row 0 x) ≡ set (take n row) 0 x
first_set zero row x some = absurd (omega arith)
first_set (suc n) [] x some = refl
first_set (suc n) (y ∷ row) x some = refl

module _ {d k : ℕ} {blocks cleans lens : List ℕ} {m : Marked}
    (h : HasList d k blocks cleans lens m) where
  pub within : k < length lens
  within = omega (arith, h.is_set, set_count d blocks cleans lens h.seen)

  pub row_small : d ≤ 2 ^ 22
  row_small =
      let one : 1 ≤ length lens = omega (arith, within) in
      omega (arith, h.sound.small, mul-le-mul_right d one)

  pub ends : k * d + d ≤ length lens * d
  ends = in_front k (length lens) d within

  pub blocks_end : k * d + d ≤ length blocks
  blocks_end = omega (arith, ends, h.sound.blocks_len)

  pub cleans_end : k * d + d ≤ length cleans
  cleans_end = omega (arith, ends, h.sound.cleans_len)

  pub depth_is : d ≡ m.depth
  depth_is = ap (λ v. v.depth) h.seen

  pub blocks_are : blocks_in m k ≡ take (get_or lens k 0) (take d (drop (k * d) blocks))
  blocks_are = ap (λ v. blocks_in v k) (sym h.seen) ∙
      rows_at (length lens) k (listed d blocks lens) within

  pub cleans_are : cleans_in m k ≡ take (get_or lens k 0) (take d (drop (k * d) cleans))
  cleans_are = ap (λ v. cleans_in v k) (sym h.seen) ∙
      rows_at (length lens) k (listed d cleans lens) within

  pub blocks_size : length (blocks_in m k) ≡ get_or lens k 0
  blocks_size = ap length blocks_are ∙ length-take-le (get_or lens k 0)
      (take d (drop (k * d) blocks))
      (omega (arith, part_long (k * d) d blocks blocks_end, h.sound.short k))

  pub cleans_size : length (cleans_in m k) ≡ get_or lens k 0
  cleans_size = ap length cleans_are ∙ length-take-le (get_or lens k 0)
      (take d (drop (k * d) cleans))
      (omega (arith, part_long (k * d) d cleans cleans_end, h.sound.short k))

  pub len_read : {len : ℕ} → len ≡ get_or lens k len → len ≡ length (blocks_in m k)
  len_read {len} read = get_or_read lens k len within read 0 ∙ sym blocks_size

  -- what is read of it
  pub front_read : {x : ℕ} → x ≡ get_or blocks (k * d) x → x ≡ get_or (blocks_in m k) 0 0
  front_read {x} read =
      let row = take d (drop (k * d) blocks) in
      let at : x ≡ get_or row 0 0 =
      part_read (k * d) d blocks blocks_end h.sound.some (omega arith) read in
      let first : get_or row 0 0 ≡ get_or blocks (k * d) 0 = sym at ∙
      get_or_read blocks (k * d) x (omega (arith, blocks_end, h.sound.some)) read 0 in
      at ∙ front_of (get_or lens k 0) d row h.sound.some (λ none. first ∙ h.sound.blank k none)
      ∙ ap (λ l. get_or l 0 0) (sym blocks_are)

  pub clean_read : {x : ℕ} → 0 < length (blocks_in m k) → x ≡ get_or cleans (k * d) x →
      x ≡ get_or (cleans_in m k) 0 0
  clean_read {x} some read =
      let row = take d (drop (k * d) cleans) in
      part_read (k * d) d cleans cleans_end h.sound.some (omega arith) read
      ∙ front_of (get_or lens k 0) d row h.sound.some
      (λ none. absurd (omega (arith, none, some, blocks_size)))
      ∙ ap (λ l. get_or l 0 0) (sym cleans_are)

  -- the last block of a full list
  pub last_read : {x : ℕ} → x ≡ get_or blocks (k * d + d - 1) x →
      length (blocks_in m k) ≡ m.depth → x ≡ get_or (blocks_in m k) (m.depth - 1) 0
  last_read {x} read full =
      let row = take d (drop (k * d) blocks) in
      let some : 1 ≤ d = h.sound.some in
      let at : x ≡ get_or row (d - 1) 0 =
      part_read (k * d) d blocks blocks_end (omega (arith, some)) (omega (arith, some)) read in
      let whole : blocks_in m k ≡ row = blocks_are ∙ take_all (get_or lens k 0) row
      (omega (arith, part_long (k * d) d blocks blocks_end, blocks_size, full, depth_is)) in
      at ∙ ap (λ l. get_or l (d - 1) 0) (sym whole)
      ∙ ap (λ n. get_or (blocks_in m k) (n - 1) 0) depth_is

-- one row written anew, and the length of its list
row_put : (d k : ℕ) (numbers lens row new : List ℕ) (len : ℕ) → k < length lens →
    k * d + d ≤ length numbers → length row ≡ d → take len row ≡ new →
    all_listed d (put_mid (k * d) d numbers row) (set lens k len)
    ≡ set (all_listed d numbers lens) k new
row_put d k numbers lens row new len lt ends long is =
    listed_put (plain_row d numbers) (plain_row d (put_mid (k * d) d numbers row)) k lens new len lt
    (ap (take len) (part_here (k * d) d numbers ends row long) ∙ is)
    (λ j other. part_other k j d numbers row (omega (arith, ends)) long other)

module _ {d k : ℕ} {blocks cleans lens : List ℕ} {m : Marked}
    (h : HasList d k blocks cleans lens m) where
  -- the front's clean depth
  front_put : (x : ℕ) → 0 < length (blocks_in m k) →
      all_listed d (set cleans (k * d) x) lens
      ≡ set (all_listed d cleans lens) k (set (cleans_in m k) 0 x)
  front_put x some =
      let row = take d (drop (k * d) cleans) in
      let len = get_or lens k 0 in
      let long : length (set row 0 x) ≡ d =
      length-set row 0 x ∙ part_long (k * d) d cleans (cleans_end h) in
      ap (λ ns. all_listed d ns lens)
      (part_first (k * d) d cleans (cleans_end h) x h.sound.some)
      ∙ ap (all_listed d (put_mid (k * d) d cleans (set row 0 x))) (sym (set-get_or lens k 0))
      ∙ row_put d k cleans lens (set row 0 x) (set (take len row) 0 x) len (within h)
      (cleans_end h) long (first_set len row x (omega (arith, some, blocks_size h)))
      ∙ ap (λ l. set (all_listed d cleans lens) k (set l 0 x)) (sym (cleans_are h))

  pub front_written : (x : ℕ) → 0 < length (blocks_in m k) → record {
    depth = d;
    blocks = all_listed d blocks lens;
    cleans = all_listed d (set cleans (k * d) x) lens;
  } ≡ record m { cleans = set m.cleans k (set (cleans_in m k) 0 x) }
  front_written x some =
      ap (λ ls. record { depth = d; blocks = all_listed d blocks lens; cleans = ls })
      (front_put x some)
      ∙ ap (λ (v : Marked). record v {
        cleans = set v.cleans k (set (cleans_in m k) 0 x);
      }) h.seen

  -- a row written anew, and the length of its list
  module _ (row blocks' : List ℕ) (len : ℕ) (put : blocks' ≡ put_mid (k * d) d blocks row)
      (long : length row ≡ d) (short : len ≤ d) (blank : len ≡ 0 → get_or row 0 0 ≡ 0) where
    first_is : (j : ℕ) → (j ≡ k → ⊥) → get_or blocks' (j * d) 0 ≡ get_or blocks (j * d) 0
    first_is j other =
        let some : 0 < d = omega (arith, h.sound.some) in
        let at : (xs : List ℕ) → get_or (take d (drop (j * d) xs)) 0 0 ≡ get_or xs (j * d) 0 =
        λ xs. get_or-take d (drop (j * d) xs) 0 0 some ∙ get_or-drop (j * d) xs 0 0
        ∙ ap (λ i. get_or xs i 0) (omega arith) in
        sym (at blocks')
        ∙ ap (λ xs. get_or (take d (drop (j * d) xs)) 0 0) put
        ∙ ap (λ xs. get_or xs 0 0)
        (part_other k j d blocks row (omega (arith, blocks_end h)) long other)
        ∙ at blocks

    first_here : get_or blocks' (k * d) 0 ≡ get_or row 0 0
    first_here =
        let some : 0 < d = omega (arith, h.sound.some) in
        ap (λ i. get_or blocks' i 0) (omega arith)
        ∙ sym (get_or-drop (k * d) blocks' 0 0)
        ∙ sym (get_or-take d (drop (k * d) blocks') 0 0 some)
        ∙ ap (λ xs. get_or (take d (drop (k * d) xs)) 0 0) put
        ∙ ap (λ xs. get_or xs 0 0) (part_here (k * d) d blocks (blocks_end h) row long)

    pub rows_sound : (cleans' : List ℕ) → length cleans' ≡ length cleans →
        AreRows d blocks' cleans' (set lens k len)
    rows_sound cleans' same = record {
      some = h.sound.some;
      small = subst (λ (n : ℕ). n * d ≤ 2 ^ 22) (sym (length-set lens k len)) h.sound.small;
      blocks_len = ap length put ∙ part_kept (k * d) d blocks (blocks_end h) row long ∙
          h.sound.blocks_len ∙ ap (λ n. n * d) (sym (length-set lens k len));
      cleans_len = same ∙ h.sound.cleans_len ∙ ap (λ n. n * d) (sym (length-set lens k len));
      short = all_set (λ _ n. n ≤ d) lens k len 0 (within h) short (λ j _. h.sound.short j);
      blank = all_set (λ j n. n ≡ 0 → get_or blocks' (j * d) 0 ≡ 0) lens k len 0 (within h)
          (λ none. first_here ∙ blank none)
          (λ j other none. first_is j other ∙ h.sound.blank j none);
    }

    pub lists_put : (clean_row cleans' new clean_new : List ℕ) →
        cleans' ≡ put_mid (k * d) d cleans clean_row → length clean_row ≡ d →
        take len row ≡ new → take len clean_row ≡ clean_new →
        record {
          depth = d;
          blocks = all_listed d blocks' (set lens k len);
          cleans = all_listed d cleans' (set lens k len);
        } ≡ record m { blocks = set m.blocks k new; cleans = set m.cleans k clean_new }
    lists_put clean_row cleans' new clean_new clean_put clean_long is clean_is =
        lists_written k new clean_new h.seen
        (ap (λ ns. all_listed d ns (set lens k len)) put
        ∙ row_put d k blocks lens row new len (within h) (blocks_end h) long is)
        (ap (λ ns. all_listed d ns (set lens k len)) clean_put
        ∙ row_put d k cleans lens clean_row clean_new len (within h) (cleans_end h) clean_long
        clean_is)

  -- a list that is emptied
  abbrev blank_row : List ℕ
  blank_row = set (take d (drop (k * d) blocks)) 0 0

  blank_put : set blocks (k * d) 0 ≡ put_mid (k * d) d blocks blank_row
  blank_put = part_first (k * d) d blocks (blocks_end h) 0 h.sound.some

  blank_long : length blank_row ≡ d
  blank_long = length-set (take d (drop (k * d) blocks)) 0 0 ∙
      part_long (k * d) d blocks (blocks_end h)

  pub emptied_sound : AreRows d (set blocks (k * d) 0) cleans (set lens k 0)
  emptied_sound = rows_sound blank_row (set blocks (k * d) 0) 0 blank_put blank_long (omega arith)
      (λ _. get_or-set_same (take d (drop (k * d) blocks)) 0 0 0
      (omega (arith, part_long (k * d) d blocks (blocks_end h), h.sound.some)))
      cleans refl

  pub list_emptied : record {
    depth = d;
    blocks = all_listed d (set blocks (k * d) 0) (set lens k 0);
    cleans = all_listed d cleans (set lens k 0);
  } ≡ record m { blocks = set m.blocks k []; cleans = set m.cleans k [] }
  list_emptied = lists_written k [] [] h.seen
      (ap (λ ns. all_listed d ns (set lens k 0)) blank_put
      ∙ row_put d k blocks lens blank_row [] 0 (within h) (blocks_end h) blank_long refl)
      (listed_cut (plain_row d cleans) k lens (within h))
