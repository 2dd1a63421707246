-- Lists that sparse rows begin with: what is read of one, and one of them written anew.
use Rattle.std.proofs.Common.{◌≡◌, ℕ, zero, suc, ◌+◌, ◌*◌, ◌<◌, ◌≤◌, ◌^◌, List, [], ◌∷◌}
use Rattle.std.proofs.Common.{length, take, get_or, set, refl, sym, ◌∙◌, ap, subst, arith}
use Rattle.std.proofs.Common.{length-set, get_or-set_same}
use Rattle.std.proofs.Math.Nat.{mul-le-mul_right}
use Rattle.std.proofs.lemmas.List.{length-take-le, get_or_read, set-get_or}
use borrow.Rule.Slice.PartMut.{put_mid}
use Rattle.profile_core.proofs.Elements.{all_set}
use Rattle.profile_core.proofs.Places.{taken_few}
use Rattle.profile_core.proofs.SparseRestLemmas.{rest_ends, rest_long}
use Rattle.profile_core.specs.internal.rests.Places.{taken_count}
use Rattle.profile_core.specs.internal.rests.SparseRests.{sparse_rest, IsSparse}
use Rattle.full_profile.specs.internal.Marked.{Marked, blocks_in, cleans_in}
use Rattle.full_profile.specs.internal.SparseRows.{AreSparse, sparse_list, all_sparse}
use Rattle.profile_core.proofs.RowParts.{part_read, part_first, part_here, part_other}
use Rattle.profile_core.proofs.RowParts.{part_kept}
use Rattle.profile_core.proofs.RowsBySet.{length-rows_by_set, rows_at, rows_same}
use Rattle.full_profile.proofs.marked_lists.RowLists.{listed_put, listed_cut, lists_written}

-- what is known where the list of set k is asked for
pub record HasSparse (d k : ℕ) (places blocks cleans lens : List ℕ) (room clean_room : ℕ)
    (m : Marked) : Type 0 where
  pub sound : AreSparse d places blocks cleans lens room clean_room
  pub seen : record {
    depth = d;
    blocks = all_sparse d places blocks lens;
    cleans = all_sparse d places cleans lens;
  } ≡ m
  pub is_set : k < length m.blocks

pub known : {d k room clean_room : ℕ} {places blocks cleans lens : List ℕ} {m : Marked} →
    AreSparse d places blocks cleans lens room clean_room → record {
      depth = d;
      blocks = all_sparse d places blocks lens;
      cleans = all_sparse d places cleans lens;
    } ≡ m → k < length m.blocks → HasSparse d k places blocks cleans lens room clean_room m
known sound seen is_set = record { sound = sound; seen = seen; is_set = is_set }

-- the sets are as many as the lengths
pub set_count : (d : ℕ) (places blocks cleans lens : List ℕ) {m : Marked} → record {
  depth = d;
  blocks = all_sparse d places blocks lens;
  cleans = all_sparse d places cleans lens;
} ≡ m → length lens ≡ length m.blocks
set_count d places blocks cleans lens seen =
    sym (length-rows_by_set (length lens) (sparse_list d places blocks lens))
    ∙ ap (λ v. length v.blocks) seen

-- the array of all rows is not long
pub numbers_few : {n room : ℕ} {places numbers : List ℕ} → IsSparse n places numbers room →
    length numbers ≤ 2 ^ 26
numbers_few {n} {room} {places} a =
    let fewer : taken_count places + 1 ≤ length places + 1 = omega (arith, taken_few places) in
    omega (arith, a.numbers_len, a.small, mul-le-mul_right n fewer)

-- the first of a list that is not empty, or 0
first_of : (len : ℕ) (row : List ℕ) → (len ≡ 0 → get_or row 0 0 ≡ 0) →
    get_or row 0 0 ≡ get_or (take len row) 0 0
first_of zero row blank = blank refl
first_of (suc len) [] blank = refl
first_of (suc len) (x ∷ row) blank = refl

first_set : (n : ℕ) (row : List ℕ) (x : ℕ) → 0 < n → take n (set row 0 x) ≡ set (take n row) 0 x
first_set zero row x some = absurd (omega arith)
first_set (suc n) [] x some = refl
first_set (suc n) (y ∷ row) x some = refl

module _ {d k room clean_room : ℕ} {places blocks cleans lens : List ℕ} {m : Marked}
    (h : HasSparse d k places blocks cleans lens room clean_room m) where
  abbrev place : ℕ
  place = get_or places k 0

  pub within : k < length lens
  within = omega (arith, h.is_set, set_count d places blocks cleans lens h.seen)

  pub place_within : k < length places
  place_within = omega (arith, within, h.sound.count)

  pub some : 1 ≤ d
  some = h.sound.blocks_sparse.some

  pub row_small : d ≤ 2 ^ 22
  row_small =
      let one : 1 ≤ length lens = omega (arith, within) in
      omega (arith, h.sound.small, mul-le-mul_right d one)

  pub blocks_end : place * d + d ≤ length blocks
  blocks_end = rest_ends h.sound.blocks_sparse k

  pub cleans_end : place * d + d ≤ length cleans
  cleans_end = rest_ends h.sound.cleans_sparse k

  pub depth_is : d ≡ m.depth
  depth_is = ap (λ v. v.depth) h.seen

  pub blocks_are : blocks_in m k ≡ take (get_or lens k 0) (sparse_rest d places blocks k)
  blocks_are = ap (λ v. blocks_in v k) (sym h.seen) ∙
      rows_at (length lens) k (sparse_list d places blocks lens) within

  pub cleans_are : cleans_in m k ≡ take (get_or lens k 0) (sparse_rest d places cleans k)
  cleans_are = ap (λ v. cleans_in v k) (sym h.seen) ∙
      rows_at (length lens) k (sparse_list d places cleans lens) within

  pub blocks_size : length (blocks_in m k) ≡ get_or lens k 0
  blocks_size = ap length blocks_are ∙ length-take-le (get_or lens k 0)
      (sparse_rest d places blocks k)
      (omega (arith, rest_long h.sound.blocks_sparse k, h.sound.short k))

  pub cleans_size : length (cleans_in m k) ≡ get_or lens k 0
  cleans_size = ap length cleans_are ∙ length-take-le (get_or lens k 0)
      (sparse_rest d places cleans k)
      (omega (arith, rest_long h.sound.cleans_sparse k, h.sound.short k))

  pub len_read : {len : ℕ} → len ≡ get_or lens k len → len ≡ get_or lens k 0
  len_read {len} read = get_or_read lens k len within read 0

  pub place_read : {p : ℕ} → p ≡ get_or places k p → p ≡ place
  place_read {p} read = get_or_read places k p place_within read 0

  -- it has a row of its own
  pub has_own : 0 < length (blocks_in m k) → 0 < place
  has_own filled = h.sound.own k (omega (arith, filled, blocks_size))

  -- what is read of it
  pub front_read : {p x : ℕ} → p ≡ get_or places k p → x ≡ get_or blocks (p * d) x →
      x ≡ get_or (blocks_in m k) 0 0
  front_read {p} {x} at read =
      let row = sparse_rest d places blocks k in
      part_read (place * d) d blocks blocks_end some (omega arith)
      (subst (λ q. x ≡ get_or blocks (q * d) x) (place_read at) read)
      ∙ first_of (get_or lens k 0) row (h.sound.blank k)
      ∙ ap (λ l. get_or l 0 0) (sym blocks_are)

  pub clean_read : {p x : ℕ} → 0 < length (blocks_in m k) → p ≡ get_or places k p →
      x ≡ get_or cleans (p * d) x → x ≡ get_or (cleans_in m k) 0 0
  clean_read {p} {x} filled at read =
      let row = sparse_rest d places cleans k in
      part_read (place * d) d cleans cleans_end some (omega arith)
      (subst (λ q. x ≡ get_or cleans (q * d) x) (place_read at) read)
      ∙ first_of (get_or lens k 0) row (λ none. absurd (omega (arith, none, filled, blocks_size)))
      ∙ ap (λ l. get_or l 0 0) (sym cleans_are)

-- rows of which one is written anew
pub sparse_kept : {n room : ℕ} {places numbers numbers' : List ℕ} →
    IsSparse n places numbers room → length numbers' ≡ length numbers →
    IsSparse n places numbers' room
sparse_kept a same = record {
  some = a.some;
  small = a.small;
  numbers_len = same ∙ a.numbers_len;
  fits = a.fits;
  own = a.own;
}

-- the own row of set k written anew, and the length of its list
module _ {d room : ℕ} {places numbers : List ℕ} (a : IsSparse d places numbers room) (k : ℕ)
    (own : 0 < get_or places k 0) (row : List ℕ) (long : length row ≡ d) where
  abbrev written : List ℕ
  written = put_mid (get_or places k 0 * d) d numbers row

  pub written_here : sparse_rest d places written k ≡ row
  written_here = part_here (get_or places k 0 * d) d numbers (rest_ends a k) row long

  pub written_other : (j : ℕ) → (j ≡ k → ⊥) →
      sparse_rest d places written j ≡ sparse_rest d places numbers j
  written_other j other = part_other (get_or places k 0) (get_or places j 0) d numbers row
      (omega (arith, rest_ends a k)) long (λ same. other (sym (a.own.apart k j own (sym same))))

  pub written_kept : length written ≡ length numbers
  written_kept = part_kept (get_or places k 0 * d) d numbers (rest_ends a k) row long

  row_put : (lens new : List ℕ) (len : ℕ) → k < length lens → take len row ≡ new →
      all_sparse d places written (set lens k len) ≡ set (all_sparse d places numbers lens) k new
  row_put lens new len lt is =
      listed_put (sparse_rest d places numbers) (sparse_rest d places written) k lens new len lt
      (ap (take len) written_here ∙ is) written_other

-- the same lists, once set k has a row of its own; `lent` are the places as they were lent
pub ready : {d k room clean_room room' clean_room' : ℕ} {places blocks cleans lens : List ℕ}
    {lent places' blocks' cleans' : List ℕ} {m : Marked} →
    HasSparse d k places blocks cleans lens room clean_room m → lent ≡ places →
    length places' ≡ length lent →
    IsSparse d places' blocks' room' → IsSparse d places' cleans' clean_room' →
    ((j : ℕ) → sparse_rest d places' blocks' j ≡ sparse_rest d lent blocks j) →
    ((j : ℕ) → sparse_rest d places' cleans' j ≡ sparse_rest d lent cleans j) →
    ((j : ℕ) → 0 < get_or lent j 0 → 0 < get_or places' j 0) →
    HasSparse d k places' blocks' cleans' lens room' clean_room' m
ready {d} {places = places} {blocks = blocks} {cleans = cleans} {lens = lens} {lent = lent}
    {places' = places'} {blocks' = blocks'} {cleans' = cleans'} h is count b c same clean_same
    kept =
    let rest_same : (numbers numbers' : List ℕ) →
    ((j : ℕ) → sparse_rest d places' numbers' j ≡ sparse_rest d lent numbers j) → (j : ℕ) →
    sparse_rest d places' numbers' j ≡ sparse_rest d places numbers j =
    λ numbers numbers' are j. are j ∙ ap (λ ps. sparse_rest d ps numbers j) is in
    let alike : (numbers numbers' : List ℕ) →
    ((j : ℕ) → sparse_rest d places' numbers' j ≡ sparse_rest d lent numbers j) →
    all_sparse d places' numbers' lens ≡ all_sparse d places numbers lens =
    λ numbers numbers' are. rows_same (length lens) (sparse_list d places' numbers' lens)
    (all_sparse d places numbers lens)
    (length-rows_by_set (length lens) (sparse_list d places numbers lens))
    (λ j lt. ap (take (get_or lens j 0)) (rest_same numbers numbers' are j)
    ∙ sym (rows_at (length lens) j (sparse_list d places numbers lens) lt)) in
    record {
      sound = record {
        small = h.sound.small;
        count = count ∙ ap length is ∙ h.sound.count;
        blocks_sparse = b;
        cleans_sparse = c;
        short = h.sound.short;
        own = λ j filled. kept j
            (subst (λ ps. 0 < get_or ps j 0) (sym is) (h.sound.own j filled));
        blank = λ j none. ap (λ l. get_or l 0 0) (rest_same blocks blocks' same j)
            ∙ h.sound.blank j none;
      };
      seen = ap (λ ls. record {
        depth = d;
        blocks = ls;
        cleans = all_sparse d places' cleans' lens;
      }) (alike blocks blocks' same)
          ∙ ap (λ ls. record {
            depth = d;
            blocks = all_sparse d places blocks lens;
            cleans = ls;
          }) (alike cleans cleans' clean_same)
          ∙ h.seen;
      is_set = h.is_set;
    }

module _ {d k room clean_room : ℕ} {places blocks cleans lens : List ℕ} {m : Marked}
    (h : HasSparse d k places blocks cleans lens room clean_room m) where
  module _ (own : 0 < get_or places k 0) where
    -- a row written anew, and the length of its list
    module _ (row clean_row : List ℕ) (len : ℕ) (long : length row ≡ d)
        (clean_long : length clean_row ≡ d) (short : len ≤ d)
        (blank : len ≡ 0 → get_or row 0 0 ≡ 0) where
      abbrev blocks_then : List ℕ
      blocks_then = put_mid (get_or places k 0 * d) d blocks row

      abbrev cleans_then : List ℕ
      cleans_then = put_mid (get_or places k 0 * d) d cleans clean_row

      pub rows_sound :
          AreSparse d places blocks_then cleans_then (set lens k len) room clean_room
      rows_sound = record {
        small = subst (λ (n : ℕ). n * d ≤ 2 ^ 22) (sym (length-set lens k len)) h.sound.small;
        count = h.sound.count ∙ sym (length-set lens k len);
        blocks_sparse = sparse_kept h.sound.blocks_sparse
            (written_kept h.sound.blocks_sparse k own row long);
        cleans_sparse = sparse_kept h.sound.cleans_sparse
            (written_kept h.sound.cleans_sparse k own clean_row clean_long);
        short = all_set (λ _ n. n ≤ d) lens k len 0 (within h) short (λ j _. h.sound.short j);
        own = all_set (λ j n. 0 < n → 0 < get_or places j 0) lens k len 0 (within h) (λ _. own)
            (λ j _. h.sound.own j);
        blank = all_set
            (λ j n. n ≡ 0 → get_or (sparse_rest d places blocks_then j) 0 0 ≡ 0) lens k len 0
            (within h)
            (λ none. ap (λ l. get_or l 0 0) (written_here h.sound.blocks_sparse k own row long)
            ∙ blank none)
            (λ j other none. ap (λ l. get_or l 0 0)
            (written_other h.sound.blocks_sparse k own row long j other)
            ∙ h.sound.blank j none);
      }

      pub lists_put : (new clean_new : List ℕ) → take len row ≡ new →
          take len clean_row ≡ clean_new → record {
            depth = d;
            blocks = all_sparse d places blocks_then (set lens k len);
            cleans = all_sparse d places cleans_then (set lens k len);
          } ≡ record m { blocks = set m.blocks k new; cleans = set m.cleans k clean_new }
      lists_put new clean_new is clean_is =
          lists_written k new clean_new h.seen
          (row_put h.sound.blocks_sparse k own row long lens new len (within h) is)
          (row_put h.sound.cleans_sparse k own clean_row clean_long lens clean_new len
          (within h) clean_is)

    -- the front's clean depth written
    module _ (x : ℕ) where
      abbrev clean_row : List ℕ
      clean_row = set (sparse_rest d places cleans k) 0 x

      clean_long : length clean_row ≡ d
      clean_long = length-set (sparse_rest d places cleans k) 0 x ∙
          rest_long h.sound.cleans_sparse k

      clean_put : set cleans (get_or places k 0 * d) x
          ≡ put_mid (get_or places k 0 * d) d cleans clean_row
      clean_put = part_first (get_or places k 0 * d) d cleans (cleans_end h) x (some h)

      pub front_sound : AreSparse d places blocks (set cleans (get_or places k 0 * d) x) lens room
          clean_room
      front_sound = record {
        small = h.sound.small;
        count = h.sound.count;
        blocks_sparse = h.sound.blocks_sparse;
        cleans_sparse = sparse_kept h.sound.cleans_sparse
            (length-set cleans (get_or places k 0 * d) x);
        short = h.sound.short;
        own = h.sound.own;
        blank = h.sound.blank;
      }

      front_put : 0 < length (blocks_in m k) →
          all_sparse d places (set cleans (get_or places k 0 * d) x) lens
          ≡ set (all_sparse d places cleans lens) k (set (cleans_in m k) 0 x)
      front_put filled =
          let len = get_or lens k 0 in
          let row = sparse_rest d places cleans k in
          ap (λ ns. all_sparse d places ns lens) clean_put
          ∙ ap (all_sparse d places (put_mid (get_or places k 0 * d) d cleans clean_row))
          (sym (set-get_or lens k 0))
          ∙ row_put h.sound.cleans_sparse k own clean_row clean_long lens
          (set (take len row) 0 x) len (within h)
          (first_set len row x (omega (arith, filled, blocks_size h)))
          ∙ ap (λ l. set (all_sparse d places cleans lens) k (set l 0 x)) (sym (cleans_are h))

      pub front_written : 0 < length (blocks_in m k) → record {
        depth = d;
        blocks = all_sparse d places blocks lens;
        cleans = all_sparse d places (set cleans (get_or places k 0 * d) x) lens;
      } ≡ record m { cleans = set m.cleans k (set (cleans_in m k) 0 x) }
      front_written filled =
          ap (λ ls. record { depth = d; blocks = all_sparse d places blocks lens; cleans = ls })
          (front_put filled)
          ∙ ap (λ (v : Marked). record v {
            cleans = set v.cleans k (set (cleans_in m k) 0 x);
          }) h.seen

    -- a list that is emptied
    abbrev blank_row : List ℕ
    blank_row = set (sparse_rest d places blocks k) 0 0

    blank_long : length blank_row ≡ d
    blank_long = length-set (sparse_rest d places blocks k) 0 0 ∙
        rest_long h.sound.blocks_sparse k

    blank_put : set blocks (get_or places k 0 * d) 0
        ≡ put_mid (get_or places k 0 * d) d blocks blank_row
    blank_put = part_first (get_or places k 0 * d) d blocks (blocks_end h) 0 (some h)

    blank_first : get_or blank_row 0 0 ≡ 0
    blank_first = get_or-set_same (sparse_rest d places blocks k) 0 0 0
        (omega (arith, rest_long h.sound.blocks_sparse k, some h))

    pub emptied_sound : AreSparse d places (set blocks (get_or places k 0 * d) 0) cleans
        (set lens k 0) room clean_room
    emptied_sound = record {
      small = subst (λ (n : ℕ). n * d ≤ 2 ^ 22) (sym (length-set lens k 0)) h.sound.small;
      count = h.sound.count ∙ sym (length-set lens k 0);
      blocks_sparse = sparse_kept h.sound.blocks_sparse
          (length-set blocks (get_or places k 0 * d) 0);
      cleans_sparse = h.sound.cleans_sparse;
      short = all_set (λ _ n. n ≤ d) lens k 0 0 (within h) (omega arith) (λ j _. h.sound.short j);
      own = all_set (λ j n. 0 < n → 0 < get_or places j 0) lens k 0 0 (within h) (λ _. own)
          (λ j _. h.sound.own j);
      blank = subst
          (λ ns. (j : ℕ) → get_or (set lens k 0) j 0 ≡ 0 →
          get_or (sparse_rest d places ns j) 0 0 ≡ 0) (sym blank_put)
          (all_set
          (λ j n. n ≡ 0 → get_or (sparse_rest d places
          (put_mid (get_or places k 0 * d) d blocks blank_row) j) 0 0 ≡ 0) lens k 0 0 (within h)
          (λ _. ap (λ l. get_or l 0 0)
          (written_here h.sound.blocks_sparse k own blank_row blank_long) ∙ blank_first)
          (λ j other none. ap (λ l. get_or l 0 0)
          (written_other h.sound.blocks_sparse k own blank_row blank_long j other)
          ∙ h.sound.blank j none));
    }

    pub list_emptied : record {
      depth = d;
      blocks = all_sparse d places (set blocks (get_or places k 0 * d) 0) (set lens k 0);
      cleans = all_sparse d places cleans (set lens k 0);
    } ≡ record m { blocks = set m.blocks k []; cleans = set m.cleans k [] }
    list_emptied = lists_written k [] [] h.seen
        (ap (λ ns. all_sparse d places ns (set lens k 0)) blank_put
        ∙ row_put h.sound.blocks_sparse k own blank_row blank_long lens [] 0 (within h) refl)
        (listed_cut (sparse_rest d places cleans) k lens (within h))

  -- an empty list that is emptied
  pub list_spared : get_or lens k 0 ≡ 0 →
      m ≡ record m { blocks = set m.blocks k []; cleans = set m.cleans k [] }
  list_spared none =
      let nothing : (numbers : List ℕ) → set (all_sparse d places numbers lens) k []
      ≡ all_sparse d places numbers lens =
      λ numbers. ap (λ (l : List ℕ). set (all_sparse d places numbers lens) k l)
      (sym (rows_at (length lens) k (sparse_list d places numbers lens) (within h)
      ∙ ap (λ n. take n (sparse_rest d places numbers k)) none))
      ∙ set-get_or (all_sparse d places numbers lens) k [] in
      sym h.seen
      ∙ ap (λ ls. record {
        depth = d;
        blocks = ls;
        cleans = all_sparse d places cleans lens;
      }) (sym (nothing blocks))
      ∙ ap (λ ls. record {
        depth = d;
        blocks = set (all_sparse d places blocks lens) k [];
        cleans = ls;
      }) (sym (nothing cleans))
      ∙ ap (λ (v : Marked). record v {
        blocks = set v.blocks k [];
        cleans = set v.cleans k [];
      }) h.seen
