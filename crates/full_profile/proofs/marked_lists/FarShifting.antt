-- A list whose first blocks are shifted one by one, and those behind them at once.
use Rattle.std.proofs.Common.{◌≡◌, ℕ, suc, ◌+◌, ◌-◌, ◌<◌, ◌≤◌, ◌||◌, true, false, List, [], ◌∷◌}
use Rattle.std.proofs.Common.{◌++◌, length, take, drop, get_or, sym, ◌∙◌, ap, arith}
use Rattle.std.proofs.Common.{length-append, append-nil}
use Rattle.std.specs.List.{remove}
use Rattle.std.proofs.lemmas.List.{drop_all}
use Rattle.profile_core.specs.profile.RecencyList.{index_of, is_in, move_to_front}
use Rattle.profile_core.proofs.ListParts.{is_in-append, index-append_left, index-append_right}
use Rattle.full_profile.specs.declared.marked_lists.row.Shifted.TheVariants.{Found, Out}
use Rattle.full_profile.specs.internal.Rows.{marked_shift_of}
use Rattle.profile_core.proofs.Shifting.{remove_end, is_found}
use Rattle.profile_core.proofs.Shifting.{is_absent}
use Rattle.full_profile.proofs.marked_lists.RowBringing.{IsHere, IsNowhere, here, nowhere}
use Rattle.full_profile.proofs.marked_lists.TwoParts.{near_out, far_out, read_left, read_right}

-- the last number of a list in two parts, with another one in front
ends : (y z : ℕ) (xs ys : List ℕ) (n : ℕ) → length xs ≡ n → 1 ≤ n → z ≡ get_or xs (n - 1) 0 →
    get_or (z ∷ ys) (length ys) 0 ≡ get_or (y ∷ (xs ++ ys)) (length (xs ++ ys)) 0
ends y z xs [] n full some is =
    is ∙ ap (λ l. get_or l (n - 1) 0) (sym (append-nil xs))
    ∙ ap (λ i. get_or (y ∷ (xs ++ [])) i 0) {x = suc (n - 1)} {y = length (xs ++ [])}
    (omega (arith, full, some, length-append xs []))
ends y z xs (w ∷ ws) n full some is =
    sym (read_right xs (w ∷ ws) (n + length ws) (length ws) (omega (arith, full)))
    ∙ ap (λ i. get_or (y ∷ (xs ++ (w ∷ ws))) i 0) {x = suc (n + length ws)}
    {y = length (xs ++ (w ∷ ws))} (omega (arith, full, length-append xs (w ∷ ws)))

-- a number in front, and the last one gone
pub last_gone : (y : ℕ) (xs : List ℕ) → 0 < length xs →
    y ∷ remove xs (length xs - 1) ≡ take (length xs) (y ∷ remove xs (length xs))
last_gone y [] some = absurd (omega arith)
last_gone y (x ∷ xs) some =
    let all : remove (x ∷ xs) (length (x ∷ xs)) ≡ x ∷ xs =
    remove_end (x ∷ xs) (length (x ∷ xs)) (omega arith) in
    let none : drop (suc (length xs)) (x ∷ xs) ≡ [] =
    drop_all (suc (length xs)) (x ∷ xs) (omega arith) in
    ap (λ i. y ∷ remove (x ∷ xs) i) {x = length (x ∷ xs) - 1} {y = length xs} (omega arith)
    ∙ ap (λ l. y ∷ (take (length xs) (x ∷ xs) ++ l)) none
    ∙ ap (λ l. y ∷ l) (append-nil (take (length xs) (x ∷ xs)))
    ∙ ap (λ l. take (length (x ∷ xs)) (y ∷ l)) (sym all)

-- the end of a list, whose first number is put in front of it, and from which the block is taken
pub found_shifted : (block first clean found gone : ℕ) (blocks cleans : List ℕ) →
    found ≡ index_of block blocks → found < length blocks → gone ≡ get_or cleans found 0 →
    Found found gone ≡ marked_shift_of block first blocks clean cleans
found_shifted block first clean found gone blocks cleans at lt is =
    let inside : is_in block blocks ≡ true = is_found block found blocks (sym at) lt in
    grind (arith, inside, at, is)

pub gone_shifted : (block first clean found gone gone_clean : ℕ) (blocks cleans : List ℕ) →
    found ≡ index_of block blocks → found ≡ length blocks → 0 < length blocks →
    gone ≡ get_or blocks (found - 1) 0 → gone_clean ≡ get_or cleans (found - 1) 0 →
    Out gone gone_clean ≡ marked_shift_of block first blocks clean cleans
gone_shifted block first clean found gone gone_clean blocks cleans at end some is clean_is =
    let outside : is_in block blocks ≡ false = is_absent block blocks (sym at ∙ end) in
    let last : gone ≡ get_or (first ∷ blocks) (length blocks) 0 =
    is ∙ ap (λ i. get_or (first ∷ blocks) i 0) {x = suc (found - 1)} {y = length blocks}
    (omega (arith, end, some)) in
    let last_clean : gone_clean ≡ get_or (clean ∷ cleans) (length blocks) 0 =
    clean_is ∙ ap (λ i. get_or (clean ∷ cleans) i 0) {x = suc (found - 1)} {y = length blocks}
    (omega (arith, end, some)) in
    grind (arith, outside, last, last_clean)

-- a list and its clean depths, each in two parts, the first of n numbers
pub record AreInTwo (n : ℕ) (near far near_cleans far_cleans blocks cleans : List ℕ) : Type 0 where
  pub some : 1 ≤ n
  pub size : length near ≡ n
  pub cleans_size : length near_cleans ≡ n
  pub parts : near ++ far ≡ blocks
  pub cleans_parts : near_cleans ++ far_cleans ≡ cleans
  pub beside : length cleans ≡ length blocks

module _ (block clean : ℕ) {n : ℕ} {near far near_cleans far_cleans blocks cleans : List ℕ}
    (two : AreInTwo n near far near_cleans far_cleans blocks cleans) where
  far_beside : length far_cleans ≡ length far
  far_beside = omega (
    arith,
    length-append near far,
    length-append near_cleans far_cleans,
    ap length two.parts,
    ap length two.cleans_parts,
    two.size,
    two.cleans_size,
    two.beside,
  )

  -- where the block is among the first
  module _ (place found_clean : ℕ)
      (found : Found place found_clean ≡ marked_shift_of block block near clean near_cleans) where
    h : IsHere place found_clean block near near_cleans
    h = here block clean found

    at : index_of block blocks ≡ index_of block near
    at = ap (index_of block) (sym two.parts) ∙ index-append_left block near far h.inside

    inside : is_in block blocks ≡ true
    inside = ap (is_in block) (sym two.parts) ∙ is_in-append block near far
        ∙ ap (λ b. b || is_in block far) h.inside

    near_lt : index_of block near < length near
    near_lt = h.within

    read : found_clean ≡ get_or cleans (index_of block blocks) 0
    read = h.clean_is
        ∙ sym (read_left near_cleans far_cleans (index_of block near)
        (omega (arith, near_lt, two.size, two.cleans_size)))
        ∙ ap (λ l. get_or l (index_of block near) 0) two.cleans_parts
        ∙ ap (λ i. get_or cleans i 0) (sym at)

    pub near_shifted : Found place found_clean ≡ marked_shift_of block block blocks clean cleans
    near_shifted = grind (arith, inside, h.distance_is, at, read)

    -- the blocks, or their clean depths
    near_kept : (y i : ℕ) (xs ys all now : List ℕ) → xs ++ ys ≡ all → i < length xs →
        now ≡ take (length xs) (y ∷ remove xs i) → now ++ ys ≡ take (length all) (y ∷ remove all i)
    near_kept y i xs ys all now whole lt is =
        ap (λ l. l ++ ys) is
        ∙ sym (near_out (length xs) (length ys) y xs ys i lt (omega arith) (omega arith))
        ∙ ap (λ m. take m (y ∷ remove (xs ++ ys) i)) (sym (length-append xs ys))
        ∙ ap (λ l. take (length l) (y ∷ remove l i)) whole

    pub near_blocks : (now : List ℕ) → now ≡ take (length near) (move_to_front block near) →
        now ++ far ≡ take (length blocks) (move_to_front block blocks)
    near_blocks now is =
        near_kept block (index_of block near) near far blocks now two.parts near_lt is
        ∙ ap (λ i. take (length blocks) (block ∷ remove blocks i)) (sym at)

    pub near_clean : (now : List ℕ) →
        now ≡ take (length near_cleans) (clean ∷ remove near_cleans (index_of block near)) →
        now ++ far_cleans ≡ take (length cleans) (clean ∷ remove cleans (index_of block blocks))
    near_clean now is = near_kept clean (index_of block near) near_cleans far_cleans cleans now
        two.cleans_parts (omega (arith, near_lt, two.size, two.cleans_size)) is
        ∙ ap (λ i. take (length cleans) (clean ∷ remove cleans i)) (sym at)

  -- where it is not
  module _ (last last_clean : ℕ)
      (out : Out last last_clean ≡ marked_shift_of block block near clean near_cleans) where
    gone : IsNowhere last last_clean block block clean near near_cleans
    gone = nowhere out

    near_end : n ≡ index_of block near
    near_end = sym two.size ∙ gone.index_is

    behind : index_of block blocks ≡ n + index_of block far
    behind = ap (index_of block) (sym two.parts) ∙ index-append_right block near far gone.outside
        ∙ ap (λ m. m + index_of block far) two.size

    there : is_in block blocks ≡ is_in block far
    there = ap (is_in block) (sym two.parts) ∙ is_in-append block near far
        ∙ ap (λ b. b || is_in block far) gone.outside

    last_is : last ≡ get_or near (n - 1) 0
    last_is = gone.last_is
        ∙ ap (λ i. get_or (block ∷ near) i 0) {x = index_of block near} {y = suc (n - 1)}
        (omega (arith, near_end, two.some))

    last_clean_is : last_clean ≡ get_or near_cleans (n - 1) 0
    last_clean_is = gone.clean_is
        ∙ ap (λ i. get_or (clean ∷ near_cleans) i 0) {x = index_of block near} {y = suc (n - 1)}
        (omega (arith, near_end, two.some))

    far_kept : (y z : ℕ) (xs ys all now far_now : List ℕ) → xs ++ ys ≡ all → length xs ≡ n →
        z ≡ get_or xs (n - 1) 0 → now ≡ take (length xs) (y ∷ remove xs (index_of block near)) →
        far_now ≡ take (length ys) (z ∷ remove ys (index_of block far)) →
        now ++ far_now ≡ take (length all) (y ∷ remove all (index_of block blocks))
    far_kept y z xs ys all now far_now whole full z_is is far_is =
        ap (λ l. l ++ far_now) (is ∙ ap (λ m. take m (y ∷ remove xs (index_of block near))) full)
        ∙ ap (λ l. take n (y ∷ remove xs (index_of block near)) ++ l) far_is
        ∙ sym (far_out n (length ys) y xs ys (index_of block blocks) (index_of block far)
        (index_of block near) z full two.some behind (omega (arith, near_end)) z_is)
        ∙ ap (λ m. take m (y ∷ remove (xs ++ ys) (index_of block blocks)))
        (ap (λ m. m + length ys) (sym full) ∙ sym (length-append xs ys))
        ∙ ap (λ l. take (length l) (y ∷ remove l (index_of block blocks))) whole

    pub far_blocks : (now far_now : List ℕ) → now ≡ take (length near) (move_to_front block near) →
        far_now ≡ take (length far) (last ∷ remove far (index_of block far)) →
        now ++ far_now ≡ take (length blocks) (move_to_front block blocks)
    far_blocks now far_now is far_is =
        far_kept block last near far blocks now far_now two.parts two.size last_is is far_is

    pub far_clean : (now far_now : List ℕ) →
        now ≡ take (length near_cleans) (clean ∷ remove near_cleans (index_of block near)) →
        far_now ≡ take (length far_cleans) (last_clean ∷ remove far_cleans (index_of block far)) →
        now ++ far_now ≡ take (length cleans) (clean ∷ remove cleans (index_of block blocks))
    far_clean now far_now is far_is = far_kept clean last_clean near_cleans far_cleans cleans now
        far_now two.cleans_parts two.cleans_size last_clean_is is far_is

    pub far_found : (place found_clean : ℕ) →
        Found place found_clean ≡ marked_shift_of block last far last_clean far_cleans →
        Found (n + place) found_clean ≡ marked_shift_of block block blocks clean cleans
    far_found place found_clean found =
        let h : IsHere place found_clean block far far_cleans = here last last_clean found in
        let inside_all : is_in block blocks ≡ true = there ∙ h.inside in
        let place_is : n + place ≡ index_of block blocks =
        ap (λ i. n + i) h.distance_is ∙ sym behind in
        let read_far : found_clean ≡ get_or cleans (index_of block blocks) 0 =
        h.clean_is
        ∙ sym (read_right near_cleans far_cleans (index_of block blocks) (index_of block far)
        (omega (arith, behind, two.cleans_size)))
        ∙ ap (λ l. get_or l (index_of block blocks) 0) two.cleans_parts in
        grind (arith, inside_all, place_is, read_far)

    -- the number at the end of a list, with another one in front
    end_is : (y z : ℕ) (xs ys all : List ℕ) → xs ++ ys ≡ all → length xs ≡ n →
        z ≡ get_or xs (n - 1) 0 →
        get_or (z ∷ ys) (length ys) 0 ≡ get_or (y ∷ all) (length all) 0
    end_is y z xs ys all whole full z_is =
        ends y z xs ys n full two.some z_is ∙ ap (λ l. get_or (y ∷ l) (length l) 0) whole

    pub far_gone : (end end_clean : ℕ) →
        Out end end_clean ≡ marked_shift_of block last far last_clean far_cleans →
        Out end end_clean ≡ marked_shift_of block block blocks clean cleans
    far_gone end end_clean out_is =
        let h : IsNowhere end end_clean block last last_clean far far_cleans = nowhere out_is in
        let outside_all : is_in block blocks ≡ false = there ∙ h.outside in
        let first : end ≡ get_or (block ∷ blocks) (length blocks) 0 =
        h.last_is ∙ ap (λ i. get_or (last ∷ far) i 0) (sym h.index_is)
        ∙ end_is block last near far blocks two.parts two.size last_is in
        let second : end_clean ≡ get_or (clean ∷ cleans) (length blocks) 0 =
        h.clean_is ∙ ap (λ i. get_or (last_clean ∷ far_cleans) i 0)
        {x = index_of block far} {y = length far_cleans}
        (omega (arith, h.index_is, far_beside))
        ∙ end_is clean last_clean near_cleans far_cleans cleans two.cleans_parts two.cleans_size
        last_clean_is
        ∙ ap (λ i. get_or (clean ∷ cleans) i 0) two.beside in
        grind (arith, outside_all, first, second)
