-- A list whose front is apart, and whose other blocks are in slots: where a block is found in it,
-- and what the list is once the block is in front.
use Rattle.std.proofs.Common.{◌≡◌, ℕ, zero, suc, ◌+◌, ◌-◌, ◌<◌, ◌≤◌, true, false, cond, eqb}
use Rattle.std.proofs.Common.{max, min, List, ◌∷◌, length, take, get_or, sym, ◌∙◌, ap}
use Rattle.std.proofs.Common.{arith, eq-eqb, get_or-take}
use Rattle.std.specs.List.{remove}
use Rattle.std.proofs.lemmas.Bool.{false≢true, ne_eqb}
use Rattle.std.proofs.lemmas.List.{take_all, take-take, length-take-le}
use Rattle.trace_core.specs.declared.events.Access.{Access}
use Rattle.trace_core.specs.Events.{is_write}
use Rattle.profile_core.specs.declared.set_lists.recency.Standing.TheVariants as standing
use Rattle.profile_core.specs.profile.RecencyList.{index_of, is_in}
use Rattle.profile_core.specs.internal.set_lists.Moves.{standing_of}
use Rattle.profile_core.proofs.profile.Feeding.{FoundAt, FoundNowhere, found_behind, found_nowhere}
use Rattle.full_profile.specs.State.{clean_in_front}
use Rattle.full_profile.specs.declared.marked_lists.MarkedTouch.TheVariants.{Behind, New, Full}
use Rattle.full_profile.specs.internal.Marked.{marked_touch_of}
use Rattle.profile_core.proofs.Shifting.{is_found, is_absent, length-remove, remove_end}
use Rattle.profile_core.proofs.Shifting.{index_behind, removed_take, kept_take}

-- Blocks or clean depths: `f` in front, and `zs` in sixteen slots. `f` goes to a slot, which comes
-- to the front of the others, and `y` takes its place.
module _ (y f : ℕ) (zs : List ℕ) (all : length zs ≡ 16) where
  -- the slot of a place within the list
  pub moved_found : (n d p : ℕ) → n ≤ d → n ≤ 16 → suc p < n →
      take n (y ∷ f ∷ remove zs p) ≡ take d (y ∷ remove (take n (f ∷ zs)) (suc p))
  moved_found zero d p le most lt = absurd (omega arith)
  moved_found (suc zero) d p le most lt = absurd (omega arith)
  moved_found (suc (suc h)) d p le most lt =
      let size : length (take (suc h) zs) ≡ suc h = length-take-le (suc h) zs (omega (arith, all))
      in
      let within : p < length (take (suc h) zs) = omega (arith, size) in
      ap (λ xs. y ∷ f ∷ xs) (removed_take h p zs (omega arith))
      ∙ sym (take_all d (y ∷ f ∷ remove (take (suc h) zs) p)
      (omega (arith, length-remove (take (suc h) zs) p within, size)))

  -- the first slot behind the list
  pub moved_grown : (h d : ℕ) → suc h < d → h ≤ 16 →
      take (suc (suc h)) (y ∷ f ∷ remove zs h) ≡ take d (y ∷ remove (take (suc h) (f ∷ zs)) (suc h))
  moved_grown h d lt most =
      let size : length (take h zs) ≡ h = length-take-le h zs (omega (arith, all)) in
      let whole : remove (f ∷ take h zs) (suc h) ≡ f ∷ take h zs =
      remove_end (f ∷ take h zs) (suc h) (omega (arith, size)) in
      ap (λ xs. y ∷ f ∷ xs) (kept_take h zs)
      ∙ sym (take_all d (y ∷ f ∷ take h zs) (omega (arith, size)))
      ∙ ap (λ xs. take d (y ∷ xs)) (sym whole)

  -- the slot of the last one
  pub moved_full : (h : ℕ) → suc h ≤ 16 → take (suc (suc h)) (y ∷ f ∷ remove zs h) ≡
      take (suc (suc h)) (y ∷ remove (take (suc (suc h)) (f ∷ zs)) (suc (suc h)))
  moved_full h most =
      let size : length (take (suc h) zs) ≡ suc h = length-take-le (suc h) zs (omega (arith, all))
      in
      let whole : remove (f ∷ take (suc h) zs) (suc (suc h)) ≡ f ∷ take (suc h) zs =
      remove_end (f ∷ take (suc h) zs) (suc (suc h)) (omega (arith, size)) in
      ap (λ xs. y ∷ f ∷ xs) (kept_take h zs ∙ sym (take-take h (suc h) zs (omega arith)))
      ∙ ap (λ xs. take (suc (suc h)) (y ∷ xs)) (sym whole)

-- a list with a block is its front and those behind it
pub front_apart : (n f : ℕ) (zs : List ℕ) → 1 ≤ n → take n (f ∷ zs) ≡ f ∷ take (n - 1) zs
front_apart zero f zs some = absurd (omega arith)
front_apart (suc n) f zs some =
    let e : n ≡ suc n - 1 = omega arith in
    ap (λ j. f ∷ take j zs) e

-- A list of n blocks, at most d, of which block x is not the front, f: this and its clean depth fc
-- stand apart, and the others and theirs begin xs and ms.
pub record IsApart (x f fc n d : ℕ) (xs ms : List ℕ) : Type 0 where
  pub all : length xs ≡ 16
  pub some : 1 ≤ n
  pub fits : n ≤ d
  pub most : d ≤ 16
  pub two : 2 ≤ d
  pub other : eqb f x ≡ false

module _ {x f fc n d : ℕ} {xs ms : List ℕ} (l : IsApart x f fc n d xs ms) where
  abbrev blocks : List ℕ
  blocks = take n (f ∷ xs)

  abbrev cleans : List ℕ
  cleans = take n (fc ∷ ms)

  abbrev behind : List ℕ
  behind = take (n - 1) xs

  behind_long : length behind ≡ n - 1
  behind_long = length-take-le (n - 1) xs (omega (arith, l.all))

  pub blocks_long : length blocks ≡ n
  blocks_long = ap length (front_apart n f xs l.some) ∙ omega (arith, behind_long)

  not_front : f ≡ x → ⊥
  not_front e = absurd (false≢true (sym l.other ∙ eq-eqb f x e))

  index_is : index_of x blocks ≡ suc (index_of x behind)
  index_is = ap (index_of x) (front_apart n f xs l.some) ∙ index_behind x f behind not_front

  -- found behind the front
  module _ {p : ℕ} (at : standing.Behind p ≡ standing_of x behind) where
    found : FoundAt x p behind
    found = found_behind x p behind at

    pub place_lt : suc p < n
    place_lt = omega (arith, found.within, behind_long)

    pub found_index : index_of x blocks ≡ suc p
    found_index = index_is ∙ ap suc found.distance_is

    pub found_inside : is_in x blocks ≡ true
    found_inside = is_found x (suc p) blocks found_index (omega (arith, place_lt, blocks_long))

    found_clean : get_or cleans (suc p) 0 ≡ get_or ms p 0
    found_clean = get_or-take n (fc ∷ ms) (suc p) 0 place_lt

    pub found_touch : {clean : ℕ} → clean ≡ get_or ms p 0 →
        Behind (p + 1) clean ≡ marked_touch_of d x blocks cleans
    found_touch {clean} is =
        let next : p + 1 ≡ suc p = omega arith in
        ap (λ j. Behind j clean) next ∙ ap (Behind (suc p)) (is ∙ sym found_clean)
        ∙ ap (λ j. Behind j (get_or cleans j 0)) (sym found_index)
        ∙ sym (ap (λ b. cond b (Behind (index_of x blocks) (get_or cleans (index_of x blocks) 0))
        (cond (eqb (length blocks) d) (Full (get_or cleans (d - 1) 0)) (New (length blocks))))
        found_inside)

    pub found_moved : (y g : ℕ) (zs : List ℕ) → length zs ≡ 16 →
        take n (y ∷ g ∷ remove zs p) ≡ take d (y ∷ remove (take n (g ∷ zs)) (index_of x blocks))
    found_moved y g zs long =
        moved_found y g zs long n d p l.fits (omega (arith, l.fits, l.most)) place_lt
        ∙ ap (λ j. take d (y ∷ remove (take n (g ∷ zs)) j)) (sym found_index)

    pub found_in_front : (access : Access) {clean : ℕ} → clean ≡ get_or ms p 0 →
        cond (is_write access) 0 (max clean (p + 1)) ≡ clean_in_front d access x blocks cleans
    found_in_front access {clean} is =
        let next : p + 1 ≡ suc p = omega arith in
        ap (λ j. cond (is_write access) 0 (max clean j)) next
        ∙ ap (λ c. cond (is_write access) 0 (max c (suc p))) (is ∙ sym found_clean)
        ∙ ap (λ j. cond (is_write access) 0 (max (get_or cleans j 0) j)) (sym found_index)
        ∙ sym (ap (λ b. cond (is_write access) 0 (cond b
        (max (get_or cleans (index_of x blocks) 0) (index_of x blocks)) d)) found_inside)

  -- not found
  module _ {h : ℕ} (at : standing.New h ≡ standing_of x behind) where
    nowhere : FoundNowhere x h behind
    nowhere = found_nowhere x h behind at

    pub new_held : suc h ≡ n
    new_held = omega (arith, nowhere.len_is, behind_long, l.some)

    new_index : index_of x blocks ≡ n
    new_index = index_is ∙ omega (arith, nowhere.index_is, behind_long, l.some)

    pub new_outside : is_in x blocks ≡ false
    new_outside = is_absent x blocks (new_index ∙ sym blocks_long)

    pub place_small : min h (d - 2) < 16
    place_small = omega (arith, l.most, l.two)

    pub new_in_front : (access : Access) →
        cond (is_write access) 0 d ≡ clean_in_front d access x blocks cleans
    new_in_front access = sym (ap (λ b. cond (is_write access) 0 (cond b
        (max (get_or cleans (index_of x blocks) 0) (index_of x blocks)) d)) new_outside)

    touch_is : marked_touch_of d x blocks cleans ≡
        cond (eqb n d) (Full (get_or cleans (d - 1) 0)) (New n)
    touch_is = ap (λ b. cond b (Behind (index_of x blocks) (get_or cleans (index_of x blocks) 0))
        (cond (eqb (length blocks) d) (Full (get_or cleans (d - 1) 0)) (New (length blocks))))
        new_outside
        ∙ ap (λ j. cond (eqb j d) (Full (get_or cleans (d - 1) 0)) (New j)) blocks_long

    -- with room for one more
    module _ (room : n < d) where
      pub new_touch : New n ≡ marked_touch_of d x blocks cleans
      new_touch = sym (touch_is ∙ ap (λ b. cond b (Full (get_or cleans (d - 1) 0)) (New n))
          (ne_eqb n d (λ e. absurd (omega arith))))

      pub new_moved : (y g : ℕ) (zs : List ℕ) → length zs ≡ 16 →
          take (n + 1) (y ∷ g ∷ remove zs (min h (d - 2))) ≡
          take d (y ∷ remove (take n (g ∷ zs)) (index_of x blocks))
      new_moved y g zs long =
          let place : min h (d - 2) ≡ h = omega (arith, new_held) in
          let more : n + 1 ≡ suc (suc h) = omega (arith, new_held) in
          ap (λ j. take j (y ∷ g ∷ remove zs (min h (d - 2)))) more
          ∙ ap (λ j. take (suc (suc h)) (y ∷ g ∷ remove zs j)) place
          ∙ moved_grown y g zs long h d (omega (arith, new_held)) (omega (arith, new_held, l.most))
          ∙ ap (λ j. take d (y ∷ remove (take j (g ∷ zs)) j)) new_held
          ∙ ap (λ j. take d (y ∷ remove (take n (g ∷ zs)) j)) (sym new_index)

    -- in a full list
    module _ (full : d ≤ n) where
      last_at : (clean : ℕ) → clean ≡ get_or ms (min h (d - 2)) 0 → clean ≡ get_or cleans (d - 1) 0
      last_at clean is =
          let e : d - 1 ≡ suc (min h (d - 2)) = omega (arith, new_held, l.fits, l.two) in
          is ∙ sym (get_or-take n (fc ∷ ms) (suc (min h (d - 2))) 0 (omega (arith, e, full, l.two)))
          ∙ ap (λ j. get_or cleans j 0) (sym e)

      pub full_touch : {clean : ℕ} → clean ≡ get_or ms (min h (d - 2)) 0 →
          Full clean ≡ marked_touch_of d x blocks cleans
      full_touch {clean} is = ap Full (last_at clean is)
          ∙ sym (touch_is ∙ ap (λ b. cond b (Full (get_or cleans (d - 1) 0)) (New n))
          (eq-eqb n d (omega (arith, l.fits, full))))

      pub full_moved : (y g : ℕ) (zs : List ℕ) → length zs ≡ 16 →
          take n (y ∷ g ∷ remove zs (min h (d - 2))) ≡
          take d (y ∷ remove (take n (g ∷ zs)) (index_of x blocks))
      full_moved y g zs long =
          let place : ℕ = min h (d - 2) in
          let size : n ≡ suc (suc place) = omega (arith, new_held, l.fits, full, l.two) in
          ap (λ j. take j (y ∷ g ∷ remove zs place)) size
          ∙ moved_full y g zs long place (omega (arith, l.most, l.two))
          ∙ ap (λ j. take j (y ∷ remove (take j (g ∷ zs)) j)) (sym size)
          ∙ ap (λ j. take n (y ∷ remove (take n (g ∷ zs)) j)) (sym new_index)
          ∙ ap (λ j. take j (y ∷ remove (take n (g ∷ zs)) (index_of x blocks)))
          (omega (arith, l.fits, full))

-- a list that is put together of what was written
pub brought : {n n' y y' f f' : ℕ} (p : ℕ) (zs : List ℕ) {zs' : List ℕ} → n' ≡ n → y' ≡ y →
    zs' ≡ f' ∷ remove zs p → f' ≡ f → take n' (y' ∷ zs') ≡ take n (y ∷ f ∷ remove zs p)
brought p zs len front behind second = cc
