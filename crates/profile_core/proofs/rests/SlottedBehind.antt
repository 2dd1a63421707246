-- A block that comes to the front of a list whose blocks behind the second are in slots.
use Rattle.std.proofs.Common.{◌≡◌, ℕ, suc, ◌+◌, ◌-◌, ◌<◌, ◌≤◌, inl, inr, List, ◌∷◌, length}
use Rattle.std.proofs.Common.{take, min, sym, ◌∙◌, ap, subst, arith}
use Rattle.std.specs.List.{remove}
use Rattle.std.proofs.lemmas.Bool.{cases_lt}
use Rattle.std.proofs.lemmas.List.{take_all, take-take, length-take-le}
use Rattle.profile_core.specs.declared.set_lists.recency.Standing.TheVariants.{Behind, New}
use Rattle.profile_core.specs.declared.slots.Slots.{Slots}
use Rattle.profile_core.specs.profile.RecencyList.{index_of}
use Rattle.profile_core.specs.internal.set_lists.Moves.{standing_of}
use Rattle.profile_core.specs.Slots.{ordered_numbers}
use Rattle.profile_core.proofs.profile.Feeding.{FoundAt, FoundNowhere, found_behind, found_nowhere}
use Rattle.profile_core.proofs.Shifting.{length-remove, remove_end, removed_take, kept_take}
use Rattle.profile_core.proofs.slots.SlotLemmas.{length-ordered_numbers, ordered_numbers_take}
use Rattle.profile_core.proofs.rests.SlottedRestLemmas.{AreOrdered}

-- The numbers behind the second of a list: `whole` are all in slots, of which the list has the
-- first `h`, and then one more came in front, in the slot of a place.
module _ (x y h most : ℕ) (whole after : List ℕ) (all : length whole ≡ 16) (some : 1 ≤ most)
    (short : most ≤ 16) (fits : h ≤ most) where
  abbrev in_list : List ℕ
  in_list = take h whole

  in_list_long : length in_list ≡ h
  in_list_long = length-take-le h whole (omega arith)

  -- in that of the block itself
  pub found_moved : (p : ℕ) → after ≡ y ∷ remove whole p → index_of x in_list ≡ p → p < h →
      take h after ≡ take most (y ∷ remove in_list (index_of x in_list))
  found_moved p is at lt = grind (arith, removed_take, length-remove, take_all, in_list_long)

  -- in that of the last, or of the first that the list doesn't have
  pub new_moved : (q : ℕ) → after ≡ y ∷ remove whole q → index_of x in_list ≡ length in_list →
      q ≡ min h (most - 1) →
      take (q + 1) after ≡ take most (y ∷ remove in_list (index_of x in_list))
  new_moved q is at place =
      let next : q + 1 ≡ suc q = omega arith in
      let size : most ≡ suc (most - 1) = omega arith in
      let rest : take q whole ≡ take (most - 1) in_list = elim (cases_lt (most - 1) h) [
        | inl full ↦ ap (λ n. take n whole) (omega (arith, place, full)) ∙
            sym (take-take (most - 1) h whole (omega arith))
        | inr free ↦ ap (λ n. take n whole) (omega (arith, place, free)) ∙
            sym (take_all (most - 1) in_list (omega (arith, in_list_long, free)))
      ] in
      ap (take (q + 1)) is ∙ ap (λ n. take n (y ∷ remove whole q)) next
      ∙ ap (λ ys. y ∷ ys) (kept_take q whole ∙ rest)
      ∙ ap (λ n. take n (y ∷ in_list)) (sym size)
      ∙ ap (λ ys. take most (y ∷ ys)) (sym (remove_end in_list (index_of x in_list)
      (omega (arith, at))))

module _ (x y len most : ℕ) (before after : Slots) (o : AreOrdered before) (some : 1 ≤ most)
    (short : most ≤ 16) (two : 2 ≤ len) (fits : len ≤ most + 2) where
  abbrev pub held : ℕ
  held = len - 2

  abbrev pub list : List ℕ
  list = ordered_numbers before.order before.numbers held

  abbrev whole : List ℕ
  whole = ordered_numbers before.order before.numbers 16

  few : held ≤ 16
  few = omega (arith, short, fits)

  pub list_long : length list ≡ held
  list_long = length-ordered_numbers before.order before.numbers held
      (omega (arith, o.order_len, few))

  whole_long : length whole ≡ 16
  whole_long = length-ordered_numbers before.order before.numbers 16 (omega (arith, o.order_len))

  list_is : list ≡ take held whole
  list_is = ordered_numbers_take before.order before.numbers held 16 few

  module _ (p : ℕ) (at : Behind p ≡ standing_of x list) where
    found : FoundAt x p list
    found = found_behind x p list at

    pub found_lt : p < held
    found_lt = omega (arith, found.within, list_long)

    pub found_small : p < 16
    found_small = omega (arith, found_lt, few)

    pub found_list : ordered_numbers after.order after.numbers 16 ≡ y ∷ remove whole p →
        ordered_numbers after.order after.numbers held ≡
        take most (y ∷ remove list (index_of x list))
    found_list put =
        let P : List ℕ → Type 0 = λ xs. ordered_numbers after.order after.numbers held ≡
        take most (y ∷ remove xs (index_of x xs)) in
        subst P (sym list_is) (ordered_numbers_take after.order after.numbers held 16 few
        ∙ found_moved x y held most whole (ordered_numbers after.order after.numbers 16)
        whole_long some
        short (omega (arith, fits)) p put
        (sym (ap (index_of x) list_is) ∙ found.distance_is) found_lt)

  module _ (h : ℕ) (at : New h ≡ standing_of x list) where
    nowhere : FoundNowhere x h list
    nowhere = found_nowhere x h list at

    abbrev pub place : ℕ
    place = min h (most - 1)

    pub place_small : place < 16
    place_small = omega (arith, short, some)

    pub new_held : h ≡ held
    new_held = omega (arith, nowhere.len_is, list_long)

    pub new_list : ordered_numbers after.order after.numbers 16 ≡ y ∷ remove whole place →
        ordered_numbers after.order after.numbers (place + 3 - 2) ≡
        take most (y ∷ remove list (index_of x list))
    new_list put =
        let P : List ℕ → Type 0 = λ xs. ordered_numbers after.order after.numbers (place + 1) ≡
        take most (y ∷ remove xs (index_of x xs)) in
        let e : place + 3 - 2 ≡ place + 1 = omega arith in
        ap (ordered_numbers after.order after.numbers) e
        ∙ subst P (sym list_is) (ordered_numbers_take after.order after.numbers (place + 1) 16
        (omega (arith, place_small))
        ∙ new_moved x y held most whole (ordered_numbers after.order after.numbers 16)
        whole_long some
        short (omega (arith, fits)) place put
        (sym (ap (index_of x) list_is) ∙ nowhere.index_is ∙ ap length list_is)
        (ap (λ n. min n (most - 1)) new_held))
