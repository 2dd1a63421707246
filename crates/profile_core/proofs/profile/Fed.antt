-- A profile that was fed a reference whose block is not the front of its set's list: its fields are
-- sound again, and they are those of
-- the state after the reference.
use Rattle.std.proofs.Common.{◌≡◌, ℕ, zero, suc, ◌+◌, ◌<◌, ◌≤◌, false, List, [], ◌∷◌, length, take}
use Rattle.std.proofs.Common.{get_or, set, sum, sym, ◌∙◌, ap, refl, subst, arith, length-set}
use Rattle.std.proofs.Common.{length-take}
use Rattle.std.proofs.lemmas.List.{get_or_read}
use Rattle.cache_core.specs.Geometry.{GeometryValue, set_of_block}
use Rattle.profile_core.specs.declared.set_lists.recency.Standing.TheVariants.{Behind, New}
use Rattle.profile_core.specs.declared.profile.histograms.Histograms.{Histograms}
use Rattle.profile_core.specs.profile.RecencyList.{is_front, move_to_front}
use Rattle.profile_core.specs.internal.set_lists.Moves.{standing_of}
use Rattle.profile_core.specs.internal.set_lists.Lists.{Lists, lists_after_bring}
use Rattle.profile_core.specs.profile.State.{ProfileState, list_of, fed_of, after_reference}
use Rattle.profile_core.specs.internal.profile.StackProfile.{IsSound, IsNext, compared}
use Rattle.profile_core.specs.internal.profile.StackProfile.{most_references, profile_of, AreSound}
use Rattle.profile_core.proofs.profile.Feeding.{FoundAt, FoundNowhere, after_fed, found_step}
use Rattle.profile_core.proofs.profile.Feeding.{nowhere_step, found_behind, found_nowhere}
use Rattle.profile_core.proofs.profile.Weighing.{raised_fits, weighed-raised}

-- the value of a profile, by its fields
abbrev pub state_of : GeometryValue → Lists → List ℕ → List ℕ → ProfileState
state_of g lists distances missed = record {
  geometry = g;
  lists = lists.lists;
  distances = distances;
  misses_by_occupancy = missed;
  probes = compared distances missed;
}

-- a list that is set is as short as the others
short_set : (ls : List (List ℕ)) (k e : ℕ) (ys : List ℕ) → ((i : ℕ) → length (get_or ls i []) ≤ e) →
    length ys ≤ e
    → (i : ℕ) → length (get_or (set ls k ys) i []) ≤ e
short_set [] k e ys h le i = h i
short_set (l ∷ ls) zero e ys h le zero = le
short_set (l ∷ ls) zero e ys h le (suc i) = h (suc i)
short_set (l ∷ ls) (suc k) e ys h le zero = h 0
short_set (l ∷ ls) (suc k) e ys h le (suc i) = short_set ls k e ys (λ j. h (suc j)) le i

-- the fields of a profile when block x was brought to the front of its set's list, and the counts
-- are still the old ones
pub record IsMoved (g : GeometryValue) (was now : Lists) (distances missed : List ℕ) (x k : ℕ)
    (v : ProfileState) : Type 0 where
  pub sound : IsSound g was distances missed
  pub view_is : state_of g was distances missed ≡ v
  pub next : IsNext v k x
  pub moved : now ≡ lists_after_bring was k x

pub moved_of : {g : GeometryValue} {was now : Lists} {k x : ℕ} {v : ProfileState} (h : Histograms) →
    AreSound g was h → profile_of g was h ≡ v → IsNext v k x → now ≡ lists_after_bring was k x →
    IsMoved g was now h.distances.items h.misses_by_occupancy.items x k v
moved_of h sound view_is next moved =
    record { sound = sound; view_is = view_is; next = next; moved = moved }

module _ {g : GeometryValue} {was now : Lists} {distances missed : List ℕ} {x k : ℕ}
    {v : ProfileState} (m : IsMoved g was now distances missed x k v) where
  abbrev list : List ℕ
  list = get_or was.lists k []

  of_set : k ≡ set_of_block g x
  of_set = m.next.of_set ∙ ap (λ w. set_of_block w.geometry x) (sym m.view_is)

  pub other : is_front x list ≡ false
  other = ap (λ w. is_front x (list_of w k)) m.view_is ∙ m.next.behind

  fed : sum distances + sum missed < most_references
  fed = omega (arith, m.next.few, ap fed_of m.view_is)

  moved : now.lists ≡ set was.lists k (take g.e (move_to_front x list))
  moved = ap (λ l. l.lists) m.moved ∙ ap (λ d. set was.lists k (take d (move_to_front x list)))
      m.sound.depth

  short : (i : ℕ) → length (get_or now.lists i []) ≤ g.e
  short i =
      subst (λ (ls : List (List ℕ)). length (get_or ls i []) ≤ g.e) (sym moved)
      (short_set was.lists k g.e _ m.sound.short
      (omega (arith, length-take g.e (move_to_front x list))) i)

  one_more : fed_of (after_reference v x) ≡ fed_of v + 1
  one_more =
      let s : ProfileState = state_of g was distances missed in
      let at : ℕ = set_of_block g x in
      subst (λ w. fed_of (after_reference w x) ≡ fed_of w + 1) m.view_is
      (after_fed s x (omega (arith, m.sound.distance_count, m.sound.short at))
      (omega (arith, m.sound.occupancy_count, m.sound.short at)))

  -- sound again, where the histograms are those after the reference
  sound_after : {distances' missed' : List ℕ} →
      state_of g now distances' missed' ≡ after_reference v x → length distances' ≡ length distances
      → length missed' ≡ length missed → IsSound g now distances' missed'
  sound_after {distances'} {missed'} step long far =
      let grown : sum distances' + sum missed' ≡ fed_of v + 1 = ap fed_of step ∙ one_more in
      record {
        geometry = m.sound.geometry;
        depth = ap (λ l. l.depth) m.moved ∙ m.sound.depth;
        set_count = ap length moved ∙ length-set was.lists k _ ∙ m.sound.set_count;
        short = short;
        distance_count = long ∙ m.sound.distance_count;
        occupancy_count = far ∙ m.sound.occupancy_count;
        fed = omega (arith, grown, m.next.few);
      }

  -- where it was found
  pub found_of : {distance : ℕ} → Behind distance ≡ standing_of x list → FoundAt x distance list
  found_of {distance} at = found_behind x distance list at

  pub nowhere_of : {len : ℕ} → New len ≡ standing_of x list → FoundNowhere x len list
  nowhere_of {len} at = found_nowhere x len list at

  -- found at a distance
  module _ {distance : ℕ} (f : FoundAt x distance list) where
    pub distance_fits : distance < length distances
    distance_fits = omega (arith, f.within, m.sound.short k, m.sound.distance_count)

    pub distance_few : {n : ℕ} → n ≡ get_or distances distance n → n < most_references
    distance_few {n} read = omega (arith, raised_fits distances distance n distance_fits read, fed)

    module _ {n : ℕ} (read : n ≡ get_or distances distance n) where
      weight : compared (set distances distance (n + 1)) missed ≡ compared distances missed +
          (distance + 1)
      weight = omega (arith, weighed-raised 1 distances distance n 1 distance_fits read)

      pub found_after : state_of g now (set distances distance (n + 1)) missed ≡ after_reference v x
      found_after = grind (
        arith,
        found_step,
        weight,
        moved,
        of_set,
        get_or_read,
        distance_fits,
        state_of,
      )

      pub found_sound : IsSound g now (set distances distance (n + 1)) missed
      found_sound = sound_after found_after (length-set distances distance (n + 1)) refl

  -- found nowhere in a list of `len` blocks
  module _ {len : ℕ} (f : FoundNowhere x len list) where
    pub len_fits : len < length missed
    len_fits = omega (arith, f.len_is, m.sound.short k, m.sound.occupancy_count)

    pub len_few : {n : ℕ} → n ≡ get_or missed len n → n < most_references
    len_few {n} read = omega (arith, raised_fits missed len n len_fits read, fed)

    module _ {n : ℕ} (read : n ≡ get_or missed len n) where
      missed_weight : compared distances (set missed len (n + 1)) ≡ compared distances missed + len
      missed_weight = omega (arith, weighed-raised 0 missed len n 1 len_fits read)

      pub nowhere_after : state_of g now distances (set missed len (n + 1)) ≡ after_reference v x
      nowhere_after = grind (
        arith,
        nowhere_step,
        missed_weight,
        moved,
        of_set,
        get_or_read,
        len_fits,
        state_of,
      )

      pub nowhere_sound : IsSound g now distances (set missed len (n + 1))
      nowhere_sound = sound_after nowhere_after refl (length-set missed len (n + 1))
