-- Lists and numbers that stand for a profile, after each step of the code.
use Rattle.std.proofs.Common.{◌≡◌, ℕ, ◌+◌, ◌-◌, ◌<◌, ◌≤◌, ◌^◌, Bool, true, false, cond, eqb}
use Rattle.std.proofs.Common.{List, [], length, get_or, set, sum, refl, sym, ◌∙◌, ap, subst}
use Rattle.std.proofs.Common.{arith}
use Rattle.std.specs.List.{sum_by}
use Rattle.std.proofs.lemmas.Bool.{eqb-true}
use Rattle.std.specs.Prelude.{replicate}
use Rattle.std.proofs.lemmas.List.{get_or_read, length-replicate}
use Rattle.profile_core.proofs.Elements.{all_same}
use Rattle.trace_core.specs.declared.events.Access.{Access}
use Rattle.cache_core.specs.Geometry.{GeometryValue, IsGeometry, set_of_block}
use Rattle.profile_core.specs.profile.RecencyList.{index_of, is_in, is_front}
use Rattle.profile_core.specs.internal.profile.StackProfile.{IsSound, IsNext}
use Rattle.profile_core.specs.profile.State.{fed_of}
use Rattle.profile_core.specs.profile.State.{one_more_at, after_reference}
use Rattle.profile_core.specs.internal.profile.StackProfile.{most_references}
use Rattle.profile_core.specs.internal.profile.StackProfile.{IsFit}
use Rattle.profile_core.proofs.profile.Feeding.{FoundAt, FoundNowhere, new_is, new_sound}
use Rattle.profile_core.proofs.profile.Fed.{IsMoved, found_after, found_sound, nowhere_after}
use Rattle.profile_core.proofs.profile.Fed.{nowhere_sound}
use Rattle.profile_core.proofs.profile.Fronts.{fit_inside, counted_after, counted_sound}
use Rattle.full_profile.specs.State.{FullState, KindState, kind_number, kind_of}
use Rattle.full_profile.specs.State.{after_reference_in_lists, with_miss, empty_kind}
use Rattle.full_profile.specs.State.{after_emptying, empty_full}
use Rattle.full_profile.specs.Batches.{after_settled}
use Rattle.full_profile.specs.declared.marked_lists.MarkedTouch.TheVariants.{Behind, New, Full}
use Rattle.full_profile.specs.internal.Copies.{CopiesValue, CanTake, with_copy}
use Rattle.full_profile.specs.internal.Copies.{with_all_copies, up_to_of, no_copies}
use Rattle.full_profile.specs.declared.copies.Emptying.{Emptying}
use Rattle.full_profile.specs.internal.Marked.{Marked, blocks_in, cleans_in, marked_touch_of}
use Rattle.full_profile.specs.internal.Marked.{after_access}
use Rattle.full_profile.specs.internal.Marked.{cleans_after, emptied, empty_marked}
use Rattle.full_profile.specs.internal.Sound.{IsFullSound, IsFullFit, full_state_of, plain_lists}
use Rattle.full_profile.proofs.copies.Order.{ends_few}
use Rattle.full_profile.proofs.marked_lists.Touching.{inside_lt, index_absent, full_parts}
use Rattle.full_profile.proofs.marked_lists.Touching.{new_parts}
use Rattle.full_profile.proofs.profile.Fit.{ordered, fit_after, fit_settled, kind_within}
use Rattle.full_profile.proofs.profile.Fit.{fit_emptied, fit_empty}
use Rattle.full_profile.proofs.profile.Steps.{state_same, reference_is, copies_after}
use Rattle.full_profile.proofs.profile.Steps.{emptying_is}

-- where an access found its block
behind_parts : (b e : Bool) (h c p q r n : ℕ) →
    Behind h c ≡ cond b (Behind p q) (cond e (Full r) (New n)) →
    (b ≡ true) × (h ≡ p) × (c ≡ q)
behind_parts true e h c p q r n is = (refl, cc, cc)
behind_parts false true h c p q r n is = absurd (cc)
behind_parts false false h c p q r n is = absurd (cc)

module _ {g : GeometryValue} {m : Marked} {distances missed : List ℕ}
    {kinds : List KindState} {copies : CopiesValue}
    (h : IsFullSound g m distances missed kinds copies) where
  abbrev state : FullState
  state = full_state_of g m distances missed kinds copies

  pub plain_fit : IsFit state.plain
  plain_fit = fit_inside h.plain refl

  -- all sums are within the references fed, which are few
  pub fed_few : fed_of state.plain ≤ 2 ^ 41
  fed_few = h.plain.fed

  pub above_few : sum copies.above + sum_by length m.cleans ≤ 2 ^ 41
  above_few = omega (arith, h.fit.copies_few, fed_few)

  pub up_to_few : sum copies.up_to ≤ sum copies.above
  up_to_few = ends_few (ordered h.fit)

  pub kind_few : (a : Access) → sum (kind_of state a).behind + (kind_of state a).missed ≤ 2 ^ 41
  kind_few a = omega (arith, h.fit.kinds_few a, fed_few)

  pub room : CanTake m.depth m.cleans copies
  room = record {
    above_within = omega (arith, h.plain.depth, h.fit.above_long);
    within = omega (arith, h.plain.depth, h.fit.up_to_long);
    above_few = omega (arith, above_few);
    few = omega (arith, above_few, up_to_few);
  }

  pub next_inside : {v : FullState} → state ≡ v → {k x : ℕ} → IsNext v.plain k x →
      IsNext state.plain k x
  next_inside {v} seen {k} {x} next = subst (λ (w : FullState). IsNext w.plain k x) (sym seen) next

  -- references that are settled
  module _ {n : ℕ} (read : n ≡ get_or distances 0 n) (count : ℕ) where
    pub settled_is : full_state_of g m (set distances 0 (n + count)) missed kinds copies
        ≡ after_settled count state
    settled_is = ap (λ p. record state { plain = p }) (counted_after h.plain refl read count)

    pub settled_sound : fed_of state.plain + count ≤ most_references →
        IsFullSound g m (set distances 0 (n + count)) missed kinds copies
    settled_sound few = record {
      plain = counted_sound h.plain refl read count few;
      fit = subst IsFullFit (sym settled_is) (fit_settled h.fit count);
    }

-- a reference to block x of set k, which is not its front; the lists are m' then
pub record IsAccessed (g : GeometryValue) (m m' : Marked) (distances missed : List ℕ)
    (kinds : List KindState) (copies : CopiesValue) (k x : ℕ) (access : Access) : Type 0 where
  pub sound : IsFullSound g m distances missed kinds copies
  pub next : IsNext (full_state_of g m distances missed kinds copies).plain k x
  pub moved : m' ≡ after_access m k x access

module _ {g : GeometryValue} {m m' : Marked} {distances missed : List ℕ}
    {kinds : List KindState} {copies : CopiesValue} {k x : ℕ} {access : Access}
    (a : IsAccessed g m m' distances missed kinds copies k x access) where
  abbrev was : FullState
  was = full_state_of g m distances missed kinds copies

  abbrev xs : List ℕ
  xs = blocks_in m k

  abbrev ms : List ℕ
  ms = cleans_in m k

  pub is_moved : IsMoved g (plain_lists m) (plain_lists m') distances missed x k was.plain
  is_moved = record {
    sound = a.sound.plain;
    view_is = refl;
    next = a.next;
    moved = ap plain_lists a.moved;
  }

  -- what the reference gives, if plain part, kinds and copybacks are as they should be
  step_is : (distances' missed' : List ℕ) (kinds' : List KindState)
      (copies' : CopiesValue) → (full_state_of g m' distances' missed' kinds' copies').plain
      ≡ after_reference was.plain x →
      kinds' ≡ set kinds (kind_number access) (with_miss x xs (kind_of was access)) →
      copies' ≡ copies_after g.e x xs ms copies →
      full_state_of g m' distances' missed' kinds' copies'
      ≡ after_reference_in_lists was access x xs ms
  step_is distances' missed' kinds' copies' plain_is kinds_are copies_are =
      let after = full_state_of g m' distances' missed' kinds' copies' in
      let cleans_are : m'.cleans ≡ set m.cleans (set_of_block g x)
      (cleans_after g.e access x xs ms) =
      ap (λ l. l.cleans) a.moved
      ∙ ap (λ d. set m.cleans k (cleans_after d access x xs ms)) a.sound.plain.depth
      ∙ ap (λ j. set m.cleans j (cleans_after g.e access x xs ms)) a.next.of_set in
      let other : kinds' ≡ cond (is_front x xs) kinds (set kinds (kind_number access)
      (with_miss x xs (kind_of was access))) =
      kinds_are ∙ sym (ap (λ b. cond b kinds (set kinds (kind_number access)
      (with_miss x xs (kind_of was access)))) a.next.behind) in
      state_same after _ plain_is cleans_are other copies_are
      ∙ sym (reference_is was access x xs ms)

  step_fit : (distances' missed' : List ℕ) (kinds' : List KindState)
      (copies' : CopiesValue) → full_state_of g m' distances' missed' kinds' copies'
      ≡ after_reference_in_lists was access x xs ms →
      IsFullFit (full_state_of g m' distances' missed' kinds' copies')
  step_fit distances' missed' kinds' copies' is = subst IsFullFit (sym is)
      (subst (λ j. IsFullFit (after_reference_in_lists was access x (blocks_in m j)
      (cleans_in m j))) (sym a.next.of_set) (fit_after a.sound.fit (plain_fit a.sound) access x))

  -- one more miss of its kind
  kind_read : {i : ℕ} {s : KindState} → i ≡ kind_number access → s ≡ get_or kinds i s →
      s ≡ kind_of was access
  kind_read {i} {s} is read = get_or_read kinds (kind_number access) s
      (omega (arith, kind_within access, a.sound.fit.kind_count))
      (read ∙ ap (λ j. get_or kinds j s) is) (empty_kind g)

  module _ {distance clean : ℕ} (found : Behind distance clean ≡ marked_touch_of m.depth x xs ms)
    where
      parts : (is_in x xs ≡ true) × (distance ≡ index_of x xs) ×
          (clean ≡ get_or ms (index_of x xs) 0)
      parts = behind_parts (is_in x xs) (eqb (length xs) m.depth) distance clean (index_of x xs)
          (get_or ms (index_of x xs) 0) (get_or ms (m.depth - 1) 0) (length xs) found

      pub found_at : FoundAt x distance xs
      found_at = record {
        inside = parts.0;
        distance_is = sym parts.1;
        within = omega (arith, parts.1, inside_lt x xs parts.0);
      }

      pub found_within : distance < g.e
      found_within = omega (arith, found_at.within, a.sound.plain.short k)

      module _ {n i : ℕ} {s t : KindState} {copies' : CopiesValue}
          (read : n ≡ get_or distances distance n) (is : i ≡ kind_number access)
          (kind : s ≡ get_or kinds i s)
          (miss : t ≡ record s { behind = one_more_at s.behind distance })
          (copied : copies' ≡ with_copy clean distance copies) where
        kinds_found : set kinds i t ≡ set kinds (kind_number access)
            (with_miss x xs (kind_of was access))
        kinds_found = ap (λ j. set kinds j t) is ∙ ap (set kinds (kind_number access)) (miss
            ∙ ap (λ (u : KindState). record u { behind = one_more_at u.behind distance })
            (kind_read is kind)
            ∙ ap (λ i. record (kind_of was access) {
              behind = one_more_at (kind_of was access).behind i;
            }) parts.1
            ∙ sym (ap (λ b. cond b (record (kind_of was access) {
              behind = one_more_at (kind_of was access).behind (index_of x xs);
            }) (record (kind_of was access) {
              missed = (kind_of was access).missed + 1;
            })) parts.0))

        copies_found : copies' ≡ copies_after g.e x xs ms copies
        copies_found = copied ∙ ap (λ c. with_copy c distance copies) parts.2
            ∙ ap (λ u. with_copy (get_or ms (index_of x xs) 0) u copies) parts.1
            ∙ sym (ap (λ b. cond b (with_copy (get_or ms (index_of x xs) 0) (index_of x xs)
            copies)
            (cond (eqb (length xs) g.e) (with_copy (get_or ms (g.e - 1) 0) g.e copies) copies))
            parts.0)

        pub behind_after : full_state_of g m' (set distances distance (n + 1)) missed
            (set kinds i t) copies' ≡ after_reference_in_lists was access x xs ms
        behind_after = step_is (set distances distance (n + 1)) missed (set kinds i t) copies'
            (found_after is_moved found_at read) kinds_found copies_found

        pub behind_sound : IsFullSound g m' (set distances distance (n + 1)) missed
            (set kinds i t) copies'
        behind_sound = record {
          plain = found_sound is_moved found_at read;
          fit = step_fit (set distances distance (n + 1)) missed (set kinds i t) copies'
              behind_after;
        }

  -- not found, in a list that has room
  new_len : {held : ℕ} → New held ≡ marked_touch_of m.depth x xs ms → held ≡ length xs
  new_len {held} found = (new_parts (is_in x xs) (eqb (length xs) m.depth) held (index_of x xs)
      (get_or ms (index_of x xs) 0) (get_or ms (m.depth - 1) 0) (length xs) found).2

  pub new_absent : {held : ℕ} → New held ≡ marked_touch_of m.depth x xs ms → FoundNowhere x held xs
  new_absent {held} found =
      let outside : is_in x xs ≡ false = (new_parts (is_in x xs) (eqb (length xs) m.depth) held
      (index_of x xs) (get_or ms (index_of x xs) 0) (get_or ms (m.depth - 1) 0) (length xs)
      found).0 in
      record {
        outside = outside;
        index_is = index_absent x xs outside;
        len_is = new_len found;
      }

  pub new_copied : {held : ℕ} → New held ≡ marked_touch_of m.depth x xs ms →
      copies ≡ cond (eqb (length xs) g.e) (with_copy (get_or ms (g.e - 1) 0) g.e copies) copies
  new_copied {held} found = sym (ap (λ d. cond (eqb (length xs) d)
      (with_copy (get_or ms (g.e - 1) 0) g.e copies) copies) (sym a.sound.plain.depth)
      ∙ ap (λ b. cond b (with_copy (get_or ms (g.e - 1) 0) g.e copies) copies)
      (new_parts (is_in x xs) (eqb (length xs) m.depth) held (index_of x xs)
      (get_or ms (index_of x xs) 0) (get_or ms (m.depth - 1) 0) (length xs) found).1)

  pub new_within : {held : ℕ} → New held ≡ marked_touch_of m.depth x xs ms → held ≤ g.e
  new_within {held} found = omega (arith, new_len found, a.sound.plain.short k)

  -- or in a full one
  module _ {clean : ℕ} (found : Full clean ≡ marked_touch_of m.depth x xs ms) where
    parts_full : (is_in x xs ≡ false) × (eqb (length xs) m.depth ≡ true) ×
        (clean ≡ get_or ms (m.depth - 1) 0)
    parts_full = full_parts (is_in x xs) (eqb (length xs) m.depth) clean (index_of x xs)
        (get_or ms (index_of x xs) 0) (get_or ms (m.depth - 1) 0) (length xs) found

    pub full_absent : {len : ℕ} → len ≡ g.e → FoundNowhere x len xs
    full_absent {len} is = record {
      outside = parts_full.0;
      index_is = index_absent x xs parts_full.0;
      len_is = is ∙ sym (eqb-true (length xs) m.depth parts_full.1 ∙ a.sound.plain.depth);
    }

    pub full_copied : {len : ℕ} {copies' : CopiesValue} → len ≡ g.e →
        copies' ≡ with_copy clean len copies →
        copies' ≡ cond (eqb (length xs) g.e) (with_copy (get_or ms (g.e - 1) 0) g.e copies) copies
    full_copied {len} {copies'} len_is copied = copied
        ∙ ap (λ n. with_copy clean n copies) len_is
        ∙ ap (λ c. with_copy c g.e copies) (parts_full.2
        ∙ ap (λ d. get_or ms (d - 1) 0) a.sound.plain.depth)
        ∙ sym (ap (λ d. cond (eqb (length xs) d)
        (with_copy (get_or ms (g.e - 1) 0) g.e copies) copies) (sym a.sound.plain.depth)
        ∙ ap (λ b. cond b (with_copy (get_or ms (g.e - 1) 0) g.e copies) copies) parts_full.1)

  -- the kind that is counted
  pub kind_long : {i : ℕ} {s : KindState} → i ≡ kind_number access → s ≡ get_or kinds i s →
      length s.behind ≡ g.e
  kind_long is read = ap (λ u. length u.behind) (kind_read is read) ∙ a.sound.fit.kinds_long access

  pub kind_small : {i : ℕ} {s : KindState} → i ≡ kind_number access → s ≡ get_or kinds i s →
      sum s.behind + s.missed ≤ 2 ^ 41
  kind_small is read = omega (
    arith,
    ap (λ u. sum u.behind + u.missed) (kind_read is read),
    kind_few a.sound access,
  )

  module _ {len : ℕ} (absent : FoundNowhere x len xs) {n i : ℕ} {s t : KindState}
      {copies' : CopiesValue} (read : n ≡ get_or missed len n) (is : i ≡ kind_number access)
      (kind : s ≡ get_or kinds i s) (miss : t ≡ record s { missed = s.missed + 1 })
      (copied : copies' ≡ cond (eqb (length xs) g.e)
      (with_copy (get_or ms (g.e - 1) 0) g.e copies) copies) where
    kinds_missed : set kinds i t ≡ set kinds (kind_number access)
        (with_miss x xs (kind_of was access))
    kinds_missed = ap (λ j. set kinds j t) is ∙ ap (set kinds (kind_number access)) (miss
        ∙ ap (λ (u : KindState). record u { missed = u.missed + 1 }) (kind_read is kind)
        ∙ sym (ap (λ b. cond b (record (kind_of was access) {
          behind = one_more_at (kind_of was access).behind (index_of x xs);
        }) (record (kind_of was access) {
          missed = (kind_of was access).missed + 1;
        })) absent.outside))

    copies_missed : copies' ≡ copies_after g.e x xs ms copies
    copies_missed = copied
        ∙ sym (ap (λ b. cond b (with_copy (get_or ms (index_of x xs) 0) (index_of x xs) copies)
        (cond (eqb (length xs) g.e) (with_copy (get_or ms (g.e - 1) 0) g.e copies) copies))
        absent.outside)

    pub missed_after : full_state_of g m' distances (set missed len (n + 1)) (set kinds i t) copies'
        ≡ after_reference_in_lists was access x xs ms
    missed_after = step_is distances (set missed len (n + 1)) (set kinds i t) copies'
        (nowhere_after is_moved absent read) kinds_missed copies_missed

    pub missed_sound : IsFullSound g m' distances (set missed len (n + 1)) (set kinds i t) copies'
    missed_sound = record {
      plain = nowhere_sound is_moved absent read;
      fit = step_fit distances (set missed len (n + 1)) (set kinds i t) copies' missed_after;
    }

-- lists that are emptied
module _ {g : GeometryValue} {m : Marked} {distances missed : List ℕ}
    {kinds : List KindState} {copies : CopiesValue}
    (h : IsFullSound g m distances missed kinds copies) (e : Emptying) (m' : Marked)
    (copies' : CopiesValue) (none : m' ≡ emptied m)
    (counted : copies' ≡ with_all_copies (up_to_of e m.depth) m.cleans copies) where
  sets : length m.blocks ≡ 2 ^ g.s
  sets = h.plain.set_count

  pub emptied_after : full_state_of g m' distances missed kinds copies'
      ≡ after_emptying (up_to_of e g.e) (full_state_of g m distances missed kinds copies)
  emptied_after =
      let s = full_state_of g m distances missed kinds copies in
      let blocks : m'.blocks ≡ replicate (2 ^ g.s) [] =
      ap (λ l. l.blocks) none ∙ ap (λ n. replicate n []) sets in
      let cleans : m'.cleans ≡ replicate (2 ^ g.s) [] =
      ap (λ l. l.cleans) none ∙ ap (λ n. replicate n []) (h.fit.set_count ∙ sets) in
      state_same (full_state_of g m' distances missed kinds copies') _
      (ap (λ ls. record s.plain { lists = ls }) blocks) cleans refl
      (counted ∙ ap (λ d. with_all_copies (up_to_of e d) m.cleans copies) h.plain.depth)
      ∙ sym (emptying_is (up_to_of e g.e) s)

  pub emptied_sound : IsFullSound g m' distances missed kinds copies'
  emptied_sound = record {
    plain = subst (λ l. IsSound g l distances missed) (sym (ap plain_lists none)) (record {
      geometry = h.plain.geometry;
      depth = h.plain.depth;
      set_count = length-replicate (length m.blocks) [] ∙ sets;
      short = λ k. omega (arith, ap length (all_same {A = List ℕ} (length m.blocks) k []));
      distance_count = h.plain.distance_count;
      occupancy_count = h.plain.occupancy_count;
      fed = h.plain.fed;
    });
    fit = subst IsFullFit (sym emptied_after) (fit_emptied h.fit (plain_fit h) e);
  }

-- a profile that was fed nothing
module _ (g : GeometryValue) (m : Marked) (distances missed : List ℕ) (kinds : List KindState)
    (copies : CopiesValue) (limits : IsGeometry g) (none : m ≡ empty_marked (2 ^ g.s) g.e)
    (near : distances ≡ replicate g.e 0) (far : missed ≡ replicate (g.e + 1) 0)
    (kinds_are : kinds ≡ replicate 3 (empty_kind g)) (copies_are : copies ≡ no_copies g.e) where
  pub new_full : full_state_of g m distances missed kinds copies ≡ empty_full g
  new_full = state_same (full_state_of g m distances missed kinds copies) (empty_full g)
      (new_is g (plain_lists m) distances missed (ap (λ l. l.blocks) none) near far)
      (ap (λ l. l.cleans) none) kinds_are copies_are

  pub new_full_sound : IsFullSound g m distances missed kinds copies
  new_full_sound = record {
    plain = new_sound g (plain_lists m) distances missed limits (ap (λ l. l.depth) none)
        (ap (λ l. l.blocks) none) near far;
    fit = subst IsFullFit (sym new_full) (fit_empty g);
  }
