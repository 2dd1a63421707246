-- A block that comes to the front of its list, from the row or from behind it, and its clean depth.
use Rattle.std.proofs.Common.{◌≡◌, ℕ, ◌+◌, ◌-◌, ◌<◌, ◌≤◌, ◌^◌, ◌⊎◌, inl, inr, Bool, true}
use Rattle.std.proofs.Common.{false}
use Rattle.std.proofs.Common.{cond, eqb, ◌||◌, List, [], ◌∷◌, ◌++◌, length, take, get_or, set, refl}
use Rattle.std.proofs.Common.{sym}
use Rattle.std.proofs.Common.{◌∙◌, ap, subst, arith, length-append, length-set, length-take}
use Rattle.std.proofs.Common.{get_or-set_same}
use Rattle.std.specs.Prelude.{max}
use Rattle.std.specs.List.{remove}
use Rattle.std.proofs.lemmas.Bool.{eqb-true, ne_eqb}
use Rattle.std.proofs.Common.{eq-eqb}
use Rattle.std.proofs.lemmas.List.{set-get_or, nil_from_length}
use Rattle.trace_core.specs.declared.events.Access.{Access}
use Rattle.trace_core.specs.Events.{is_write}
use Rattle.deep_list.specs.Deep.{Deep, list_after_exchange}
use Rattle.profile_core.specs.profile.RecencyList.{index_of, is_in, move_to_front}
use Rattle.profile_core.specs.internal.set_lists.LongLists.{nothing, AreSplit}
use Rattle.profile_core.proofs.ListParts.{is_in-append, index-append_left}
use Rattle.profile_core.proofs.ListParts.{index-append_right, index-lt, index_absent}
use Rattle.profile_core.proofs.LongListLemmas.{StaysIn, stays, rest_behind, some_is}
use Rattle.profile_core.proofs.LongListBringing.{IsFull, full_renewed, last_apart}
use Rattle.full_profile.specs.State.{clean_in_front}
use Rattle.full_profile.specs.declared.marked_lists.MarkedTouch.{MarkedTouch}
use Rattle.full_profile.specs.declared.marked_lists.MarkedTouch.TheVariants.{Behind, New, Full}
use Rattle.full_profile.specs.internal.Marked.{Marked, blocks_in, cleans_in, cleans_after}
use Rattle.full_profile.specs.internal.Marked.{after_access, after_mark_in_front, marked_touch_of}
use Rattle.full_profile.specs.internal.LongMarked.{rest_touch_of, front_clean_of}
use Rattle.full_profile.specs.internal.LongMarked.{IsWithin}
use Rattle.full_profile.specs.internal.Sound.{plain_lists}
use Rattle.full_profile.proofs.marked_lists.Touching.{same_size, unequal, full_parts}
use Rattle.full_profile.proofs.marked_lists.TwoParts.{near_out, room_out, far_out, read_left}
use Rattle.full_profile.proofs.marked_lists.TwoParts.{read_right, first_read, first_set}
use Rattle.full_profile.proofs.marked_lists.LongLists.{HasMarked, IsWritten, plain, row, rest}
use Rattle.full_profile.proofs.marked_lists.LongLists.{marks}
use Rattle.full_profile.proofs.marked_lists.LongLists.{values, near_set, far_set, blocks_are}
use Rattle.full_profile.proofs.marked_lists.LongLists.{cleans_are, depth_is, marks_long}
use Rattle.full_profile.proofs.marked_lists.LongLists.{values_long, written, brought}
use Rattle.full_profile.proofs.marked_lists.LongLists.{brought_is, brought_alike}

-- where a block is found
touch_in : (d x : ℕ) (xs cs : List ℕ) → is_in x xs ≡ true →
    marked_touch_of d x xs cs ≡ Behind (index_of x xs) (get_or cs (index_of x xs) 0)
touch_in d x xs cs inside = ap (λ b. cond b (Behind (index_of x xs) (get_or cs (index_of x xs) 0))
    (cond (eqb (length xs) d) (Full (get_or cs (d - 1) 0)) (New (length xs)))) inside

touch_full : (d x : ℕ) (xs cs : List ℕ) → is_in x xs ≡ false → length xs ≡ d →
    marked_touch_of d x xs cs ≡ Full (get_or cs (d - 1) 0)
touch_full d x xs cs out full =
    ap (λ b. cond b (Behind (index_of x xs) (get_or cs (index_of x xs) 0))
    (cond (eqb (length xs) d) (Full (get_or cs (d - 1) 0)) (New (length xs)))) out
    ∙ ap (λ b. cond b (Full (get_or cs (d - 1) 0)) (New (length xs)))
    (eq-eqb (length xs) d full)

touch_new : (d x : ℕ) (xs cs : List ℕ) → is_in x xs ≡ false → (length xs ≡ d → ⊥) →
    marked_touch_of d x xs cs ≡ New (length xs)
touch_new d x xs cs out other =
    ap (λ b. cond b (Behind (index_of x xs) (get_or cs (index_of x xs) 0))
    (cond (eqb (length xs) d) (Full (get_or cs (d - 1) 0)) (New (length xs)))) out
    ∙ ap (λ b. cond b (Full (get_or cs (d - 1) 0)) (New (length xs)))
    (ne_eqb (length xs) d other)

touch_same : (d d' x : ℕ) (xs xs' cs cs' : List ℕ) → d ≡ d' → xs ≡ xs' → cs ≡ cs' →
    marked_touch_of d x xs cs ≡ marked_touch_of d' x xs' cs'
touch_same d d' x xs xs' cs cs' e f g =
    ap (λ n. marked_touch_of n x xs cs) e ∙ ap (λ ys. marked_touch_of d' x ys cs) f
    ∙ ap (marked_touch_of d' x xs') g

-- and its clean depth in front
front_at : (access : Access) (d : ℕ) (b e : Bool) (p q r n : ℕ) →
    front_clean_of d access (cond b (Behind p q) (cond e (Full r) (New n)))
    ≡ cond (is_write access) 0 (cond b (max q p) d)
front_at access d true e p q r n = refl
front_at access d false true p q r n = refl
front_at access d false false p q r n = refl

pub front_is : (d x : ℕ) (access : Access) (xs cs : List ℕ) {touch : MarkedTouch} →
    touch ≡ marked_touch_of d x xs cs →
    front_clean_of d access touch ≡ clean_in_front d access x xs cs
front_is d x access xs cs is = ap (front_clean_of d access) is
    ∙ front_at access d (is_in x xs) (eqb (length xs) d) (index_of x xs)
    (get_or cs (index_of x xs) 0) (get_or cs (d - 1) 0) (length xs)

within_at : (d : ℕ) (b e : Bool) (p q r n : ℕ) → (b ≡ true → p ≤ d) →
    IsWithin d (cond b (Behind p q) (cond e (Full r) (New n)))
within_at d true e p q r n le = le refl
within_at d false true p q r n le = tt
within_at d false false p q r n le = tt

pub found_within : (d x : ℕ) (xs cs : List ℕ) {touch : MarkedTouch} → length xs ≤ d →
    touch ≡ marked_touch_of d x xs cs → IsWithin d touch
found_within d x xs cs {touch} short is =
    subst (IsWithin d) (sym is)
    (within_at d (is_in x xs) (eqb (length xs) d) (index_of x xs)
    (get_or cs (index_of x xs) 0) (get_or cs (d - 1) 0) (length xs)
    (λ inside. omega (arith, index-lt x xs inside, short)))

settled_parts : (b e : Bool) (touch : MarkedTouch) (p q r n : ℕ) →
    touch ≡ cond b (Behind p q) (cond e (Full r) (New n)) →
    ((c : ℕ) → touch ≡ Full c → ⊥) → (b ≡ true) ⊎ ((e ≡ false) × (b ≡ false))
settled_parts true e touch p q r n is other = inl refl
settled_parts false true touch p q r n is other = absurd (other r is)
settled_parts false false touch p q r n is other = inr (refl, refl)

module _ {near : Marked} {beyond : ℕ} {far : List (Deep ℕ)} {k : ℕ} {m : Marked}
    (h : HasMarked near beyond far k m) (x : ℕ) where
  abbrev index : ℕ
  index = index_of x (row h)

  -- the clean depth in front, and what is behind it
  cleans_whole : (access : Access) (c i : ℕ) → i ≡ index_of x (row h ++ rest h) →
      c ≡ clean_in_front m.depth access x (blocks_in m k) (cleans_in m k) →
      take (near.depth + beyond) (c ∷ remove (marks h ++ values h) i)
      ≡ cleans_after m.depth access x (blocks_in m k) (cleans_in m k)
  cleans_whole access c i at is =
      ap (λ d. take d (c ∷ remove (marks h ++ values h) i)) (depth_is h)
      ∙ ap (λ l. take m.depth (c ∷ remove l i)) (sym (cleans_are h))
      ∙ ap (λ j. take m.depth (c ∷ remove (cleans_in m k) j))
      (at ∙ ap (index_of x) (sym (blocks_are h)))
      ∙ ap (λ z. take m.depth (z ∷ remove (cleans_in m k) (index_of x (blocks_in m k)))) is

  blocks_whole : take (near.depth + beyond) (move_to_front x (row h ++ rest h))
      ≡ take m.depth (move_to_front x (blocks_in m k))
  blocks_whole =
      ap (λ d. take d (move_to_front x (row h ++ rest h))) (depth_is h)
      ∙ ap (λ l. take m.depth (move_to_front x l)) (sym (blocks_are h))

  -- the row tells where the block was
  module _ (stay : StaysIn (plain h) x) where
    stays_out : (c : ℕ) (xs ys : List ℕ) → length xs ≡ length (row h) →
        length ys ≡ length (rest h) → (length (rest h) ≡ 0 → ys ≡ []) →
        take (near.depth + beyond) (c ∷ remove (xs ++ ys) (index_of x (row h ++ rest h)))
        ≡ take near.depth (c ∷ remove xs index) ++ ys
    stays_out c xs ys long rest_long none = elim stay [
      | inl inside ↦ ap (λ i. take (near.depth + beyond) (c ∷ remove (xs ++ ys) i))
          (index-append_left x (row h) (rest h) inside)
          ∙ near_out near.depth beyond c xs ys index
          (omega (arith, long, index-lt x (row h) inside))
          (omega (arith, long, h.sound.split.short k))
          (omega (arith, rest_long, h.sound.split.rest_short k))
      | inr new ↦
          let empty : rest h ≡ [] = rest_behind (plain h) new.0 in
          room_out near.depth beyond c xs ys (index_of x (row h ++ rest h)) index
          (omega (
            arith,
            index-append_right x (row h) (rest h) new.1,
            long,
          ))
          (omega (arith, index_absent x (row h) new.1, long))
          (omega (arith, new.0, long)) (none (ap length empty))
    ]

    stays_found : marked_touch_of near.depth x (row h) (marks h)
        ≡ marked_touch_of (near.depth + beyond) x (row h ++ rest h) (marks h ++ values h)
    stays_found = elim stay [
      | inl inside ↦
          let both : is_in x (row h ++ rest h) ≡ true =
          is_in-append x (row h) (rest h) ∙ ap (λ b. b || is_in x (rest h)) inside in
          let same = index-append_left x (row h) (rest h) inside in
          touch_in near.depth x (row h) (marks h) inside
          ∙ ap (Behind index) (sym (read_left (marks h) (values h) index
          (omega (arith, marks_long h, index-lt x (row h) inside))))
          ∙ ap (λ i. Behind i (get_or (marks h ++ values h) i 0)) (sym same)
          ∙ sym (touch_in (near.depth + beyond) x (row h ++ rest h) (marks h ++ values h) both)
      | inr new ↦
          let empty : rest h ≡ [] = rest_behind (plain h) new.0 in
          let whole : length (row h ++ rest h) ≡ length (row h) =
          omega (arith, length-append (row h) (rest h), ap length empty) in
          let out : is_in x (row h ++ rest h) ≡ false =
          is_in-append x (row h) (rest h) ∙ ap (λ b. b || is_in x (rest h)) new.1
          ∙ ap (is_in x) empty in
          touch_new near.depth x (row h) (marks h) new.1 (λ same. omega (arith, same, new.0))
          ∙ ap New (sym whole)
          ∙ sym (touch_new (near.depth + beyond) x (row h ++ rest h) (marks h ++ values h) out
          (λ same. omega (arith, same, new.0, whole)))
    ]

  whole_found : marked_touch_of (near.depth + beyond) x (row h ++ rest h) (marks h ++ values h)
      ≡ marked_touch_of m.depth x (blocks_in m k) (cleans_in m k)
  whole_found = touch_same (near.depth + beyond) m.depth x (row h ++ rest h) (blocks_in m k)
      (marks h ++ values h) (cleans_in m k) (depth_is h) (sym (blocks_are h)) (sym (cleans_are h))

  module _ {touch : MarkedTouch} (found : touch ≡ marked_touch_of near.depth x (row h) (marks h))
      (other : (c : ℕ) → touch ≡ Full c → ⊥) where
    settled_stays : StaysIn (plain h) x
    settled_stays = elim (settled_parts (is_in x (row h)) (eqb (length (row h)) near.depth) touch
        index (get_or (marks h) index 0) (get_or (marks h) (near.depth - 1) 0) (length (row h))
        found other) [
          | inl inside ↦ inl inside
          | inr new ↦ inr (
            omega (
              arith,
              unequal (length (row h)) near.depth new.0,
              h.sound.split.short k,
            ),
            new.1,
          )
        ]

    pub settled_found : touch ≡ marked_touch_of m.depth x (blocks_in m k) (cleans_in m k)
    settled_found = found ∙ stays_found settled_stays ∙ whole_found

    pub settled_written : (access : Access) (c : ℕ) →
        c ≡ front_clean_of m.depth access touch → {near' near'' : Marked} →
        near' ≡ after_access near k x access → near'' ≡ after_mark_in_front near' k c →
        IsWritten near'' beyond far (after_access m k x access)
    settled_written access c is {near'} {near''} moved marked =
        let d : Deep ℕ = get_or far k nothing in
        let same : set far k d ≡ far = set-get_or far k nothing in
        let made = brought_is h x c access moved marked in
        let split = (stays (plain h) x settled_stays (ap plain_lists made)).sound in
        let bs : List ℕ = take near.depth (move_to_front x (row h)) in
        let cs : List ℕ = take near.depth (c ∷ remove (marks h) index) in
        let put = written h bs cs d (brought_alike h x c) (values_long h)
        (subst (λ f. AreSplit (plain_lists (brought h x c)) beyond f) (sym same)
        (subst (λ n. AreSplit (plain_lists n) beyond far) made split)) in
        let blocks : bs ++ rest h ≡ take m.depth (move_to_front x (blocks_in m k)) =
        sym (stays_out settled_stays x (row h) (rest h) refl refl (nil_from_length (rest h)))
        ∙ blocks_whole in
        let cleans : cs ++ values h
        ≡ cleans_after m.depth access x (blocks_in m k) (cleans_in m k) =
        sym (stays_out settled_stays c (marks h) (values h) (marks_long h) (values_long h)
        (λ none. nil_from_length (values h) (omega (arith, none, values_long h))))
        ∙ cleans_whole access c (index_of x (row h ++ rest h)) refl
        (is ∙ front_is m.depth x access (blocks_in m k) (cleans_in m k) settled_found) in
        subst (λ n. IsWritten n beyond far (after_access m k x access)) (sym made)
        (subst (λ f. IsWritten (brought h x c) beyond f (after_access m k x access)) same
        (subst (λ l. IsWritten (brought h x c) beyond (set far k d) (record m {
          blocks = set m.blocks k l;
          cleans = set m.cleans k (cleans_after m.depth access x (blocks_in m k) (cleans_in m k));
        })) blocks
        (subst (λ l. IsWritten (brought h x c) beyond (set far k d) (record m {
          blocks = set m.blocks k (bs ++ rest h);
          cleans = set m.cleans k l;
        })) cleans put)))

  -- the row is full and has not the block: its last one goes behind it
  module _ {clean last : ℕ} (found : Full clean ≡ marked_touch_of near.depth x (row h) (marks h))
      (last_is : length (row h) ≡ near.depth → last ≡ get_or (row h) (near.depth - 1) 0) where
    parts : (is_in x (row h) ≡ false) × (eqb (length (row h)) near.depth ≡ true)
        × (clean ≡ get_or (marks h) (near.depth - 1) 0)
    parts = full_parts (is_in x (row h)) (eqb (length (row h)) near.depth) clean index
        (get_or (marks h) index 0) (get_or (marks h) (near.depth - 1) 0) (length (row h)) found

    full : length (row h) ≡ near.depth
    full = eqb-true (length (row h)) near.depth parts.1

    is_full : IsFull (plain_lists near) beyond far x k (length (row h)) last (plain_lists m)
    is_full = record {
      whole = plain h;
      absent = parts.0;
      full = full;
      held_is = refl;
      last_is = last_is full;
    }

    pub full_apart : (d : Deep ℕ) → d ≡ get_or far k nothing → is_in last d.blocks ≡ false
    full_apart d read = ap (λ e. is_in last e.blocks) read ∙ last_apart is_full

    abbrev behind : ℕ
    behind = index_of x (rest h)

    far_index : index_of x (row h ++ rest h) ≡ near.depth + behind
    far_index = index-append_right x (row h) (rest h) parts.0 ∙ ap (λ n. n + behind) full

    full_out : (c c0 : ℕ) (xs ys : List ℕ) → length xs ≡ length (row h) →
        c0 ≡ get_or xs (near.depth - 1) 0 →
        take (near.depth + beyond) (c ∷ remove (xs ++ ys) (index_of x (row h ++ rest h)))
        ≡ take near.depth (c ∷ remove xs index) ++ take beyond (c0 ∷ remove ys behind)
    full_out c c0 xs ys long is =
        far_out near.depth beyond c xs ys (index_of x (row h ++ rest h)) behind index c0
        (long ∙ full) (omega (arith, h.sound.split.two)) far_index
        (omega (arith, index_absent x (row h) parts.0, full)) is

    cap_is : (get_or far k nothing).cap ≡ beyond
    cap_is = h.sound.split.caps k (far_set h)

    in_rest : (b : Bool) → is_in x (rest h) ≡ b → is_in x (row h ++ rest h) ≡ b
    in_rest b e = is_in-append x (row h) (rest h) ∙ ap (λ z. z || is_in x (rest h)) parts.0 ∙ e

    whole_size : length (row h ++ rest h) ≡ near.depth + length (rest h)
    whole_size = omega (arith, length-append (row h) (rest h), full)

    -- the deep list tells where the block was
    rest_found : (b e : Bool) → is_in x (rest h) ≡ b →
        eqb (length (rest h)) (get_or far k nothing).cap ≡ e →
        rest_touch_of near.depth x (get_or far k nothing)
        ≡ marked_touch_of (near.depth + beyond) x (row h ++ rest h) (marks h ++ values h)
    rest_found true e inside at =
        ap (λ b. cond b (Behind (near.depth + behind) (get_or (values h) behind 0))
        (cond (eqb (length (rest h)) (get_or far k nothing).cap)
        (Full (get_or (values h) ((get_or far k nothing).cap - 1) 0))
        (New (near.depth + length (rest h))))) inside
        ∙ ap (Behind (near.depth + behind)) (sym (read_right (marks h) (values h)
        (near.depth + behind) behind (omega (arith, marks_long h, full))))
        ∙ ap (λ i. Behind i (get_or (marks h ++ values h) i 0)) (sym far_index)
        ∙ sym (touch_in (near.depth + beyond) x (row h ++ rest h) (marks h ++ values h)
        (in_rest true inside))
    rest_found false true out at =
        let size : length (rest h) ≡ beyond = eqb-true (length (rest h))
        (get_or far k nothing).cap at ∙ cap_is in
        ap (λ b. cond b (Behind (near.depth + behind) (get_or (values h) behind 0))
        (cond (eqb (length (rest h)) (get_or far k nothing).cap)
        (Full (get_or (values h) ((get_or far k nothing).cap - 1) 0))
        (New (near.depth + length (rest h))))) out
        ∙ ap (λ b. cond b (Full (get_or (values h) ((get_or far k nothing).cap - 1) 0))
        (New (near.depth + length (rest h)))) at
        ∙ ap (λ n. Full (get_or (values h) (n - 1) 0)) cap_is
        ∙ ap Full (sym (read_right (marks h) (values h) (near.depth + beyond - 1) (beyond - 1)
        (omega (arith, marks_long h, full, h.sound.some))))
        ∙ sym (touch_full (near.depth + beyond) x (row h ++ rest h) (marks h ++ values h)
        (in_rest false out) (whole_size ∙ ap (λ n. near.depth + n) size))
    rest_found false false out at =
        let other : length (rest h) ≡ (get_or far k nothing).cap → ⊥ =
        unequal (length (rest h)) (get_or far k nothing).cap at in
        ap (λ b. cond b (Behind (near.depth + behind) (get_or (values h) behind 0))
        (cond (eqb (length (rest h)) (get_or far k nothing).cap)
        (Full (get_or (values h) ((get_or far k nothing).cap - 1) 0))
        (New (near.depth + length (rest h))))) out
        ∙ ap (λ b. cond b (Full (get_or (values h) ((get_or far k nothing).cap - 1) 0))
        (New (near.depth + length (rest h)))) at
        ∙ ap New (sym whole_size)
        ∙ sym (touch_new (near.depth + beyond) x (row h ++ rest h) (marks h ++ values h)
        (in_rest false out) (λ same. other (omega (arith, same, whole_size, cap_is))))

    pub full_found : (n : ℕ) (d : Deep ℕ) → n ≡ near.depth → d ≡ get_or far k nothing →
        rest_touch_of n x d ≡ marked_touch_of m.depth x (blocks_in m k) (cleans_in m k)
    full_found n d row_is read = ap (λ i. rest_touch_of i x d) row_is
        ∙ ap (rest_touch_of near.depth x) read
        ∙ rest_found (is_in x (rest h)) (eqb (length (rest h)) (get_or far k nothing).cap) refl refl
        ∙ whole_found

    pub full_written : {touch : MarkedTouch} (access : Access) (c : ℕ) →
        touch ≡ marked_touch_of m.depth x (blocks_in m k) (cleans_in m k) →
        c ≡ front_clean_of m.depth access touch → {near' near'' : Marked} →
        near' ≡ after_access near k x access → near'' ≡ after_mark_in_front near' k c →
        (d : Deep ℕ) → d ≡ list_after_exchange (get_or far k nothing) x last clean →
        IsWritten near'' beyond (set far k d) (after_access m k x access)
    full_written {touch} access c at is {near'} {near''} moved marked d put_is =
        let made = brought_is h x c access moved marked in
        let split = (full_renewed is_full d clean put_is (ap plain_lists made)).sound in
        let bs : List ℕ = take near.depth (move_to_front x (row h)) in
        let cs : List ℕ = take near.depth (c ∷ remove (marks h) index) in
        let d_blocks : d.blocks ≡ take beyond (last ∷ remove (rest h) behind) =
        ap (λ e. e.blocks) put_is ∙ ap (λ n. take n (last ∷ remove (rest h) behind)) cap_is in
        let d_values : d.values ≡ take beyond (clean ∷ remove (values h) behind) =
        ap (λ e. e.values) put_is ∙ ap (λ n. take n (clean ∷ remove (values h) behind)) cap_is in
        let beside : length d.values ≡ length d.blocks =
        ap length d_values ∙ same_size beyond behind last clean (rest h) (values h) (values_long h)
        ∙ sym (ap length d_blocks) in
        let put = written h bs cs d (brought_alike h x c) beside
        (subst (λ n. AreSplit (plain_lists n) beyond (set far k d)) made split) in
        let blocks : bs ++ d.blocks ≡ take m.depth (move_to_front x (blocks_in m k)) =
        ap (λ l. bs ++ l) d_blocks
        ∙ sym (full_out x last (row h) (rest h) refl (last_is full)) ∙ blocks_whole in
        let cleans : cs ++ d.values
        ≡ cleans_after m.depth access x (blocks_in m k) (cleans_in m k) =
        ap (λ l. cs ++ l) d_values
        ∙ sym (full_out c clean (marks h) (values h) (marks_long h) parts.2)
        ∙ cleans_whole access c (index_of x (row h ++ rest h)) refl
        (is ∙ front_is m.depth x access (blocks_in m k) (cleans_in m k) at) in
        subst (λ n. IsWritten n beyond (set far k d) (after_access m k x access)) (sym made)
        (subst (λ l. IsWritten (brought h x c) beyond (set far k d) (record m {
          blocks = set m.blocks k l;
          cleans = set m.cleans k (cleans_after m.depth access x (blocks_in m k) (cleans_in m k));
        })) blocks
        (subst (λ l. IsWritten (brought h x c) beyond (set far k d) (record m {
          blocks = set m.blocks k (bs ++ d.blocks);
          cleans = set m.cleans k l;
        })) cleans put))

    pub rest_small : (d : Deep ℕ) → d ≡ get_or far k nothing → length d.blocks ≤ 2 ^ 22
    rest_small d read = omega (
      arith,
      ap (λ e. length e.blocks) read,
      h.sound.split.rest_short k,
      h.sound.small,
    )

  -- the row after that
  pub brought_set : (access : Access) {near' : Marked} → near' ≡ after_access near k x access →
      k < length near'.blocks
  brought_set access {near'} moved = omega (
    arith,
    near_set h,
    ap (λ n. length n.blocks) moved,
    length-set near.blocks k (take near.depth (move_to_front x (row h))),
  )

  pub brought_some : (access : Access) {near' : Marked} → near' ≡ after_access near k x access →
      0 < length (blocks_in near' k)
  brought_some access {near'} moved =
      let list : List ℕ = take near.depth (move_to_front x (row h)) in
      omega (
        arith,
        ap (λ n. length (blocks_in n k)) moved,
        ap length (get_or-set_same near.blocks k list [] (near_set h)),
        length-take near.depth (move_to_front x (row h)),
        h.sound.split.two,
      )

-- the front is given a clean depth
module _ {near : Marked} {beyond : ℕ} {far : List (Deep ℕ)} {k : ℕ} {m : Marked}
    (h : HasMarked near beyond far k m) where
  pub some_in_row : 0 < length (blocks_in m k) → 0 < length (row h)
  some_in_row some = (some_is (plain h)).1 some

  pub front_marked : (c : ℕ) → 0 < length (blocks_in m k) → {near' : Marked} →
      near' ≡ after_mark_in_front near k c → IsWritten near' beyond far (after_mark_in_front m k c)
  front_marked c some {near'} marked =
      let d : Deep ℕ = get_or far k nothing in
      let same : set far k d ≡ far = set-get_or far k nothing in
      let in_row : 0 < length (marks h) = omega (arith, marks_long h, some_in_row some) in
      let cs : List ℕ = set (marks h) 0 c in
      let made : List (List ℕ) → Marked = λ bs. record near {
        blocks = bs;
        cleans = set near.cleans k cs;
      } in
      let kept : set near.blocks k (row h) ≡ near.blocks = set-get_or near.blocks k [] in
      let put = written h (row h) cs d (length-set (marks h) 0 c ∙ marks_long h) (values_long h)
      (subst (λ f. AreSplit (plain_lists (made (set near.blocks k (row h)))) beyond f) (sym same)
      (subst (λ bs. AreSplit (plain_lists (made bs)) beyond far) (sym kept) h.sound.split)) in
      let blocks : set m.blocks k (row h ++ rest h) ≡ m.blocks =
      ap (set m.blocks k) (sym (blocks_are h)) ∙ set-get_or m.blocks k [] in
      let cleans : cs ++ values h ≡ set (cleans_in m k) 0 c =
      sym (first_set c (marks h) (values h) in_row) ∙ ap (λ l. set l 0 c) (sym (cleans_are h)) in
      subst (λ n. IsWritten n beyond far (after_mark_in_front m k c)) (sym marked)
      (subst (λ bs. IsWritten (made bs) beyond far (after_mark_in_front m k c)) kept
      (subst (λ f. IsWritten (made (set near.blocks k (row h))) beyond f
      (after_mark_in_front m k c)) same
      (subst (λ bs. IsWritten (made (set near.blocks k (row h))) beyond (set far k d) (record m {
        blocks = bs;
        cleans = set m.cleans k (set (cleans_in m k) 0 c);
      })) blocks
      (subst (λ l. IsWritten (made (set near.blocks k (row h))) beyond (set far k d) (record m {
        blocks = set m.blocks k (row h ++ rest h);
        cleans = set m.cleans k l;
      })) cleans put))))

  pub clean_is : {c : ℕ} → 0 < length (blocks_in m k) → c ≡ get_or (marks h) 0 0 →
      c ≡ get_or (cleans_in m k) 0 0
  clean_is {c} some is = is
      ∙ first_read (marks h) (values h) (omega (arith, marks_long h, some_in_row some))
      ∙ ap (λ l. get_or l 0 0) (sym (cleans_are h))
