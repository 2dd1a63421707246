-- A block that comes to the front of its list: from the row, where that tells of it, or from behind
-- it.
use Rattle.std.proofs.Common.{◌≡◌, ℕ, ◌+◌, ◌-◌, ◌≤◌, ◌^◌, ◌⊎◌, inl, inr, Bool, true, false}
use Rattle.std.proofs.Common.{cond, ltb, List, [], ◌∷◌, ◌++◌, length, take, get_or, set, refl, sym}
use Rattle.std.proofs.Common.{◌∙◌, ap, arith, append-nil}
use Rattle.std.specs.List.{remove}
use Rattle.std.proofs.lemmas.Bool.{ltb-true, ltb-false}
use Rattle.std.proofs.lemmas.List.{length-take-le, get_or_read}
use Rattle.deep_list.specs.Deep.{Deep, list_after_exchange}
use Rattle.profile_core.specs.profile.RecencyList.{index_of, is_in, move_to_front}
use Rattle.profile_core.specs.internal.set_lists.Moves.{standing_of, rest_standing_of}
use Rattle.profile_core.specs.declared.set_lists.recency.Standing.{Standing}
use Rattle.profile_core.specs.declared.set_lists.long_lists.InRow.TheVariants.{Settled, Full}
use Rattle.profile_core.specs.internal.set_lists.Lists.{Lists, lists_after_bring}
use Rattle.profile_core.specs.internal.set_lists.LongLists.{nothing, in_row_of}
use Rattle.profile_core.proofs.ListParts.{near_standing, once_apart, remove_past}
use Rattle.profile_core.proofs.ListParts.{index_absent, length-take_le, far_moved}
use Rattle.profile_core.proofs.ListParts.{far_found, far_new}
use Rattle.profile_core.proofs.LongListLemmas.{HasWhole, IsRenewed, row, rest, list}
use Rattle.profile_core.proofs.LongListLemmas.{within, within_far, list_is, rest_behind}
use Rattle.profile_core.proofs.LongListLemmas.{renewed, StaysIn, depth_small}

settled_at : (b1 b2 : Bool) (t t' : Standing) (held last : ℕ) → Settled t ≡ cond b1 (Settled t')
    (cond b2 (Settled t') (Full held last))
    → ((b1 ≡ true) ⊎ ((b2 ≡ true) × (b1 ≡ false))) × (t ≡ t')
settled_at true b2 t t' held last e = (inl refl, cc)
settled_at false true t t' held last e = (inr (refl, refl), cc)
settled_at false false t t' held last e = absurd (cc)

full_at : (b1 b2 : Bool) (t' : Standing) (h l held last : ℕ) → Full h l ≡ cond b1 (Settled t')
    (cond b2 (Settled t') (Full held last))
    → (b1 ≡ false) × (b2 ≡ false) × (h ≡ held) × (l ≡ last)
full_at true b2 t' h l held last e = absurd (cc)
full_at false true t' h l held last e = absurd (cc)
full_at false false t' h l held last e = (refl, refl, cc, cc)

-- a row that tells where the block stands
module _ {V : Type 0} {near : Lists} {beyond : ℕ} {far : List (Deep V)} {k : ℕ} {v : Lists}
    (r : HasWhole near beyond far k v) (x : ℕ) where
  stays_standing : StaysIn r x → standing_of x (row r) ≡ standing_of x (list r)
  stays_standing h = elim h [
    | inl inside ↦ near_standing near.depth beyond x (row r) (rest r) inside (r.sound.short k)
        (r.sound.rest_short k)
    | inr new ↦ ap (standing_of x) (sym (append-nil (row r)) ∙
        ap (λ zs. row r ++ zs) (sym (rest_behind r new.0)))
  ] ∙ ap (standing_of x) (sym (list_is r))

  module _ {t : Standing} (e : Settled t ≡ in_row_of near.depth x (row r)) where
    at : (((is_in x (row r)) ≡ true) ⊎ ((ltb (length (row r)) near.depth ≡ true) ×
        (is_in x (row r) ≡ false))) × (t ≡ standing_of x (row r))
    at = settled_at (is_in x (row r)) (ltb (length (row r)) near.depth) t (standing_of x (row r))
        (length (row r)) (get_or (row r) (near.depth - 1) 0) e

    pub settled_stays : StaysIn r x
    settled_stays = elim at.0 [
      | inl inside ↦ inl inside
      | inr new ↦ inr (ltb-true (length (row r)) near.depth new.0, new.1)
    ]

    pub settled_standing : t ≡ standing_of x (list r)
    settled_standing = at.1 ∙ stays_standing settled_stays

-- a full row, of which the last block falls out: that block goes to the front of the others, and x
-- out of them
pub record IsFull {V : Type 0} (near : Lists) (beyond : ℕ) (far : List (Deep V)) (x k held last : ℕ)
    (v : Lists) : Type 0 where
  pub whole : HasWhole near beyond far k v
  pub absent : is_in x (get_or near.lists k []) ≡ false
  pub full : length (get_or near.lists k []) ≡ near.depth
  pub held_is : held ≡ length (get_or near.lists k [])
  pub last_is : last ≡ get_or (get_or near.lists k []) (near.depth - 1) 0

pub full_is : {V : Type 0} {near : Lists} {beyond : ℕ} {far : List (Deep V)} {k x held last : ℕ}
    {v : Lists} → HasWhole near beyond far k v →
    Full held last ≡ in_row_of near.depth x (get_or near.lists k []) →
    IsFull near beyond far x k held last v
full_is {V} {near} {beyond} {far} {k} {x} {held} {last} {v} r e =
    let at = full_at (is_in x (row r)) (ltb (length (row r)) near.depth) (standing_of x (row r))
    held
    last (length (row r)) (get_or (row r) (near.depth - 1) 0) e in
    record {
      whole = r;
      absent = at.0;
      full = omega (arith, r.sound.short k, ltb-false (length (row r)) near.depth at.1);
      held_is = at.2;
      last_is = at.3;
    }

module _ {V : Type 0} {near : Lists} {beyond : ℕ} {far : List (Deep V)} {x k held last : ℕ}
    {v : Lists} (f : IsFull near beyond far x k held last v) where
  abbrev front : List ℕ
  front = row f.whole

  abbrev behind : List ℕ
  behind = rest f.whole

  abbrev left : List ℕ
  left = take beyond (last ∷ remove behind (index_of x behind))

  two : 2 ≤ near.depth
  two = f.whole.sound.two

  -- the list behind the front, as it is read
  pub far_read : (d : Deep V) → d ≡ get_or far k d → d ≡ get_or far k nothing
  far_read d read = get_or_read far k d (within_far f.whole) read nothing

  pub last_apart : is_in last behind ≡ false
  last_apart = grind (arith, once_apart, f.last_is, f.full, two, f.whole.sound.once)

  small : near.depth + beyond ≤ 2 ^ 22
  small = depth_small (length near.lists) (near.depth + beyond) (omega (arith, within f.whole))
      f.whole.sound.small

  pub held_small : held ≤ 2 ^ 22
  held_small = omega (arith, f.held_is, f.full, small)

  pub rest_small : length behind ≤ 2 ^ 22
  rest_small = omega (arith, f.whole.sound.rest_short k, small)

  moved : take (near.depth + beyond) (move_to_front x (front ++ behind)) ≡ take near.depth
      (move_to_front x front) ++ left
  moved = grind (arith, far_moved, f.last_is)

  row_long : length (take near.depth (move_to_front x front)) ≡ near.depth
  row_long = grind (arith, length-take-le, remove_past, index_absent, f.absent, f.full)

  pub full_standing : rest_standing_of held x behind ≡ standing_of x (list f.whole)
  full_standing = grind (arith, far_found, far_new, list_is)

  pub full_renewed : (d : Deep V) (value : V) →
      d ≡ list_after_exchange (get_or far k nothing) x last value →
      {near' : Lists} → near' ≡ lists_after_bring near k x →
      IsRenewed near' beyond (set far k d) k x v
  full_renewed d value put is =
      let cap : (get_or far k nothing).cap ≡ beyond =
      f.whole.sound.caps k (within_far f.whole) in
      let blocks : d.blocks ≡ left = ap (λ e. e.blocks) put ∙
      ap (λ n. take n (last ∷ remove behind (index_of x behind))) cap in
      renewed f.whole x d (ap (λ e. e.cap) put ∙ cap)
      (omega (
        arith,
        ap length blocks,
        length-take_le beyond (last ∷ remove behind
            (index_of x behind)),
      )) (λ _. row_long)
      (moved ∙ ap (λ zs. take near.depth (move_to_front x front) ++ zs) (sym blocks)) is refl
