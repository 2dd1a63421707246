-- One access to one set, as the slots see it and as the lines see it.
use Rattle.std.proofs.Common.{◌≡◌, ℕ, zero, suc, ◌+◌, ◌%◌, ◌==◌, ◌||◌, Bool, List, [], ◌∷◌, ◌++◌}
use Rattle.std.proofs.Common.{length, Some, None, sym, ◌∙◌, ap, refl, subst, arith, map, find}
use Rattle.std.specs.Prelude.{slice_get, remove}
use Rattle.std.specs.List.{position_or_len}
use Rattle.std.proofs.lemmas.List.{append-nil, length-append, map-append, length-map, set_at}
use Rattle.std.proofs.lemmas.List.{get_or_at}
use Rattle.std.proofs.lemmas.Bool.{eq-eqb}
use Rattle.cache_core.specs.declared.outcome.Slot.{Slot}
use Rattle.cache_core.specs.declared.design.Repl.{Repl}
use Rattle.cache_core.specs.cache.Machine.{Line, slot_of, is_block, least_line, victim}
use Rattle.cache_core.specs.cache.Machine.{with_line_at, with_touch, with_block, key_at}
use Rattle.cache_core.specs.cache.Order.{Moves, Touches, Inserts, Exchanges, with_slot_at}
use Rattle.cache_core.specs.cache.Order.{victim_at, with_dirty_at, position_of}
use Rattle.cache_core.specs.replacement.Rules.{Place, InFront, InPlace, Last, rules}
use Rattle.cache_core.specs.cache.Stands.{Absent, Falls, InOrder, IsGood}
use Rattle.cache_core.proofs.replacement.Lawful.{remove_split}
use Rattle.cache_core.proofs.cache.Lines.{ne-eqb, Found, found, absent_round, distinct_back}
use Rattle.cache_core.proofs.cache.Lines.{distinct_front, distinct_without, least_last, find_way}
use Rattle.cache_core.proofs.cache.Lines.{around, distinct_around, with_line_at-none}
use Rattle.cache_core.proofs.cache.Lines.{with_line_at-some, order_placed, order_pushed}
use Rattle.cache_core.proofs.cache.Lines.{order_touched}

-- where the block of a line stands
len_absent : (b : ℕ) (ls : List Line) → Absent b ls → position_or_len (λ (x : Slot). x.block == b)
    (map slot_of ls) ≡ length (map slot_of ls)
len_absent b [] h = refl
len_absent b (l ∷ ls) h = rw (ne-eqb l.block b h.0) (omega (arith, len_absent b ls h.1))

pub position_absent : (b : ℕ) (ls : List Line) → Absent b ls → position_of b (map slot_of ls) ≡ None
position_absent b ls h = grind (arith, len_absent)

len_split : (b : ℕ) (xs : List Line) (x : Line) (ys : List Line) → Absent b xs → x.block ≡ b →
    position_or_len (λ (s : Slot). s.block == b) (map slot_of (xs ++ x ∷ ys)) ≡ length xs
len_split b [] x ys h e = rw (eq-eqb x.block b e) refl
len_split b (z ∷ xs) x ys h e = rw (ne-eqb z.block b h.0) (omega (arith, len_split b xs x ys h.1 e))

pub position_split : (b : ℕ) (xs : List Line) (x : Line) (ys : List Line) → Absent b xs →
    x.block ≡ b →
    position_of b (map slot_of (xs ++ x ∷ ys)) ≡ Some (length xs)
position_split b xs x ys h e = grind (arith, len_split, length-map, length-append)

-- a slot at its index
get_split : (xs : List Slot) (x : Slot) (ys : List Slot) (n : ℕ) → length xs ≡ n →
    slice_get (xs ++ x ∷ ys) n ≡ Some x
get_split [] x ys n e = rw (sym e) refl
get_split (z ∷ xs) x ys n e = rw (sym e) (get_split xs x ys (length xs) refl)

slot_split : (p : Place) (s : Slot) (xs : List Slot) (x : Slot) (ys : List Slot) (n : ℕ) →
    length xs ≡ n →
    with_slot_at p s (Some n) (xs ++ x ∷ ys) ≡ around p s xs ys
slot_split p s xs x ys n e = grind (arith, remove_split, set_at)

-- the slots of a line among others
map_around : (p : Place) (y : Line) (xs ys : List Line) →
    map slot_of (around p y xs ys) ≡ around p (slot_of y) (map slot_of xs) (map slot_of ys)
map_around p y xs ys = grind (arith, map-append)

slots_around : (p : Place) (y : Line) (xs : List Line) (x : Line) (ys : List Line) →
    with_slot_at p (slot_of y) (Some (length xs)) (map slot_of (xs ++ x ∷ ys)) ≡ map slot_of
    (around p y xs ys)
slots_around p y xs x ys = grind (arith, map-append, slot_split, length-map)

-- the line with its mark
abbrev pub with_mark : Bool → Line → Line
with_mark d line = record line { dirty = d || line.dirty }

marked_split : (d : Bool) (xs : List Line) (x : Line) (ys : List Line) →
    with_dirty_at d (map slot_of (xs ++ x ∷ ys)) (length xs) ≡ map slot_of
    (xs ++ with_mark d x ∷ ys)
marked_split d xs x ys = grind (arith, map-append, get_or_at, length-map, set_at)

-- the slots after a touch, where the line gets another key
moved : (p : Place) (y z : Line) (xs ys : List Line) (new : List Slot) → slot_of z ≡ slot_of y →
    Moves p (map slot_of (xs ++ y ∷ ys)) (length xs) new → new ≡ map slot_of (around p z xs ys)
moved InFront y z xs ys new e t =
    let at : slice_get (map slot_of (xs ++ y ∷ ys)) (length xs) ≡ Some (slot_of z) =
    rw (map-append slot_of xs (y ∷ ys), e) (get_split (map slot_of xs) (slot_of y) (map slot_of ys)
    (length xs) (length-map xs slot_of)) in
    let same : Some t.0 ≡ Some (slot_of z) = sym t.1 ∙ at in
    let front : t.0 ≡ slot_of z = cc in
    t.2 ∙ ap (λ s. s ∷ remove (map slot_of (xs ++ y ∷ ys)) (length xs)) front ∙
    slots_around InFront z xs y ys
moved InPlace y z xs ys new e t = cc (t, map_around InPlace y xs ys, e, map_around InPlace z xs ys)

-- what a touch of a held block does: the slots and the lines agree again, and the set is in order
pub record Touched (policy : Repl) (clock : ℕ) (b : ℕ) (line : Line) (d : Bool)
    (ls : List Line) : Type 0 where
  pub at : ℕ
  pub index : position_of b (map slot_of ls) ≡ Some at
  pub slots : (new : List Slot) →
      Touches (Some policy) (with_dirty_at d (map slot_of ls) at) at new →
      new ≡ map slot_of (with_touch policy (clock + 1) (with_mark d line) ls)
  pub good : IsGood (rules policy).placed (clock + 1)
      (with_touch policy (clock + 1) (with_mark d line) ls)

pub touched : (policy : Repl) (clock b : ℕ) (line : Line) (d : Bool) (ls : List Line) →
    IsGood (rules policy).placed clock ls →
    find (is_block b) ls ≡ Some line → Touched policy clock b line d ls
touched policy clock b line d ls i h =
    let r = found b ls line h in
    let to : Place = (rules policy).touched in
    let y : Line = with_mark d line in
    let z : Line = record y { key = key_at to (clock + 1) line.key } in
    let j : IsGood (rules policy).placed clock (r.front ++ line ∷ r.back) =
    subst (IsGood (rules policy).placed clock) r.split i in
    let f : Absent line.block r.front = distinct_front r.front line r.back j.distinct in
    let k : Absent line.block r.back = distinct_back r.front line r.back j.distinct in
    let after : with_touch policy (clock + 1) y (r.front ++ line ∷ r.back) ≡ around to z
    r.front r.back =
    with_line_at-some to z y r.front line r.back refl f k in
    rw r.split record {
      at = length r.front;
      index = position_split b r.front line r.back (subst (λ n. Absent n r.front) r.here f) r.here;
      slots = λ new t. cc (
        moved to y z r.front r.back new refl
            (subst (λ s. Moves to s (length r.front) new) (marked_split d r.front line r.back) t),
        after,
      );
      good = rw after record {
        distinct = distinct_around to z r.front r.back f k
            (distinct_without r.front line r.back j.distinct);
        order = order_touched policy clock r.front line z r.back refl j.order;
      };
    }

-- a slot put into a set that is not full
inserted : (p : Place) (y : Line) (ls : List Line) → with_slot_at p (slot_of y) None
    (map slot_of ls) ≡ map slot_of (with_line_at p y None ls)
inserted p y ls = grind (arith, map-append)

pub insert_law : (policy : Repl) (clock count : ℕ) (slot : Slot) (ls : List Line)
    (new : List Slot) →
    Inserts (Some policy) (map slot_of ls) slot new →
    new ≡ map slot_of (with_block policy clock count slot None ls)
insert_law policy clock count slot ls new t =
    let to : Place = (rules policy).placed in
    t ∙ inserted to (record {
      block = slot.block;
      key = key_at to clock count;
      dirty =
          slot.dirty;
    }) ls

pub insert_good : (policy : Repl) (clock : ℕ) (slot : Slot) (ls : List Line) →
    IsGood (rules policy).placed clock ls → Absent slot.block ls →
    IsGood (rules policy).placed (clock + 1)
    (with_block policy (clock + 1) (length ls) slot None ls)
insert_good policy clock slot ls i h = grind (
  arith,
  with_line_at-none,
  distinct_around,
  append-nil,
  order_pushed,
)

-- the line whose slot stands at an index
record StandsAt (ls : List Line) (n : ℕ) (gone : Slot) : Type 0 where
  xs : List Line
  x : Line
  ys : List Line
  split : ls ≡ xs ++ x ∷ ys
  len : n ≡ length xs
  slot : gone ≡ slot_of x

line_at : (ls : List Line) (n : ℕ) (gone : Slot) → slice_get (map slot_of ls) n ≡ Some gone →
    StandsAt ls n gone
line_at [] n gone e = absurd cc
line_at (l ∷ ls) zero gone e = let q : slot_of l ≡ gone = cc in
    record { xs = []; x = l; ys = ls; split = refl; len = refl; slot = sym q }
line_at (l ∷ ls) (suc n) gone e =
    let r = line_at ls n gone e in
    record {
      xs = l ∷ r.xs;
      x = r.x;
      ys = r.ys;
      split = ap (λ s. l ∷ s) r.split;
      len =
          ap suc r.len;
      slot = r.slot;
    }

-- the line that leaves is that of the slot that leaves
last_there : (n : ℕ) (xs : List Line) (x : Line) (ys : List Line) → Falls n (xs ++ x ∷ ys) →
    victim_at Last 0 (map slot_of (xs ++ x ∷ ys)) ≡ length xs → least_line (xs ++ x ∷ ys) ≡ Some x
last_there n xs x [] f e = least_last n xs x f
last_there n xs x (y ∷ ys) f e =
    absurd (omega (arith, e, length-map (xs ++ x ∷ y ∷ ys) slot_of, length-append xs (x ∷ y ∷ ys)))

victim_there : (policy : Repl) (clock number : ℕ) (xs : List Line) (x : Line) (ys : List Line) →
    InOrder (rules policy).placed clock (xs ++ x ∷ ys) →
    victim_at (rules policy).victim number (map slot_of (xs ++ x ∷ ys)) ≡ length xs →
    victim (rules policy).victim (number % length (map slot_of (xs ++ x ∷ ys)))
    (xs ++ x ∷ ys) ≡ Some x
victim_there policy clock number xs x ys o e = grind (arith, last_there, find_way)

-- a slot put into a full set: the line that leaves, the slots and the lines again, and the order
pub record Exchanged (policy : Repl) (clock way count : ℕ) (slot gone : Slot) (ls : List Line)
    (new : List Slot) : Type 0 where
  pub line : Line
  pub leaves : victim (rules policy).victim way ls ≡ Some line
  pub left : gone ≡ slot_of line
  pub among : Found line.block ls line
  pub slots : new ≡ map slot_of (with_block policy (clock + 1) count slot (Some line) ls)
  pub good : IsGood (rules policy).placed (clock + 1) (with_block policy (clock + 1) count slot
      (Some line) ls)

exchange_at : (policy : Repl) (clock number count : ℕ) (slot gone : Slot) (xs : List Line)
    (x : Line) (ys : List Line) (new : List Slot) →
    victim_at (rules policy).victim number (map slot_of (xs ++ x ∷ ys)) ≡ length xs →
    gone ≡ slot_of x →
    new ≡ with_slot_at (rules policy).placed slot (Some (length xs)) (map slot_of (xs ++ x ∷ ys)) →
    IsGood (rules policy).placed clock (xs ++ x ∷ ys) → Absent slot.block (xs ++ x ∷ ys) →
    Exchanged policy clock (number % length (map slot_of (xs ++ x ∷ ys))) count slot gone
    (xs ++ x ∷ ys) new
exchange_at policy clock number count slot gone xs x ys new e left t i h =
    let to : Place = (rules policy).placed in
    let y : Line = record {
      block = slot.block;
      key = key_at to (clock + 1) x.key;
      dirty =
          slot.dirty;
    } in
    let apart = absent_round slot.block xs x ys h in
    let after : with_block policy (clock + 1) count slot (Some x)
    (xs ++ x ∷ ys) ≡ around to y xs ys =
    with_line_at-some to y x xs x ys refl (distinct_front xs x ys i.distinct)
    (distinct_back xs x ys i.distinct) in
    record {
      line = x;
      leaves = victim_there policy clock number xs x ys i.order e;
      left = left;
      among = record { front = xs; back = ys; split = refl; here = refl };
      slots = t ∙ slots_around to y xs x ys ∙ ap (map slot_of) (sym after);
      good = rw after record {
        distinct = distinct_around to y xs ys apart.0 apart.1 (distinct_without xs x ys i.distinct);
        order = order_placed to clock xs x y ys refl i.order;
      };
    }

pub exchange_law : (policy : Repl) (clock number count : ℕ) (slot gone : Slot) (ls : List Line)
    (new : List Slot) →
    Exchanges (Some policy) number (map slot_of ls) slot gone new →
    IsGood (rules policy).placed clock ls → Absent slot.block ls →
    Exchanged policy clock (number % length (map slot_of ls)) count slot gone ls new
exchange_law policy clock number count slot gone ls new t i h =
    let v = victim_at (rules policy).victim number (map slot_of ls) in
    let r = line_at ls v gone t.0 in
    let at : victim_at (rules policy).victim number
    (map slot_of (r.xs ++ r.x ∷ r.ys)) ≡ length r.xs =
    subst (λ s. victim_at (rules policy).victim number (map slot_of s) ≡ length r.xs)
    r.split r.len in
    grind (arith, exchange_at)
