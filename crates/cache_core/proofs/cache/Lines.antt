-- Lists of lines: the line of a block, the lines of a set, their order, and one line among the
-- others.
use Rattle.std.proofs.Common.{◌≡◌, ◌≢◌, ℕ, ◌+◌, ◌<◌, ◌≤◌, ◌==◌, false, not, cond, eqb, List, []}
use Rattle.std.proofs.Common.{◌∷◌, ◌++◌, length, Some, None, sym, ◌∙◌, ap, refl, arith, ⊎_elim}
use Rattle.std.proofs.Common.{find}
use Rattle.std.proofs.lemmas.List.{append-nil}
use Rattle.std.proofs.lemmas.Bool.{eqb-true}
use Rattle.std.proofs.lemmas.Bool.Decides.{eqb_tells}
use Rattle.cache_core.specs.Geometry.{GeometryValue, set_of_block}
use Rattle.cache_core.proofs.Lists.{cases, filter_comm, find-filter}
use Rattle.cache_core.specs.declared.design.Repl.{Repl}
use Rattle.cache_core.specs.cache.Machine.{Line, is_block, lines_of_set, lines_without, exchange}
use Rattle.cache_core.specs.cache.Machine.{least_line, with_line_at, key_at}
use Rattle.cache_core.specs.replacement.Rules.{Place, InFront, InPlace, rules}
use Rattle.cache_core.specs.cache.Stands.{Absent, Distinct, Falls, CountsUp, InOrder}

pub ne-eqb : (a b : ℕ) → a ≢ b → eqb a b ≡ false
ne-eqb a b h = ⊎_elim (λ t. absurd (h t.1)) (λ f. f.0) (eqb_tells a b)

pub absent_append : (b : ℕ) (xs ys : List Line) → Absent b xs → Absent b ys → Absent b (xs ++ ys)
absent_append b [] ys p q = q
absent_append b (x ∷ xs) ys p q = (p.0, absent_append b xs ys p.1 q)

pub absent_left : (b : ℕ) (xs ys : List Line) → Absent b (xs ++ ys) → Absent b xs
absent_left b [] ys h = tt
absent_left b (x ∷ xs) ys h = (h.0, absent_left b xs ys h.1)

pub absent_right : (b : ℕ) (xs ys : List Line) → Absent b (xs ++ ys) → Absent b ys
absent_right b [] ys h = h
absent_right b (x ∷ xs) ys h = absent_right b xs ys h.1

-- no line of a block among others, without the one between
pub absent_round : (b : ℕ) (xs : List Line) (x : Line) (ys : List Line) → Absent b (xs ++ x ∷ ys) →
    Absent b xs × Absent b ys
absent_round b xs x ys h = (absent_left b xs (x ∷ ys) h, (absent_right b xs (x ∷ ys) h).1)

-- no other line has the block of a line, neither behind it nor before it
pub distinct_back : (xs : List Line) (x : Line) (ys : List Line) → Distinct (xs ++ x ∷ ys) →
    Absent x.block ys
distinct_back [] x ys d = d.0
distinct_back (z ∷ xs) x ys d = distinct_back xs x ys d.1

pub distinct_front : (xs : List Line) (x : Line) (ys : List Line) → Distinct (xs ++ x ∷ ys) →
    Absent x.block xs
distinct_front [] x ys d = tt
distinct_front (z ∷ xs) x ys d = grind (
  arith,
  absent_right z.block xs (x ∷ ys) d.0,
  distinct_front xs x ys d.1,
)

pub distinct_without : (xs : List Line) (x : Line) (ys : List Line) → Distinct (xs ++ x ∷ ys) →
    Distinct (xs ++ ys)
distinct_without [] x ys d = d.1
distinct_without (z ∷ xs) x ys d = (
  absent_append z.block xs ys (absent_left z.block xs (x ∷ ys) d.0)
      (absent_right z.block xs (x ∷ ys) d.0).1,
  distinct_without xs x ys d.1,
)

-- another line at an index
pub distinct_instead : (xs : List Line) (x : Line) (ys : List Line) → Distinct (xs ++ ys) →
    Absent x.block xs → Absent x.block ys →
    Distinct (xs ++ x ∷ ys)
distinct_instead [] x ys d f b = (b, d)
distinct_instead (z ∷ xs) x ys d f b = grind (
  arith,
  absent_append,
  absent_left,
  absent_right,
  distinct_instead xs x ys d.1 f.1 b,
)

-- the line of a block, among others
pub record Found (b : ℕ) (ls : List Line) (line : Line) : Type 0 where
  pub front : List Line
  pub back : List Line
  pub split : ls ≡ front ++ line ∷ back
  pub here : line.block ≡ b

pub found : (b : ℕ) (ls : List Line) (line : Line) → find (is_block b) ls ≡ Some line →
    Found b ls line
found b [] line h = absurd cc
found b (l ∷ ls) line h =
    cases (λ t. (l.block == b) ≡ t → cond t (Some l) (find (is_block b) ls) ≡ Some line →
    Found b (l ∷ ls) line) (l.block == b)
    (λ _ t s. let e : l ≡ line = cc in
    record {
      front = [];
      back = ls;
      split = ap (λ x. x ∷ ls) e;
      here = sym (ap (λ x. x.block) e) ∙
          eqb-true l.block b t;
    })
    (λ _ _ s. let r = found b ls line s in
    record { front = l ∷ r.front; back = r.back; split = ap (λ xs. l ∷ xs) r.split; here = r.here })
    refl h

pub not_found : (b : ℕ) (ls : List Line) → find (is_block b) ls ≡ None → Absent b ls
not_found b [] h = tt
not_found b (l ∷ ls) h = grind (arith, not_found b ls (grind arith))

pub find_split : (b : ℕ) (xs : List Line) (x : Line) (ys : List Line) → x.block ≡ b → Absent b xs →
    find (is_block b) (xs ++ x ∷ ys) ≡ Some x
find_split b [] x ys e h = grind arith
find_split b (z ∷ xs) x ys e h = grind (arith, find_split b xs x ys e h.1)

-- edits where the block is absent, and round its line
pub lines_without_absent : (b : ℕ) (ls : List Line) → Absent b ls → lines_without b ls ≡ ls
lines_without_absent b [] h = refl
lines_without_absent b (l ∷ ls) h = grind (arith, lines_without_absent b ls h.1)

pub without_split : (b : ℕ) (xs : List Line) (x : Line) (ys : List Line) → x.block ≡ b →
    Absent b xs → Absent b ys →
    lines_without b (xs ++ x ∷ ys) ≡ xs ++ ys
without_split b [] x ys e f h = grind (arith, lines_without_absent b ys h)
without_split b (z ∷ xs) x ys e f h = grind (arith, without_split b xs x ys e f.1 h)

pub exchange_absent : (b : ℕ) (new : Line) (ls : List Line) → Absent b ls → exchange b new ls ≡ ls
exchange_absent b new [] h = refl
exchange_absent b new (l ∷ ls) h = grind (arith, exchange_absent b new ls h.1)

pub exchange_split : (b : ℕ) (new : Line) (xs : List Line) (x : Line) (ys : List Line) →
    x.block ≡ b → Absent b xs → Absent b ys →
    exchange b new (xs ++ x ∷ ys) ≡ xs ++ new ∷ ys
exchange_split b new [] x ys e f h = grind (arith, exchange_absent b new ys h)
exchange_split b new (z ∷ xs) x ys e f h = grind (arith, exchange_split b new xs x ys e f.1 h)

-- the lines of a set
pub find_in_set : (g : GeometryValue) (b : ℕ) (ls : List Line) →
    find (is_block b) (lines_of_set g (set_of_block g b) ls) ≡ find (is_block b) ls
find_in_set g b ls = grind (arith, find-filter)

pub absent_other : (g : GeometryValue) (k b : ℕ) (ls : List Line) → k ≢ set_of_block g b →
    Absent b (lines_of_set g k ls)
absent_other g k b [] ne = tt
absent_other g k b (l ∷ ls) ne = grind (arith, absent_other g k b ls ne)

pub set_without : (g : GeometryValue) (k b : ℕ) (ls : List Line) →
    lines_of_set g k (lines_without b ls) ≡ lines_without b (lines_of_set g k ls)
set_without g k b ls = filter_comm (λ line. set_of_block g line.block == k)
    (λ line. not (is_block b line)) ls

pub set_exchange : (g : GeometryValue) (k b : ℕ) (new : Line) (ls : List Line) →
    set_of_block g new.block ≡ set_of_block g b →
    lines_of_set g k (exchange b new ls) ≡ exchange b new (lines_of_set g k ls)
set_exchange g k b new [] e = refl
set_exchange g k b new (l ∷ ls) e = grind (arith, set_exchange g k b new ls e)

-- keys in order
pub falls_weaker : (n m : ℕ) (ls : List Line) → n ≤ m → Falls n ls → Falls m ls
falls_weaker n m [] h f = tt
falls_weaker n m (l ∷ ls) h f = (omega (arith, f.0), f.1)

pub falls_without : (n : ℕ) (xs : List Line) (x : Line) (ys : List Line) → Falls n (xs ++ x ∷ ys) →
    Falls n (xs ++ ys)
falls_without n [] x ys f = falls_weaker x.key n ys (omega (arith, f.0)) f.1
falls_without n (z ∷ xs) x ys f = (f.0, falls_without z.key xs x ys f.1)

pub falls_instead : (n : ℕ) (xs : List Line) (x y : Line) (ys : List Line) → y.key ≡ x.key →
    Falls n (xs ++ x ∷ ys) → Falls n (xs ++ y ∷ ys)
falls_instead n [] x y ys e f = (omega (arith, f.0), rw e f.1)
falls_instead n (z ∷ xs) x y ys e f = (f.0, falls_instead z.key xs x y ys e f.1)

pub falls_last : (n : ℕ) (xs : List Line) (x : Line) → Falls n (xs ++ x ∷ []) → x.key < n
falls_last n [] x f = f.0
falls_last n (z ∷ xs) x f = omega (arith, f.0, falls_last z.key xs x f.1)

pub least_last : (n : ℕ) (xs : List Line) (x : Line) → Falls n (xs ++ x ∷ []) →
    least_line (xs ++ x ∷ []) ≡ Some x
least_last n [] x f = refl
least_last n (z ∷ xs) x f = grind (arith, falls_last z.key xs x f.1, least_last z.key xs x f.1)

pub counts_instead : (n : ℕ) (xs : List Line) (x y : Line) (ys : List Line) → y.key ≡ x.key →
    CountsUp n (xs ++ x ∷ ys) →
    CountsUp n (xs ++ y ∷ ys)
counts_instead n [] x y ys e f = (e ∙ f.0, f.1)
counts_instead n (z ∷ xs) x y ys e f = (f.0, counts_instead (n + 1) xs x y ys e f.1)

pub counts_up_push : (n : ℕ) (xs : List Line) (x : Line) → CountsUp n xs → x.key ≡ n + length xs →
    CountsUp n (xs ++ x ∷ [])
counts_up_push n [] x f e = (omega arith, tt)
counts_up_push n (z ∷ xs) x f e = (f.0, counts_up_push (n + 1) xs x f.1 (omega arith))

pub find_way : (n w : ℕ) (xs : List Line) (x : Line) (ys : List Line) → CountsUp n (xs ++ x ∷ ys) →
    w ≡ n + length xs →
    find (λ l. l.key == w) (xs ++ x ∷ ys) ≡ Some x
find_way n w [] x ys f e = grind arith
find_way n w (z ∷ xs) x ys f e = grind (arith, find_way (n + 1) w xs x ys f.1 (omega arith))

-- an element among others: in front of them, or between them
abbrev pub around : {A : Type 0} → Place → A → List A → List A → List A
around InFront y xs ys = y ∷ (xs ++ ys)
around InPlace y xs ys = xs ++ y ∷ ys

pub distinct_around : (p : Place) (y : Line) (xs ys : List Line) → Absent y.block xs →
    Absent y.block ys → Distinct (xs ++ ys) →
    Distinct (around p y xs ys)
distinct_around p y xs ys f b d = grind (arith, absent_append, distinct_instead)

-- a line that goes among others, where none leaves, and where one does
pub with_line_at-none : (p : Place) (y : Line) (ls : List Line) →
    with_line_at p y None ls ≡ around p y ls []
with_line_at-none p y ls = grind (arith, append-nil)

pub with_line_at-some : (p : Place) (y gone : Line) (xs : List Line) (x : Line) (ys : List Line) →
    x.block ≡ gone.block → Absent gone.block xs →
    Absent gone.block ys → with_line_at p y (Some gone) (xs ++ x ∷ ys) ≡ around p y xs ys
with_line_at-some p y gone xs x ys e f b = grind (arith, without_split, exchange_split)

-- the order of a set later, and with another line among its own: in front with the clock as its
-- key, or in a place with the key there
pub order_later : (p : Place) (c : ℕ) (ls : List Line) → InOrder p c ls → InOrder p (c + 1) ls
order_later p c ls o = grind (arith, falls_weaker)

order_front : (c : ℕ) (xs : List Line) (x y : Line) (ys : List Line) → y.key ≡ c + 1 →
    InOrder InFront c (xs ++ x ∷ ys) →
    InOrder InFront (c + 1) (y ∷ (xs ++ ys))
order_front c xs x y ys e o = (omega (arith, e), rw e (falls_without (c + 1) xs x ys o))

order_instead : (p : Place) (c : ℕ) (xs : List Line) (x y : Line) (ys : List Line) → y.key ≡ x.key →
    InOrder p c (xs ++ x ∷ ys) →
    InOrder p (c + 1) (xs ++ y ∷ ys)
order_instead p c xs x y ys e o = grind (arith, order_later, falls_instead, counts_instead)

pub order_placed : (p : Place) (c : ℕ) (xs : List Line) (x y : Line) (ys : List Line) →
    y.key ≡ key_at p (c + 1) x.key →
    InOrder p c (xs ++ x ∷ ys) → InOrder p (c + 1) (around p y xs ys)
order_placed p c xs x y ys e o = grind (arith, order_front, order_instead)

pub order_pushed : (p : Place) (c : ℕ) (ls : List Line) (y : Line) →
    y.key ≡ key_at p (c + 1) (length ls) → InOrder p c ls →
    InOrder p (c + 1) (around p y ls [])
order_pushed p c ls y e o = grind (arith, append-nil, counts_up_push)

pub order_touched : (policy : Repl) (c : ℕ) (xs : List Line) (x y : Line) (ys : List Line) →
    y.key ≡ key_at (rules policy).touched (c + 1) x.key →
    InOrder (rules policy).placed c (xs ++ x ∷ ys) → InOrder (rules policy).placed (c + 1)
    (around (rules policy).touched y xs ys)
order_touched policy c xs x y ys e o = grind (arith, order_front, order_instead)
