-- The different blocks of a set in a window: how a reference moves them, and where a block stands
-- among them.
use Rattle.std.proofs.Common.{arith, ◌≡◌, ℕ, ◌<◌, false, not, cond, eqb, List, [], ◌∷◌, take, refl}
use Rattle.std.proofs.Common.{sym, ◌∙◌, ap}
use Rattle.std.specs.List.{remove, filter, list_any, before_first, position_or_len}
use Rattle.std.proofs.lemmas.Bool.{eqb-true}
use Rattle.cache_core.specs.Windows.{distinct, distinct_of_set, Occurrence, has_last, distance}
use Rattle.cache_core.specs.Geometry.{GeometryValue, set_of_block}
use Rattle.cache_core.proofs.Lists.{cases, other, is, IsOnce, IsOnce-filter, filter-cons_no}
use Rattle.cache_core.proofs.Lists.{filter_comm, filter_other_no, filter_passes}
use Rattle.cache_core.proofs.Lists.{filter-before_first, before_first-cons, eqb_flip, IsOnce-take}
use Rattle.cache_core.proofs.Lists.{remove_is, take_without, list_any-filter, length-before_first}

pub IsOnce-distinct : (w : List ℕ) → IsOnce (distinct w)
unfolding distinct
IsOnce-distinct [] = tt
IsOnce-distinct (x ∷ w) = (
  filter_passes (other x) (distinct w),
  IsOnce-filter (other x)
      (distinct w) (IsOnce-distinct w),
)

pub IsOnce-distinct_of_set : (g : GeometryValue) (k : ℕ) (w : List ℕ) →
    IsOnce (distinct_of_set g k w)
unfolding distinct_of_set
IsOnce-distinct_of_set g k w = IsOnce-filter _ _ (IsOnce-distinct w)

pub distinct_of_set-nil : (g : GeometryValue) (k : ℕ) → distinct_of_set g k [] ≡ []
unfolding distinct_of_set distinct
distinct_of_set-nil g k = refl

-- a reference brings its block to the front of its set
pub distinct_of_set-same : (g : GeometryValue) (k x : ℕ) (w : List ℕ) → set_of_block g x ≡ k →
    distinct_of_set g k (x ∷ w) ≡ x ∷ filter (other x) (distinct_of_set g k w)
unfolding distinct_of_set distinct
distinct_of_set-same g k x w e = grind (arith, filter_comm)

-- and leaves the other sets
pub distinct_of_set-other : (g : GeometryValue) (k x : ℕ) (w : List ℕ) →
    eqb (set_of_block g x) k ≡ false →
    distinct_of_set g k (x ∷ w) ≡ distinct_of_set g k w
unfolding distinct_of_set distinct
distinct_of_set-other g k x w e =
    cc (
      filter-cons_no (λ y. eqb (set_of_block g y) k) x (filter (other x) (distinct w)) e,
      filter_other_no (λ y. eqb (set_of_block g y) k) x (distinct w) e,
    )

distinct-before_first : (x : ℕ) (w : List ℕ) → distinct (before_first (is x) w) ≡ before_first
    (is x) (distinct w)
unfolding distinct
distinct-before_first x [] = refl
distinct-before_first x (y ∷ ys) =
    ap distinct (before_first-cons (is x) y ys)
    ∙ cases
    (λ b. (b ≡ eqb y x) → distinct (cond b [] (y ∷ before_first (is x) ys)) ≡ cond b []
    (y ∷ before_first (is x) (filter (other y) (distinct ys))))
    (eqb y x)
    (λ e k. refl)
    (λ e k. ap (λ r. y ∷ r)
    (ap (λ r. filter (other y) r) (distinct-before_first x ys) ∙ filter-before_first (other y) x
    (distinct ys) (ap not (eqb_flip x y (sym k)))))
    refl
    ∙ sym (before_first-cons (is x) y (filter (other y) (distinct ys)))

distinct_of_set-before_first : (g : GeometryValue) (x : ℕ) (w : List ℕ) →
    distinct_of_set g (set_of_block g x) (before_first (is x) w) ≡ before_first (is x)
    (distinct_of_set g (set_of_block g x) w)
unfolding distinct_of_set
distinct_of_set-before_first g x w = grind (arith, distinct-before_first, filter-before_first)

-- the distance is the block's index among them
pub distance_is : (g : GeometryValue) (p : Occurrence) → distance g p ≡ position_or_len (is p.block)
    (distinct_of_set g (set_of_block g p.block) p.window)
distance_is g p = cc (
  distinct_of_set-before_first g p.block p.window,
  length-before_first (is p.block) (distinct_of_set g (set_of_block g p.block) p.window),
)

list_any-distinct : (x : ℕ) (w : List ℕ) → list_any (is x) (distinct w) ≡ list_any (is x) w
unfolding distinct
list_any-distinct x [] = refl
list_any-distinct x (y ∷ ys) =
    let rest = λ (k : eqb y x ≡ false).
    list_any-filter (other y) (is x) (distinct ys) (λ z f. ap (λ v. not (eqb v y))
    (eqb-true z x f) ∙ ap not (eqb_flip x y k)) in
    grind (arith, list_any-distinct x ys)

pub has_last_is : (g : GeometryValue) (p : Occurrence) → has_last p ≡ list_any (is p.block)
    (distinct_of_set g (set_of_block g p.block) p.window)
unfolding distinct_of_set
has_last_is g p = grind (arith, list_any-filter, list_any-distinct)

-- a reference moves the first n blocks of its set on by themselves
pub take-distinct_of_set-same : (g : GeometryValue) (n x : ℕ) (w : List ℕ) → 0 < n
    → take n (x ∷ remove (take n (distinct_of_set g (set_of_block g x) w))
    (position_or_len (is x) (take n (distinct_of_set g (set_of_block g x) w))))
    ≡ take n (distinct_of_set g (set_of_block g x) (x ∷ w))
take-distinct_of_set-same g n x w h = grind (
  arith,
  remove_is,
  IsOnce-take,
  IsOnce-distinct_of_set,
  take_without,
  distinct_of_set-same,
)
