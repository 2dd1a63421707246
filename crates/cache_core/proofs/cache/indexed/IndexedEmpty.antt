-- A cache whose blocks are found by an index, of which no slot is filled.
use Rattle.std.proofs.Common.{◌≡◌, ℕ, zero, suc, ◌*◌, ◌^◌, Bool, List}
use Rattle.std.proofs.Common.{[], ◌∷◌, length}
use Rattle.std.proofs.Common.{replicate, refl, sym, ◌∙◌, ap, subst, arith, Some}
use Rattle.std.proofs.Common.{None}
use Rattle.std.specs.Prelude.{slice_get}
use Rattle.std.proofs.lemmas.Bool.{false≢true}
use Rattle.std.proofs.lemmas.List.{length-map}
use Rattle.block_index.specs.SlotLists.{has_slot, AreOnce}
use Rattle.block_index.specs.BlockIndex.{IndexValue, HasBlock}
use Rattle.cache_core.specs.declared.design.Design.{Design}
use Rattle.cache_core.specs.declared.design.Repl.{Repl}
use Rattle.cache_core.specs.Geometry.{GeometryValue, IsGeometry}
use Rattle.cache_core.specs.internal.cache.SlotOrder.{OrderValue, order_of}
use Rattle.cache_core.specs.internal.cache.Indexed.{set_at, sets_at, counts_of, IsHeld, ArePacked}
use Rattle.cache_core.specs.internal.cache.Indexed.{IsIndexed}

none_at : (n k : ℕ) → order_of (replicate n []) k ≡ []
none_at zero k = none_of k
  where
    none_of : (k : ℕ) → order_of [] k ≡ []
    none_of zero = refl
    none_of (suc k) = refl
none_at (suc n) zero = refl
none_at (suc n) (suc k) = none_at n k

length_none : {A : Type 0} (n : ℕ) (a : A) → length (replicate n a) ≡ n
length_none zero a = refl
length_none (suc n) a = ap suc (length_none n a)

no_block : (n s b : ℕ) → slice_get (replicate n None) s ≡ Some (Some b) → ⊥
no_block zero s b e = cc
no_block (suc n) zero b e = cc
no_block (suc n) (suc s) b e = no_block n s b e

pub empty_counts : (n : ℕ) → counts_of (replicate n []) ≡ replicate n 0
empty_counts zero = refl
empty_counts (suc n) = ap (λ xs. 0 ∷ xs) (empty_counts n)

pub empty_views : (index : IndexValue) (dirty : List Bool) (n : ℕ) →
    sets_at index dirty (replicate n []) ≡ replicate n []
empty_views index dirty zero = refl
empty_views index dirty (suc n) = ap (λ xs. [] ∷ xs) (empty_views index dirty n)

-- no slot has a block
none_held : (g : GeometryValue) (index : IndexValue) (n lines : ℕ) →
    index.blocks ≡ replicate lines None → IsHeld g index (replicate n [])
none_held g index n lines none =
    let never : (s b : ℕ) → HasBlock index s b → ⊥ =
    (λ s b h. no_block lines s b (sym (ap (λ xs. slice_get xs s) none) ∙ h)) in
    record {
      once = λ k. subst (λ (xs : List ℕ). AreOnce xs) (sym (none_at n k)) tt;
      holds = λ k s h. absurd (false≢true (sym (ap (has_slot s) (none_at n k)) ∙ h));
      listed = λ s b h. absurd (never s b h);
      different = λ s t b h i. absurd (never s b h);
    }

none_packed : (ways n : ℕ) → ArePacked ways (replicate n [])
none_packed ways n k s = (
  λ h. absurd (false≢true (sym (ap (has_slot s) (none_at n k)) ∙ h)),
  λ w. absurd (omega (arith, w.0, w.1, ap (λ (xs : List ℕ). length xs) (none_at n k))),
)

-- the invariant holds where no slot is filled
pub empty_indexed : (d : Design) (index : IndexValue) (dirty : List Bool) (order : OrderValue)
    (n : ℕ) → IsGeometry d.geometry → order.ways ≡ d.geometry.e → n ≡ 2 ^ d.geometry.s →
    length index.blocks ≡ d.geometry.e * 2 ^ d.geometry.s →
    length dirty ≡ d.geometry.e * 2 ^ d.geometry.s → order.sets ≡ replicate n [] →
    IsHeld d.geometry index order.sets → IsIndexed d index dirty order
empty_indexed d index dirty order n geometry ways sets slots marks none held = record {
  geometry = geometry;
  ways = ways;
  sets = ap length none ∙ length_none n [] ∙ sets;
  slots = slots;
  marks = marks;
  few = λ k. omega (
    arith,
    ap (λ (ys : List (List ℕ)). length (order_of ys k)) none,
    ap (λ (xs : List ℕ). length xs) (none_at n k),
  );
  held = held;
  packed = subst (λ (ys : List (List ℕ)). ArePacked d.geometry.e ys) (sym none)
      (none_packed d.geometry.e n);
}

-- a new cache
pub new_indexed : (d : Design) (index : IndexValue) (dirty : List Bool) (order : OrderValue)
    (policy : Repl) (n lines : ℕ) → IsGeometry d.geometry → n ≡ 2 ^ d.geometry.s →
    lines ≡ d.geometry.e * 2 ^ d.geometry.s → index.blocks ≡ replicate lines None →
    length dirty ≡ lines →
    order ≡ record { policy = policy; ways = d.geometry.e; sets = replicate n [] } →
    IsIndexed d index dirty order
new_indexed d index dirty order policy n lines geometry sets all blocks marks made =
    empty_indexed d index dirty order n geometry (ap (λ (o : OrderValue). o.ways) made) sets
    (ap length blocks ∙ length_none lines None ∙ all) (marks ∙ all)
    (ap (λ (o : OrderValue). o.sets) made)
    (subst (λ (ys : List (List ℕ)). IsHeld d.geometry index ys)
    (sym (ap (λ (o : OrderValue). o.sets) made))
    (none_held d.geometry index n lines blocks))

-- a flushed one
pub flushed_indexed : (d : Design) (index : IndexValue) (dirty : List Bool) (order : OrderValue)
    (after : IndexValue) (left : OrderValue) → IsIndexed d index dirty order →
    left ≡ record order { sets = replicate (length order.sets) [] } →
    IsHeld d.geometry after left.sets → length after.blocks ≡ length index.blocks →
    IsIndexed d after dirty left
flushed_indexed d index dirty order after left i empty held same =
    empty_indexed d after dirty left (length order.sets) i.geometry
    (ap (λ (o : OrderValue). o.ways) empty ∙ i.ways) i.sets (same ∙ i.slots) i.marks
    (ap (λ (o : OrderValue). o.sets) empty) held

pub flushed_counts : (order left : OrderValue) →
    left ≡ record order { sets = replicate (length order.sets) [] } →
    counts_of left.sets ≡ replicate (length order.sets) 0
flushed_counts order left empty = ap (λ (o : OrderValue). counts_of o.sets) empty
    ∙ empty_counts (length order.sets)

pub flushed_views : (index after : IndexValue) (dirty : List Bool) (order left : OrderValue) →
    left ≡ record order { sets = replicate (length order.sets) [] } →
    sets_at after dirty left.sets ≡ replicate (length (sets_at index dirty order.sets)) []
flushed_views index after dirty order left empty =
    ap (λ (o : OrderValue). sets_at after dirty o.sets) empty
    ∙ empty_views after dirty (length order.sets)
    ∙ ap (λ n. replicate n []) (sym (length-map order.sets (set_at index dirty)))

pub new_views : (index : IndexValue) (dirty : List Bool) (order : OrderValue) (policy : Repl)
    (ways n : ℕ) → order ≡ record { policy = policy; ways = ways; sets = replicate n [] } →
    sets_at index dirty order.sets ≡ replicate n []
new_views index dirty order policy ways n made =
    ap (λ (o : OrderValue). sets_at index dirty o.sets) made ∙ empty_views index dirty n

pub new_counts : (order : OrderValue) (policy : Repl) (ways n : ℕ) →
    order ≡ record { policy = policy; ways = ways; sets = replicate n [] } →
    counts_of order.sets ≡ replicate n 0
new_counts order policy ways n made =
    ap (λ (o : OrderValue). counts_of o.sets) made ∙ empty_counts n

pub made_ways : (order : OrderValue) (policy : Repl) (e ways n : ℕ) →
    order ≡ record { policy = policy; ways = e; sets = replicate n [] } → e ≡ ways →
    order ≡ record { policy = policy; ways = ways; sets = replicate n [] }
made_ways order policy e ways n made same =
    made ∙ ap (λ (m : ℕ). record { policy = policy; ways = m; sets = replicate n [] }) same
