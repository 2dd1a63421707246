-- The copybacks of the cache of so many ways at an event, by the lists of a full profile.
use Rattle.std.proofs.Common.{◌≡◌, ℕ, zero, suc, ◌+◌, ◌-◌, ◌<◌, ◌≤◌, ◌^◌, ◌&&◌, Bool, true}
use Rattle.std.proofs.Common.{false, not, cond, ltb, leb, List, [], ◌∷◌, length, take, drop, map}
use Rattle.std.proofs.Common.{sum, get_or, reverse, refl, sym, ◌∙◌, ap, arith}
use Rattle.std.specs.List.{count_by, sum_by, range_with_len}
use Rattle.std.proofs.lemmas.Bool.{leb-true}
use Rattle.std.proofs.lemmas.List.Folds.{fold-map}
use Rattle.std.proofs.lemmas.List.FromFn.{fill_by_all, length-map-range_with_len}
use Rattle.std.proofs.lemmas.List.FromFn.{get_or-map-range_with_len}
use Rattle.std.proofs.lemmas.List.Sums.{sum_by-cons, sum-map}
use Rattle.std.proofs.lemmas.Nat.{mod_below, pow_pos}
use Rattle.trace_core.specs.declared.events.Ref.{Ref}
use Rattle.trace_core.specs.declared.events.Event.{Event}
use Rattle.trace_core.specs.declared.events.Event.TheVariants as event
use Rattle.cache_core.specs.Geometry.{GeometryValue, block_of, set_of}
use Rattle.cache_core.proofs.Lists.{cases}
use Rattle.profile_core.specs.profile.RecencyList.{index_of, is_in}
use Rattle.profile_core.specs.profile.State.{list_of}
use Rattle.full_profile.specs.LookBack.{is_block_dirty, held_blocks, copybacks_at, dirty_among}
use Rattle.full_profile.specs.State.{FullState, cleans_of}
use Rattle.full_profile.proofs.laws.Fit.{FullStandsFor}
use Rattle.full_profile.proofs.laws.Waiting.{one_dirty, dirty_in, copyback_of}
use Rattle.full_profile.proofs.laws.LookingBack.{with_ways, held_is, evict_is}
use Rattle.full_profile.proofs.laws.Dirty.{KnowsDirty}

-- sums over the numbers below n
pub below_same : (f g : ℕ → ℕ) (n : ℕ) → ((k : ℕ) → k < n → f k ≡ g k) →
    sum_by f (range_with_len 0 n) ≡ sum_by g (range_with_len 0 n)
below_same f g n e =
    sym (sum-map f (range_with_len 0 n))
    ∙ ap sum (fill_by_all g (map f (range_with_len 0 n)) n 0 (length-map-range_with_len f 0 n)
    (λ k lt. get_or-map-range_with_len f 0 n k k 0 lt (omega arith) ∙ e k lt))
    ∙ sum-map g (range_with_len 0 n)

-- counts of two lists that are alike at the first indices
counts_alike : (p q : ℕ → Bool) (ways : ℕ) (bs cs : List ℕ) → length cs ≡ length bs →
    ((i : ℕ) → i < ways → i < length bs → p (get_or bs i 0) ≡ q (get_or cs i 0)) →
    count_by p (take ways bs) ≡ count_by q (take ways cs)
counts_alike p q zero bs cs alike h = refl
counts_alike p q (suc n) [] [] alike h = refl
counts_alike p q (suc n) [] (c ∷ cs) alike h = absurd (omega (arith, alike))
counts_alike p q (suc n) (b ∷ bs) [] alike h = absurd (omega (arith, alike))
counts_alike p q (suc n) (b ∷ bs) (c ∷ cs) alike h =
    let here : cond {A = ℕ} (p b) 1 0 ≡ cond (q c) 1 0 = ap (λ t. cond {A = ℕ} t 1 0)
    (h 0 (omega arith) (omega arith)) in
    omega (
      arith,
      sum_by-cons (λ x. cond (p x) 1 0) b (take n bs),
      sum_by-cons (λ x. cond (q x) 1 0) c (take n cs),
      here,
      counts_alike p q n bs cs (omega (arith, alike)) (λ i lt inside. h (suc i) (omega (arith, lt))
          (omega (arith, inside))),
    )

-- the last one of the first ones
last_taken : (n : ℕ) (xs : List ℕ) → n < length xs → drop n (take (suc n) xs) ≡ get_or xs n 0 ∷ []
last_taken n [] lt = absurd (omega (arith, lt))
last_taken zero (x ∷ xs) lt = refl
last_taken (suc n) (x ∷ xs) lt = last_taken n xs (omega (arith, lt))

pub count_one : (p : ℕ → Bool) (x : ℕ) → count_by p (x ∷ []) ≡ cond (p x) 1 0
count_one p x = sum_by-cons (λ y. cond (p y) 1 0) x [] ∙ omega arith

module _ (n : ℕ) (es : List Event) (v : FullState) (stands : FullStandsFor es v)
    (within : suc n ≤ v.plain.geometry.e) (know : KnowsDirty (suc n) es v) where
  abbrev g : GeometryValue
  g = v.plain.geometry

  abbrev small : GeometryValue
  small = with_ways g (suc n)

  -- the copyback of a reference
  pub copyback_at : (r : Ref) → let k = set_of g r.addr in let blocks = list_of v.plain k in
      let x = block_of g r.addr in
      copybacks_at small es (event.Reference r)
      ≡ copyback_of n (is_in x blocks) (index_of x blocks) (cleans_of v k)
  copyback_at r =
      let k : ℕ = set_of g r.addr in
      let lt : k < 2 ^ g.s = mod_below (block_of g r.addr) (2 ^ g.s) (pow_pos g.s) in
      let blocks : List ℕ = list_of v.plain k in
      let cleans : List ℕ = cleans_of v k in
      let x : ℕ = block_of g r.addr in
      let hit : Bool = is_in x blocks && ltb (index_of x blocks) (suc n) in
      let dirty : ℕ → Bool = λ b. is_block_dirty small b (reverse es) in
      let out : List ℕ = drop (suc n - 1) (held_blocks small es k) in
      ap (λ b. count_by dirty (cond b out [])) (evict_is es v.plain stands.plain (suc n) within r)
      ∙ ap (λ m. count_by dirty (cond (not hit && leb (suc n) m) out []))
      (sym (stands.fit.alike k))
      ∙ cases (λ b. leb (suc n) (length cleans) ≡ b → count_by dirty (cond (not hit && b) out [])
      ≡ cond (not hit && b) (one_dirty (suc n) (get_or cleans n 0)) 0)
      (leb (suc n) (length cleans))
      (λ t is.
      let many : suc n ≤ length cleans = leb-true (suc n) (length cleans) is in
      let inside : n < length blocks = omega (arith, many, stands.fit.alike k) in
      let one : out ≡ get_or blocks n 0 ∷ [] =
      ap (λ m. drop m (held_blocks small es k)) {x = suc n - 1} {y = n} (omega arith)
      ∙ ap (drop n) (held_is es v.plain stands.plain (suc n) within k lt)
      ∙ last_taken n blocks inside in
      when_missed hit out (one_dirty (suc n) (get_or cleans n 0)) dirty
      (ap (count_by dirty) one ∙ count_one dirty (get_or blocks n 0)
      ∙ ap (λ b. cond {A = ℕ} b 1 0) (know.tells k n lt (omega arith) inside)))
      (λ f is. never hit out (one_dirty (suc n) (get_or cleans n 0)) dirty)
      refl
    where
      when_missed : (hit : Bool) (out : List ℕ) (m : ℕ) (p : ℕ → Bool) → count_by p out ≡ m →
          count_by p (cond (not hit && true) out []) ≡ cond (not hit && true) m 0
      when_missed true out m p e = refl
      when_missed false out m p e = e

      never : (hit : Bool) (out : List ℕ) (m : ℕ) (p : ℕ → Bool) →
          count_by p (cond (not hit && false) out []) ≡ cond (not hit && false) m 0
      never true out m p = refl
      never false out m p = refl

  -- the copybacks of a flush
  pub copybacks_at_flush : copybacks_at small es event.Flush
      ≡ sum_by (λ cleans. dirty_in (suc n) (take (suc n) cleans)) v.cleans
  copybacks_at_flush =
      let sets : List ℕ = range_with_len 0 (2 ^ g.s) in
      let f : List ℕ → ℕ = λ cleans. dirty_in (suc n) (take (suc n) cleans) in
      below_same (λ k. dirty_among small es (held_blocks small es k)) (λ k. f (cleans_of v k))
      (2 ^ g.s)
      (λ k lt. ap (dirty_among small es) (held_is es v.plain stands.plain (suc n) within k lt)
      ∙ counts_alike (λ b. is_block_dirty small b (reverse es)) (λ clean. ltb clean (suc n)) (suc n)
      (list_of v.plain k) (cleans_of v k) (stands.fit.alike k)
      (λ i near inside. know.tells k i lt near inside))
      ∙ sym (fold-map (λ a cs. a + f cs) (cleans_of v) 0 sets)
      ∙ ap (sum_by f) (sym (fill_by_all (cleans_of v) v.cleans (2 ^ g.s) [] stands.fit.set_count
      (λ k lt. refl)))
