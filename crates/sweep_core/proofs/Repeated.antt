-- A reference to the block of the one before finds it in front in each profile.
use Rattle.std.proofs.Common.{◌≡◌, ℕ, ◌+◌, ◌-◌, ◌<◌, ◌≤◌, ◌/◌, ◌^◌, Bool, true, false, cond, List}
use Rattle.std.proofs.Common.{[], ◌∷◌, ◌++◌, map, take, length, get_or, fold, refl, sym, ap, ◌∙◌}
use Rattle.std.proofs.Common.{arith}
use Rattle.std.specs.Prelude.{min}
use Rattle.std.specs.List.{AllByRecursion as Each}
use Rattle.std.proofs.Math.Nat.{div-div-eq-div-mul}
use Rattle.std.proofs.lemmas.Bool.{ltb-true, eqb-true, and_parts}
use Rattle.std.proofs.lemmas.List.{take_more, take_all}
use Rattle.std.proofs.lemmas.Nat.{pow-add}
use Rattle.cache_core.specs.Geometry.{block_of}
use Rattle.cache_core.proofs.Lists.{cases}
use Rattle.profile_core.specs.profile.State.{ProfileState, after_reference}
use Rattle.profile_core.specs.profile.Fronts.{after_unless_front, is_front_of, after_batch}
use Rattle.profile_core.specs.internal.profile.StackProfile.{IsFit}
use Rattle.profile_core.proofs.profile.Fronts.{front_again}
use Rattle.sweep_core.specs.declared.profiles.PairProfile.{PairProfile}
use Rattle.sweep_core.specs.internal.Pass.{pair_after_flush}
use Rattle.sweep_core.specs.internal.Feeding.{pair_after_batch, profiles_after_batch}
use Rattle.sweep_core.specs.internal.Waiting.{AreWaiting, AreNoFiner, finest_bits, is_in_last_block}
use Rattle.sweep_core.specs.internal.Waiting.{with_waiting}
use Rattle.sweep_core.proofs.Lists.{Each-weaker, Each-map}
use Rattle.sweep_core.proofs.Waiting.{fed-append, waiting-more}

-- the smallest of some numbers is no larger than each
pub finest-most : {X : Type 0} (b : X → ℕ) (bits : ℕ) (xs : List X) →
    fold (λ n x. min n (b x)) bits xs ≤ bits
finest-most b bits [] = omega arith
finest-most b bits (x ∷ xs) = omega (arith, finest-most b (min bits (b x)) xs)

pub finest-each : {X : Type 0} (b : X → ℕ) (bits : ℕ) (xs : List X) →
    Each (λ x. fold (λ n y. min n (b y)) bits xs ≤ b x) xs
finest-each b bits [] = tt
finest-each b bits (x ∷ xs) =
    (omega (arith, finest-most b (min bits (b x)) xs), finest-each b (min bits (b x)) xs)

pub finest-small : (xs : List PairProfile) → finest_bits xs ≤ 20
finest-small xs = finest-most (λ (x : PairProfile). x.profile.geometry.b) 20 xs

pub finest-finer : (xs : List PairProfile) → AreNoFiner (finest_bits xs) xs
finest-finer xs = finest-each (λ (x : PairProfile). x.profile.geometry.b) 20 xs

-- no reference and no flush changes a block size
geometry-unless : (b : Bool) (v : ProfileState) (x : ℕ) →
    (cond b v (after_reference v x)).geometry ≡ v.geometry
geometry-unless true v x = refl
geometry-unless false v x = refl

pub geometry-batch : (v : ProfileState) (addrs : List ℕ) →
    (after_batch v addrs).geometry ≡ v.geometry
geometry-batch v [] = refl
geometry-batch v (a ∷ addrs) =
    let x = block_of v.geometry a in
    geometry-batch (after_unless_front v x) addrs ∙ geometry-unless (is_front_of v x) v x

pub no-finer-fed : (bits : ℕ) (addrs : List ℕ) (xs : List PairProfile) → AreNoFiner bits xs →
    AreNoFiner bits (profiles_after_batch addrs xs)
no-finer-fed bits addrs xs h =
    Each-map (λ y. bits ≤ y.profile.geometry.b) (pair_after_batch addrs) xs
    (Each-weaker (λ x. bits ≤ x.profile.geometry.b)
    (λ x. bits ≤ (after_batch x.profile addrs).geometry.b)
    (λ x le. omega (arith, le, ap (λ g. g.b) (geometry-batch x.profile addrs))) xs h)

pub no-finer-flushed : (bits : ℕ) (xs : List PairProfile) → AreNoFiner bits xs →
    AreNoFiner bits (map pair_after_flush xs)
no-finer-flushed bits xs h = Each-map (λ y. bits ≤ y.profile.geometry.b) pair_after_flush xs h

-- addresses in one block are in one larger block too
pub same-block : (m n a c : ℕ) → m ≤ n → a / 2 ^ m ≡ c / 2 ^ m → a / 2 ^ n ≡ c / 2 ^ n
same-block m n a c le same =
    let wide : (k : ℕ) → k / 2 ^ n ≡ k / 2 ^ m / 2 ^ (n - m) =
    λ k. ap (λ b. k / 2 ^ b) {x = n} {y = m + (n - m)} (omega (arith, le)) ∙
    ap (λ p. k / p) (pow-add 2 m (n - m))
    ∙ sym (div-div-eq-div-mul k (2 ^ m) (2 ^ (n - m))) in
    wide a ∙ ap (λ k. k / 2 ^ (n - m)) same ∙ sym (wide c)

-- the second of two references to one block changes nothing
again : (v : ProfileState) (a c : ℕ) → IsFit v →
    block_of v.geometry a ≡ block_of v.geometry c →
    after_batch v (a ∷ c ∷ []) ≡ after_batch v (a ∷ [])
again v a c fit same =
    let x = block_of v.geometry a in
    let w = after_unless_front v x in
    let geometry : w.geometry ≡ v.geometry = geometry-unless (is_front_of v x) v x in
    let block : block_of w.geometry c ≡ x = ap (λ g. block_of g c) geometry ∙ sym same in
    let front : is_front_of w (block_of w.geometry c) ≡ true =
    ap (is_front_of w) block ∙ front_again v x fit in
    ap (λ b. cond b w (after_reference w (block_of w.geometry c))) front

again-each : (a c : ℕ) (xs : List PairProfile) → Each (λ x. IsFit x.profile) xs →
    Each (λ x. block_of x.profile.geometry a ≡ block_of x.profile.geometry c) xs →
    profiles_after_batch (a ∷ c ∷ []) xs ≡ profiles_after_batch (a ∷ []) xs
again-each a c [] fit same = refl
again-each a c (x ∷ xs) fit same =
    ap (λ v. record x { profile = v } ∷ profiles_after_batch (a ∷ c ∷ []) xs)
    (again x.profile a c fit.0 same.0)
    ∙ ap (λ l. pair_after_batch (a ∷ []) x ∷ l) (again-each a c xs fit.1 same.1)

module _ (n bits : ℕ) (addrs : List ℕ) (xs : List PairProfile) (h : AreWaiting n addrs xs)
    (finer : AreNoFiner bits xs) (c : ℕ) where
  repeated : is_in_last_block bits addrs c ≡ true →
      profiles_after_batch (addrs ++ c ∷ []) xs ≡ profiles_after_batch addrs xs
  repeated is =
      let m = length addrs - 1 in
      let a = get_or addrs m 0 in
      let parts = and_parts _ _ is in
      let some : 0 < length addrs = ltb-true 0 (length addrs) parts.0 in
      let before = take m addrs in
      let whole : addrs ≡ before ++ a ∷ [] =
      sym (take_all (m + 1) addrs (omega (arith, some))) ∙ take_more addrs m 0 (omega (arith, some))
      in
      let ys = profiles_after_batch before xs in
      let same : Each (λ y. block_of y.profile.geometry a ≡ block_of y.profile.geometry c) ys =
      Each-weaker (λ y. bits ≤ y.profile.geometry.b)
      (λ y. block_of y.profile.geometry a ≡ block_of y.profile.geometry c)
      (λ y le. same-block bits y.profile.geometry.b a c le
      (eqb-true (a / 2 ^ bits) (c / 2 ^ bits) parts.1)) ys (no-finer-fed bits before xs finer) in
      ap (λ l. profiles_after_batch (l ++ c ∷ []) xs) whole
      ∙ fed-append (before ++ a ∷ []) (c ∷ []) xs
      ∙ ap (profiles_after_batch (c ∷ [])) (fed-append before (a ∷ []) xs)
      ∙ sym (fed-append (a ∷ []) (c ∷ []) ys)
      ∙ again-each a c ys (h.behind before).fit same
      ∙ sym (fed-append before (a ∷ []) xs)
      ∙ ap (λ l. profiles_after_batch l xs) (sym whole)

  -- more that need not wait
  pub waiting-later : (m : ℕ) → n ≤ m → AreWaiting m addrs xs
  waiting-later m more = record {
    waiting = omega (arith, h.waiting, more);
    behind = λ later.
        let was = h.behind later in
        record {
          fed = Each-weaker (λ x. _) (λ x. _) (λ x le. omega (arith, le, h.waiting, more))
              (profiles_after_batch later xs) was.fed;
          fit = was.fit;
          led = was.led;
        };
  }

  -- one more of those that a kind keeps waits, or need not
  pub waiting-with : AreWaiting (n + 1) (with_waiting bits addrs c) xs
  waiting-with =
      cases (λ b. AreWaiting (n + 1) (cond b addrs (addrs ++ c ∷ [])) xs)
      (is_in_last_block bits addrs c) (λ t. waiting-later (n + 1) (omega arith))
      (λ f. waiting-more n addrs xs h c)

  pub fed-with : profiles_after_batch (with_waiting bits addrs c) xs
      ≡ profiles_after_batch (addrs ++ c ∷ []) xs
  fed-with =
      cases (λ b. is_in_last_block bits addrs c ≡ b →
      profiles_after_batch (cond b addrs (addrs ++ c ∷ [])) xs
      ≡ profiles_after_batch (addrs ++ c ∷ []) xs)
      (is_in_last_block bits addrs c) (λ t is. sym (repeated is)) (λ f is. refl) refl
