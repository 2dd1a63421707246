-- The followers of each profile.
use Rattle.std.proofs.Common.{◌≡◌, ℕ, zero, suc, ◌+◌, ◌-◌, ◌<◌, ◌≤◌, Bool, true, false, not, cond}
use Rattle.std.proofs.Common.{List, [], ◌∷◌, ◌++◌, map, take, drop, length, get_or, refl, sym, ap}
use Rattle.std.proofs.Common.{◌∙◌, subst, arith}
use Rattle.std.specs.Prelude.{flat_map}
use Rattle.std.specs.List.{AllByRecursion as Each}
use Rattle.std.proofs.Math.ListN.{set}
use Rattle.std.proofs.lemmas.List.{length-drop, get_or_read, take_at, take_all}
use Rattle.std.proofs.lemmas.List.Sums.{position_or_len_is}
use Rattle.cache_core.specs.Geometry.{GeometryValue}
use Rattle.cache_core.proofs.Lists.{cases}
use Rattle.profile_core.specs.profile.Fronts.{is_refined}
use Rattle.sweep_core.specs.declared.profiles.PairProfile.{PairProfile}
use Rattle.sweep_core.specs.declared.request.Request.{Request}
use Rattle.sweep_core.specs.internal.Pass.{SweepStandsFor, WasFed}
use Rattle.sweep_core.specs.internal.Feeding.{follower_count, with_followers, HaveFollowers}
use Rattle.sweep_core.specs.Work.{pair_of}
use Rattle.sweep_core.specs.internal.Runs.{rows_of_profile}
use Rattle.sweep_core.specs.SweepText.{configs_of}

refined-each : (g : GeometryValue) (xs : List PairProfile) →
    Each (λ y. is_refined g y.profile.geometry ≡ true)
    (take (follower_count g xs) (with_followers xs))
unfolding with_followers
refined-each g [] = tt
refined-each g (x ∷ xs) =
    cases (λ b. is_refined g x.profile.geometry ≡ b →
    Each (λ y. is_refined g y.profile.geometry ≡ true)
    (take (cond (not (not b)) (1 + follower_count g xs) 0) (with_followers (x ∷ xs))))
    (is_refined g x.profile.geometry)
    (λ t is. subst (λ n. Each (λ y. is_refined g y.profile.geometry ≡ true)
    (take n (with_followers (x ∷ xs)))) {x = suc (follower_count g xs)}
    {y = 1 + follower_count g xs} (omega arith) (is, refined-each g xs))
    (λ f is. tt)
    refl

followers-most : (g : GeometryValue) (xs : List PairProfile) → follower_count g xs ≤ length xs
followers-most g [] = omega arith
followers-most g (x ∷ xs) =
    cases (λ b. cond (not (not b)) (1 + follower_count g xs) 0 ≤ length (x ∷ xs))
    (is_refined g x.profile.geometry)
    (λ t. omega (arith, followers-most g xs)) (λ f. omega arith)

pub followers-is : (g : GeometryValue) (xs : List PairProfile) (i : ℕ) → i ≤ length xs
    → ((k : ℕ) (d : PairProfile) → k < i → is_refined g (get_or xs k d).profile.geometry ≡ true)
    → ((d : PairProfile) → i < length xs → is_refined g (get_or xs i d).profile.geometry ≡ false) →
    i ≡ follower_count g xs
followers-is g [] i le first stop = omega (arith, le)
followers-is g (x ∷ xs) i le first stop =
    sym (position_or_len_is (λ y. not (is_refined g y.profile.geometry)) (x ∷ xs) i x le
    (λ k lt. ap not (first k x lt)) (λ lt. ap not (stop x lt)))

-- the first that does not refine it
pub followers-at : (g : GeometryValue) (xs : List PairProfile) (i : ℕ) (x : PairProfile)
    (b : Bool) → i < length xs
    → ((k : ℕ) (d : PairProfile) → k < i → is_refined g (get_or xs k d).profile.geometry ≡ true)
    → x ≡ get_or xs i x → b ≡ is_refined g x.profile.geometry → b ≡ false → i ≡ follower_count g xs
followers-at g xs i x b inside first is refines fails =
    followers-is g xs i (omega (arith, inside)) first
    (λ d lt. ap (λ y. is_refined g y.profile.geometry) (sym (get_or_read xs i x inside is d)) ∙
    sym refines ∙ fails)

length-with_followers : (xs : List PairProfile) → length (with_followers xs) ≡ length xs
unfolding with_followers
length-with_followers [] = refl
length-with_followers (x ∷ xs) = ap suc (length-with_followers xs)

pub with_followers-is : (xs : List PairProfile) → HaveFollowers (with_followers xs)
unfolding with_followers
with_followers-is [] = tt
with_followers-is (x ∷ xs) = (
  omega (arith, followers-most x.profile.geometry xs, length-with_followers xs),
  refined-each x.profile.geometry xs,
  with_followers-is xs,
)

followers-here : (xs : List PairProfile) (i n : ℕ) (d : PairProfile) → i < length xs
    → n ≡ follower_count (get_or (take i (with_followers xs) ++ drop i xs) i d).profile.geometry
    (drop (suc i) (take i (with_followers xs) ++ drop i xs))
    → set (take i (with_followers xs) ++ drop i xs) i
    (record (get_or (take i (with_followers xs) ++ drop i xs) i d)
    { followers = n }) ≡ take (suc i) (with_followers xs) ++ drop
    (suc i) xs
unfolding with_followers
followers-here [] i n d inside is = absurd (omega (arith, inside))
followers-here (x ∷ xs) zero n d inside is = ap (λ m. record x { followers = m } ∷ xs) is
followers-here (x ∷ xs) (suc i) n d inside is =
    ap (λ l. record x { followers = follower_count x.profile.geometry xs } ∷ l)
    (followers-here xs i n d (omega (arith, inside)) is)

pub with_followers-whole : (xs : List PairProfile) (i : ℕ) → length xs ≤ i →
    take i (with_followers xs) ++ drop i xs ≡ with_followers xs
unfolding with_followers
with_followers-whole [] zero all = refl
with_followers-whole [] (suc i) all = refl
with_followers-whole (x ∷ xs) zero all = absurd (omega (arith, all))
with_followers-whole (x ∷ xs) (suc i) all =
    ap (λ l. record x { followers = follower_count x.profile.geometry xs } ∷ l)
    (with_followers-whole xs i (omega (arith, all)))

-- what is counted over the rest of the profiles
pub rest-followers : (now : List PairProfile) (i n : ℕ) (x d : PairProfile) → i < length now →
    x ≡ get_or now i x
    → n ≡ follower_count (get_or now i x).profile.geometry
    (take (length now - (i + 1)) (drop (i + 1) now))
    → n ≡ follower_count (get_or now i d).profile.geometry (drop (i + 1) now)
rest-followers now i n x d inside read is =
    is ∙ ap (follower_count (get_or now i x).profile.geometry) (take_all (length now - (i + 1))
    (drop (i + 1) now) (omega (arith, length-drop (i + 1) now)))
    ∙ ap (λ y. follower_count y.profile.geometry (drop (i + 1) now)) (sym read ∙
    get_or_read now i x inside read d)

pub followers-next : (xs now : List PairProfile) (i n : ℕ) (d : PairProfile) →
    now ≡ take i (with_followers xs) ++ drop i xs → i < length xs
    → n ≡ follower_count (get_or now i d).profile.geometry (drop (i + 1) now)
    → set now i (record (get_or now i d) { followers = n }) ≡ take (i + 1) (with_followers xs) ++
    drop (i + 1) xs
followers-next xs now i n d so_far inside is =
    let all = take i (with_followers xs) ++ drop i xs in
    ap (λ (ys : List PairProfile). set ys i (record (get_or ys i d) { followers = n })) so_far
    ∙ followers-here xs i n d inside
    (is ∙ ap (λ (ys : List PairProfile). follower_count (get_or ys i d).profile.geometry
    (drop (i + 1) ys)) so_far
    ∙ ap (λ k. follower_count (get_or all i d).profile.geometry (drop k all)) {x = i + 1}
    {y = suc i} (omega arith))
    ∙ ap (λ k. take k (with_followers xs) ++ drop k xs) {x = suc i} {y = i + 1} (omega arith)

-- they change nothing else
with_followers-stands : (r : Request) (xs : List PairProfile) → SweepStandsFor r [] xs →
    SweepStandsFor r [] (with_followers xs)
unfolding with_followers
with_followers-stands r xs h = record {
  space = h.space;
  pairs = pairs-kept xs ∙ h.pairs;
  rows = rows-kept xs ∙ h.rows;
  fed = fed-kept xs h.fed;
}
  where
    pairs-kept : (ys : List PairProfile) → map (λ x. pair_of x.first) (with_followers ys) ≡ map
        (λ x. pair_of x.first) ys
    pairs-kept [] = refl
    pairs-kept (y ∷ ys) = ap (λ l. pair_of y.first ∷ l) (pairs-kept ys)

    rows-kept : (ys : List PairProfile) → flat_map (rows_of_profile r.space.powers)
        (with_followers ys) ≡ flat_map (rows_of_profile r.space.powers) ys
    rows-kept [] = refl
    rows-kept (y ∷ ys) = ap (λ l. rows_of_profile r.space.powers y ++ l) (rows-kept ys)

    fed-kept : (ys : List PairProfile) → Each (WasFed (configs_of r) []) ys →
        Each (WasFed (configs_of r) []) (with_followers ys)
    fed-kept [] h = tt
    fed-kept (y ∷ ys) h = (
      record { some = h.0.some; sound = h.0.sound; is = h.0.is },
      fed-kept ys h.1,
    )

pub with_followers-items : (made now rest : List PairProfile) (n : ℕ) → n ≡ length made →
    now ≡ with_followers made → take n (now ++ rest) ≡ with_followers made
with_followers-items made now rest n len is =
    take_at now rest n (ap length is ∙ length-with_followers made ∙
    sym len) ∙ is

pub with_followers-sweep : (r : Request) (made now : List PairProfile) → SweepStandsFor r [] made →
    now ≡ with_followers made → SweepStandsFor r [] now
with_followers-sweep r made now stands is = subst (SweepStandsFor r []) (sym is)
    (with_followers-stands r made stands)
