-- Hit sums that go on from one associativity to a larger one.
use Rattle.std.proofs.Common.{◌≡◌, ℕ, ◌+◌, ◌-◌, ◌≤◌, List}
use Rattle.std.proofs.Common.{take, drop, sum, sym, ◌∙◌, ap, arith}
use Rattle.cache_core.specs.declared.outcome.Counts.{Counts}
use Rattle.profile_core.specs.profile.State.{ProfileState, HitSumsState, hit_sums_at, counts_at}
use Rattle.std.proofs.lemmas.List.{take-take, drop-take}
use Rattle.std.proofs.lemmas.List.Sums.{sum_by-take-drop, sum_by-take-le}

-- the first numbers of a histogram, and those up to a later index
pub sum-more : (xs : List ℕ) (from to : ℕ) → from ≤ to →
    sum (take from xs) + sum (take (to - from) (drop from xs)) ≡ sum (take to xs)
sum-more xs from to le =
    let there : from + (to - from) ≡ to = omega (arith, le) in
    let rest : sum (drop from (take to xs)) ≡ sum (take (to - from) (drop from xs)) =
    ap (λ k. sum (drop from (take k xs))) (sym there) ∙ ap sum (drop-take from (to - from) xs) in
    omega (
      arith,
      sum_by-take-drop (λ n. n) (take to xs) from,
      ap sum (take-take from to xs le),
      rest,
    )

-- the first numbers of a histogram, and the others
pub sum-split : (xs : List ℕ) (e : ℕ) → sum (take e xs) + sum (drop e xs) ≡ sum xs
sum-split xs e = omega (arith, sum_by-take-drop (λ n. n) xs e)

-- what a step of hit sums adds up: the numbers of two histograms between two associativities
pub record IsStep (v : ProfileState) (from to hits free fed more_hits more_free : ℕ) : Type 0 where
  pub rising : from ≤ to
  pub hits_are : hits ≡ sum (take from v.distances)
  pub free_are : free ≡ sum (take from v.misses_by_occupancy)
  pub fed_is : fed ≡ sum v.distances + sum v.misses_by_occupancy
  pub more_hits_are : more_hits ≡ sum (take (to - from) (drop from v.distances))
  pub more_free_are : more_free ≡ sum (take (to - from) (drop from v.misses_by_occupancy))

-- a step of hit sums that a profile began
pub step_of : (v : ProfileState) (t : HitSumsState) (from to hits free fed more_hits more_free : ℕ)
    → record { ways = from; hits = hits; free_misses = free; fed = fed } ≡ t →
    t ≡ hit_sums_at v t.ways → t.ways ≤ to
    → more_hits ≡ sum (take (to - from) (drop from v.distances)) →
    more_free ≡ sum (take (to - from) (drop from v.misses_by_occupancy))
    → IsStep v from to hits free fed more_hits more_free
step_of v t from to hits free fed more_hits more_free view of_this le more_hits_are more_free_are =
    let same : from ≡ t.ways = ap (λ u. u.ways) view in
    record {
      rising = omega (arith, same, le);
      hits_are = ap (λ u. u.hits) view ∙ ap (λ u. u.hits) of_this ∙
          ap (λ k. sum (take k v.distances)) (sym same);
      free_are = ap (λ u. u.free_misses) view ∙ ap (λ u. u.free_misses) of_this ∙
          ap (λ k. sum (take k v.misses_by_occupancy)) (sym same);
      fed_is = ap (λ u. u.fed) view ∙ ap (λ u. u.fed) of_this;
      more_hits_are = more_hits_are;
      more_free_are = more_free_are;
    }

-- a part of a histogram
pub part-le : (xs ys : List ℕ) (n e : ℕ) → xs ≡ ys → sum (take n (drop e xs)) ≤ sum ys
part-le xs ys n e same = omega (
  arith,
  sum_by-take-le (λ m. m) (drop e xs) n,
  sum_by-take-drop (λ m. m) xs e,
  ap sum same,
)

module _ {v : ProfileState} {from to hits free fed more_hits more_free : ℕ}
    (s : IsStep v from to hits free fed more_hits more_free) where
  pub hits_after : hits + more_hits ≡ sum (take to v.distances)
  hits_after = omega (arith, s.hits_are, s.more_hits_are, sum-more v.distances from to s.rising)

  pub free_after : free + more_free ≡ sum (take to v.misses_by_occupancy)
  free_after = omega (
    arith,
    s.free_are,
    s.more_free_are,
    sum-more v.misses_by_occupancy from to s.rising,
  )

  pub within : (hits + more_hits) + (free + more_free) ≤ fed
  within = omega (
    arith,
    s.fed_is,
    hits_after,
    free_after,
    sum-split v.distances to,
    sum-split v.misses_by_occupancy to,
  )

  pub counts_after : ◌≡◌ {A = Counts}
      (record {
        hits = hits + more_hits;
        misses = fed - (hits + more_hits);
        evictions =
            fed - (hits + more_hits) - (free + more_free);
      }) (counts_at v to)
  counts_after =
      let misses : fed - (hits + more_hits) ≡ sum (drop to v.distances) + sum
      v.misses_by_occupancy =
      omega (arith, s.fed_is, hits_after, sum-split v.distances to) in
      let evictions : fed - (hits + more_hits) - (free + more_free) ≡ sum
      (drop to v.distances) + sum (drop to v.misses_by_occupancy) =
      omega (arith, misses, free_after, sum-split v.misses_by_occupancy to) in
      cc (hits_after, misses, evictions)
