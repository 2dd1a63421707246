-- The sums of a profile's numbers.
use Rattle.std.proofs.Common.{◌≡◌, ℕ, ◌+◌, ◌-◌, ◌≤◌, ◌^◌, List, take, drop, sum}
use Rattle.std.proofs.Common.{ap, arith}
use Rattle.cache_core.specs.Geometry.{GeometryValue}
use Rattle.trace_core.specs.declared.events.Access.{Access}
use Rattle.trace_core.specs.declared.events.Access.TheVariants.{Fetch, Read, Write}
use Rattle.profile_core.proofs.HitSums.{sum-more, sum-split}
use Rattle.std.proofs.Common.{get_or}
use Rattle.std.proofs.lemmas.List.{get_or_read}
use Rattle.full_profile.proofs.profile.Fit.{kind_within}
use Rattle.full_profile.specs.State.{kind_number, empty_kind}
use Rattle.full_profile.specs.State.{FullState, KindState, kind_of, kind_misses_at, copied_at}
use Rattle.full_profile.specs.State.{full_counts_at}
use Rattle.full_profile.specs.declared.counts.FullCounts.{FullCounts}
use Rattle.full_profile.specs.Sums.{FullSumsState, full_sums_at}
use Rattle.full_profile.specs.internal.Copies.{CopiesValue}
use Rattle.full_profile.specs.internal.Marked.{Marked}
use Rattle.full_profile.specs.internal.Sound.{IsFullSound, full_state_of}

module _ {g : GeometryValue} {m : Marked} {distances missed : List ℕ} {kinds : List KindState}
    {copies : CopiesValue}
    (h : IsFullSound g m distances missed kinds copies) where
  pub distances_few : sum distances ≤ 2 ^ 41
  distances_few = omega (arith, h.plain.fed)

  pub missed_few : sum missed ≤ 2 ^ 41
  missed_few = omega (arith, h.plain.fed)

  -- what is counted of a kind, as it is read
  pub kind_at : (a : Access) {s : KindState} → s ≡ get_or kinds (kind_number a) s →
      s ≡ kind_of (full_state_of g m distances missed kinds copies) a
  kind_at a {s} read = get_or_read kinds (kind_number a) s
      (omega (arith, kind_within a, h.fit.kind_count)) read (empty_kind g)

-- the first numbers of a part are within all
pub more_le : (xs : List ℕ) (from to : ℕ) → from ≤ to →
    sum (take from xs) + sum (take (to - from) (drop from xs)) ≤ sum xs
more_le xs from to le = omega (arith, sum-more xs from to le, sum-split xs to)

-- the misses of a kind without those found at a distance up to a later one
kind_less : (kind : KindState) (from to : ℕ) → from ≤ to →
    kind_misses_at from kind - sum (take (to - from) (drop from kind.behind))
    ≡ kind_misses_at to kind
kind_less kind from to le = omega (
  arith,
  sum-more kind.behind from to le,
  sum-split kind.behind from,
  sum-split kind.behind to,
)

-- sums that are raised
module _ (v : FullState) {t : FullSumsState} {from to : ℕ} (at : t ≡ full_sums_at v from)
    (le : from ≤ to) where
  abbrev part : List ℕ → ℕ
  part xs = sum (take (to - from) (drop from xs))

  kind_after : (a : Access) {misses less : ℕ} → misses ≡ kind_misses_at from (kind_of v a) →
      less ≡ part (kind_of v a).behind → misses - less ≡ kind_misses_at to (kind_of v a)
  kind_after a {misses} {less} is less_is =
      omega (arith, is, less_is, kind_less (kind_of v a) from to le)

  sum_after : (xs : List ℕ) {was more : ℕ} → was ≡ sum (take from xs) → more ≡ part xs →
      was + more ≡ sum (take to xs)
  sum_after xs {was} {more} is more_is = omega (arith, is, more_is, sum-more xs from to le)

  pub raised : (hits free fetch read write above up_to : ℕ) → hits ≡ part v.plain.distances →
      free ≡ part v.plain.misses_by_occupancy → fetch ≡ part (kind_of v Fetch).behind →
      read ≡ part (kind_of v Read).behind → write ≡ part (kind_of v Write).behind →
      above ≡ part v.copied_above → up_to ≡ part v.copied_up_to →
      ◌≡◌ {A = FullSumsState} (record {
        ways = to;
        hits = t.hits + hits;
        free_misses = t.free_misses + free;
        fed = t.fed;
        fetch_misses = t.fetch_misses - fetch;
        read_misses = t.read_misses - read;
        write_misses = t.write_misses - write;
        copied_above = t.copied_above + above;
        copied_up_to = t.copied_up_to + up_to;
      }) (full_sums_at v to)
  raised hits free fetch read write above up_to e1 e2 e3 e4 e5 e6 e7 = cc (
    sum_after v.plain.distances (ap (λ u. u.hits) at) e1,
    sum_after v.plain.misses_by_occupancy (ap (λ u. u.free_misses) at) e2,
    ap (λ u. u.fed) at,
    kind_after Fetch (ap (λ u. u.fetch_misses) at) e3,
    kind_after Read (ap (λ u. u.read_misses) at) e4,
    kind_after Write (ap (λ u. u.write_misses) at) e5,
    sum_after v.copied_above (ap (λ u. u.copied_above) at) e6,
    sum_after v.copied_up_to (ap (λ u. u.copied_up_to) at) e7,
  )

-- the counts by the sums
pub counts_are : (v : FullState) (t : FullSumsState) (e : ℕ) → t ≡ full_sums_at v e →
    ◌≡◌ {A = FullCounts} (record {
      hits = t.hits;
      misses = t.fed - t.hits;
      evictions = t.fed - t.hits - t.free_misses;
      fetch_misses = t.fetch_misses;
      read_misses = t.read_misses;
      write_misses = t.write_misses;
      copybacks = t.copied_above - t.copied_up_to;
    }) (full_counts_at v e)
counts_are v t e at =
    let hits = ap (λ u. u.hits) at in
    let fed = ap (λ u. u.fed) at in
    let free = ap (λ u. u.free_misses) at in
    let near = sum-split v.plain.distances e in
    let far = sum-split v.plain.misses_by_occupancy e in
    let misses : t.fed - t.hits
    ≡ sum (drop e v.plain.distances) + sum v.plain.misses_by_occupancy =
    omega (arith, hits, fed, near) in
    let evictions : t.fed - t.hits - t.free_misses
    ≡ sum (drop e v.plain.distances) + sum (drop e v.plain.misses_by_occupancy) =
    omega (arith, misses, free, far) in
    let copied : t.copied_above - t.copied_up_to ≡ copied_at v e =
    ap (λ u. u.copied_above - u.copied_up_to) at in
    cc (
      hits,
      misses,
      evictions,
      ap (λ u. u.fetch_misses) at,
      ap (λ u. u.read_misses) at,
      ap (λ u. u.write_misses) at,
      copied,
    )
