-- Sums that are raised: the numbers between two associativities are added, or taken from the
-- misses.
use Rattle.std.proofs.Common.{◌≡◌, ◌∙◌, ◌-◌, ◌≤◌, ◌^◌, sum, take, drop, ap, sym, arith}
use Rattle.profile_core.proofs.HitSums.{part-le}
use Rattle.profile_core.specs.profile.State.{fed_of}
use Rattle.full_profile.specs.State.{FullState, KindState}
use Rattle.full_profile.specs.Sums.{FullSumsState, full_sums_at}
use Rattle.full_profile.proofs.profile.Sounds.{above_few, up_to_few}
use Rattle.full_profile.proofs.profile.Counts.{distances_few, missed_few, more_le, raised}
use Rattle.full_profile.proofs.profile.stack_profile.FullStackProfile.raise.Goals as goal
use Rattle.full_profile.proofs.profile.stack_profile.FullStackProfile.raise.Goals.{
  After-ends_between-above,
  After-total,
}
use Rattle.full_profile.proofs.profile.stack_profile.FullStackProfile.raise.Given.{Over}

-- the sums as they were
was : (g : Over) (c : After-ends_between-above g) →
    ◌≡◌ {A = FullSumsState} (record {
      ways = c.sums.inside.ways;
      hits = c.sums.inside.hits;
      free_misses = c.sums.inside.free_misses;
      fed = c.sums.inside.fed;
      fetch_misses = c.sums.inside.fetch_misses;
      read_misses = c.sums.inside.read_misses;
      write_misses = c.sums.inside.write_misses;
      copied_above = c.sums.inside.copied_above;
      copied_up_to = c.sums.inside.copied_up_to;
    }) (full_sums_at c.args.self.now c.sums.inside.ways)
was g c = c.sums.view_is ∙ c.requires.of_this
    ∙ ap (full_sums_at c.args.self.now) (sym (ap (λ u. u.ways) c.sums.view_is))

rising : (g : Over) (c : After-ends_between-above g) → c.sums.inside.ways ≤ c.args.e
rising g c = omega (arith, c.requires.rising, ap (λ u. u.ways) c.sums.view_is)

fed_few : (g : Over) (c : After-ends_between-above g) → fed_of c.args.self.now.plain ≤ 2 ^ 41
fed_few g c = omega (
  arith,
  ap (λ (v : FullState). fed_of v.plain) c.self.view_is,
  c.self.invariant.plain.fed,
)

pub ends_between-above-requires-clause-few : goal.ends_between-above-requires-clause-few
ends_between-above-requires-clause-few g c =
    omega (arith, above_few c.self.invariant, up_to_few c.self.invariant)

-- the hits between the two associativities
hits_between : (g : Over) (c : After-total g) → c.total.result
    ≡ sum (take (c.args.e - c.sums.inside.ways) (drop c.sums.inside.ways
    c.args.self.now.plain.distances))
hits_between g c =
    let from = c.sums.inside.ways in
    c.total.ensures ∙ ap (λ ns. sum (take (c.args.e - from) (drop from ns)))
    (c.deref.ensures.value ∙ ap (λ (v : FullState). v.plain.distances) c.self.view_is)

pub overflow_add-sums : goal.overflow_add-sums
overflow_add-sums g c =
    let at = (goal.at.overflow_add-sums g c).After-ends_between-above in
    omega (
      arith,
      ap (λ u. u.hits) (was g at),
      hits_between g (goal.at.overflow_add-sums g c).After-total,
      more_le c.args.self.now.plain.distances c.sums.inside.ways c.args.e (rising g at),
      fed_few g at,
    )

pub total-requires : goal.total-requires
total-requires g c = omega (
  arith,
  part-le c.deref.result.now c.self.inside.numbers.distances.items
      (c.args.e - c.sums.inside.ways) c.sums.inside.ways c.deref.ensures.value,
  distances_few c.self.invariant,
)

pub total-requires-2 : goal.total-requires-2
total-requires-2 g c = omega (
  arith,
  part-le c.deref-2.result.now c.self.inside.numbers.misses_by_occupancy.items
      (c.args.e - c.sums.inside.ways) c.sums.inside.ways c.deref-2.ensures.value,
  missed_few c.self.invariant,
)

pub overflow_add-sums-2 : goal.overflow_add-sums-2
overflow_add-sums-2 g c =
    let at = (goal.at.overflow_add-sums-2 g c).After-ends_between-above in
    let from = c.sums.inside.ways in
    omega (
      arith,
      ap (λ u. u.free_misses) (was g at),
      c.total-2.ensures ∙ ap (λ ns. sum (take (c.args.e - from) (drop from ns)))
          (c.deref-2.ensures.value ∙ ap (λ (v : FullState). v.plain.misses_by_occupancy)
          c.self.view_is),
      more_le c.args.self.now.plain.misses_by_occupancy from c.args.e (rising g at),
      fed_few g at,
    )

pub overflow_add-sums-3 : goal.overflow_add-sums-3
overflow_add-sums-3 g c =
    let at = (goal.at.overflow_add-sums-3 g c).After-ends_between-above in
    omega (
      arith,
      ap (λ u. u.copied_above) (was g at),
      c.ends_between-above.ensures.above,
      ap (λ (v : FullState). sum (take c.sums.inside.ways v.copied_above)) c.self.view_is,
      more_le c.self.inside.numbers.copies.above c.sums.inside.ways c.args.e (rising g at),
      above_few c.self.invariant,
    )

pub overflow_add-sums-4 : goal.overflow_add-sums-4
overflow_add-sums-4 g c =
    let at = (goal.at.overflow_add-sums-4 g c).After-ends_between-above in
    omega (
      arith,
      ap (λ u. u.copied_up_to) (was g at),
      c.ends_between-above.ensures.up_to,
      ap (λ (v : FullState). sum (take c.sums.inside.ways v.copied_up_to)) c.self.view_is,
      more_le c.self.inside.numbers.copies.up_to c.sums.inside.ways c.args.e (rising g at),
      above_few c.self.invariant,
      up_to_few c.self.invariant,
    )

pub returns-clause-sums : goal.returns-clause-sums
returns-clause-sums g c =
    let at = (goal.at.returns-clause-sums g c).After-ends_between-above in
    let from = c.sums.inside.ways in
    let v = c.args.self.now in
    raised v (was g at) (rising g at) c.total.result c.total-2.result c.between.result
    c.between-2.result c.between-3.result c.ends_between-above.result.0
    c.ends_between-above.result.1
    (hits_between g (goal.at.returns-clause-sums g c).After-total)
    (c.total-2.ensures ∙ ap (λ ns. sum (take (c.args.e - from) (drop from ns)))
    (c.deref-2.ensures.value ∙ ap (λ (w : FullState). w.plain.misses_by_occupancy) c.self.view_is))
    (c.between.ensures ∙ ap (λ (k : KindState). sum (take (c.args.e - from) (drop from k.behind)))
    c.kind.ensures.value)
    (c.between-2.ensures ∙ ap (λ (k : KindState). sum (take (c.args.e - from) (drop from k.behind)))
    c.kind-2.ensures.value)
    (c.between-3.ensures ∙ ap (λ (k : KindState). sum (take (c.args.e - from) (drop from k.behind)))
    c.kind-3.ensures.value)
    (c.ends_between-above.ensures.above ∙ ap (λ (w : FullState). sum (take (c.args.e - from)
    (drop from w.copied_above))) c.self.view_is)
    (c.ends_between-above.ensures.up_to ∙ ap (λ (w : FullState). sum (take (c.args.e - from)
    (drop from w.copied_up_to))) c.self.view_is)

pub returns-clause-in_order : goal.returns-clause-in_order
returns-clause-in_order g c =
    let sums = returns-clause-sums g c in
    omega (
      arith,
      ap (λ (u : FullSumsState). u.copied_above) sums,
      ap (λ (u : FullSumsState). u.copied_up_to) sums,
      ap (λ (v : FullState). sum (take c.args.e v.copied_above)) c.self.view_is,
      ap (λ (v : FullState). sum (take c.args.e v.copied_up_to)) c.self.view_is,
      c.self.invariant.fit.in_order c.args.e,
    )
