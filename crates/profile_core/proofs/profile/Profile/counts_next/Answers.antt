-- The next counts of a sums: the step that the code takes, and what it leaves.
use Rattle.std.proofs.Common.{ℕ, List, ◌-◌, ◌≤◌, ◌^◌, ◌∙◌, ap, sum, take, drop, arith}
use Rattle.profile_core.specs.profile.State.{fed_of}
use Rattle.profile_core.proofs.HitSums.{IsStep, step_of, part-le, hits_after, free_after, within}
use Rattle.profile_core.proofs.HitSums.{counts_after}
use Rattle.profile_core.proofs.profile.Counting.{counts_are}
use Rattle.profile_core.proofs.profile.Profile.counts_next.Goals as goal
use Rattle.profile_core.proofs.profile.Profile.counts_next.Goals.{After-total-free}

-- the step that the code takes
step : (c : After-total-free) → IsStep c.args.self.now c.sums.inside.ways c.args.e
    c.sums.inside.hits c.sums.inside.free_misses c.sums.inside.fed
    c.total-hits.result c.total-free.result
step c =
    let from = c.sums.inside.ways in
    let part : List ℕ → ℕ = λ ns. sum (take (c.args.e - from) (drop from ns)) in
    step_of c.args.self.now c.args.sums.now from c.args.e c.sums.inside.hits
    c.sums.inside.free_misses c.sums.inside.fed c.total-hits.result
    c.total-free.result c.sums.view_is c.requires.of_this c.requires.rising
    (c.total-hits.ensures ∙ ap part (c.deref.ensures.value ∙ ap (λ v. v.distances)
    c.histograms-histograms.ensures.whole))
    (c.total-free.ensures ∙ ap part (c.deref-2.ensures.value ∙ ap (λ v. v.misses_by_occupancy)
    c.histograms-histograms.ensures.whole))

-- all sums are within the references fed, which are few
few : (c : After-total-free) → c.sums.inside.fed ≤ 2 ^ 41
few c = omega (
  arith,
  (step c).fed_is,
  c.histograms-histograms.ensures.sound.fed,
  ap fed_of c.histograms-histograms.ensures.whole,
)

pub total-hits-requires : goal.total-hits-requires
total-hits-requires c =
    omega (
      arith,
      part-le c.deref.result.now c.histograms-histograms.result.now.distances.items
          (c.args.e - c.sums.inside.ways) c.sums.inside.ways c.deref.ensures.value,
      c.histograms-histograms.ensures.sound.fed,
    )

pub total-free-requires : goal.total-free-requires
total-free-requires c =
    omega (
      arith,
      part-le c.deref-2.result.now c.histograms-histograms.result.now.misses_by_occupancy.items
          (c.args.e - c.sums.inside.ways) c.sums.inside.ways c.deref-2.ensures.value,
      c.histograms-histograms.ensures.sound.fed,
    )

pub overflow_add-sums : goal.overflow_add-sums
overflow_add-sums c = let at = (goal.at.overflow_add-sums c).After-total-free in
    omega (arith, within (step at), few at)

pub overflow_add-sums-2 : goal.overflow_add-sums-2
overflow_add-sums-2 c = let at = (goal.at.overflow_add-sums-2 c).After-total-free in
    omega (arith, within (step at), few at)

pub overflow_sub-misses : goal.overflow_sub-misses
overflow_sub-misses c = omega (
  arith,
  within (step (goal.at.overflow_sub-misses c).After-total-free),
)

pub overflow_sub-result : goal.overflow_sub-result
overflow_sub-result c = omega (
  arith,
  within (step (goal.at.overflow_sub-result c).After-total-free),
)

pub returns-clause-value : goal.returns-clause-value
returns-clause-value c = counts_after (step (goal.at.returns-clause-value c).After-total-free)

pub returns-clause-trace : goal.returns-clause-trace
returns-clause-trace c = λ es h.
    counts_after (step (goal.at.returns-clause-trace c).After-total-free) ∙
    counts_are es c.args.self.now c.args.e h c.requires.within

pub returns-clause-sums : goal.returns-clause-sums
returns-clause-sums c =
    let s = step (goal.at.returns-clause-sums c).After-total-free in
    cc (hits_after s, free_after s, s.fed_is)
