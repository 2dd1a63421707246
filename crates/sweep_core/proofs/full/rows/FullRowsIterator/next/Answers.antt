-- The next row of the pair comes first.
use Rattle.std.proofs.Common.{◌≡◌, ◌≤◌, ◌++◌, ◌∷◌, Some, refl, sym, ap, ◌∙◌, rules}
use Rattle.sweep_core.specs.internal.FullRuns.{full_counted_run, full_counted_profiles}
use Rattle.sweep_core.specs.internal.FullRuns.{full_rows_to_come, IsFullWalk}
use Rattle.full_profile.specs.State.{full_counts_at}
use Rattle.sweep_core.proofs.Serving.{walk-rows, walk-more, comes-first}
use Rattle.sweep_core.proofs.FullServing.{walk-start}
use Rattle.sweep_core.proofs.full.rows.FullRowsIterator.next.Goals as goal
use Rattle.sweep_core.proofs.full.rows.FullRowsIterator.next.Goals.{After-self-1, in-Some}
use Rattle.sweep_core.proofs.full.rows.FullRowsIterator.next.Goals.{in-None+in_ok-first-in-None}

-- the walk of the pair whose row comes
walks : (c : After-self-1) → let inside = c.match-take.self-inside in
    (1 ≤ c.match-take.pair.left) × IsFullWalk inside.space.now.powers c.match-take.pair
    × (c.args.self.now ≡ full_rows_to_come inside.space.now.powers (Some c.match-take.pair)
    inside.later.now)
walks c =
    let was = c.self.inside in
    let powers = was.space.now.powers in
    elim c.match-take.branch [
      | in-Some w ↦
          let pair = sym c.take.ensures.value ∙ w.in-Some.is in
          let walks = rw pair at c.self.invariant.walks in
          rw (w.self-inside-is, w.pair-is) (
            walks.0,
            walks.1,
            sym c.self.view_is ∙ ap (λ o. full_rows_to_come powers o was.later.now) pair,
          )
      | in-None+in_ok-first-in-None w ↦
          let first = w.in_ok-first-in-None.first.now in
          let later = w.in_ok-first-in-None.later.now in
          let made = w.new-pair.ensures in
          let is : was.later.now ≡ first ∷ later = w.in_ok-first-in-None.ensures.cases.0 in
          let serve = rw is at c.self.invariant.serve in
          rw (w.self-inside-is, w.pair-is) (
            rw made.left serve.0.some,
            walk-start serve.0 made.profile made.sums made.first made.left,
            sym c.self.view_is ∙ ap (λ o. full_rows_to_come powers o was.later.now)
                (sym c.take.ensures.value ∙ w.in-None.is)
                ∙ ap (full_counted_profiles powers) is
                ∙ ap (λ l. l ++ full_counted_profiles powers later)
                (sym (walk-rows full_counts_at powers made.profile made.first made.left)),
          )
    ]

-- its row comes first
steps : (c : After-self-1) → c.args.self.now
    ≡ c.next_row-row.result ∷ full_rows_to_come c.match-take.self-inside.space.now.powers
    c.then_some-self-inside.result c.match-take.self-inside.later.now
steps c =
    let w = walks c in
    let row = c.next_row-row.ensures in
    let after = c.next_row-row.new.self in
    let powers = c.match-take.self-inside.space.now.powers in
    let later = full_counted_profiles powers c.match-take.self-inside.later.now in
    let run = full_counted_run powers after.profile.now after.next in
    comes-first (λ r. full_rows_to_come powers r c.match-take.self-inside.later.now)
    (w.2 ∙ ap (λ l. l ++ later) (walk-more full_counts_at powers w.0 row.profile row.next row.left
    ∙ ap (λ r. r ∷ run after.left) (sym row.row)))
    c.then_some-self-inside.ensures (λ none. ap (λ k. run k ++ later) none) refl

pub returns-clause-steps : goal.returns-clause-steps
returns-clause-steps c = steps c

pub returns-clause-goes : goal.returns-clause-goes
returns-clause-goes c = rw (steps c) (search rules)
