-- What a pair has, by its associativities.
use Rattle.std.proofs.Common.{◌≡◌, None, false, sym, ◌∙◌, arith, subst}
use Rattle.std.proofs.lemmas.Bool.{false≢true}
use Rattle.sweep_core.specs.Space.{Ranges, is_in_range, config, space_fault}
use Rattle.sweep_core.specs.internal.Walk.{NoWays, AreWays}
use Rattle.sweep_core.proofs.Validity.{valid_of, is_in_range-from, space-limited}
use Rattle.sweep_core.proofs.Ways.{pair-none, rows-none, rows-some}
use Rattle.sweep_core.proofs.space.Space.rows_of_pair.Goals as goal
use Rattle.sweep_core.proofs.space.Space.rows_of_pair.Goals.{
  then-not-is_in_range-via-then-not-is_in_range,
  then-not-is_in_range-via-else-not-is_in_range+then-not-is_in_range-2,
}

pub returns-then-not-is_in_range : goal.returns-then-not-is_in_range
returns-then-not-is_in_range c =
    pair-none c.args.self.now c.args.after c.args.bsize c.args.sets (λ e valid _.
    let v = valid_of c.args.self.now (config c.args.bsize c.args.sets e) valid in
    elim c.then-not-is_in_range.branch [
      | then-not-is_in_range-via-then-not-is_in_range w ↦
          false≢true (sym (subst (λ (r : Ranges). is_in_range r.bsize c.args.bsize ≡ false)
          c.self.view_is
          (sym c.is_in_range.ensures ∙ w.if-not-is_in_range.true)) ∙ is_in_range-from _ _ v.bsize)
      | then-not-is_in_range-via-else-not-is_in_range+then-not-is_in_range-2 w ↦
          false≢true (sym (subst (λ (r : Ranges). is_in_range r.sets c.args.sets ≡ false)
          c.self.view_is
          (sym w.is_in_range-else-not-is_in_range.ensures ∙ w.if-not-is_in_range-2.true)) ∙
          is_in_range-from _ _ v.sets)
    ])

pub returns-in_err-least : goal.returns-in_err-least
returns-in_err-least c =
    let now = c.args.self.now in
    let limits = space-limited now (subst (λ (r : Ranges). space_fault r ≡ None) c.self.view_is
    c.self.invariant) in
    rw c.from_residual.ensures (pair-none now c.args.after c.args.bsize c.args.sets
    (λ e valid later.
    let v = valid_of now (config c.args.bsize c.args.sets e) valid in
    false≢true (sym (c.in_err-least.ensures e (omega (arith, v.assoc.1, limits.assoc.1))) ∙ later)))

pub returns-in_err-ways : goal.returns-in_err-ways
returns-in_err-ways c =
    rw c.from_residual-in_err-ways.ensures (rows-none c.args.self.now c.args.bsize c.args.sets
    c.in_ok-least.least c.args.after c.max.ensures
    c.ways_of-lowest.ensures.valid c.in_ok-least.ensures c.ways_of-lowest.ensures.some
    c.ways_of-lowest.ensures.few
    (subst (λ (r : Ranges). NoWays c.max.result c.ways_of-lowest.result.1 r.powers) c.self.view_is
    c.in_err-ways.ensures))

pub returns : goal.returns
returns c =
    rows-some c.args.self.now c.args.bsize c.args.sets c.in_ok-least.least c.args.after
    c.max.ensures
    c.ways_of-lowest.ensures.valid c.in_ok-least.ensures c.ways_of-lowest.ensures.some
    c.ways_of-lowest.ensures.few
    (subst (λ (r : Ranges). AreWays c.max.result c.ways_of-lowest.result.1 r.powers
    c.in_ok-ways.ways) c.self.view_is c.in_ok-ways.ensures)
