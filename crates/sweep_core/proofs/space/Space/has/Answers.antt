-- The products of the numbers fit, since each lies in its range.
use Rattle.std.proofs.Common.{◌≡◌, ◌*◌, ◌^◌, ◌<◌, None, true, sym, ◌∙◌, arith}
use Rattle.sweep_core.specs.Space.{Ranges, ranges, is_in_range, space_fault}
use Rattle.sweep_core.specs.declared.space.Config.{Config}
use Rattle.sweep_core.proofs.Validity.{space-limited, in_range-within, products}
use Rattle.sweep_core.proofs.space.Space.has.Goals as goal
use Rattle.sweep_core.proofs.space.Space.has.Goals.{Else-not-is_in_range-3}

-- the products of numbers in the ranges fit
record Fit (c : Config) : Type 0 where
  pair : c.bsize * c.sets < 2 ^ 64
  size : c.bsize * c.sets * c.assoc < 2 ^ 64
  lines : c.assoc * c.sets < 2 ^ 64

fit : (r : Ranges) (c : Config) → space_fault r ≡ None → is_in_range r.bsize c.bsize ≡ true →
    is_in_range r.sets c.sets ≡ true
    → is_in_range r.assoc c.assoc ≡ true → Fit c
fit r c sound block set way =
    let p = products r c.bsize c.sets c.assoc (space-limited r sound) (in_range-within _ _ block)
    (in_range-within _ _ set) (in_range-within _ _ way) in
    record { pair = p.1; size = p.2; lines = p.3 }

fits : (c : Else-not-is_in_range-3) → Fit c.args.config.now
fits c =
    let i = c.self.inside in
    fit (ranges i.bsize i.sets i.assoc i.size i.powers) c.args.config.now c.self.invariant
    (sym c.is_in_range.ensures ∙ c.if-not-is_in_range.false)
    (sym c.is_in_range-else-not-is_in_range.ensures ∙ c.if-not-is_in_range-2.false)
    (sym c.is_in_range-else-not-is_in_range-2.ensures ∙ c.if-not-is_in_range-3.false)

pub overflow_mul-bsize : goal.overflow_mul-bsize
overflow_mul-bsize c = omega (
  arith,
  (fits (goal.at.overflow_mul-bsize c).Else-not-is_in_range-3).pair,
)

pub overflow_mul-bsize-2 : goal.overflow_mul-bsize-2
overflow_mul-bsize-2 c = omega (
  arith,
  (fits (goal.at.overflow_mul-bsize-2 c).Else-not-is_in_range-3).size,
)

pub overflow_mul-result : goal.overflow_mul-result
overflow_mul-result c = omega (
  arith,
  (fits (goal.at.overflow_mul-result c).Else-not-is_in_range-3).lines,
)
