-- A part of a sum that is small.
use Rattle.std.proofs.Common.{◌-◌, ap, sum, drop, arith}
use Rattle.std.proofs.lemmas.List.Sums.{sum_by-take-le, sum_by-take-drop}
use Rattle.full_profile.proofs.kind_counts.KindCounts.between.Goals as goal

pub total-requires : goal.total-requires
total-requires c =
    let xs = c.deref.result.now in
    omega (
      arith,
      sum_by-take-le (λ n. n) (drop c.args.from xs) (c.args.to - c.args.from),
      sum_by-take-drop (λ n. n) xs c.args.from,
      ap sum c.deref.ensures.value,
      ap (λ v. sum v.behind) c.self.view_is,
      c.requires.few,
    )
