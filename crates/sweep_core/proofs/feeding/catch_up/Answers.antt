-- Each profile in turn catches up.
use Rattle.std.proofs.Common.{◌≡◌, sym, ap, ◌∙◌, get_or, ◌-◌}
use Rattle.std.proofs.Math.ListN.{set}
use Rattle.std.proofs.lemmas.List.Edits.{map_over_more}
use Rattle.profile_core.specs.profile.Fronts.{after_fronts}
use Rattle.sweep_core.specs.internal.Feeding.{pair_with_fronts}
use Rattle.sweep_core.proofs.feeding.catch_up.Goals as goal

pub loop-pair-preserved : goal.loop-pair-preserved
loop-pair-preserved c =
    let ys = c.loop-pair.profiles in let i = c.loop-pair.pair-index in let x = c.pair-item.result in
    let value : record (get_or ys i x) { profile = c.count_fronts.new.self } ≡ pair_with_fronts
    c.args.fed x =
    ap (λ p. record (get_or ys i x) { profile = p }) (c.count_fronts.ensures.step ∙
    ap (λ n. after_fronts (c.args.fed - n) (get_or ys i x).profile)
    c.fed-behind.ensures.value)
    ∙ ap (pair_with_fronts c.args.fed) (sym c.pair-item.is) in
    ap (λ v. set ys i v) value
    ∙ map_over_more (pair_with_fronts c.args.fed) c.args.profiles.now ys i x c.loop-pair-test.true
    c.loop-pair.invariant c.pair-item.is
