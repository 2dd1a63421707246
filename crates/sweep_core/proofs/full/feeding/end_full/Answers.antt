-- Each profile in turn is ended.
use Rattle.std.proofs.Common.{◌≡◌, sym, ap, ◌∙◌, get_or, ◌-◌}
use Rattle.std.proofs.Math.ListN.{set}
use Rattle.std.proofs.lemmas.List.Edits.{map_over_more}
use Rattle.full_profile.specs.State.{after_end}
use Rattle.full_profile.specs.Batches.{after_settled}
use Rattle.sweep_core.specs.internal.Full.{full_pair_ended}
use Rattle.sweep_core.proofs.full.feeding.end_full.Goals as goal

pub loop-pair-preserved : goal.loop-pair-preserved
loop-pair-preserved c =
    let ys = c.loop-pair.profiles in let i = c.loop-pair.pair-index in let x = c.pair-item.result in
    let value : record (get_or ys i x) { profile = c.end.new.self } ≡ full_pair_ended c.args.fed x =
    ap (λ p. record (get_or ys i x) { profile = p }) (c.end.ensures ∙
    ap after_end (c.count_settled.ensures.step ∙
    ap (λ n. after_settled (c.args.fed - n) (get_or ys i x).profile) c.fed-behind.ensures))
    ∙ ap (full_pair_ended c.args.fed) (sym c.pair-item.is) in
    ap (λ v. set ys i v) value
    ∙ map_over_more (full_pair_ended c.args.fed) c.args.profiles.now ys i x c.loop-pair-test.true
    c.loop-pair.invariant c.pair-item.is
