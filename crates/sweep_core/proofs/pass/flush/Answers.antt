-- Each profile in turn is flushed.
use Rattle.std.proofs.Common.{◌≡◌, sym, ap, ◌∙◌, get_or}
use Rattle.std.proofs.Math.ListN.{set}
use Rattle.std.proofs.lemmas.List.Edits.{map_over_more}
use Rattle.sweep_core.specs.internal.Pass.{pair_after_flush}
use Rattle.sweep_core.proofs.pass.flush.Goals as goal

pub loop-pair-preserved : goal.loop-pair-preserved
loop-pair-preserved c =
    let ys = c.loop-pair.profiles in let i = c.loop-pair.pair-index in let x = c.pair-item.result in
    let value : record (get_or ys i x) { profile = c.flush.new.self } ≡ pair_after_flush x =
    ap (λ p. record (get_or ys i x) { profile = p }) c.flush.ensures ∙
    ap pair_after_flush (sym c.pair-item.is) in
    ap (λ v. set ys i v) value
    ∙ map_over_more pair_after_flush c.args.profiles.now ys i x c.loop-pair-test.true
    c.loop-pair.invariant c.pair-item.is
