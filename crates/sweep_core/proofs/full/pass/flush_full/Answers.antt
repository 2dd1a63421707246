-- Each profile in turn is flushed.
use Rattle.std.proofs.Common.{◌≡◌, sym, ap, ◌∙◌, get_or}
use Rattle.std.proofs.Math.ListN.{set}
use Rattle.std.proofs.lemmas.List.Edits.{map_over_more}
use Rattle.sweep_core.specs.internal.Full.{full_pair_flushed}
use Rattle.sweep_core.proofs.full.pass.flush_full.Goals as goal

pub loop-pair-preserved : goal.loop-pair-preserved
loop-pair-preserved c =
    let ys = c.loop-pair.profiles in let i = c.loop-pair.pair-index in let x = c.pair-item.result in
    let value : record (get_or ys i x) { profile = c.flush.new.self } ≡ full_pair_flushed x =
    ap (λ p. record (get_or ys i x) { profile = p }) c.flush.ensures ∙
    ap full_pair_flushed (sym c.pair-item.is) in
    ap (λ v. set ys i v) value
    ∙ map_over_more full_pair_flushed c.args.profiles.now ys i x c.loop-pair-test.true
    c.loop-pair.invariant c.pair-item.is
