-- A profile is made for the next pair, until no row is left.
use Rattle.std.proofs.Common.{[], refl, sym, ap, subst}
use Rattle.std.proofs.lemmas.List.{map-append}
use Rattle.sweep_core.specs.Table.{first_rows}
use Rattle.sweep_core.specs.internal.FullRuns.{plain_pair}
use Rattle.sweep_core.proofs.Lists.{Each-append}
use Rattle.sweep_core.proofs.Validity.{space-limited}
use Rattle.sweep_core.proofs.Depths.{geometry-of}
use Rattle.sweep_core.proofs.Runs.{begins-shorter}
use Rattle.sweep_core.proofs.Making.{Making, new-fed, making-start, making-first, making-more}
use Rattle.sweep_core.proofs.Making.{making-end}
use Rattle.sweep_core.proofs.FullStanding.{full-new}
use Rattle.sweep_core.proofs.full.profiles.make_full_profiles.Goals as goal

pub loop-rows-init : goal.loop-rows-init
loop-rows-init c =
    rw c.new-made.ensures.items (
      (subst (λ rows. Making c.args.request.now []
          (first_rows c.args.request.now.rows rows))
          (sym c.first_pair-pair.ensures.rows) (making-start c.args.request.now)),
      tt,
    )

pub loop-rows-smaller : goal.loop-rows-smaller
loop-rows-smaller c = begins-shorter c.in-Some.ensures.rows

pub new-requires : goal.new-requires
new-requires c =
    rw (c.bits_of.ensures, c.bits_of-in-Some.ensures)
    (geometry-of c.args.request.now.space _
    (space-limited c.args.request.now.space c.take_pair.ensures.limits)
    c.in-Some.ensures.depth.reached)

pub loop-rows-preserved : goal.loop-rows-preserved
loop-rows-preserved c =
    let r = c.args.request.now in
    let later = (making-first r c.loop-rows.invariant.0 c.in-Some.ensures.rows).1 in
    let limits = space-limited r.space c.take_pair.ensures.limits in
    let plain = new-fed r _ c.in-Some.ensures.rows.some c.in-Some.ensures.depth later limits
    c.bits_of-in-Some.ensures c.bits_of.ensures (ap (λ v. v.plain) c.in_ok-new.ensures) in
    rw c.in_ok-push.ensures.items (
      rw (map-append plain_pair c.loop-rows.made.items _)
          (making-more r c.loop-rows.invariant.0 c.in-Some.ensures.rows _ refl refl plain),
      Each-append _ c.loop-rows.made.items _ c.loop-rows.invariant.1
          (full-new r _ plain _ c.in_ok-new.ensures, tt),
    )

pub returns : goal.returns
returns c = record {
  plain = making-end c.args.request.now _ _ c.take_pair.ensures.limits
      c.loop-rows.invariant.0 c.in_default.ensures.rows;
  full = c.loop-rows.invariant.1;
}
