use Rattle.std.proofs.Common.{◌*◌, map, ap, arith, ◌∙◌}
use Rattle.trace_core.specs.declared.events.Event.TheVariants as event
use Rattle.cache_core.specs.Geometry.{geometry_value}
use Rattle.cache_core.specs.Windows.{counts}
use Rattle.callers.proofs.Fed.{stands_for_all}
use Rattle.callers.proofs.doubling.counts_at_double.Goals as goal

pub counts-requires-clause-within : goal.counts-requires-clause-within
counts-requires-clause-within c = omega (arith, ap (λ g. g.e) c.loop-reference.invariant.2)

pub counts-requires-2-clause-within : goal.counts-requires-2-clause-within
counts-requires-2-clause-within c = omega (arith, ap (λ g. g.e) c.loop-reference.invariant.2)

pub returns-clause-small : goal.returns-clause-small
returns-clause-small c =
    let es = map event.Reference c.args.refs.now in
    c.counts.ensures.trace es
    (stands_for_all c.stands_after.ensures (geometry_value 0 (c.args.e * 2) c.args.b)
    c.loop-reference.profile c.args.refs.now c.loop-reference.reference-index
    c.requires.geometry (grind arith) c.loop-reference.invariant.0)
    ∙ ap (λ g. counts (record g { e = c.args.e }) es) c.loop-reference.invariant.2

pub returns-clause-large : goal.returns-clause-large
returns-clause-large c =
    let es = map event.Reference c.args.refs.now in
    c.counts-2.ensures.trace es
    (stands_for_all c.stands_after.ensures (geometry_value 0 (c.args.e * 2) c.args.b)
    c.loop-reference.profile c.args.refs.now c.loop-reference.reference-index
    c.requires.geometry (grind arith) c.loop-reference.invariant.0)
    ∙ ap (λ g. counts (record g { e = c.args.e * 2 }) es) c.loop-reference.invariant.2

pub returns-clause-misses : goal.returns-clause-misses
returns-clause-misses c =
    let es = map event.Reference c.args.refs.now in
    omega (
      arith,
      ap (λ n. n.misses) (returns-clause-small c),
      ap (λ n. n.misses) (returns-clause-large c),
      c.more_ways_miss_no_more.ensures.doubled c.args.e c.args.b es,
    )
