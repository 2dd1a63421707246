use Rattle.std.proofs.Common.{◌∷◌, ◌++◌, ◌∙◌, [], ap, sym, append_assoc}
use Rattle.cache_core.specs.declared.outcome.Counts.{Counts}
use Rattle.sweep_core.specs.declared.space.Config.{Config}
use Rattle.callers.proofs.Choosing.{Stays, chosen, kept, is_less, is_no_less, misses_more}
use Rattle.callers.proofs.smallest.smallest_of.Goals as goal
use Rattle.callers.proofs.smallest.smallest_of.Goals.{
  else-counts-most-via-then-counts-most+else-is_smaller,
  else-counts-most-via-else-counts-most,
}

pub loop-config-preserved-then-is_smaller : goal.loop-config-preserved-then-is_smaller
loop-config-preserved-then-is_smaller c =
    let i = c.loop-config.invariant in
    let row : Config × Counts = (c.in-Some.config, c.in-Some.counts) in
    let sizes = rw c.in-Some.ensures.steps at i.4 in (
      i.0 ++ row ∷ [],
      i.1 ∙ ap (λ l. i.0 ++ l) c.in-Some.ensures.steps ∙
          sym (append_assoc i.0 (row ∷ []) c.next.new.self),
      chosen c.args.most i.0 c.loop-config.best row.0 row.1 i.2 c.if-counts-most.true
          (is_less c.loop-config.best row.0 c.is_smaller.result c.is_smaller.ensures
          c.if-is_smaller.true),
      sizes.0,
      sizes.1,
    )

pub loop-config-preserved : goal.loop-config-preserved
loop-config-preserved c =
    let i = c.loop-config.invariant in
    let row : Config × Counts = (c.in-Some.config, c.in-Some.counts) in
    let sizes = rw c.in-Some.ensures.steps at i.4 in
    let stays : Stays c.args.most c.loop-config.best row.0 row.1 = elim c.else-counts-most.branch [
      | else-counts-most-via-then-counts-most+else-is_smaller w ↦
          is_no_less c.args.most c.loop-config.best row.0 row.1 w.is_smaller.result
          w.is_smaller.ensures w.if-is_smaller.false
      | else-counts-most-via-else-counts-most w ↦ misses_more c.args.most c.loop-config.best row.0
          row.1 w.if-counts-most.false
    ] in (
      i.0 ++ row ∷ [],
      i.1 ∙ ap (λ l. i.0 ++ l) c.in-Some.ensures.steps ∙
          sym (append_assoc i.0 (row ∷ []) c.next.new.self),
      kept c.args.most i.0 c.loop-config.best row.0 row.1 i.2 stays.0 stays.1,
      i.3,
      sizes.1,
    )
