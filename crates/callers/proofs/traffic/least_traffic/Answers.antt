use Rattle.std.proofs.Common.{◌∷◌, ◌++◌, ◌∙◌, [], ap, sym, append_assoc, arith}
use Rattle.callers.proofs.Moving.{Stays, chosen, kept, is_less, is_no_less, is_too_large}
use Rattle.callers.proofs.traffic.least_traffic.Goals as goal
use Rattle.callers.proofs.traffic.least_traffic.Goals.{
  else-bytes-size-via-then-bytes-size+else-moves_less,
  else-bytes-size-via-else-bytes-size,
}

pub loop-row-preserved-then-moves_less : goal.loop-row-preserved-then-moves_less
loop-row-preserved-then-moves_less c =
    let i = c.loop-row.invariant in
    let row = c.in-Some.row in
    let sizes = rw c.in-Some.ensures.steps at i.4 in
    let blocks = rw c.in-Some.ensures.steps at i.5 in (
      i.0 ++ row ∷ [],
      i.1 ∙ ap (λ l. i.0 ++ l) c.in-Some.ensures.steps ∙
          sym (append_assoc i.0 (row ∷ []) c.next.new.self),
      chosen c.args.size i.0 c.loop-row.best row i.2
          (omega (arith, c.bytes.ensures, c.if-bytes-size.true))
          (is_less c.loop-row.best row c.moves_less.result c.moves_less.ensures
          c.if-moves_less.true),
      blocks.0,
      sizes.1,
      blocks.1,
    )

pub loop-row-preserved : goal.loop-row-preserved
loop-row-preserved c =
    let i = c.loop-row.invariant in
    let row = c.in-Some.row in
    let sizes = rw c.in-Some.ensures.steps at i.4 in
    let blocks = rw c.in-Some.ensures.steps at i.5 in
    let stays : Stays c.args.size c.loop-row.best row = elim c.else-bytes-size.branch [
      | else-bytes-size-via-then-bytes-size+else-moves_less w ↦
          is_no_less c.args.size c.loop-row.best row w.moves_less.result w.moves_less.ensures
          w.if-moves_less.false
      | else-bytes-size-via-else-bytes-size w ↦
          is_too_large c.args.size c.loop-row.best row
          (omega (arith, c.bytes.ensures, w.if-bytes-size.false))
    ] in (
      i.0 ++ row ∷ [],
      i.1 ∙ ap (λ l. i.0 ++ l) c.in-Some.ensures.steps ∙
          sym (append_assoc i.0 (row ∷ []) c.next.new.self),
      kept c.args.size i.0 c.loop-row.best row i.2 stays,
      i.3,
      sizes.1,
      blocks.1,
    )
