-- The operation of a label, by the table.
use Rattle.std.proofs.Common.{◌≡◌, ℕ, ◌<◌, map, get_or, refl, ap, ◌∙◌, arith, None}
use Rattle.std.proofs.lemmas.List.FromFn.{get_or-map-range_with_len}
use Rattle.std.specs.List.{range_with_len}
use Rattle.trace_core.specs.Line.{lackey_op}
use Rattle.trace_core.specs.declared.line.TheConstants.{LACKEY_OPS}
use Rattle.trace_core.proofs.line.lackey_op.Goals as goal

-- the table has the operation of each byte
table_is : LACKEY_OPS ≡ map lackey_op (range_with_len 0 256)
table_is = refl

read : (c : ℕ) → c < 256 → get_or LACKEY_OPS c None ≡ lackey_op c
read c below = ap (λ t. get_or t c None) table_is ∙
    get_or-map-range_with_len lackey_op 0 256 c c None below (omega arith)

pub returns : goal.returns
returns c = read c.args.label (omega arith)
