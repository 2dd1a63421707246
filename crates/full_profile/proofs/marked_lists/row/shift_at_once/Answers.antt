-- The block is taken out where it was found, or else the last one.
use Rattle.std.proofs.Common.{◌≡◌, ◌-◌, ◌∷◌, ◌∙◌, length, take, sym, ap, arith}
use Rattle.std.specs.List.{remove}
use Rattle.profile_core.proofs.Shifting.{index-le}
use Rattle.full_profile.proofs.marked_lists.FarShifting.{found_shifted, gone_shifted, last_gone}
use Rattle.full_profile.proofs.marked_lists.row.shift_at_once.Goals as goal

pub move_up-last-requires-clause-within : goal.move_up-last-requires-clause-within
move_up-last-requires-clause-within c = omega (
  arith,
  c.requires.some,
  c.find-found.ensures,
  index-le c.args.block c.args.blocks.now,
)

pub returns-then-found-blocks-clause-shifted : goal.returns-then-found-blocks-clause-shifted
returns-then-found-blocks-clause-shifted c =
    found_shifted c.args.block c.args.first c.args.clean c.find-found.result
    c.move_up-clean.result.1 c.args.blocks.now c.args.cleans.now c.find-found.ensures
    c.if-found-blocks.true c.move_up-clean.ensures.gone_clean

pub returns-else-found-blocks-clause-shifted : goal.returns-else-found-blocks-clause-shifted
returns-else-found-blocks-clause-shifted c =
    gone_shifted c.args.block c.args.first c.args.clean c.find-found.result
    c.move_up-last.result.0 c.move_up-last.result.1 c.args.blocks.now c.args.cleans.now
    c.find-found.ensures
    (omega (
      arith,
      c.if-found-blocks.false,
      c.find-found.ensures,
      index-le c.args.block c.args.blocks.now,
    ))
    c.requires.some c.move_up-last.ensures.gone c.move_up-last.ensures.gone_clean

pub returns-else-found-blocks-clause-blocks : goal.returns-else-found-blocks-clause-blocks
returns-else-found-blocks-clause-blocks c =
    let blocks = c.args.blocks.now in
    let end : c.find-found.result ≡ length blocks = omega (
      arith,
      c.if-found-blocks.false,
      c.find-found.ensures,
      index-le c.args.block blocks,
    ) in
    c.move_up-last.ensures.blocks
    ∙ ap (λ i. c.args.first ∷ remove blocks (i - 1)) end
    ∙ last_gone c.args.first blocks c.requires.some
    ∙ ap (λ i. take (length blocks) (c.args.first ∷ remove blocks i))
    (sym end ∙ c.find-found.ensures)
