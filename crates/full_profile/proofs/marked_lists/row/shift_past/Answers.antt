-- A long list is shifted in two parts.
use Rattle.std.proofs.Common.{arith, sym}
use Rattle.full_profile.proofs.marked_lists.FarShifting.{AreInTwo, near_shifted, near_blocks}
use Rattle.full_profile.proofs.marked_lists.FarShifting.{near_clean, far_found, far_gone}
use Rattle.full_profile.proofs.marked_lists.FarShifting.{far_blocks, far_clean}
use Rattle.full_profile.proofs.marked_lists.row.shift_past.Goals as goal
use Rattle.full_profile.proofs.marked_lists.row.shift_past.Goals.{After-shift_by_one-2}

two : (c : After-shift_by_one-2) → AreInTwo 16 c.split_at_mut-near.result.0.now
    c.split_at_mut-near.result.1.now c.split_at_mut-near_cleans.result.0.now
    c.split_at_mut-near_cleans.result.1.now c.args.blocks.now c.args.cleans.now
two c = record {
  some = omega arith;
  size = c.split_at_mut-near.ensures.front_len;
  cleans_size = c.split_at_mut-near_cleans.ensures.front_len;
  parts = sym c.split_at_mut-near.ensures.value;
  cleans_parts = sym c.split_at_mut-near_cleans.ensures.value;
  beside = c.requires;
}

pub returns-in-Found-clause-shifted : goal.returns-in-Found-clause-shifted
returns-in-Found-clause-shifted c =
    near_shifted c.args.block c.args.clean
    (two (goal.at.returns-in-Found-clause-shifted c).After-shift_by_one-2)
    c.in-Found.index c.in-Found.clean
    c.in-Found.ensures.shifted

pub returns-in-Found-clause-blocks : goal.returns-in-Found-clause-blocks
returns-in-Found-clause-blocks c =
    near_blocks c.args.block c.args.clean
    (two (goal.at.returns-in-Found-clause-blocks c).After-shift_by_one-2)
    c.in-Found.index c.in-Found.clean
    c.in-Found.ensures.shifted c.shift_by_one-2.new.blocks c.shift_by_one-2.ensures.blocks

pub returns-in-Found-clause-cleans : goal.returns-in-Found-clause-cleans
returns-in-Found-clause-cleans c =
    near_clean c.args.block c.args.clean
    (two (goal.at.returns-in-Found-clause-cleans c).After-shift_by_one-2)
    c.in-Found.index c.in-Found.clean
    c.in-Found.ensures.shifted c.shift_by_one-2.new.cleans c.shift_by_one-2.ensures.cleans

pub returns-in-Found-shift_at_once-clause-shifted :
    goal.returns-in-Found-shift_at_once-clause-shifted
returns-in-Found-shift_at_once-clause-shifted c =
    far_found c.args.block c.args.clean
    (two (goal.at.returns-in-Found-shift_at_once-clause-shifted c).After-shift_by_one-2)
    c.in-Out.last c.in-Out.clean c.in-Out.ensures.shifted
    c.in-Found-shift_at_once.index c.in-Found-shift_at_once.clean
    c.in-Found-shift_at_once.ensures.shifted

pub returns-in-Out-shift_at_once-clause-shifted : goal.returns-in-Out-shift_at_once-clause-shifted
returns-in-Out-shift_at_once-clause-shifted c =
    far_gone c.args.block c.args.clean
    (two (goal.at.returns-in-Out-shift_at_once-clause-shifted c).After-shift_by_one-2)
    c.in-Out.last c.in-Out.clean c.in-Out.ensures.shifted
    c.in-Out-shift_at_once.last c.in-Out-shift_at_once.clean
    c.in-Out-shift_at_once.ensures.shifted

pub returns-in-Found-shift_at_once-clause-blocks : goal.returns-in-Found-shift_at_once-clause-blocks
returns-in-Found-shift_at_once-clause-blocks c =
    far_blocks c.args.block c.args.clean
    (two (goal.at.returns-in-Found-shift_at_once-clause-blocks c).After-shift_by_one-2)
    c.in-Out.last c.in-Out.clean c.in-Out.ensures.shifted
    c.shift_by_one-2.new.blocks c.shift_at_once.new.blocks c.shift_by_one-2.ensures.blocks
    c.shift_at_once.ensures.blocks

pub returns-in-Found-shift_at_once-clause-cleans : goal.returns-in-Found-shift_at_once-clause-cleans
returns-in-Found-shift_at_once-clause-cleans c =
    far_clean c.args.block c.args.clean
    (two (goal.at.returns-in-Found-shift_at_once-clause-cleans c).After-shift_by_one-2)
    c.in-Out.last c.in-Out.clean c.in-Out.ensures.shifted
    c.shift_by_one-2.new.cleans c.shift_at_once.new.cleans c.shift_by_one-2.ensures.cleans
    c.shift_at_once.ensures.cleans

pub returns-in-Out-shift_at_once-clause-blocks : goal.returns-in-Out-shift_at_once-clause-blocks
returns-in-Out-shift_at_once-clause-blocks c =
    far_blocks c.args.block c.args.clean
    (two (goal.at.returns-in-Out-shift_at_once-clause-blocks c).After-shift_by_one-2)
    c.in-Out.last c.in-Out.clean c.in-Out.ensures.shifted
    c.shift_by_one-2.new.blocks c.shift_at_once.new.blocks c.shift_by_one-2.ensures.blocks
    c.shift_at_once.ensures.blocks

pub returns-in-Out-shift_at_once-clause-cleans : goal.returns-in-Out-shift_at_once-clause-cleans
returns-in-Out-shift_at_once-clause-cleans c =
    far_clean c.args.block c.args.clean
    (two (goal.at.returns-in-Out-shift_at_once-clause-cleans c).After-shift_by_one-2)
    c.in-Out.last c.in-Out.clean c.in-Out.ensures.shifted
    c.shift_by_one-2.new.cleans c.shift_at_once.new.cleans c.shift_by_one-2.ensures.cleans
    c.shift_at_once.ensures.cleans
