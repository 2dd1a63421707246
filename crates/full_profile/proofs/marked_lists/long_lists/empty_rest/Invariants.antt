-- The blocks behind those that are left are counted.
use Rattle.std.proofs.Common.{◌≡◌, ◌≤◌, ◌+◌, ◌-◌, length, drop}
use Rattle.deep_list.specs.Deep.{cut_to}
use Rattle.full_profile.specs.internal.Copies.{with_copies_of, up_to_of}
use Rattle.full_profile.proofs.copies.Adding.{IsMore}
use Rattle.full_profile.proofs.marked_lists.long_lists.empty_rest.Given as goal

abbrev pub invariant-loop-left : goal.invariant-loop-left
invariant-loop-left l = record {
  within : l.left ≤ length l.fn.rest.values;
  beside : length l.fn.rest.values ≡ length l.fn.rest.blocks;
  cut : l.rest ≡ cut_to l.left l.fn.rest;
  more : IsMore (length l.fn.rest.values - l.left) l.fn.copies l.copies;
  counted : l.copies ≡ with_copies_of (up_to_of l.emptying l.depth) (l.held + l.left)
      (drop l.left l.fn.rest.values) l.fn.copies;
}

abbrev pub decreases-loop-left : goal.decreases-loop-left
decreases-loop-left l = l.left
