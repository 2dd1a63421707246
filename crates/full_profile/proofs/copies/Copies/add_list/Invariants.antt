-- The blocks from an index on are counted.
use Rattle.std.proofs.Common.{◌≡◌, ◌≤◌, ◌-◌, length, drop}
use Rattle.full_profile.specs.internal.Copies.{with_copies_of, up_to_of}
use Rattle.full_profile.proofs.copies.Adding.{IsMore}
use Rattle.full_profile.proofs.copies.Copies.add_list.Given as goal

abbrev pub invariant-loop-index : goal.invariant-loop-index
invariant-loop-index l = record {
  within : l.index ≤ length l.cleans;
  more : IsMore (length l.cleans - l.index) l.fn.self l.self;
  counted : l.self ≡ with_copies_of (up_to_of l.emptying l.depth) l.index (drop l.index l.cleans)
      l.fn.self;
}

abbrev pub decreases-loop-index : goal.decreases-loop-index
decreases-loop-index l = l.index
