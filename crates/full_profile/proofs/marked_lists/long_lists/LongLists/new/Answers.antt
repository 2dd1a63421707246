-- Empty lists, with nothing behind their rows.
use Rattle.std.proofs.Common.{◌≡◌, ◌+◌, ◌-◌, ◌*◌, ℕ, ap, arith}
use Rattle.profile_core.proofs.LongListLemmas.{depth_small}
use Rattle.full_profile.proofs.marked_lists.LongLists.{new_long, new_whole}
use Rattle.full_profile.proofs.marked_lists.long_lists.LongLists.new.Goals as goal

pub invariant_of-result : goal.invariant_of-result
invariant_of-result c =
    let depth : 64 + (c.args.depth - 64) ≡ c.args.depth = omega (arith, c.requires.deep) in
    new_long c.in_ok-near.near c.args.sets (c.args.depth - 64) c.in_ok-far.far.items
    (c.in_ok-near.ensures {u = tt}) (c.in_ok-far.ensures {u = tt})
    (omega (arith, c.requires.deep))
    (omega (
      arith,
      depth,
      depth_small c.args.sets c.args.depth c.requires.filled c.requires.small,
    ))
    (omega (arith, ap (λ (n : ℕ). c.args.sets * n) depth, c.requires.small))

pub returns : goal.returns
returns c =
    new_whole c.in_ok-near.near c.args.sets (c.args.depth - 64) c.in_ok-far.far.items
    (c.in_ok-near.ensures {u = tt}) (c.in_ok-far.ensures {u = tt}) c.args.depth
    (omega (arith, c.requires.deep))
