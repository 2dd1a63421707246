use Rattle.std.proofs.Common.{◌+◌, ap, arith}
use Rattle.callers.proofs.profiles.counts_at_two.Goals as goal

pub returns-clause-hits : goal.returns-clause-hits
returns-clause-hits c =
    rw (c.counts.ensures.value, c.counts-2.ensures.value)
    (c.more_ways_miss_no_more.ensures.hits c.args.profile.now c.args.few c.args.many
    c.requires.more)

pub returns-clause-misses : goal.returns-clause-misses
returns-clause-misses c =
    rw (c.counts.ensures.value, c.counts-2.ensures.value)
    (c.more_ways_miss_no_more.ensures.misses c.args.profile.now c.args.few c.args.many
    c.requires.more)

pub returns-clause-evictions : goal.returns-clause-evictions
returns-clause-evictions c =
    rw (c.counts.ensures.value, c.counts-2.ensures.value)
    (c.more_ways_miss_no_more.ensures.evictions c.args.profile.now c.args.few c.args.many
    c.requires.more)

pub returns-clause-all : goal.returns-clause-all
returns-clause-all c =
    let law = c.more_ways_miss_no_more.ensures.references c.args.profile.now in
    omega (
      arith,
      ap (λ n. n.hits + n.misses) c.counts.ensures.value,
      ap (λ n. n.hits + n.misses) c.counts-2.ensures.value,
      law c.args.few,
      law c.args.many,
    )
