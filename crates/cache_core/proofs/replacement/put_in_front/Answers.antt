-- The new slot comes to the front.
use Rattle.cache_core.proofs.replacement.Lawful.{new_in_front}
use Rattle.cache_core.proofs.replacement.put_in_front.Goals as goal

pub returns-clause-order : goal.returns-clause-order
returns-clause-order c =
    rw (c.then_some-gone.ensures, c.put_first.ensures)
    (new_in_front c.args.set.now c.args.filled c.min-last.result c.args.new _
    c.requires.filled c.requires.some c.min-last.ensures)
