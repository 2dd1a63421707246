-- What `split_once` says of a character of one byte.
use Rattle.arguments.proofs.NumberLemmas.{parted}
use Rattle.arguments.proofs.numbers.split_at.Goals as goal

pub returns : goal.returns
returns c = parted c.args.delimiter c.args.text.now c.split_once.result
    (c.split_once.ensures.byte c.requires (λ _ _ h. h))
