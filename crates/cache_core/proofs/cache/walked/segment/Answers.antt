-- The filled slots of a set are the first of its segment.
use Rattle.std.proofs.Common.{arith, refl, sym, ◌*◌, ◌+◌, ◌-◌, ◌≡◌, get_or}
use Rattle.cache_core.proofs.cache.Slabs.{get_or-sets_of}
use Rattle.cache_core.proofs.cache.walked.segment.Goals as goal

pub returns-clause-slots : goal.returns-clause-slots
returns-clause-slots c =
    let number = c.set_of-set_number.result in
    let count = get_or c.args.filled.now number 0 in
    let start = number * c.e.result in
    let n : start + count - start ≡ count = omega arith in
    let here = get_or-sets_of c.e.result c.args.filled.now number start c.args.slots.now refl
    (omega (arith, c.set_of-set_number.ensures.within, c.requires.sets)) in
    rw (← c.e.ensures.value) (rw (← c.set_of-set_number.ensures.value) (rw n (sym here)))
