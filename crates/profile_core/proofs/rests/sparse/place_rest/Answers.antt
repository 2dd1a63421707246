-- A set without a rest takes one.
use Rattle.std.proofs.Common.{◌/◌, ◌∙◌, ap, arith, refl}
use Rattle.profile_core.proofs.SparseRestLemmas.{ready_taken, room_left}
use Rattle.profile_core.proofs.rests.sparse.place_rest.Goals as goal

pub take_rest-place-requires-clause-room : goal.take_rest-place-requires-clause-room
take_rest-place-requires-clause-room c = omega (
  arith,
  room_left c.requires.sound c.requires.within c.requires.none,
  c.args.numbers.now.ok.0,
)

pub returns-clause-sound : goal.returns-clause-sound
returns-clause-sound c =
    let taken = c.take_rest-place.ensures in
    (ready_taken c.requires.sound c.requires.within c.requires.none taken.room (taken.which ∙
    ap (λ m. m / c.args.stride) c.args.numbers.now.ok.0) refl taken.more).sound

pub returns-clause-same : goal.returns-clause-same
returns-clause-same c =
    let taken = c.take_rest-place.ensures in
    (ready_taken c.requires.sound c.requires.within c.requires.none taken.room (taken.which ∙
    ap (λ m. m / c.args.stride) c.args.numbers.now.ok.0) refl taken.more).same
