-- A reference that is found neither in front nor next, and what it leaves.
use Rattle.std.proofs.Common.{arith}
use Rattle.profile_core.proofs.profile.Fed.{moved_of, found_of, distance_fits, distance_few}
use Rattle.profile_core.proofs.profile.Fed.{found_sound, found_after, nowhere_of, len_fits, len_few}
use Rattle.profile_core.proofs.profile.Fed.{nowhere_sound, nowhere_after}
use Rattle.profile_core.proofs.profile.stack_profile.StackProfile.feed_further.Goals as goal

pub index_mut-requires : goal.index_mut-requires
index_mut-requires g c =
    let moved = moved_of c.self.inside.histograms c.self.invariant c.self.view_is c.requires.next
    c.bring.ensures.moved in
    let found = found_of moved c.in-Behind.ensures.found in
    omega (arith, distance_fits moved found, c.self.inside.histograms.distances.ok.0)

pub index_mut-requires-in-New : goal.index_mut-requires-in-New
index_mut-requires-in-New g c =
    let moved = moved_of c.self.inside.histograms c.self.invariant c.self.view_is c.requires.next
    c.bring.ensures.moved in
    let nowhere = nowhere_of moved c.in-New.ensures.found in
    omega (arith, len_fits moved nowhere, c.self.inside.histograms.misses_by_occupancy.ok.0)

pub overflow_add-index_mut : goal.overflow_add-index_mut
overflow_add-index_mut g c =
    let moved = moved_of c.self.inside.histograms c.self.invariant c.self.view_is c.requires.next
    c.bring.ensures.moved in
    let found = found_of moved c.in-Behind.ensures.found in
    omega (arith, distance_few moved found c.index_mut.ensures.value)

pub overflow_add-index_mut-in-New : goal.overflow_add-index_mut-in-New
overflow_add-index_mut-in-New g c =
    let moved = moved_of c.self.inside.histograms c.self.invariant c.self.view_is c.requires.next
    c.bring.ensures.moved in
    let nowhere = nowhere_of moved c.in-New.ensures.found in
    omega (arith, len_few moved nowhere c.index_mut-in-New.ensures.value)

pub invariant_of-self : goal.invariant_of-self
invariant_of-self g c =
    let moved = moved_of c.self.inside.histograms c.self.invariant c.self.view_is c.requires.next
    c.bring.ensures.moved in
    found_sound moved (found_of moved c.in-Behind.ensures.found) c.index_mut.ensures.value

pub invariant_of-self-in-New : goal.invariant_of-self-in-New
invariant_of-self-in-New g c =
    let moved = moved_of c.self.inside.histograms c.self.invariant c.self.view_is c.requires.next
    c.bring.ensures.moved in
    nowhere_sound moved (nowhere_of moved c.in-New.ensures.found) c.index_mut-in-New.ensures.value

pub returns-in-Behind : goal.returns-in-Behind
returns-in-Behind g c =
    let moved = moved_of c.self.inside.histograms c.self.invariant c.self.view_is c.requires.next
    c.bring.ensures.moved in
    found_after moved (found_of moved c.in-Behind.ensures.found) c.index_mut.ensures.value

pub returns-in-New : goal.returns-in-New
returns-in-New g c =
    let moved = moved_of c.self.inside.histograms c.self.invariant c.self.view_is c.requires.next
    c.bring.ensures.moved in
    nowhere_after moved (nowhere_of moved c.in-New.ensures.found) c.index_mut-in-New.ensures.value
