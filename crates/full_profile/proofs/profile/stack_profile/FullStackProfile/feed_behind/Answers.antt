-- A reference that is not found in front, and what it leaves.
use Rattle.std.proofs.Common.{◌≡◌, ◌∙◌, ap, arith}
use Rattle.profile_core.specs.profile.State.{list_of}
use Rattle.profile_core.proofs.profile.Fed.{distance_few, len_few}
use Rattle.full_profile.specs.State.{after_reference_in_lists, cleans_of}
use Rattle.full_profile.proofs.profile.Sounds.{next_inside, above_few, up_to_few}
use Rattle.full_profile.proofs.profile.Sounds.{IsAccessed, found_within, found_at, is_moved}
use Rattle.full_profile.proofs.profile.Sounds.{behind_after, behind_sound, missed_after}
use Rattle.full_profile.proofs.profile.Sounds.{missed_sound, new_absent, new_copied}
use Rattle.full_profile.proofs.profile.Sounds.{full_absent, full_copied, kind_long, kind_small}
use Rattle.full_profile.proofs.profile.stack_profile.FullStackProfile.feed_behind.Goals as goal
use Rattle.full_profile.proofs.profile.stack_profile.FullStackProfile.feed_behind.Goals.{
  After-bring,
  After-len-depth,
}
use Rattle.full_profile.proofs.profile.stack_profile.FullStackProfile.feed_behind.Given.{Over}

-- what the access did, by which all goals behind it are answered
accessed : (g : Over) (c : After-bring g) → IsAccessed c.self.inside.geometry
    (g.L.MarkedLists.view c.self.inside.lists) (g.L.MarkedLists.view c.bring.new.self)
    c.self.inside.numbers.distances.items c.self.inside.numbers.misses_by_occupancy.items
    c.self.inside.numbers.kinds.items c.self.inside.numbers.copies
    c.args.set c.args.block c.args.access
accessed g c = record {
  sound = c.self.invariant;
  next = next_inside c.self.invariant c.self.view_is c.requires;
  moved = c.bring.ensures.moved;
}

depth_is : (g : Over) (c : After-len-depth g) → c.len-depth.result ≡ c.self.inside.geometry.e
depth_is g c = omega (
  arith,
  c.len-depth.ensures,
  c.self.inside.numbers.distances.ok.0,
  c.self.invariant.plain.distance_count,
)

pub bring-requires-clause-behind : goal.bring-requires-clause-behind
bring-requires-clause-behind g c = (next_inside c.self.invariant c.self.view_is c.requires).behind

pub index_mut-requires : goal.index_mut-requires
index_mut-requires g c =
    let a = accessed g (goal.at.index_mut-requires g c).After-bring in
    omega (
      arith,
      found_within a c.in-Behind.ensures.found,
      c.self.invariant.plain.distance_count,
      c.self.inside.numbers.distances.ok.0,
    )

pub overflow_add-index_mut : goal.overflow_add-index_mut
overflow_add-index_mut g c =
    let a = accessed g (goal.at.overflow_add-index_mut g c).After-bring in
    omega (
      arith,
      distance_few (is_moved a) (found_at a c.in-Behind.ensures.found) c.index_mut.ensures.value,
    )

pub count_behind-requires-clause-within : goal.count_behind-requires-clause-within
count_behind-requires-clause-within g c =
    let a = accessed g (goal.at.count_behind-requires-clause-within g c).After-bring in
    omega (
      arith,
      found_within a c.in-Behind.ensures.found,
      kind_long a c.kind_index.ensures c.index_mut-in-Behind.ensures.value,
    )

pub count_behind-requires-clause-few : goal.count_behind-requires-clause-few
count_behind-requires-clause-few g c =
    let a = accessed g (goal.at.count_behind-requires-clause-few g c).After-bring in
    omega (arith, kind_small a c.kind_index.ensures c.index_mut-in-Behind.ensures.value)

pub add-requires-clause-above_within : goal.add-requires-clause-above_within
add-requires-clause-above_within g c =
    let a = accessed g (goal.at.add-requires-clause-above_within g c).After-bring in
    omega (arith, found_within a c.in-Behind.ensures.found, c.self.invariant.fit.above_long)

pub add-requires-clause-within : goal.add-requires-clause-within
add-requires-clause-within g c =
    let a = accessed g (goal.at.add-requires-clause-within g c).After-bring in
    omega (arith, found_within a c.in-Behind.ensures.found, c.self.invariant.fit.up_to_long)

pub add-requires-clause-above_few : goal.add-requires-clause-above_few
add-requires-clause-above_few g c = omega (arith, above_few c.self.invariant)

pub add-requires-clause-few : goal.add-requires-clause-few
add-requires-clause-few g c =
    omega (arith, above_few c.self.invariant, up_to_few c.self.invariant)

pub invariant_of-self : goal.invariant_of-self
invariant_of-self g c =
    let a = accessed g (goal.at.invariant_of-self g c).After-bring in
    behind_sound a c.in-Behind.ensures.found c.index_mut.ensures.value c.kind_index.ensures
    c.index_mut-in-Behind.ensures.value c.count_behind.ensures c.add.ensures

pub returns-in-Behind : goal.returns-in-Behind
returns-in-Behind g c =
    let a = accessed g (goal.at.returns-in-Behind g c).After-bring in
    behind_after a c.in-Behind.ensures.found c.index_mut.ensures.value c.kind_index.ensures
    c.index_mut-in-Behind.ensures.value c.count_behind.ensures c.add.ensures
    ∙ ap (λ v. after_reference_in_lists v c.args.access c.args.block (list_of v.plain c.args.set)
    (cleans_of v c.args.set)) c.self.view_is

pub overflow_add-index_mut-in-New : goal.overflow_add-index_mut-in-New
overflow_add-index_mut-in-New g c =
    let a = accessed g (goal.at.overflow_add-index_mut-in-New g c).After-bring in
    omega (
      arith,
      len_few (is_moved a) (new_absent a c.in-New.ensures.found) c.index_mut-in-New.ensures.value,
    )

pub invariant_of-self-in-New : goal.invariant_of-self-in-New
invariant_of-self-in-New g c =
    let a = accessed g (goal.at.invariant_of-self-in-New g c).After-bring in
    missed_sound a (new_absent a c.in-New.ensures.found) c.index_mut-in-New.ensures.value
    c.kind_index-in-New.ensures c.index_mut-in-New-2.ensures.value c.count_missed.ensures
    (new_copied a c.in-New.ensures.found)

pub returns-in-New : goal.returns-in-New
returns-in-New g c =
    let a = accessed g (goal.at.returns-in-New g c).After-bring in
    missed_after a (new_absent a c.in-New.ensures.found) c.index_mut-in-New.ensures.value
    c.kind_index-in-New.ensures c.index_mut-in-New-2.ensures.value c.count_missed.ensures
    (new_copied a c.in-New.ensures.found)
    ∙ ap (λ v. after_reference_in_lists v c.args.access c.args.block (list_of v.plain c.args.set)
    (cleans_of v c.args.set)) c.self.view_is

pub count_missed-requires-in-Full : goal.count_missed-requires-in-Full
count_missed-requires-in-Full g c =
    let a = accessed g (goal.at.count_missed-requires-in-Full g c).After-bring in
    omega (arith, kind_small a c.kind_index-in-Full.ensures c.index_mut-in-Full-2.ensures.value)

pub add-requires-in-Full-clause-few : goal.add-requires-in-Full-clause-few
add-requires-in-Full-clause-few g c =
    omega (arith, above_few c.self.invariant, up_to_few c.self.invariant)

pub invariant_of-self-in-Full : goal.invariant_of-self-in-Full
invariant_of-self-in-Full g c =
    let at = goal.at.invariant_of-self-in-Full g c in
    let a = accessed g at.After-bring in
    let depth = depth_is g at.After-len-depth in
    missed_sound a (full_absent a c.in-Full.ensures.found depth) c.index_mut-in-Full.ensures.value
    c.kind_index-in-Full.ensures c.index_mut-in-Full-2.ensures.value
    c.count_missed-in-Full.ensures
    (full_copied a c.in-Full.ensures.found depth c.add-in-Full.ensures)

pub returns-in-Full : goal.returns-in-Full
returns-in-Full g c =
    let at = goal.at.returns-in-Full g c in
    let a = accessed g at.After-bring in
    let depth = depth_is g at.After-len-depth in
    missed_after a (full_absent a c.in-Full.ensures.found depth) c.index_mut-in-Full.ensures.value
    c.kind_index-in-Full.ensures c.index_mut-in-Full-2.ensures.value
    c.count_missed-in-Full.ensures
    (full_copied a c.in-Full.ensures.found depth c.add-in-Full.ensures)
    ∙ ap (λ v. after_reference_in_lists v c.args.access c.args.block (list_of v.plain c.args.set)
    (cleans_of v c.args.set)) c.self.view_is
