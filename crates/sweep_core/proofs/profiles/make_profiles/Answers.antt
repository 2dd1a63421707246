-- A profile is made for the next pair, until no row is left.
use Rattle.std.proofs.Common.{◌≡◌, ◌++◌, ◌∙◌, [], refl, sym, ap, subst, arith, take, drop, length}
use Rattle.sweep_core.specs.Table.{first_rows}
use Rattle.sweep_core.specs.internal.Feeding.{with_followers, HaveFollowers}
use Rattle.sweep_core.proofs.Validity.{space-limited}
use Rattle.sweep_core.proofs.Depths.{geometry-of}
use Rattle.sweep_core.proofs.Runs.{begins-shorter}
use Rattle.sweep_core.proofs.Making.{Making, new-fed, making-start, making-first, making-more}
use Rattle.sweep_core.proofs.Making.{making-end}
use Rattle.sweep_core.proofs.Followers.{with_followers-items, with_followers-sweep}
use Rattle.sweep_core.proofs.Followers.{with_followers-is}
use Rattle.sweep_core.proofs.profiles.make_profiles.Goals as goal
use Rattle.sweep_core.proofs.profiles.make_profiles.Goals.{After-set_followers}

pub loop-rows-init : goal.loop-rows-init
loop-rows-init c =
    rw c.new-made.ensures.items (subst (λ rows. Making c.args.request.now []
    (first_rows c.args.request.now.rows rows))
    (sym c.first_pair-pair.ensures.rows) (making-start c.args.request.now))

pub loop-rows-smaller : goal.loop-rows-smaller
loop-rows-smaller c = begins-shorter c.in-Some.ensures.rows

pub new_sparse-requires : goal.new_sparse-requires
new_sparse-requires c =
    rw (c.bits_of.ensures, c.bits_of-in-Some.ensures)
    (geometry-of c.args.request.now.space _
    (space-limited c.args.request.now.space c.take_pair.ensures.limits)
    c.in-Some.ensures.depth.reached)

pub loop-rows-preserved : goal.loop-rows-preserved
loop-rows-preserved c =
    let r = c.args.request.now in
    let later = (making-first r c.loop-rows.invariant c.in-Some.ensures.rows).1 in
    rw c.in_ok-push.ensures.items
    (making-more r c.loop-rows.invariant c.in-Some.ensures.rows _ refl refl
    (new-fed r _ c.in-Some.ensures.rows.some c.in-Some.ensures.depth later
    (space-limited r.space c.take_pair.ensures.limits)
    c.bits_of-in-Some.ensures c.bits_of.ensures c.in_ok-new_sparse.ensures))

-- what is made has its followers
items : (c : After-set_followers) → take c.loop-rows.made.len (c.set_followers.new.profiles ++
    drop (length c.set_followers.new.profiles) c.loop-rows.made.items) ≡ with_followers
    c.loop-rows.made.items
items c = with_followers-items c.loop-rows.made.items c.set_followers.new.profiles _
    c.loop-rows.made.len (omega (arith, c.loop-rows.made.ok))
    (c.set_followers.ensures ∙ ap with_followers c.deref_mut.ensures.value)

pub returns-clause-stands : goal.returns-clause-stands
returns-clause-stands c =
    with_followers-sweep c.args.request.now c.loop-rows.made.items _
    (making-end c.args.request.now c.loop-rows.made.items _ c.take_pair.ensures.limits
    c.loop-rows.invariant c.in_default.ensures.rows)
    (items (goal.at.returns-clause-stands c).After-set_followers)

pub returns-clause-followers : goal.returns-clause-followers
returns-clause-followers c = subst HaveFollowers
    (sym (items (goal.at.returns-clause-followers c).After-set_followers))
    (with_followers-is c.loop-rows.made.items)
