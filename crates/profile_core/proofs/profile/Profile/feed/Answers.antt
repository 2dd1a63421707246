-- A reference is fed, and counted where it finds its block in front.
use Rattle.std.proofs.Common.{◌≡◌, ◌∙◌, cond, sym, ap}
use Rattle.cache_core.specs.Geometry.{block_of}
use Rattle.profile_core.specs.profile.State.{after_reference, fed_of}
use Rattle.profile_core.specs.profile.Fronts.{after_fronts}
use Rattle.profile_core.proofs.profile.Fronts.{front_reference, reference_fed}
use Rattle.profile_core.proofs.profile.Profile.feed.Goals as goal
use Rattle.profile_core.proofs.profile.Profile.feed.Goals.{After-block_of-block, After-count_fronts}

-- the block, as the state sees it
block : (c : After-block_of-block) →
    c.block_of-block.result ≡ block_of c.args.self.now.geometry c.args.addr
block c = c.block_of-block.ensures.value ∙
    ap (λ g. block_of g c.args.addr) c.geometry.ensures.value

front_fed : (c : After-count_fronts) → c.count_fronts.new.self ≡ after_reference c.args.self.now
    c.block_of-block.result
front_fed c =
    let v = c.args.self.now in let x = c.block_of-block.result in
    let front = sym c.feed_block_unless_front.ensures.front ∙ c.if-feed_block_unless_front.true in
    c.count_fronts.ensures.step
    ∙ ap (after_fronts 1) (c.feed_block_unless_front.ensures.step ∙
    ap (λ b. cond b v (after_reference v x)) front)
    ∙ sym (front_reference v x c.geometry.ensures.fit front)

pub returns-then-feed_block_unless_front-clause-step
    : goal.returns-then-feed_block_unless_front-clause-step
returns-then-feed_block_unless_front-clause-step c =
    let at = goal.at.returns-then-feed_block_unless_front-clause-step c in
    front_fed at.After-count_fronts ∙ ap (after_reference c.args.self.now)
    (block at.After-block_of-block)

pub returns-then-feed_block_unless_front-clause-one_more
    : goal.returns-then-feed_block_unless_front-clause-one_more
returns-then-feed_block_unless_front-clause-one_more c =
    ap fed_of (front_fed (goal.at.returns-then-feed_block_unless_front-clause-one_more
    c).After-count_fronts)
    ∙ reference_fed c.args.self.now c.block_of-block.result c.geometry.ensures.fit

pub returns-else-feed_block_unless_front-clause-one_more
    : goal.returns-else-feed_block_unless_front-clause-one_more
returns-else-feed_block_unless_front-clause-one_more c =
    let v = c.args.self.now in let x = c.block_of-block.result in
    ap fed_of
    (c.feed_block_unless_front.ensures.step
    ∙ ap (λ b. cond b v (after_reference v x)) (sym c.feed_block_unless_front.ensures.front ∙
    c.if-feed_block_unless_front.false))
    ∙ reference_fed v x c.geometry.ensures.fit
