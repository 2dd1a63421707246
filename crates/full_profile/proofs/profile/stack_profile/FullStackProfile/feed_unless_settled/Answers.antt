-- A reference of a batch: in front, or behind it.
use Rattle.std.proofs.Common.{◌≡◌, ◌∙◌, true, false, cond, get_or, ap, sym, subst, arith}
use Rattle.trace_core.specs.Events.{is_write}
use Rattle.cache_core.specs.Geometry.{set_of_block, set_of, block_of}
use Rattle.profile_core.specs.profile.RecencyList.{is_front}
use Rattle.profile_core.specs.profile.State.{fed_of, list_of}
use Rattle.profile_core.specs.internal.profile.StackProfile.{IsFit}
use Rattle.profile_core.proofs.profile.Fronts.{reference_fed, counted_fed, front_fits, front_few}
use Rattle.full_profile.specs.State.{FullState, cleans_of, after_reference_in_lists}
use Rattle.full_profile.specs.State.{after_full_reference}
use Rattle.full_profile.specs.Batches.{is_settled, after_settled}
use Rattle.full_profile.specs.internal.Profile.{full_profile_of}
use Rattle.full_profile.specs.internal.Sound.{IsFullFit}
use Rattle.full_profile.proofs.profile.Sounds.{plain_fit}
use Rattle.full_profile.proofs.profile.Fronts.{written_after, written_sound, unsettled_write}
use Rattle.full_profile.proofs.profile.Fronts.{settled_reference}
use Rattle.full_profile.proofs.profile.stack_profile.FullStackProfile.feed_unless_settled.Goals as
    goal
use
    Rattle.full_profile.proofs.profile.stack_profile.FullStackProfile.feed_unless_settled.Goals.{After-set_of-set}
use Rattle.full_profile.proofs.profile.stack_profile.FullStackProfile.feed_unless_settled.Given as
    given

fit_now : (g : given.Over) (c : After-set_of-set g) → IsFit c.args.self.now.plain
fit_now g c = subst (λ (w : FullState). IsFit w.plain) c.self.view_is (plain_fit c.self.invariant)

settled_counts : (g : given.Over) (c : After-set_of-set g) →
    is_settled c.args.self.now c.args.r ≡ true →
    after_full_reference c.args.self.now c.args.r ≡ after_settled 1 c.args.self.now
settled_counts g c settled = settled_reference (subst IsFullFit c.self.view_is c.self.invariant.fit)
    (fit_now g c) c.args.r settled

-- the set of the block
of_set : (g : given.Over) (c : After-set_of-set g) →
    c.set_of-set.result ≡ set_of_block c.self.inside.geometry c.block_of-block.result
of_set g c = c.set_of-set.ensures.value ∙
    ap (set_of_block c.self.inside.geometry) (sym c.block_of-block.ensures.value)

pub returns-then-not-is_front-clause-more : goal.returns-then-not-is_front-clause-more
returns-then-not-is_front-clause-more g c =
    let at = (goal.at.returns-then-not-is_front-clause-more g c).After-set_of-set in
    omega (
      arith,
      ap (λ (w : FullState). fed_of w.plain) c.feed_behind.ensures,
      reference_fed c.args.self.now.plain c.block_of-block.result (fit_now g at),
    )

pub returns-then-not-is_front-clause-counts : goal.returns-then-not-is_front-clause-counts
returns-then-not-is_front-clause-counts g c =
    settled_counts g (goal.at.returns-then-not-is_front-clause-counts g c).After-set_of-set

pub returns-clause-more : goal.returns-clause-more
returns-clause-more g c =
    counted_fed c.self.invariant.plain (ap (λ (w : FullState). w.plain) c.self.view_is)
    c.index_mut.ensures.value 1

pub index_mut-requires : goal.index_mut-requires
index_mut-requires g c = omega (
  arith,
  front_fits c.self.invariant.plain (ap (λ (w : FullState). w.plain) c.self.view_is),
  c.self.inside.numbers.distances.ok.0,
)

pub overflow_add-index_mut : goal.overflow_add-index_mut
overflow_add-index_mut g c = omega (
  arith,
  front_few c.self.invariant.plain (ap (λ (w : FullState). w.plain) c.self.view_is)
      c.index_mut.ensures.value 1 (omega (arith, c.requires)),
)

pub invariant_of-self : goal.invariant_of-self
invariant_of-self g c =
    let at = (goal.at.invariant_of-self g c).After-set_of-set in
    written_sound c.self.invariant (g.L.MarkedLists.view c.write_front.new.self) c.set_of-set.result
    c.block_of-block.result c.args.r.access (of_set g at)
    (sym c.is_front.ensures ∙ c.if-not-is_front.false)
    (sym c.writes.ensures ∙ c.if-not-writes.false) c.write_front.ensures c.index_mut.ensures.value
    (omega (arith, c.requires, ap (λ (w : FullState). fed_of w.plain) c.self.view_is))

pub returns-clause-step : goal.returns-clause-step
returns-clause-step g c =
    let at = (goal.at.returns-clause-step g c).After-set_of-set in
    let geometry = c.self.inside.geometry in
    let state = full_profile_of geometry (g.L.MarkedLists.view c.self.inside.lists)
    c.self.inside.numbers in
    let written = sym c.writes.ensures ∙ c.if-not-writes.false in
    let clean = get_or (cleans_of state (set_of geometry c.args.r.addr)) 0 0 in
    let here : clean ≡ c.front_clean.result = sym (c.front_clean.ensures
    ∙ ap (λ k. get_or (cleans_of state k) 0 0) c.set_of-set.ensures.value) in
    let unsettled : is_settled state c.args.r ≡ false = unsettled_write
    (is_front (block_of geometry c.args.r.addr) (list_of state.plain
    (set_of_block geometry (block_of geometry c.args.r.addr)))) (is_write c.args.r.access) clean
    written (λ none. c.if-front_clean-eq0.false (sym here ∙ none)) in
    written_after c.self.invariant (g.L.MarkedLists.view c.write_front.new.self) c.set_of-set.result
    c.block_of-block.result c.args.r.access (of_set g at)
    (sym c.is_front.ensures ∙ c.if-not-is_front.false) written c.write_front.ensures
    c.index_mut.ensures.value
    ∙ ap (λ b. after_reference_in_lists state c.args.r.access b
    (list_of state.plain (set_of_block geometry b)) (cleans_of state (set_of_block geometry b)))
    c.block_of-block.ensures.value
    ∙ sym (ap (λ b. cond b state (after_full_reference state c.args.r)) unsettled)
    ∙ ap (λ (w : FullState). cond (is_settled w c.args.r) w (after_full_reference w c.args.r))
    c.self.view_is

pub returns-then-not-writes-clause-counts : goal.returns-then-not-writes-clause-counts
returns-then-not-writes-clause-counts g c =
    settled_counts g (goal.at.returns-then-not-writes-clause-counts g c).After-set_of-set
