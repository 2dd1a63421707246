-- Where none waits nothing is fed.
use Rattle.std.proofs.Common.{◌≡◌, ◌≤◌, ◌+◌, ◌∙◌, [], length, take, ap, sym, subst, arith}
use Rattle.std.proofs.Common.{length-take}
use Rattle.std.specs.List.{AllByRecursion as Each}
use Rattle.profile_core.specs.declared.profile.TheConstants.{MAX_REFERENCES}
use Rattle.profile_core.specs.profile.State.{fed_of}
use Rattle.sweep_core.specs.internal.Feeding.{profiles_after_batch}
use Rattle.sweep_core.proofs.Waiting.{fed-nil}
use Rattle.sweep_core.proofs.batch.Batch.feed.Goals as goal

pub returns-then-self-eq0-clause-fed : goal.returns-then-self-eq0-clause-fed
returns-then-self-eq0-clause-fed c =
    let none : c.args.self.now.waiting ≡ [] =
    sym (ap (λ b. b.waiting) c.self.view_is) ∙ ap (λ n. take n c.self.inside.addrs.items)
    c.if-self-eq0.true in
    sym (fed-nil c.args.profiles.now) ∙
    ap (λ l. profiles_after_batch l c.args.profiles.now) (sym none)

pub feed_first-requires-clause-few : goal.feed_first-requires-clause-few
feed_first-requires-clause-few c =
    let count : length c.args.self.now.waiting ≡ c.self.inside.len = omega (
      arith,
      ap (λ b. length b.waiting) c.self.view_is,
      length-take c.self.inside.len c.self.inside.addrs.items,
      c.self.invariant.0,
      c.self.invariant.1,
    ) in
    subst (λ n. Each (λ x. fed_of x.profile + n ≤ MAX_REFERENCES) c.args.profiles.now) count
    c.requires.few
