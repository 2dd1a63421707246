-- The counts of a kind of access, at its place.
use Rattle.std.proofs.Common.{◌≡◌, ◌∙◌, ◌+◌, get_or, length, sum, ap, arith}
use Rattle.full_profile.specs.State.{FullState, kind_of}
use Rattle.full_profile.specs.internal.Profile.{full_profile_of}
use Rattle.full_profile.proofs.profile.Sounds.{kind_few}
use Rattle.full_profile.proofs.profile.Counts.{kind_at}
use Rattle.full_profile.proofs.profile.stack_profile.FullStackProfile.kind.Goals as goal
use Rattle.full_profile.proofs.profile.stack_profile.FullStackProfile.kind.Goals.{After-index}
use Rattle.full_profile.proofs.profile.stack_profile.FullStackProfile.kind.Given.{Over}

read : (g : Over) (c : After-index g) → c.index.result.now ≡ kind_of (full_profile_of
    c.self.inside.geometry
    (g.L.MarkedLists.view c.self.inside.lists) c.self.inside.numbers) c.args.access
read g c = kind_at c.self.invariant c.args.access (c.index.ensures
    ∙ ap (λ i. get_or c.self.inside.numbers.kinds.items i c.index.result.now) c.kind_index.ensures)

pub returns-clause-value : goal.returns-clause-value
returns-clause-value g c = read g (goal.at.returns-clause-value g c).After-index
    ∙ ap (λ (v : FullState). kind_of v c.args.access) c.self.view_is

pub returns-clause-long : goal.returns-clause-long
returns-clause-long g c = omega (
  arith,
  ap (λ s. length s.behind) (read g (goal.at.returns-clause-long g c).After-index),
  c.self.invariant.fit.kinds_long c.args.access,
  ap (λ (v : FullState). v.plain.geometry.e) c.self.view_is,
)

pub returns-clause-few : goal.returns-clause-few
returns-clause-few g c = omega (
  arith,
  ap (λ s. sum s.behind + s.missed) (read g (goal.at.returns-clause-few g c).After-index),
  kind_few c.self.invariant c.args.access,
)
