-- Empty lists, with nothing behind their rows.
use Rattle.std.proofs.Common.{◌+◌, ◌-◌, ◌∙◌, ℕ, List, []}
use Rattle.std.proofs.Common.{ap, arith}
use Rattle.std.specs.Prelude.{replicate}
use Rattle.profile_core.specs.internal.set_lists.Lists.{Lists}
use Rattle.profile_core.specs.internal.set_lists.LongLists.{whole_lists}
use Rattle.profile_core.proofs.LongListLemmas.{new_lists}
use Rattle.profile_core.proofs.set_lists.long_lists.LongLists.new.Goals as goal

pub returns : goal.returns
returns c =
    let near = c.in_ok-near.ensures {u = tt} in
    let made : ℕ → List (List ℕ) → Lists = λ n ls. record { depth = n; lists = ls } in
    ap (λ v. made (v.depth + (c.args.depth - 64))
    (whole_lists c.in_ok-near.near.lists c.in_ok-far.far.items)) near
    ∙ ap (made (64 + (c.args.depth - 64))) (new_lists c.in_ok-near.near c.args.sets
    (c.args.depth - 64) c.in_ok-far.far.items near (c.in_ok-far.ensures {u = tt}))
    ∙ ap (λ n. made n (replicate c.args.sets [])) (omega (arith, c.requires.deep))
