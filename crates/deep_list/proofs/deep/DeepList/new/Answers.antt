use Rattle.std.proofs.Common.{◌+◌, ◌/◌, ◌∙◌, length, ap, ℕ}
use Rattle.std.proofs.Common.{arith}
use Rattle.std.proofs.lemmas.List.{length-replicate}
use Rattle.deep_list.proofs.DeepLemmas.{none_deep, none_kept, chains_none, same_deep}
use Rattle.deep_list.proofs.deep.DeepList.new.Goals as goal

pub invariant_of-result : goal.invariant_of-result
invariant_of-result g c =
    let n : ℕ = c.args.cap + c.args.cap / 2 + 1 in
    let slots = c.in_ok-new.ensures {u = tt} in
    let chains = c.in_ok-new-2.ensures {u = tt} in
    none_deep c.args.cap n c.in_ok-new.field-0 (ap (λ v. length v.blocks) slots ∙
    length-replicate {A = ℕ} n 0)
    (ap (λ v. v.live) slots) (length c.in_ok-vec.field-0.items) c.in_ok-new-2.field-0
    (omega (arith, (c.in_ok-vec.ensures {u = tt}).len, c.in_ok-vec.field-0.ok.0))
    c.requires.some (omega arith)
    (omega (arith, c.requires.small))
    (chains_none n (c.args.cap / 2 + 1) c.in_ok-new-2.field-0 (omega arith)
    (omega (arith, c.requires.small)) (ap (λ v. v.heads) chains)
    (ap (λ v. v.next) chains))

pub returns : goal.returns
returns g c =
    let n : ℕ = c.args.cap + c.args.cap / 2 + 1 in
    let slots = c.in_ok-new.ensures {u = tt} in
    let long = ap (λ v. length v.blocks) slots ∙ length-replicate {A = ℕ} n 0 in
    let dead = ap (λ v. v.live) slots in
    same_deep c.args.cap
    (none_kept c.args.cap n c.in_ok-new.field-0 long dead c.in_ok-new.field-0.blocks)
    (none_kept c.args.cap n c.in_ok-new.field-0 long dead c.in_ok-vec.field-0.items)
