-- Rests of zeros, of which none is a set's own.
use Rattle.std.proofs.Common.{◌≡◌, ◌-◌, ◌∙◌, ◌++◌, ℕ, take, ap, arith, vec_len}
use Rattle.std.proofs.Math.Seq.{take-nil}
use Rattle.std.specs.Prelude.{replicate}
use Rattle.profile_core.proofs.SparseRestLemmas.{new_rests}
use Rattle.profile_core.proofs.rests.sparse.SparseRests.new.Goals as goal
use Rattle.profile_core.proofs.rests.sparse.SparseRests.new.Goals.{In_ok-vec}

none : (c : In_ok-vec) → c.in_ok-vec.field-0.items ≡ replicate c.args.sets 0
none c = c.in_ok-vec.ensures.items_if_clones_equal (λ y e. e)

zeros : (c : In_ok-vec) → c.resize.new.self.items ≡ replicate c.args.stride 0
zeros c =
    let n : ℕ = c.args.stride in
    let some : vec_len c.in_ok-numbers.numbers ≡ 0 = c.in_ok-numbers.ensures.len in
    c.in_ok-resize.ensures.items
    ∙ ap (λ xs. take n xs ++ replicate (n - vec_len c.in_ok-numbers.numbers) 0)
    c.in_ok-numbers.ensures.items
    ∙ ap (λ xs. xs ++ replicate (n - vec_len c.in_ok-numbers.numbers) 0) (take-nil n)
    ∙ ap (λ j. replicate j 0) (omega (arith, some))

pub returns : goal.returns
returns c =
    let at = (goal.at.returns c).In_ok-vec in
    ap (λ rows. record { stride = c.args.stride; rows = rows })
    (new_rests c.args.stride c.args.sets c.requires.some (none at) (zeros at))
