use Rattle.std.proofs.Common.{◌+◌, ◌/◌, ◌∙◌, ℕ, List, [], sym, ap, subst}
use Rattle.std.specs.Prelude.{replicate}
use Rattle.block_index.specs.SlotLists.{SlotListsValue}
use Rattle.block_index.specs.BlockIndex.{blocks_listed, AreOnChains}
use Rattle.block_index.proofs.IndexLemmas.{none_indexed, none_blocks, none-listed}
use Rattle.block_index.proofs.block_index.BlockIndex.new.Goals as goal

pub invariant_of-result : goal.invariant_of-result
invariant_of-result c =
    let n : ℕ = c.args.slots in
    let v : SlotListsValue = record { slots = n; lists = replicate (n / 2 + 1) [] } in
    let P : List ℕ → Type 0 = λ bs. AreOnChains bs c.in_ok-new.field-0 in
    let Q : SlotListsValue → Type 0 = λ w. AreOnChains (replicate n 0) w in
    subst P (sym (c.in_ok-vec.ensures.items_if_clones_equal (λ y e. e)))
    (subst Q (sym (c.in_ok-new.ensures {u = tt})) (none_indexed n c.requires))

pub returns : goal.returns
returns c =
    let n : ℕ = c.args.slots in
    ap (blocks_listed c.in_ok-new.field-0.lists 0) (c.in_ok-vec.ensures.items_if_clones_equal
    (λ y e. e))
    ∙ ap (λ w. blocks_listed w.lists 0 (replicate n 0)) (c.in_ok-new.ensures {u = tt})
    ∙ none_blocks n (replicate (n / 2 + 1) []) 0 (none-listed (n / 2 + 1))
