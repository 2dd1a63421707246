use Rattle.std.proofs.Common.{◌≡◌, ◌+◌, ◌≤◌, ◌^◌, ◌∙◌, ℕ, List, [], length, sym}
use Rattle.std.proofs.Common.{subst, arith}
use Rattle.std.specs.Prelude.{replicate}
use Rattle.std.specs.List.{range_with_len}
use Rattle.std.proofs.lemmas.List.FromFn.{length-range_with_len, get_or-range_with_len}
use Rattle.block_index.specs.SlotLists.{SlotListsValue, AreLinked}
use Rattle.block_index.proofs.LinkLemmas.{linked_again, none_linked, read_off}
use Rattle.block_index.proofs.slot_lists.SlotLists.new.Goals as goal

linked : (slots lists : ℕ) (before after : List ℕ) → slots ≤ 2 ^ 22 → lists ≤ 2 ^ 22 →
    before ≡ range_with_len 0 (slots + lists)
    → after ≡ range_with_len 0 (slots + lists) →
    AreLinked before after (record { slots = slots; lists = replicate lists [] })
linked slots lists before after few_slots few_lists before_is after_is =
    let nodes : List ℕ = range_with_len 0 (slots + lists) in
    let n : length nodes ≡ slots + lists = length-range_with_len 0 (slots + lists) in
    let v : SlotListsValue = record { slots = slots; lists = replicate lists [] } in
    let P : List ℕ → Type 0 = λ b. AreLinked b after v in
    let Q : List ℕ → Type 0 = λ a. AreLinked nodes a v in
    subst P (sym before_is) (subst Q (sym after_is)
    (none_linked slots lists nodes (omega arith) n
    (λ k lt. get_or-range_with_len 0 (slots + lists) k 0 (omega (arith, lt, n)) ∙ omega arith)))

pub invariant_of-result : goal.invariant_of-result
invariant_of-result c =
    linked_again (linked c.args.slots c.args.lists c.in_ok-numbers.field-0.items
    c.in_ok-numbers-2.field-0.items c.requires.slots c.requires.lists
    (c.in_ok-numbers.ensures {u = tt}) (c.in_ok-numbers-2.ensures {u = tt}))

pub returns : goal.returns
returns c =
    read_off (linked c.args.slots c.args.lists c.in_ok-numbers.field-0.items
    c.in_ok-numbers-2.field-0.items c.requires.slots c.requires.lists
    (c.in_ok-numbers.ensures {u = tt}) (c.in_ok-numbers-2.ensures {u = tt}))
