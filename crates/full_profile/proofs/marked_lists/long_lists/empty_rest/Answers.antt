-- One block more is counted, before those behind it.
use Rattle.std.proofs.Common.{◌≡◌, ◌+◌, ◌-◌, ◌<◌, ◌≤◌, ◌∙◌, ℕ, length, take, drop, get_or, sum, sym}
use Rattle.std.proofs.Common.{ap}
use Rattle.std.proofs.Common.{arith, get_or-take}
use Rattle.std.proofs.lemmas.List.{drop_all, length-take-le, get_or_read}
use Rattle.deep_list.specs.Deep.{cut_to}
use Rattle.full_profile.specs.internal.Copies.{with_copy, with_copies_of, up_to_of}
use Rattle.full_profile.proofs.copies.Adding.{none_more, one_copy, none_left, one_behind}
use Rattle.full_profile.proofs.marked_lists.LongLists.{cut_again, cut_whole}
use Rattle.full_profile.proofs.marked_lists.long_lists.empty_rest.Goals as goal

pub loop-left-init : goal.loop-left-init
loop-left-init c =
    let rest = c.args.rest.now in
    let all = up_to_of c.args.emptying c.args.depth in
    let beside : length rest.values ≡ length rest.blocks = c.len-left.ensures.beside in
    let whole : c.len-left.result ≡ length rest.blocks = c.len-left.ensures.value in
    record {
      within = omega (arith, whole, beside);
      beside = beside;
      cut = cut_whole c.len-left.result rest whole beside;
      more = none_more _ c.args.copies.now;
      counted = sym (ap (λ l. with_copies_of all (c.args.held + c.len-left.result) l
          c.args.copies.now) (drop_all c.len-left.result rest.values (omega (
            arith,
            whole,
            beside,
          )))
          ∙ none_left all (c.args.held + c.len-left.result) c.args.copies.now);
    }

pub loop-left-preserved : goal.loop-left-preserved
loop-left-preserved c =
    let rest = c.args.rest.now in
    let now = c.loop-left.rest in
    let values = rest.values in
    let up_to = up_to_of c.args.emptying c.args.depth in
    let before = c.loop-left.invariant in
    let i : ℕ = c.loop-left.left - 1 in
    let next : c.loop-left.left ≡ i + 1 = omega (arith, c.loop-left-test.true) in
    let lt : i < length values = omega (arith, next, before.within) in
    let some : c.loop-left.left ≤ length rest.blocks = omega (arith, before.within, before.beside)
    in
    let count : length now.blocks ≡ c.loop-left.left =
    ap (λ d. length d.blocks) before.cut ∙ length-take-le c.loop-left.left rest.blocks some in
    let clean : ℕ = c.drop_last-clean.result in
    let is : clean ≡ get_or values i 0 =
    get_or_read values i clean lt
    (c.drop_last-clean.ensures.last ∙ ap (λ d. get_or d.values (length now.blocks - 1) clean)
    before.cut ∙ ap (λ n. get_or (take c.loop-left.left values) (n - 1) clean) count
    ∙ get_or-take c.loop-left.left values i clean (omega (arith, next))) 0 in
    let one = one_copy clean c.up_to.result c.loop-left.copies in
    let so_far = before.more in
    record {
      within = omega (arith, lt);
      beside = before.beside;
      cut = c.drop_last-clean.ensures.dropped
          ∙ ap (λ n. cut_to (n - 1) now) count ∙ ap (cut_to i) before.cut
          ∙ cut_again i c.loop-left.left rest (omega (arith, next));
      more = record {
        above_long = ap (λ d. length d.above) c.add.ensures ∙ one.above_long ∙ so_far.above_long;
        up_to_long = ap (λ d. length d.up_to) c.add.ensures ∙ one.up_to_long ∙ so_far.up_to_long;
        above_few = omega (
          arith,
          ap (λ d. sum d.above) c.add.ensures,
          one.above_few,
          so_far.above_few,
          next,
          lt,
        );
        up_to_few = omega (
          arith,
          ap (λ d. sum d.up_to) c.add.ensures,
          one.up_to_few,
          so_far.up_to_few,
          next,
          lt,
        );
      };
      counted = c.add.ensures
          ∙ ap (λ u. with_copy clean u c.loop-left.copies) c.up_to.ensures
          ∙ ap (λ a. with_copy a (up_to (c.args.held + i)) c.loop-left.copies) is
          ∙ ap (with_copy (get_or values i 0) (up_to (c.args.held + i))) (before.counted
          ∙ ap (λ j. with_copies_of up_to (c.args.held + j) (drop j values) c.args.copies.now)
          next)
          ∙ sym (one_behind up_to c.args.held i values c.args.copies.now lt);
    }

pub returns-clause-list : goal.returns-clause-list
returns-clause-list c =
    let none : c.loop-left.left ≡ 0 = omega (arith, c.loop-left-test.false) in
    c.loop-left.invariant.cut ∙ ap (λ n. cut_to n c.args.rest.now) none

pub returns-clause-copies : goal.returns-clause-copies
returns-clause-copies c =
    let none : c.loop-left.left ≡ 0 = omega (arith, c.loop-left-test.false) in
    let first : c.args.held + 0 ≡ c.args.held = omega arith in
    c.loop-left.invariant.counted
    ∙ ap (λ n. with_copies_of (up_to_of c.args.emptying c.args.depth) (c.args.held + n)
    (drop n c.args.rest.now.values) c.args.copies.now) none
    ∙ ap (λ n. with_copies_of (up_to_of c.args.emptying c.args.depth) n c.args.rest.now.values
    c.args.copies.now) first
