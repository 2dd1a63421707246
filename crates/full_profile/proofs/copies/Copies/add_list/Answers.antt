-- One block more is counted, before those behind it.
use Rattle.std.proofs.Common.{◌≡◌, ◌+◌, ◌-◌, ◌<◌, ◌∙◌, ℕ, length, drop, get_or, sum, sym, ap, arith}
use Rattle.std.proofs.lemmas.List.{drop_all}
use Rattle.full_profile.specs.internal.Copies.{with_copy, with_copies_of, up_to_of}
use Rattle.full_profile.proofs.copies.Adding.{none_more, one_copy, none_left}
use Rattle.full_profile.proofs.copies.Adding.{one_before}
use Rattle.full_profile.proofs.copies.Copies.add_list.Goals as goal

pub loop-index-init : goal.loop-index-init
loop-index-init c =
    let cleans = c.args.cleans.now in
    record {
      within = omega arith;
      more = none_more _ c.args.self.now;
      counted = sym (ap (λ l. with_copies_of (up_to_of c.args.emptying c.args.depth)
          (length cleans) l c.args.self.now) (drop_all (length cleans) cleans (omega arith))
          ∙ none_left (up_to_of c.args.emptying c.args.depth) (length cleans) c.args.self.now);
    }

pub loop-index-preserved : goal.loop-index-preserved
loop-index-preserved c =
    let cleans = c.args.cleans.now in
    let up_to = up_to_of c.args.emptying c.args.depth in
    let i : ℕ = c.loop-index.index - 1 in
    let next : c.loop-index.index ≡ i + 1 = omega (arith, c.loop-index-test.true) in
    let lt : i < length cleans = omega (arith, next, c.loop-index.invariant.within) in
    let one = one_copy (get_or cleans i 0) c.up_to.result c.loop-index.self in
    let so_far = c.loop-index.invariant.more in
    record {
      within = omega (arith, lt);
      more = record {
        above_long = ap (λ d. length d.above) c.add.ensures ∙ one.above_long ∙ so_far.above_long;
        up_to_long = ap (λ d. length d.up_to) c.add.ensures ∙ one.up_to_long ∙ so_far.up_to_long;
        above_few = omega (
          arith,
          ap (λ d. sum d.above) c.add.ensures,
          one.above_few,
          so_far.above_few,
          next,
          lt,
        );
        up_to_few = omega (
          arith,
          ap (λ d. sum d.up_to) c.add.ensures,
          one.up_to_few,
          so_far.up_to_few,
          next,
          lt,
        );
      };
      counted = c.add.ensures
          ∙ ap (λ u. with_copy (get_or cleans i 0) u c.loop-index.self) c.up_to.ensures
          ∙ ap (with_copy (get_or cleans i 0) (up_to i)) (c.loop-index.invariant.counted
          ∙ ap (λ j. with_copies_of up_to j (drop j cleans) c.args.self.now) next)
          ∙ sym (one_before up_to i cleans c.args.self.now lt);
    }
