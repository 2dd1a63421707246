use Rattle.std.proofs.Common.{◌≡◌, ◌+◌, ◌-◌, ◌∙◌, ap, length, get_or, set, sym, arith, subst}
use Rattle.std.proofs.Common.{length-set}
use Rattle.std.proofs.lemmas.Bool.{eqb-true}
use Rattle.deep_list.specs.Slots.{SlotsValue, live_items}
use Rattle.deep_list.specs.Deep.{IsGathering}
use Rattle.deep_list.proofs.DeepLemmas.{gathering_moved, values_moved}
use Rattle.deep_list.proofs.deep.gather.Goals as goal

pub loop-from-preserved-then-is_live : goal.loop-from-preserved-then-is_live
loop-from-preserved-then-is_live g c =
    let i = c.loop-from.invariant in
    let from = c.loop-from.from - 1 in
    let to = c.loop-from.to - 1 in
    let values = c.loop-from.values in
    let next : from + 1 ≡ c.loop-from.from = omega (arith, c.loop-from-test.true) in
    let last : to + 1 ≡ c.loop-from.to =
    omega (arith, c.loop-from-test.true, i.gathering.order) in
    let one : get_or c.loop-from.slots.live from 0 ≡ 1 =
    eqb-true (get_or c.loop-from.slots.live from 0) 1 (sym c.is_live.ensures ∙
    c.if-is_live.true) in
    let P : SlotsValue → Type 0 = λ w. IsGathering from to c.args.slots.now w in
    let value = c.index-values-from.result in
    let beside : length values ≡ length c.loop-from.slots.live =
    omega (arith, i.beside, c.requires.beside, i.gathering.long) in
    record {
      gathering = subst P (sym c.shift.ensures) (gathering_moved i.gathering from next to last one);
      values = ap (λ x. live_items (set values to x) c.shift.new.slots.live) c.index-values-from.is
          ∙ ap (λ w. live_items (set values to (get_or values from value)) w.live) c.shift.ensures
          ∙ values_moved i.gathering from next values value to last beside one ∙ i.values;
      beside = length-set values to value ∙ i.beside;
    }
