use Rattle.std.proofs.Common.{◌-◌, ◌*◌, ◌/◌, ◌<◌, ap, sum}
use Rattle.std.proofs.Common.{take, drop, arith, length}
use Rattle.deep_list.proofs.SlotLemmas.{live_before, sum_small, at_chunk, part_small}
use Rattle.deep_list.proofs.slots.Slots.live_before.Goals as goal

pub total-before-requires : goal.total-before-requires
total-before-requires c =
    let lt : c.args.slot < length c.self.inside.live.items =
    omega (arith, c.requires, ap (λ v. length v.live) c.self.view_is) in
    let i = c.self.invariant in
    omega (
      arith,
      ap (λ xs. sum (take (c.args.slot / 256) xs)) c.deref.ensures.value,
      i.prefixes (c.args.slot / 256) (omega (arith, at_chunk i c.args.slot lt)),
      sum_small i (c.args.slot / 256 * 256),
    )

pub total_flags-within-requires : goal.total_flags-within-requires
total_flags-within-requires c =
    omega (
      arith,
      part_small c.self.invariant c.args.slot,
      ap (λ xs. sum (take (c.args.slot - c.args.slot / 256 * 256)
          (drop (c.args.slot / 256 * 256) xs))) c.deref-2.ensures.value,
    )

pub returns : goal.returns
returns c =
    let lt : c.args.slot < length c.self.inside.live.items =
    omega (arith, c.requires, ap (λ v. length v.live) c.self.view_is) in
    omega (
      arith,
      live_before c.self.invariant c.args.slot lt,
      c.total-before.ensures,
      c.total_flags-within.ensures,
      ap (λ xs. sum (take (c.args.slot / 256) xs)) c.deref.ensures.value,
      ap (λ xs. sum (take (c.args.slot - c.args.slot / 256 * 256)
          (drop (c.args.slot / 256 * 256) xs))) c.deref-2.ensures.value,
      ap (λ v. sum (take c.args.slot v.live)) c.self.view_is,
    )
