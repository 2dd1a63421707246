use Rattle.std.proofs.Common.{◌≡◌, ◌/◌, ◌<◌, arith, length, length-set, get_or, ap}
use Rattle.std.proofs.Common.{◌∙◌}
use Rattle.std.proofs.lemmas.List.{get_or_read}
use Rattle.deep_list.proofs.SlotLemmas.{count_small, counted_set, at_chunk}
use Rattle.deep_list.proofs.slots.Slots.fill.Goals as goal

pub overflow_add-index_mut : goal.overflow_add-index_mut
overflow_add-index_mut c =
    let i = c.self.invariant in
    let lt : c.args.slot < length c.self.inside.live.items =
    omega (arith, c.requires.within, ap (λ v. length v.live) c.self.view_is) in
    let at = at_chunk i c.args.slot lt in
    omega (
      arith,
      get_or_read c.self.inside.counts.items (c.args.slot / 256) c.index_mut-3.result.now at
          c.index_mut-3.ensures.value 0,
      count_small i (c.args.slot / 256) at,
      i.small,
    )

pub invariant_of-self : goal.invariant_of-self
invariant_of-self c =
    let i = c.self.invariant in
    let lt : c.args.slot < length c.self.inside.live.items =
    omega (arith, c.requires.within, ap (λ v. length v.live) c.self.view_is) in
    let at = at_chunk i c.args.slot lt in
    let read = get_or_read c.self.inside.counts.items (c.args.slot / 256) c.index_mut-3.result.now
    at c.index_mut-3.ensures.value 0 in
    let vacant : get_or c.self.inside.live.items c.args.slot 0 ≡ 0 =
    ap (λ v. get_or v.live c.args.slot 0) c.self.view_is ∙ c.requires.vacant in
    counted_set i _ c.args.slot 1 _ (length-set c.self.inside.blocks.items c.args.slot c.args.block)
    lt (omega arith) (omega (arith, read, vacant))
