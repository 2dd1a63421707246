use Rattle.std.proofs.Common.{◌≡◌, ◌/◌, ◌<◌, arith, length, get_or, ap}
use Rattle.std.proofs.Common.{◌∙◌, refl}
use Rattle.std.proofs.lemmas.List.{get_or_read}
use Rattle.deep_list.proofs.SlotLemmas.{count_some, counted_set, at_chunk}
use Rattle.deep_list.proofs.slots.Slots.vacate.Goals as goal

pub overflow_sub-index_mut : goal.overflow_sub-index_mut
overflow_sub-index_mut c =
    let i = c.self.invariant in
    let lt : c.args.slot < length c.self.inside.live.items =
    omega (arith, c.requires.within, ap (λ v. length v.live) c.self.view_is) in
    let one : get_or c.self.inside.live.items c.args.slot 0 ≡ 1 =
    ap (λ v. get_or v.live c.args.slot 0) c.self.view_is ∙ c.requires.live in
    omega (
      arith,
      get_or_read c.self.inside.counts.items (c.args.slot / 256) c.index_mut-2.result.now
          (at_chunk i c.args.slot lt) c.index_mut-2.ensures.value 0,
      count_some i c.args.slot lt one,
    )

pub invariant_of-self : goal.invariant_of-self
invariant_of-self c =
    let i = c.self.invariant in
    let lt : c.args.slot < length c.self.inside.live.items =
    omega (arith, c.requires.within, ap (λ v. length v.live) c.self.view_is) in
    let one : get_or c.self.inside.live.items c.args.slot 0 ≡ 1 =
    ap (λ v. get_or v.live c.args.slot 0) c.self.view_is ∙ c.requires.live in
    let read = get_or_read c.self.inside.counts.items (c.args.slot / 256) c.index_mut-2.result.now
    (at_chunk i c.args.slot lt) c.index_mut-2.ensures.value 0 in
    counted_set i _ c.args.slot 0 _ refl lt (omega arith)
    (omega (arith, read, one, count_some i c.args.slot lt one))
