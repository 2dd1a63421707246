use Rattle.std.proofs.Common.{◌-◌, ◌∙◌, ◌≤◌, ◌∷◌, take, ap, ℕ, arith}
use Rattle.std.specs.List.{remove}
use Rattle.deep_list.specs.Deep.{has_block, index_of_block, cut_to}
use Rattle.deep_list.proofs.LiveItemLemmas.{not_in-take, not_in-remove}
use Rattle.deep_list.proofs.DeepLemmas.{take_cap, same_deep}
use Rattle.deep_list.proofs.deep.DeepList.exchange.Goals as goal

pub put_first-requires-clause-other : goal.put_first-requires-clause-other
put_first-requires-clause-other g c =
    let old = c.args.self.now in
    ap (λ v. has_block c.args.given v.blocks) c.drop_if_full-fallen.ensures.dropped
    ∙ ap (λ v. has_block c.args.given (take (v.cap - 1) v.blocks)) c.take_out-found.ensures.moved
    ∙ not_in-take c.args.given (old.cap - 1)
    (remove old.blocks (index_of_block c.args.wanted old.blocks))
    (not_in-remove c.args.given (index_of_block c.args.wanted old.blocks) old.blocks c.requires)

pub returns-clause-moved : goal.returns-clause-moved
returns-clause-moved g c =
    let old = c.args.self.now in
    let index : ℕ = index_of_block c.args.wanted old.blocks in
    let some : 1 ≤ old.cap = omega (
      arith,
      c.drop_if_full-fallen.ensures.room,
      ap (λ v. v.cap) c.drop_if_full-fallen.ensures.dropped,
      ap (λ v. v.cap) c.take_out-found.ensures.moved,
    ) in
    let cut = c.drop_if_full-fallen.ensures.dropped ∙
    ap (λ v. cut_to (v.cap - 1) v) c.take_out-found.ensures.moved in
    c.put_first.ensures ∙ ap (λ v. record {
      cap = v.cap;
      blocks = c.args.given ∷ v.blocks;
      values = c.args.value ∷ v.values;
    }) cut
    ∙ same_deep old.cap (take_cap old.cap c.args.given (remove old.blocks index) some)
    (take_cap old.cap c.args.value (remove old.values index) some)
