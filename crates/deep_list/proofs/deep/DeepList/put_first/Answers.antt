use Rattle.std.proofs.Common.{◌≡◌, ◌+◌, ◌-◌, ◌∙◌, ◌∷◌, ◌++◌, length, take, drop, set, sym, ap}
use Rattle.std.proofs.Common.{ℕ, arith, subst, length-set}
use Rattle.deep_list.specs.Slots.{SlotsValue, live_items, slots_with_block}
use Rattle.deep_list.specs.Chains.{ChainsValue}
use Rattle.deep_list.specs.Deep.{has_block, IsRanked, IsDeep}
use Rattle.deep_list.proofs.DeepLemmas.{filled_kept, filled_values, filled_deep, filled_ranked}
use Rattle.deep_list.proofs.DeepLemmas.{same_deep, written_whole}
use Rattle.deep_list.proofs.deep.DeepList.put_first.Goals as goal

pub invariant_of-self : goal.invariant_of-self
invariant_of-self g c =
    let room = c.make_room-self-inside in
    let old = c.self.inside.values in
    let t : ℕ = room.result.top - 1 in
    let at : t + 1 ≡ room.result.top = omega (arith, room.ensures.free) in
    let w : SlotsValue = slots_with_block room.new.slots t c.args.block in
    let P : ChainsValue → Type 0 = λ v. IsRanked t room.result.end w v in
    let absent = ap (λ v. has_block c.args.block v.blocks) c.self.view_is ∙ c.requires.other in
    let kept : length room.new.values ≡ length old.items =
    room.ensures.beside ∙ ap length c.deref_mut.ensures.value in
    let long = length-set
    (take old.len (room.new.values ++ drop (length room.new.values) old.items)) t c.args.value
    ∙ ap length (written_whole old.len room.new.values old.items kept old.ok.0) ∙ kept in
    let Q : ℕ → Type 0 = λ n.
    IsDeep c.self.inside.cap (c.self.inside.held + 1) t room.result.end n c.fill.new.self
    c.add.new.self in
    subst Q (sym long)
    (filled_deep c.self.invariant room.ensures.ranked room.ensures.kept_same room.ensures.long
    c.args.block t at absent
    (omega (
      arith,
      c.requires.room,
      ap (λ v. length v.blocks) c.self.view_is,
      ap (λ v. v.cap) c.self.view_is,
    ))
    c.fill.new.self c.add.new.self c.fill.ensures
    (subst P (sym c.add.ensures) (filled_ranked room.ensures.ranked c.args.block t at
    (ap (has_block c.args.block) room.ensures.kept_same ∙ absent))))

pub returns : goal.returns
returns g c =
    let room = c.make_room-self-inside in
    let old = c.self.inside.values in
    let block : ℕ = c.args.block in
    let value = c.args.value in
    let t : ℕ = room.result.top - 1 in
    let at : t + 1 ≡ room.result.top = omega (arith, room.ensures.free) in
    let kept : length room.new.values ≡ length old.items =
    room.ensures.beside ∙ ap length c.deref_mut.ensures.value in
    let whole = written_whole old.len room.new.values old.items kept old.ok.0 in
    let written = take old.len (room.new.values ++ drop (length room.new.values) old.items) in
    same_deep c.self.inside.cap
    (ap (λ w. live_items w.blocks w.live) c.fill.ensures ∙
    filled_kept room.ensures.ranked block t at
    ∙ ap (λ xs. block ∷ xs) room.ensures.kept_same)
    (ap (λ w. live_items (set written t value) w.live) c.fill.ensures
    ∙ ap (λ xs. live_items (set xs t value) (set room.new.slots.live t 1)) whole
    ∙ filled_values room.ensures.ranked block t at room.new.values value
    (omega (arith, kept, room.ensures.long, c.self.invariant.beside))
    ∙ ap (λ xs. value ∷ xs) (room.ensures.values
    ∙ ap (λ xs. live_items xs c.self.inside.slots.live) c.deref_mut.ensures.value))
    ∙ ap (λ v. record {
      cap = v.cap;
      blocks = block ∷ v.blocks;
      values = value ∷ v.values;
    }) c.self.view_is
