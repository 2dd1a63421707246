use Rattle.std.proofs.Common.{◌-◌, ◌∙◌, ap, get_or}
use Rattle.deep_list.proofs.DeepLemmas.{held_is, full_some, full_cut, full_room, short_cut}
use Rattle.deep_list.proofs.DeepLemmas.{short_room, full_length}
use Rattle.deep_list.proofs.deep.DeepList.drop_if_full.Goals as goal

pub drop_last-requires : goal.drop_last-requires
drop_last-requires g c =
    full_some (held_is c.args.self.now c.self.inside.values.items c.self.invariant c.self.view_is)
    c.if-self.true

pub returns-then-self-clause-last : goal.returns-then-self-clause-last
returns-then-self-clause-last g c =
    let full = full_length
    (held_is c.args.self.now c.self.inside.values.items c.self.invariant c.self.view_is)
    c.if-self.true in (
      full,
      c.drop_last.ensures.last ∙
          ap (λ n. get_or c.args.self.now.values (n - 1) c.drop_last.result) full,
    )

pub returns-else-self-clause-last : goal.returns-else-self-clause-last
returns-else-self-clause-last g c =
    short_room (held_is c.args.self.now c.self.inside.values.items c.self.invariant c.self.view_is)
    c.if-self.false

pub returns-then-self-clause-dropped : goal.returns-then-self-clause-dropped
returns-then-self-clause-dropped g c =
    c.drop_last.ensures.dropped ∙ full_cut
    (held_is c.args.self.now c.self.inside.values.items c.self.invariant c.self.view_is)
    c.if-self.true

pub returns-then-self-clause-room : goal.returns-then-self-clause-room
returns-then-self-clause-room g c =
    full_room (held_is c.args.self.now c.self.inside.values.items c.self.invariant c.self.view_is)
    c.drop_last.new.self c.if-self.true c.drop_last.ensures.dropped

pub returns-else-self-clause-dropped : goal.returns-else-self-clause-dropped
returns-else-self-clause-dropped g c =
    short_cut (held_is c.args.self.now c.self.inside.values.items c.self.invariant c.self.view_is)
    c.if-self.false

pub returns-else-self-clause-room : goal.returns-else-self-clause-room
returns-else-self-clause-room g c =
    short_room (held_is c.args.self.now c.self.inside.values.items c.self.invariant c.self.view_is)
    c.if-self.false
