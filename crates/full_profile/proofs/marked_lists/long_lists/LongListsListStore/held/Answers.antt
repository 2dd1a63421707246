-- A list has the blocks of its row and those behind it.
use Rattle.std.proofs.Common.{length, ap, arith, length-append}
use Rattle.full_profile.proofs.marked_lists.LongLists.{known, near_set, far_set, far_read, row}
use Rattle.full_profile.proofs.marked_lists.LongLists.{rest}
use Rattle.full_profile.proofs.marked_lists.LongLists.{blocks_are}
use Rattle.full_profile.proofs.marked_lists.long_lists.LongListsListStore.held.Goals as goal

pub held-requires : goal.held-requires
held-requires c = near_set (known c.self.invariant c.self.view_is c.requires)

pub index-requires : goal.index-requires
index-requires c = omega (
  arith,
  far_set (known c.self.invariant c.self.view_is c.requires),
  c.self.inside.far.ok.0,
)

-- both parts are short
pub overflow_cast-result : goal.overflow_cast-result
overflow_cast-result c =
    let h = known c.self.invariant c.self.view_is c.requires in
    omega (
      arith,
      c.len.ensures.value,
      ap (λ d. length d.blocks) (far_read h c.index.ensures),
      h.sound.split.rest_short c.args.set,
      h.sound.small,
    )

pub overflow_add-result : goal.overflow_add-result
overflow_add-result c =
    let h = known c.self.invariant c.self.view_is c.requires in
    omega (
      arith,
      c.held.ensures,
      h.sound.split.short c.args.set,
      c.len.ensures.value,
      ap (λ d. length d.blocks) (far_read h c.index.ensures),
      h.sound.split.rest_short c.args.set,
      h.sound.small,
    )

pub returns : goal.returns
returns c =
    let h = known c.self.invariant c.self.view_is c.requires in
    omega (
      arith,
      c.held.ensures,
      c.len.ensures.value,
      ap (λ d. length d.blocks) (far_read h c.index.ensures),
      ap length (blocks_are h),
      length-append (row h) (rest h),
    )
