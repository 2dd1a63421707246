-- The clean depth at each index is that of the block there.
use Rattle.std.proofs.Common.{◌≡◌, ◌∙◌, ◌-◌, ◌<◌, ◌∷◌, ℕ, suc, get_or, ap, sym}
use Rattle.std.proofs.Common.{arith, below_more, length-set, get_or-set_same, get_or-set_other}
use Rattle.profile_core.proofs.slots.SlotLemmas.{ordered_numbers_at}
use Rattle.full_profile.specs.internal.Slotted.{cleans_behind}
use Rattle.full_profile.proofs.marked_lists.ListsInSlots.{cleans_behind_long, front_same}
use Rattle.full_profile.proofs.marked_lists.slotted.ListSlots.cleans.Goals as goal

pub loop-index-preserved : goal.loop-index-preserved
loop-index-preserved c =
    let s = c.args.self.now in
    let i : ℕ = c.loop-index.index in
    let before = c.loop-index.cleans in
    let v : ℕ = get_or s.cleans (get_or s.slots.order (i - 1) 0) 0 in
    let some : suc (i - 1) ≡ i = omega (arith, c.loop-index.auto.index) in
    let lt : i < 16 = omega (arith, c.loop-index-test.true, c.requires.most) in
    record {
      all = length-set before i v ∙ c.loop-index.invariant.all;
      same = below_more _ _ (λ k below. get_or-set_other before i k v 0
          (λ e. absurd (omega (arith, e, below))) ∙ c.loop-index.invariant.same k below)
          (get_or-set_same before i v 0 (omega (arith, lt, c.loop-index.invariant.all))
          ∙ sym (ordered_numbers_at s.slots.order s.cleans 16 (i - 1)
          (omega (arith, c.requires.sound.order.order_len)) (omega (arith, lt)))
          ∙ ap (λ j. get_or (c.args.front_clean ∷ cleans_behind s) j 0) some);
    }

pub returns : goal.returns
returns c =
    front_same c.args.self.now.len c.loop-index.cleans
    (c.args.front_clean ∷ cleans_behind c.args.self.now)
    (omega (arith, c.loop-index.invariant.all, c.requires.most))
    (omega (arith, cleans_behind_long c.requires.sound, c.requires.most))
    (λ k lt. c.loop-index.invariant.same k (omega (arith, lt, c.loop-index-test.false)))
