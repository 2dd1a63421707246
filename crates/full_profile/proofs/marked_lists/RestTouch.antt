-- Where a block is found that is not among the first blocks of its list.
use Rattle.std.proofs.Common.{◌≡◌, ℕ, ◌+◌, ◌-◌, ◌<◌, ◌≤◌, false, cond, eqb, length, get_or, sym}
use Rattle.std.proofs.Common.{◌∙◌, ap}
use Rattle.std.proofs.Common.{arith, eq-eqb}
use Rattle.std.specs.Prelude.{Some, None}
use Rattle.std.specs.List.{remove}
use Rattle.std.proofs.lemmas.Bool.{ne_eqb}
use Rattle.std.proofs.lemmas.List.{get_or_read}
use Rattle.deep_list.specs.Deep.{Deep, has_block, index_of_block, without_block, IsFound}
use Rattle.deep_list.specs.Deep.{IsLastOfFull}
use Rattle.profile_core.proofs.ListParts.{remove_past}
use Rattle.full_profile.specs.declared.marked_lists.MarkedTouch.{MarkedTouch}
use Rattle.full_profile.specs.declared.marked_lists.MarkedTouch.TheVariants.{Behind, New, Full}
use Rattle.full_profile.specs.internal.LongMarked.{rest_touch_of}
use Rattle.full_profile.proofs.marked_lists.Touching.{inside_lt, index_absent}

module _ (n x : ℕ) (d : Deep ℕ) where
  abbrev index : ℕ
  index = index_of_block x d.blocks

  abbrev last : MarkedTouch
  last = Full (get_or d.values (d.cap - 1) 0)

  abbrev found : MarkedTouch
  found = Behind (n + index) (get_or d.values index 0)

  abbrev new : MarkedTouch
  new = New (n + length d.blocks)

  pub rest_in : (place clean : ℕ) → length d.values ≡ length d.blocks →
      IsFound x d (Some (place, clean)) → Behind (n + place) clean ≡ rest_touch_of n x d
  rest_in place clean beside f =
      let lt : place < length d.values = omega (arith, f.1, inside_lt x d.blocks f.0, beside) in
      let read : clean ≡ get_or d.values index 0 =
      get_or_read d.values place clean lt f.2 0 ∙ ap (λ i. get_or d.values i 0) f.1 in
      ap (λ i. Behind (n + i) clean) f.1 ∙ ap (Behind (n + index)) read
      ∙ sym (ap (λ b. cond b found (cond (eqb (length d.blocks) d.cap) last new)) f.0)

  module _ (out : has_block x d.blocks ≡ false) where
    kept : remove d.blocks index ≡ d.blocks
    kept = remove_past d.blocks index (omega (arith, index_absent x d.blocks out))

    nowhere : (cond (eqb (length d.blocks) d.cap) last new) ≡ rest_touch_of n x d
    nowhere = sym (ap (λ b. cond b found (cond (eqb (length d.blocks) d.cap) last new)) out)

    pub rest_full : (clean : ℕ) → length d.values ≡ length d.blocks → 1 ≤ d.cap →
        IsLastOfFull (without_block d x) (Some clean) → Full clean ≡ rest_touch_of n x d
    rest_full clean beside some f =
        let size : length d.blocks ≡ d.cap = sym (ap length kept) ∙ f.0 in
        let values : remove d.values index ≡ d.values =
        remove_past d.values index (omega (arith, index_absent x d.blocks out, beside)) in
        let read : clean ≡ get_or d.values (d.cap - 1) 0 =
        get_or_read d.values (d.cap - 1) clean (omega (arith, beside, size, some))
        (f.1 ∙ ap (λ l. get_or l (d.cap - 1) clean) values) 0 in
        ap Full read ∙ sym (ap (λ b. cond b last new) (eq-eqb (length d.blocks) d.cap size))
        ∙ nowhere

    pub rest_new : IsLastOfFull (without_block d x) None →
        New (n + length d.blocks) ≡ rest_touch_of n x d
    rest_new room =
        sym (ap (λ b. cond b last new) (ne_eqb (length d.blocks) d.cap
        (λ same. omega (arith, same, room, ap length kept))))
        ∙ nowhere
