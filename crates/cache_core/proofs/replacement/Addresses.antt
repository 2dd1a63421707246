-- A policy keeps a fact that holds of each slot, such as that the address of its block fits.
use Rattle.std.proofs.Common.{ℕ, ◌*◌, ◌^◌, ◌<◌, Bool, true, false, List, ◌∷◌, length, Option, Some}
use Rattle.std.proofs.Common.{None, get_or}
use Rattle.std.specs.Prelude.{IfSome}
use Rattle.std.proofs.lemmas.List.Elements.{All-cons, All-head, All-tail, All-get_or, All-set}
use Rattle.std.proofs.lemmas.List.Sorted.{All-permutation}
use Rattle.cache_core.specs.declared.outcome.Slot.{Slot}
use Rattle.cache_core.specs.declared.design.Repl.{Repl}
use Rattle.cache_core.specs.cache.Order.{Touches, TakesIn, with_dirty_at}
use Rattle.cache_core.specs.internal.cache.Slab.{Addressable}
use Rattle.cache_core.proofs.replacement.Lawful.{lawful_touch, lawful_place}

-- the address of a slot's block fits
abbrev Fits : ℕ → Slot → Type 0
Fits b slot = slot.block * 2 ^ b < 2 ^ 64

pub marked_fits : (b : ℕ) (dirty : Bool) (slots : List Slot) (at : ℕ) → at < length slots →
    Addressable b slots →
    Addressable b (with_dirty_at dirty slots at)
marked_fits b false slots at h fit = fit
marked_fits b true slots at h fit =
    let none : Slot = record { block = 0; dirty = false } in
    All-set (Fits b) slots at (record (get_or slots at none) { dirty = true })
    (All-get_or (Fits b) slots at none h fit) fit

pub touched_fits : (b : ℕ) (policy : Option Repl) (old : List Slot) (at : ℕ) (new : List Slot) →
    at < length old → Touches policy old at new →
    Addressable b old → Addressable b new
touched_fits b policy old at new h t fit =
    All-permutation (Fits b) old new (lawful_touch policy old at new h t) fit

pub victim_fits : (b : ℕ) (policy : Option Repl) (number capacity : ℕ) (old : List Slot)
    (slot : Slot) (gone : Option Slot) (new : List Slot) →
    0 < capacity → TakesIn policy number capacity old slot gone new → Addressable b old →
    IfSome gone (Fits b)
victim_fits b policy number capacity old slot None new r p fit = tt
victim_fits b policy number capacity old slot (Some gone) new r p fit =
    let q = lawful_place policy number 0 capacity old slot (Some gone) new r p in
    All-head (Fits b) gone q.1.0 (All-permutation (Fits b) old (gone ∷ q.1.0) q.1.1 fit)

pub placed_fits : (b : ℕ) (policy : Option Repl) (number capacity : ℕ) (old : List Slot)
    (slot : Slot) (gone : Option Slot) (new : List Slot) →
    0 < capacity → TakesIn policy number capacity old slot gone new → slot.block * 2 ^ b < 2 ^ 64 →
    Addressable b old → Addressable b new
placed_fits b policy number capacity old slot None new r p s fit =
    let q = lawful_place policy number 0 capacity old slot None new r p in
    All-permutation (Fits b) (slot ∷ old) new q.1 (All-cons (Fits b) slot old s fit)
placed_fits b policy number capacity old slot (Some gone) new r p s fit =
    let q = lawful_place policy number 0 capacity old slot (Some gone) new r p in
    let rest = All-tail (Fits b) gone q.1.0 (All-permutation (Fits b) old (gone ∷ q.1.0)
    q.1.1 fit) in
    All-permutation (Fits b) (slot ∷ q.1.0) new q.1.2 (All-cons (Fits b) slot q.1.0 s rest)
