-- The references of an item that a kind keeps: one waits, the other need not.
use Rattle.std.proofs.Common.{◌≡◌, ℕ, ◌+◌, ◌-◌, ◌<◌, ◌≤◌, ◌/◌, ◌^◌, true, cond, List, [], ◌∷◌}
use Rattle.std.proofs.Common.{◌++◌, length, get_or, refl, sym, ap, ◌∙◌, arith, ltb}
use Rattle.std.proofs.Common.{length-append, subst}
use Rattle.std.proofs.Math.Seq.{get_or-append_seam}
use Rattle.std.proofs.lemmas.Bool.{eq-eqb}
use Rattle.cache_core.proofs.Lists.{cases}
use Rattle.trace_core.proofs.EntryEvents.{most_events}
use Rattle.trace_core.specs.Events.{at, events_of, is_kept}
use Rattle.trace_core.specs.declared.events.Access.{Access}
use Rattle.trace_core.specs.declared.events.Access.TheVariants as access
use Rattle.trace_core.specs.declared.events.Entry.TheVariants as entry
use Rattle.trace_core.specs.declared.events.Event.{Event}
use Rattle.trace_core.specs.declared.events.Kind.{Kind}
use Rattle.trace_core.specs.declared.events.Kind.TheVariants.{All, DataOnly, FetchOnly}
use Rattle.trace_core.specs.declared.events.Op.{Op}
use Rattle.trace_core.specs.declared.events.Op.TheVariants.{Fetch, Load, Store, Modify}
use Rattle.sweep_core.specs.declared.profiles.PairProfile.{PairProfile}
use Rattle.sweep_core.specs.internal.Pass.{profiles_after, kept_events}
use Rattle.sweep_core.specs.internal.Feeding.{profiles_with_fronts, profiles_after_batch}
use Rattle.sweep_core.specs.internal.Waiting.{AreWaiting, AreNoFiner, is_in_last_block}
use Rattle.sweep_core.specs.internal.Waiting.{with_waiting, kept_count, Batched}
use Rattle.sweep_core.proofs.Passes.{all_after-nil, all_after-append}
use Rattle.sweep_core.proofs.Repeated.{fed-with, waiting-with, waiting-later}
use Rattle.sweep_core.proofs.Waiting.{kept-waits}

-- the events of an item with an operation, at an address
abbrev events : Kind → Op → ℕ → List Event
events kind op a = events_of kind (entry.Item (record { op = op; addr = a; size = 0 }))

last-own : (bits : ℕ) (addrs : List ℕ) (c : ℕ) → is_in_last_block bits (addrs ++ c ∷ []) c ≡ true
last-own bits addrs c =
    let many = length-append addrs (c ∷ []) in
    let last : get_or (addrs ++ c ∷ []) (length (addrs ++ c ∷ []) - 1) 0 ≡ c =
    ap (λ i. get_or (addrs ++ c ∷ []) i 0) {x = length (addrs ++ c ∷ []) - 1} {y = length addrs}
    (omega (arith, many)) ∙ get_or-append_seam addrs c [] 0 in
    let some : ltb 0 (length (addrs ++ c ∷ [])) ≡ true = search (arith, many) in
    rw (some, last) (eq-eqb (c / 2 ^ bits) (c / 2 ^ bits) refl)

-- an address that waits last need not wait again
with-again : (bits : ℕ) (addrs : List ℕ) (c : ℕ) →
    with_waiting bits (with_waiting bits addrs c) c ≡ with_waiting bits addrs c
with-again bits addrs c =
    cases (λ b. is_in_last_block bits addrs c ≡ b →
    with_waiting bits (cond b addrs (addrs ++ c ∷ [])) c ≡ cond b addrs (addrs ++ c ∷ []))
    (is_in_last_block bits addrs c) (λ t is. ap (λ b. cond b addrs (addrs ++ c ∷ [])) is)
    (λ f is. ap (λ b. cond b (addrs ++ c ∷ []) (addrs ++ c ∷ [] ++ c ∷ []))
    (last-own bits addrs c)) refl

module _ (bits : ℕ) (xs : List PairProfile) (finer : AreNoFiner bits xs) where
  one : (n : ℕ) (addrs : List ℕ) → AreWaiting n addrs xs → (kind : Kind) (x : Access) (a : ℕ) →
      is_kept kind x ≡ true →
      profiles_with_fronts (n + 1) (profiles_after_batch (with_waiting bits addrs a) xs)
      ≡ profiles_after (kept_events kind (at x a ∷ []))
      (profiles_with_fronts n (profiles_after_batch addrs xs))
  one n addrs h kind x a kept =
      ap (profiles_with_fronts (n + 1)) (fed-with n bits addrs xs h finer a)
      ∙ kept-waits n addrs xs h kind (at x a) kept

  module _ (n : ℕ) (addrs : List ℕ) (h : AreWaiting n addrs xs) (a : ℕ) where
    both : (kind : Kind) → is_kept kind access.Read ≡ true → is_kept kind access.Write ≡ true →
        profiles_with_fronts (n + 2) (profiles_after_batch (with_waiting bits addrs a) xs)
        ≡ profiles_after (kept_events kind (at access.Read a ∷ []) ++
        kept_events kind (at access.Write a ∷ []))
        (profiles_with_fronts n (profiles_after_batch addrs xs))
    both kind reads writes =
        let ws = with_waiting bits addrs a in
        let read = kept_events kind (at access.Read a ∷ []) in
        let write = kept_events kind (at access.Write a ∷ []) in
        ap (λ l. profiles_with_fronts (n + 2) (profiles_after_batch l xs))
        (sym (with-again bits addrs a))
        ∙ ap (λ m. profiles_with_fronts m (profiles_after_batch (with_waiting bits ws a) xs))
        {x = n + 2} {y = n + 1 + 1} (omega arith)
        ∙ one (n + 1) ws (waiting-with n bits addrs xs h finer a) kind access.Write a writes
        ∙ ap (profiles_after write) (one n addrs h kind access.Read a reads)
        ∙ sym (all_after-append read write (profiles_with_fronts n (profiles_after_batch addrs xs)))

    -- an item with references that a kind keeps
    pub item-waits : (kind : Kind) (op : Op) → 0 < kept_count kind op →
        profiles_with_fronts (n + kept_count kind op)
        (profiles_after_batch (with_waiting bits addrs a) xs)
        ≡ profiles_after (events kind op a)
        (profiles_with_fronts n (profiles_after_batch addrs xs))
    item-waits All Fetch some = one n addrs h All access.Fetch a refl
    item-waits All Load some = one n addrs h All access.Read a refl
    item-waits All Store some = one n addrs h All access.Write a refl
    item-waits All Modify some = both All refl refl
    item-waits DataOnly Fetch some = absurd (omega (arith, some))
    item-waits DataOnly Load some = one n addrs h DataOnly access.Read a refl
    item-waits DataOnly Store some = one n addrs h DataOnly access.Write a refl
    item-waits DataOnly Modify some = both DataOnly refl refl
    item-waits FetchOnly Fetch some = one n addrs h FetchOnly access.Fetch a refl
    item-waits FetchOnly Load some = absurd (omega (arith, some))
    item-waits FetchOnly Store some = absurd (omega (arith, some))
    item-waits FetchOnly Modify some = absurd (omega (arith, some))

    -- a batch after a push
    module _ (count : ℕ) (b : Batched ℕ) (added : b.added ≡ n + count)
        (waiting : b.waiting ≡ with_waiting bits addrs a) (some : 0 < count) where
      pub pushed-waits : AreWaiting b.added b.waiting xs
      pushed-waits =
          let one = waiting-with n bits addrs xs h finer a in
          subst (λ k. AreWaiting k b.waiting xs) (sym added)
          (subst (λ l. AreWaiting (n + count) l xs) (sym waiting)
          (waiting-later (n + 1) bits (with_waiting bits addrs a) xs one finer a (n + count)
          (omega (arith, some))))

      pub pushed-caught : (kind : Kind) (op : Op) → count ≡ kept_count kind op →
          profiles_with_fronts b.added (profiles_after_batch b.waiting xs)
          ≡ profiles_after (events kind op a)
          (profiles_with_fronts n (profiles_after_batch addrs xs))
      pushed-caught kind op is =
          (λ i. profiles_with_fronts (added i) (profiles_after_batch (waiting i) xs))
          ∙ ap (λ k. profiles_with_fronts (n + k)
          (profiles_after_batch (with_waiting bits addrs a) xs)) is
          ∙ item-waits kind op (omega (arith, some, is))

-- an item without one
pub item-left : (kind : Kind) (op : Op) (a : ℕ) (xs : List PairProfile) →
    kept_count kind op ≤ 0 → xs ≡ profiles_after (events kind op a) xs
item-left All Fetch a xs none = absurd (omega (arith, none))
item-left All Load a xs none = absurd (omega (arith, none))
item-left All Store a xs none = absurd (omega (arith, none))
item-left All Modify a xs none = absurd (omega (arith, none))
item-left DataOnly Fetch a xs none = sym (all_after-nil xs)
item-left DataOnly Load a xs none = absurd (omega (arith, none))
item-left DataOnly Store a xs none = absurd (omega (arith, none))
item-left DataOnly Modify a xs none = absurd (omega (arith, none))
item-left FetchOnly Fetch a xs none = absurd (omega (arith, none))
item-left FetchOnly Load a xs none = sym (all_after-nil xs)
item-left FetchOnly Store a xs none = sym (all_after-nil xs)
item-left FetchOnly Modify a xs none = sym (all_after-nil xs)

-- a kind keeps at most two references of an item
pub kept-most : (kind : Kind) (op : Op) → kept_count kind op ≤ 2
kept-most kind op = most_events kind (entry.Item (record { op = op; addr = 0; size = 0 }))
