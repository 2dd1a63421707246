-- Profiles after some events, and then more.
use Rattle.std.proofs.Common.{◌≡◌, ℕ, zero, suc, ◌<◌, List, [], ◌∷◌, ◌++◌, map, length, refl, sym}
use Rattle.std.proofs.Common.{ap, ◌∙◌, arith, fold, Option, None, Some, true, false, cond, take}
use Rattle.std.proofs.Common.{drop, get_or}
use Rattle.std.specs.Prelude.{filter}
use Rattle.std.specs.List.{flat_map}
use Rattle.std.proofs.lemmas.List.Sums.{fold-append}
use Rattle.trace_core.specs.Events.{events_of, is_kept, references}
use Rattle.trace_core.specs.declared.events.Entry.{Entry}
use Rattle.trace_core.specs.declared.events.Entry.TheVariants as entry
use Rattle.trace_core.specs.declared.events.Event.{Event}
use Rattle.trace_core.specs.declared.events.Event.TheVariants as event
use Rattle.trace_core.specs.declared.events.Item.{Item}
use Rattle.trace_core.specs.declared.events.Kind.{Kind}
use Rattle.trace_core.specs.declared.events.Ref.{Ref}
use Rattle.trace_core.proofs.EntryEvents.{events_more, one_event, two_events}
use Rattle.profile_core.specs.profile.State.{after_event}
use Rattle.sweep_core.specs.declared.profiles.PairProfile.{PairProfile}
use Rattle.sweep_core.specs.internal.Pass.{profiles_after, kept_events}

pub all_after-nil : (xs : List PairProfile) → profiles_after [] xs ≡ xs
all_after-nil [] = refl
all_after-nil (x ∷ xs) = ap (λ l. x ∷ l) (all_after-nil xs)

pub all_after-append : (es fs : List Event) (xs : List PairProfile) →
    profiles_after (es ++ fs) xs ≡ profiles_after fs (profiles_after es xs)
all_after-append es fs [] = refl
all_after-append es fs (x ∷ xs) =
    ap (λ v. record x { profile = v } ∷ profiles_after (es ++ fs) xs)
    (fold-append after_event x.profile es fs)
    ∙ ap (λ l. record x { profile = fold after_event (fold after_event x.profile es) fs } ∷ l)
    (all_after-append es fs xs)

-- Profiles of any kind, after events one after the other.
module _ {X : Type 0} (after : List Event → List X → List X)
    (append : (es fs : List Event) (xs : List X) → after (es ++ fs) xs ≡ after fs (after es xs))
    (kind : Kind) where
  -- the references of an item that are kept
  pub fed-both : (xs ys zs : List X) {e : Entry} {item : Item} {both : Ref × Option Ref}
      {second : Ref} → e ≡ entry.Item item → both ≡ references item → both.1 ≡ Some second →
      ys ≡ after (kept_events kind (both.0 ∷ [])) xs →
      zs ≡ after (kept_events kind (second ∷ [])) ys → zs ≡ after (events_of kind e) xs
  fed-both xs ys zs {both = both} {second} is refs two first later =
      later ∙ ap (after (kept_events kind (second ∷ []))) first
      ∙ sym (append (kept_events kind (both.0 ∷ [])) (kept_events kind (second ∷ [])) xs)
      ∙ ap (λ es. after es xs) (joined both.0 ∙ sym (two_events kind is refs two))
    where
      joined : (r : Ref) → kept_events kind (r ∷ []) ++ kept_events kind (second ∷ []) ≡
          kept_events kind (r ∷ second ∷ [])
      joined r = elim (is_kept kind r.access) as (λ b. map (λ x. event.Reference x)
          (cond b (r ∷ []) []) ++ kept_events kind (second ∷ [])
          ≡ map (λ x. event.Reference x)
          (cond b (r ∷ filter (λ x. is_kept kind x.access) (second ∷ []))
          (filter (λ x. is_kept kind x.access) (second ∷ []))))
          [ true ↦ refl | false ↦ refl ]

  pub fed-one : (xs ys : List X) {e : Entry} {item : Item} {both : Ref × Option Ref} →
      e ≡ entry.Item item → both ≡ references item → both.1 ≡ None →
      ys ≡ after (kept_events kind (both.0 ∷ [])) xs → ys ≡ after (events_of kind e) xs
  fed-one xs ys is refs none fed =
      fed ∙ ap (λ es. after es xs) (sym (one_event kind is refs none))

  -- the profiles after some entries, and then one more
  pub fed-more : (old xs ys : List X) (es : List Entry) (e : Entry) →
      xs ≡ after (flat_map (events_of kind) es) old → ys ≡ after (events_of kind e) xs →
      ys ≡ after (flat_map (events_of kind) (es ++ e ∷ [])) old
  fed-more old xs ys es e so_far fed =
      fed ∙ ap (after (events_of kind e)) so_far ∙
      sym (append (flat_map (events_of kind) es) (events_of kind e) old)
      ∙ ap (λ l. after l old) (sym (events_more kind es e))

-- a loop over profiles has not yet reached the one at its index
pub unreached : {A : Type 0} (f : A → A) (xs : List A) (i : ℕ) (d : A) → i < length xs →
    get_or (map f (take i xs) ++ drop i xs) i d ≡ get_or xs i d
unreached f [] i d inside = absurd (omega arith)
unreached f (x ∷ xs) zero d inside = refl
unreached f (x ∷ xs) (suc i) d inside = unreached f xs i d (omega arith)
