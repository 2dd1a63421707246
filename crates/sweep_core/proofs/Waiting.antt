-- References that wait, and the profiles that are fed them later.
use Rattle.std.proofs.Common.{◌≡◌, ℕ, zero, suc, ◌+◌, ◌-◌, ◌≤◌, Bool, true, false, cond, List, []}
use Rattle.std.proofs.Common.{◌∷◌, ◌++◌, map, take, length, refl, sym, ap, ◌∙◌, subst, arith}
use Rattle.std.proofs.Common.{length-append}
use Rattle.std.specs.List.{AllByRecursion as Each}
use Rattle.std.proofs.lemmas.List.{length-map}
use Rattle.std.proofs.lemmas.List.Sums.{fold-append}
use Rattle.trace_core.specs.declared.events.Ref.{Ref}
use Rattle.trace_core.specs.declared.events.Access.TheVariants as access
use Rattle.trace_core.specs.declared.events.Event.{Event}
use Rattle.trace_core.specs.declared.events.Event.TheVariants as event
use Rattle.trace_core.specs.declared.events.Kind.{Kind}
use Rattle.trace_core.specs.Events.{is_kept}
use Rattle.cache_core.specs.Geometry.{block_of}
use Rattle.profile_core.specs.profile.State.{ProfileState, fed_of, after_reference}
use Rattle.profile_core.specs.profile.Fronts.{after_unless_front, is_front_of, after_batch}
use Rattle.profile_core.specs.profile.Fronts.{fed_of_batch}
use Rattle.profile_core.specs.internal.profile.StackProfile.{most_references}
use Rattle.profile_core.specs.internal.profile.CountedFronts.{Leads}
use Rattle.sweep_core.specs.declared.profiles.PairProfile.{PairProfile}
use Rattle.sweep_core.specs.internal.Pass.{profiles_after, kept_events}
use Rattle.sweep_core.specs.internal.Feeding.{HaveFollowers, AreLed, IsFresh, profiles_with_fronts}
use Rattle.sweep_core.specs.internal.Feeding.{FedAtMost, AreBehind, pair_after_batch}
use Rattle.sweep_core.specs.internal.Feeding.{profiles_after_batch, AlwaysLeads, AreAlwaysLed}
use Rattle.sweep_core.specs.internal.Feeding.{AreAlwaysBehind}
use Rattle.sweep_core.specs.internal.Waiting.{AreWaiting}
use Rattle.sweep_core.proofs.Lists.{Each-weaker}
use Rattle.sweep_core.proofs.Passes.{all_after-append}
use Rattle.sweep_core.proofs.Catching.{pair_after_reference, pair_unless_front, behind-after}
use Rattle.sweep_core.proofs.Catching.{caught-reference, few-reference, kept-caught}

-- batches one after the other
pub fed-nil : (xs : List PairProfile) → profiles_after_batch [] xs ≡ xs
fed-nil [] = refl
fed-nil (x ∷ xs) = ap (λ l. x ∷ l) (fed-nil xs)

pub fed-append : (addrs later : List ℕ) (xs : List PairProfile) →
    profiles_after_batch (addrs ++ later) xs ≡ profiles_after_batch later
    (profiles_after_batch addrs xs)
fed-append addrs later [] = refl
fed-append addrs later (x ∷ xs) =
    ap (λ v. record x { profile = v } ∷ profiles_after_batch (addrs ++ later) xs)
    (fold-append (λ w a. after_unless_front w (block_of w.geometry a)) x.profile addrs later)
    ∙ ap (λ l. pair_after_batch later (pair_after_batch addrs x) ∷ l) (fed-append addrs later xs)

fed-one : (a : ℕ) (xs : List PairProfile) →
    profiles_after_batch (a ∷ []) xs ≡ map (pair_unless_front a) xs
fed-one a [] = refl
fed-one a (x ∷ xs) = ap (λ l. pair_unless_front a x ∷ l) (fed-one a xs)

-- profiles that are behind stay so, whatever they are fed
one-more : ℕ → Event
one-more a = event.Reference (record { access = access.Read; addr = a })

pub always-behind : (later : List ℕ) (n : ℕ) (es : List Event) (old xs : List PairProfile) →
    Each IsFresh old → HaveFollowers old → profiles_with_fronts n xs ≡ profiles_after es old →
    FedAtMost n xs → AreBehind (n + length later) (profiles_after_batch later xs)
unfolding one-more
always-behind [] n es old xs fresh refined caught fed =
    subst (λ m. AreBehind m (profiles_after_batch [] xs)) {x = n} {y = n + 0} (omega arith)
    (subst (AreBehind n) (sym (fed-nil xs)) (behind-after n es old xs fresh refined caught fed))
always-behind (a ∷ later) n es old xs fresh refined caught fed =
    let now = behind-after n es old xs fresh refined caught fed in
    let next = map (pair_unless_front a) xs in
    let after : profiles_with_fronts (n + 1) next ≡ profiles_after (es ++ one-more a ∷ []) old =
    caught-reference n a xs now.fed now.fit ∙ ap (map (pair_after_reference a)) caught ∙
    sym (all_after-append es (one-more a ∷ []) old) in
    let rest = always-behind later (n + 1) (es ++ one-more a ∷ []) old next fresh refined after
    (few-reference n a xs now.fed now.fit) in
    subst (λ m. AreBehind m (profiles_after_batch (a ∷ later) xs)) {x = n + 1 + length later}
    {y = n + length (a ∷ later)} (omega arith)
    (subst (AreBehind (n + 1 + length later)) (ap (profiles_after_batch later)
    (sym (fed-one a xs)) ∙ sym (fed-append (a ∷ []) later xs)) rest)

-- so a profile leads its followers
led-each : (x : PairProfile) (m : ℕ) (ys : List PairProfile)
    → ((addrs : List ℕ) → Each (λ y. Leads (after_batch x.profile addrs) y.profile)
    (take m (profiles_after_batch addrs ys)))
    → Each (λ y. AlwaysLeads x.profile y.profile) (take m ys)
led-each x zero ys h = tt
led-each x (suc m) [] h = tt
led-each x (suc m) (y ∷ ys) h = ((λ addrs. (h addrs).0), led-each x m ys (λ addrs. (h addrs).1))

led-all : (xs : List PairProfile) → ((addrs : List ℕ) → AreLed (profiles_after_batch addrs xs)) →
    AreAlwaysLed xs
led-all [] h = tt
led-all (x ∷ xs) h = (
  subst (λ (n : ℕ). x.followers ≤ n) (length-map xs (pair_after_batch [])) (h []).0,
  led-each x x.followers xs (λ addrs. (h addrs).1),
  led-all xs (λ addrs. (h addrs).2),
)

-- references that wait
module _ (n : ℕ) (addrs : List ℕ) (xs : List PairProfile) (h : AreWaiting n addrs xs) where
  pub waiting-few : n ≤ most_references →
      Each (λ x. fed_of x.profile + length addrs ≤ most_references) xs
  waiting-few most = Each-weaker (λ x. fed_of x.profile ≤ n - length addrs + 0)
      (λ x. fed_of x.profile + length addrs ≤ most_references)
      (λ x le. omega (arith, le, h.waiting, most)) xs
      (subst (FedAtMost (n - length addrs + 0)) (fed-nil xs) (h.behind []).fed)

  pub waiting-led : AreAlwaysLed xs
  waiting-led = led-all xs (λ later. (h.behind later).led)

  pub waiting-behind : AreBehind n (profiles_after_batch addrs xs)
  waiting-behind = subst (λ m. AreBehind m (profiles_after_batch addrs xs))
      {x = n - length addrs + length addrs} {y = n} (omega (arith, h.waiting)) (h.behind addrs)

  pub waiting-more : (a : ℕ) → AreWaiting (n + 1) (addrs ++ a ∷ []) xs
  waiting-more a = record {
    waiting = omega (arith, h.waiting, length-append addrs (a ∷ []));
    behind = subst (λ m. AreAlwaysBehind m xs) {x = n - length addrs} {y = n + 1 - length
        (addrs ++ a ∷ [])} (omega (arith, h.waiting, length-append addrs (a ∷ []))) h.behind;
  }

  pub waiting-fed : (ys : List PairProfile) → ys ≡ profiles_after_batch addrs xs →
      AreWaiting n [] ys
  waiting-fed ys is = record {
    waiting = omega arith;
    behind = λ later. subst (AreBehind (n - 0 + length later)) (fed-append addrs later xs ∙
        ap (profiles_after_batch later) (sym is))
        (subst (λ m. AreBehind m (profiles_after_batch (addrs ++ later) xs))
        {x = n - length addrs + length (addrs ++ later)} {y = n - 0 + length later}
        (omega (arith, h.waiting, length-append addrs later)) (h.behind (addrs ++ later)));
  }

  -- one more of those that a kind keeps
  pub kept-waits : (kind : Kind) (r : Ref) → is_kept kind r.access ≡ true →
      profiles_with_fronts (n + 1) (profiles_after_batch (addrs ++ r.addr ∷ []) xs)
      ≡ profiles_after (kept_events kind (r ∷ []))
      (profiles_with_fronts n (profiles_after_batch addrs xs))
  kept-waits kind r kept =
      let ys = profiles_after_batch addrs xs in
      (kept-caught n kind r ys (profiles_after_batch (addrs ++ r.addr ∷ []) xs) waiting-behind kept
      (fed-append addrs (r.addr ∷ []) xs ∙ fed-one r.addr ys)).0

pub waiting-none : (n : ℕ) (es : List Event) (old xs : List PairProfile) → Each IsFresh old →
    HaveFollowers old → profiles_with_fronts n xs ≡ profiles_after es old → FedAtMost n xs →
    AreWaiting n [] xs
waiting-none n es old xs fresh refined caught fed = record {
  waiting = omega arith;
  behind = λ later. subst (λ m. AreBehind (m + length later) (profiles_after_batch later xs)) {x =
      n} {y = n - 0} (omega arith) (always-behind later n es old xs fresh refined caught fed);
}

-- A profile that is led need not be fed what the other finds in front.
abbrev after : ProfileState → ℕ → ProfileState
after v a = after_unless_front v (block_of v.geometry a)

past-one : (x y : ProfileState) (a : ℕ) (left later : List ℕ) → AlwaysLeads x y →
    after_batch (after y a) left ≡ after_batch (after y a) later → (b : Bool) →
    is_front_of x (block_of x.geometry a) ≡ b →
    after_batch y (cond b left (a ∷ left)) ≡ after_batch (after y a) later
past-one x y a left later leads rest true front =
    ap (λ v. after_batch v left) (sym (ap (λ b. cond b y
    (after_reference y (block_of y.geometry a))) (leads [] a front))) ∙ rest
past-one x y a left later leads rest false behind = rest

pub fed-past : (x y : ProfileState) (addrs : List ℕ) → AlwaysLeads x y →
    after_batch y (fed_of_batch x addrs) ≡ after_batch y addrs
fed-past x y [] leads = refl
fed-past x y (a ∷ addrs) leads =
    past-one x y a (fed_of_batch (after x a) addrs) addrs leads
    (fed-past (after x a) (after y a) addrs (λ later. leads (a ∷ later)))
    (is_front_of x (block_of x.geometry a)) refl
