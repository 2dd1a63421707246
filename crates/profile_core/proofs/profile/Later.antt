-- References that find their block in front are counted later: a profile that was fed the others
-- lacks only these.
use Rattle.std.proofs.Common.{◌≡◌, ℕ, ◌+◌, ◌-◌, ◌≤◌, cond, List, [], ◌∷◌, ◌++◌, length}
use Rattle.std.proofs.Common.{map, fold, refl, sym, ◌∙◌, ap, subst, arith, append-nil}
use Rattle.std.proofs.Common.{append_assoc}
use Rattle.std.proofs.lemmas.List.Folds.{sum_by-replicate}
use Rattle.trace_core.specs.declared.events.Ref.{Ref}
use Rattle.trace_core.specs.declared.events.Event.{Event}
use Rattle.trace_core.specs.declared.events.Access.TheVariants.{Read}
use Rattle.trace_core.specs.declared.events.Event.TheVariants as event
use Rattle.cache_core.specs.Geometry.{GeometryValue, IsGeometry, block_of}
use Rattle.cache_core.proofs.Lists.{cases}
use Rattle.profile_core.specs.profile.State.{ProfileState, empty, fed_of, after_reference}
use Rattle.profile_core.specs.profile.State.{after_flush, after_event}
use Rattle.profile_core.specs.profile.Fronts.{is_front_of, after_unless_front, after_fronts}
use Rattle.profile_core.specs.profile.Fronts.{after_references, after_batch, fed_of_batch}
use Rattle.profile_core.specs.profile.LacksFronts.{LacksFronts}
use Rattle.profile_core.specs.profile.ProfileStandsFor.{ProfileStandsFor}
use Rattle.profile_core.specs.internal.profile.StackProfile.{IsFit}
use Rattle.profile_core.specs.internal.profile.CountedFronts.{profile_with_fronts}
use Rattle.profile_core.proofs.profile.Fronts.{fit_of, fit_behind, fronts_none, fronts_fronts}
use Rattle.profile_core.proofs.profile.Fronts.{reference_fronts, front_reference, caught_more}
use Rattle.profile_core.proofs.profile.Fronts.{fed_more}
use Rattle.profile_core.proofs.profile.Stands.{new_stands, reference_stands, flush_stands}

pub empty_fed : (g : GeometryValue) → fed_of (empty g) ≡ 0
empty_fed g = omega (
  arith,
  sum_by-replicate (λ m. m) g.e 0,
  sum_by-replicate (λ m. m) (g.e + 1) 0,
)

pub lacks_new : (g : GeometryValue) → IsGeometry g → LacksFronts 0 [] (empty g)
lacks_new g is = record {
  few = omega (arith, empty_fed g);
  caught = subst (ProfileStandsFor []) (sym (ap (λ m. after_fronts m (empty g)) {x = 0 - fed_of
      (empty g)} {y = 0} (omega arith) ∙ fronts_none (empty g))) (new_stands g is);
}

pub lacks_flush : (n : ℕ) (es : List Event) (v : ProfileState) → LacksFronts n es v →
    LacksFronts n (es ++ event.Flush ∷ []) (after_flush v)
lacks_flush n es v h =
    record { few = h.few; caught = flush_stands es (profile_with_fronts n v) h.caught }

fit_there : (n : ℕ) (es : List Event) (v : ProfileState) → LacksFronts n es v → IsFit v
fit_there n es v h = fit_behind (n - fed_of v) v (fit_of h.caught)

pub lacks_reference : (n : ℕ) (es : List Event) (v : ProfileState) (r : Ref) → LacksFronts n es v →
    LacksFronts (n + 1) (es ++ event.Reference r ∷ [])
    (after_unless_front v (block_of v.geometry r.addr))
lacks_reference n es v r h =
    let x : ℕ = block_of v.geometry r.addr in
    let fit = fit_there n es v h in
    record {
      few = fed_more n v x fit h.few;
      caught = subst (ProfileStandsFor (es ++ event.Reference r ∷ []))
          (sym (caught_more n v x fit h.few))
          (reference_stands es (profile_with_fronts n v) r h.caught);
    }

pub lacks_batch : (n : ℕ) (es : List Event) (v : ProfileState) (refs : List Ref) →
    LacksFronts n es v →
    LacksFronts (n + length refs) (es ++ map event.Reference refs)
    (after_batch v (map (λ r. r.addr) refs))
lacks_batch n es v [] h =
    subst (λ (m : ℕ). LacksFronts m (es ++ []) v) {x = n} {y = n + 0} (omega arith)
    (subst (λ (xs : List Event). LacksFronts n xs v) (sym (append-nil es)) h)
lacks_batch n es v (r ∷ refs) h =
    let w : ProfileState = after_unless_front v (block_of v.geometry r.addr) in
    let later : ProfileState = after_batch w (map (λ s. s.addr) refs) in
    let rest = lacks_batch (n + 1) (es ++ event.Reference r ∷ []) w refs
    (lacks_reference n es v r h) in
    subst (λ (m : ℕ). LacksFronts m (es ++ map event.Reference (r ∷ refs)) later) {x = n + 1 +
    length refs} {y = n + length (r ∷ refs)} (omega arith)
    (subst (λ (xs : List Event). LacksFronts (n + 1 + length refs) xs later)
    (append_assoc es (event.Reference r ∷ []) (map event.Reference refs)) rest)

pub caught_up : (n : ℕ) (es : List Event) (v : ProfileState) (m : ℕ) → LacksFronts n es v →
    fed_of v + m ≡ n → ProfileStandsFor es (after_fronts m v)
caught_up n es v m h lack = subst (λ (k : ℕ). ProfileStandsFor es (after_fronts k v)) {x =
    n - fed_of v} {y = m} (omega (arith, lack)) h.caught

-- A batch whose fronts are counted at once.
fed_within : (v : ProfileState) (addrs : List ℕ) → length (fed_of_batch v addrs) ≤ length addrs
fed_within v [] = omega arith
fed_within v (a ∷ addrs) =
    let later = fed_within (after_unless_front v (block_of v.geometry a)) addrs in
    cases (λ b. length (cond b (fed_of_batch (after_unless_front v (block_of v.geometry a)) addrs)
    (a ∷ fed_of_batch (after_unless_front v (block_of v.geometry a)) addrs)) ≤ length (a ∷ addrs))
    (is_front_of v (block_of v.geometry a)) (λ t. omega (arith, later)) (λ f. omega (arith, later))

references_fronts : (n : ℕ) (v : ProfileState) (addrs : List ℕ) →
    after_references (after_fronts n v) addrs ≡ after_fronts n (after_references v addrs)
references_fronts n v [] = refl
references_fronts n v (a ∷ addrs) =
    ap (λ w. after_references w addrs) (reference_fronts n v (block_of v.geometry a))
    ∙ references_fronts n (after_reference v (block_of v.geometry a)) addrs

-- with those that found their block in front of a batch
abbrev with_fronts_of : ProfileState → List ℕ → ProfileState
with_fronts_of v addrs =
    after_fronts (length addrs - length (fed_of_batch v addrs)) (after_batch v addrs)

pub batch_with_fronts : (es : List Event) (v : ProfileState) (addrs : List ℕ) →
    ProfileStandsFor es v → with_fronts_of v addrs ≡ after_references v addrs
batch_with_fronts es v [] h = ap (λ n. after_fronts n v) {x = 0 - 0} {y = 0} (omega arith) ∙
    fronts_none v
batch_with_fronts es v (a ∷ addrs) h =
    let x : ℕ = block_of v.geometry a in
    let r : Ref = record { access = Read; addr = a } in
    cases (λ b. is_front_of v x ≡ b → after_fronts (length (a ∷ addrs) - length
    (cond b (fed_of_batch (cond b v (after_reference v x)) addrs)
    (a ∷ fed_of_batch (cond b v (after_reference v x)) addrs)))
    (after_batch (cond b v (after_reference v x)) addrs) ≡ after_references (after_reference v x)
    addrs)
    (is_front_of v x)
    (λ t front.
    let lag : ℕ = length addrs - length (fed_of_batch v addrs) in
    ap (λ n. after_fronts n (after_batch v addrs)) {x = length (a ∷ addrs) - length
    (fed_of_batch v addrs)} {y = lag + 1} (omega (arith, fed_within v addrs))
    ∙ sym (fronts_fronts 1 lag (after_batch v addrs))
    ∙ ap (after_fronts 1) (batch_with_fronts es v addrs h)
    ∙ sym (references_fronts 1 v addrs)
    ∙ ap (λ w. after_references w addrs) (sym (front_reference v x (fit_of h) front)))
    (λ f behind.
    let w : ProfileState = after_reference v x in
    ap (λ n. after_fronts n (after_batch w addrs)) {x = length (a ∷ addrs) - length
    (a ∷ fed_of_batch w addrs)} {y = length addrs - length (fed_of_batch w addrs)} (omega arith)
    ∙ batch_with_fronts (es ++ event.Reference r ∷ []) w addrs (reference_stands es v r h))
    refl

pub references_of : (v : ProfileState) (refs : List Ref) →
    after_references v (map (λ r. r.addr) refs) ≡ fold after_event v (map event.Reference refs)
references_of v [] = refl
references_of v (r ∷ refs) = references_of (after_reference v (block_of v.geometry r.addr)) refs
