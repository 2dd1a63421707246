-- The profiles of a full sweep: references that wait, settled ones that are counted later, and
-- events.
use Rattle.std.proofs.Common.{◌≡◌, ℕ, ◌+◌, ◌-◌, ◌<◌, ◌≤◌, true, false, cond}
use Rattle.std.proofs.Common.{List, [], ◌∷◌, ◌++◌, map, take, length, get_or, refl, sym, ap}
use Rattle.std.proofs.Common.{◌∙◌, subst, arith, length-append}
use Rattle.std.specs.List.{AllByRecursion as Each}
use Rattle.std.proofs.lemmas.Bool.{ltb-true, eqb-true, and_parts}
use Rattle.std.proofs.lemmas.List.{take_more, take_all}
use Rattle.std.proofs.lemmas.List.Sums.{fold-append}
use Rattle.std.proofs.lemmas.Simd.{map-map}
use Rattle.trace_core.specs.declared.events.Access.TheVariants.{Read}
use Rattle.trace_core.specs.declared.events.Event.{Event}
use Rattle.trace_core.specs.declared.events.Event.TheVariants as event
use Rattle.trace_core.specs.declared.events.Kind.{Kind}
use Rattle.trace_core.specs.declared.events.Ref.{Ref}
use Rattle.trace_core.specs.Events.{is_kept, at}
use Rattle.cache_core.specs.Geometry.{GeometryValue, block_of}
use Rattle.cache_core.proofs.Lists.{cases}
use Rattle.profile_core.specs.profile.State.{fed_of}
use Rattle.profile_core.specs.internal.profile.StackProfile.{most_references}
use Rattle.full_profile.specs.State.{FullState, after_full_event}
use Rattle.full_profile.specs.State.{after_full_reference, after_full_flush, after_end}
use Rattle.full_profile.specs.Batches.{after_unless_settled, after_full_batch, with_settled}
use Rattle.full_profile.specs.Batches.{IsLagging}
use Rattle.full_profile.specs.Batches.{LagsBehind}
use Rattle.full_profile.specs.Batches.{after_settled}
use Rattle.full_profile.proofs.BatchLemmas.{fed_batch, fed_flush, fit_fed}
use Rattle.full_profile.proofs.BatchLemmas.{settled_again, geometry_unless, as_events}
use Rattle.full_profile.proofs.laws.Later.{settled_none, caught_more, flush_settled, lags_new}
use Rattle.sweep_core.specs.internal.Pass.{kept_events}
use Rattle.sweep_core.proofs.Lists.{Each-weaker}
use Rattle.sweep_core.proofs.Repeated.{finest-most, finest-each, same-block}
use Rattle.sweep_core.specs.declared.full.profiles.FullPair.{FullPair}
use Rattle.sweep_core.specs.internal.Full.{full_pair_fed, full_pairs_fed, full_pair_caught}
use Rattle.sweep_core.specs.internal.Full.{full_pairs_caught}
use Rattle.sweep_core.specs.internal.Full.{full_pairs_ended, full_pair_flushed, full_pair_after}
use Rattle.sweep_core.specs.internal.Full.{full_pairs_after, full_pairs_after_all}
use Rattle.sweep_core.specs.internal.Full.{FedFullAtMost, IsNewPair, AreFedFull, WereFedAlike}
use Rattle.sweep_core.specs.internal.Full.{FullWaiting}
use Rattle.sweep_core.specs.internal.Full.{is_repeated, repeats_last, with_waiting_ref}
use Rattle.sweep_core.specs.internal.Full.{AreNoFinerFull}
use Rattle.sweep_core.specs.internal.Full.{finest_full_bits}

-- a change that keeps a pair as it is
pub same-all : (f : FullPair → FullPair) → ((x : FullPair) → f x ≡ x) → (xs : List FullPair) →
    map f xs ≡ xs
same-all f same [] = refl
same-all f same (x ∷ xs) = ap (λ y. y ∷ map f xs) (same x) ∙ ap (λ l. x ∷ l) (same-all f same xs)

-- batches one after the other
pub fed-nil : (xs : List FullPair) → full_pairs_fed [] xs ≡ xs
fed-nil xs = same-all (full_pair_fed []) (λ x. refl) xs

pub fed-append : (refs later : List Ref) (xs : List FullPair) →
    full_pairs_fed (refs ++ later) xs ≡ full_pairs_fed later (full_pairs_fed refs xs)
fed-append refs later [] = refl
fed-append refs later (x ∷ xs) =
    ap (λ v. record x { profile = v } ∷ full_pairs_fed (refs ++ later) xs)
    (fold-append after_unless_settled x.profile refs later)
    ∙ ap (λ l. full_pair_fed later (full_pair_fed refs x) ∷ l) (fed-append refs later xs)

-- events one after the other
pub after-nil : (xs : List FullPair) → full_pairs_after [] xs ≡ xs
after-nil xs = same-all (full_pair_after []) (λ x. refl) xs

pub after-append : (es fs : List Event) (xs : List FullPair) →
    full_pairs_after (es ++ fs) xs ≡ full_pairs_after fs (full_pairs_after es xs)
after-append es fs [] = refl
after-append es fs (x ∷ xs) =
    ap (λ v. record x { profile = v } ∷ full_pairs_after (es ++ fs) xs)
    (fold-append after_full_event x.profile es fs)
    ∙ ap (λ l. full_pair_after fs (full_pair_after es x) ∷ l) (after-append es fs xs)

-- what is known of each profile, by what it was fed
pub fed-each : (n : ℕ) (es : List Event) (refs : List Ref) (xs : List FullPair) →
    AreFedFull n es xs →
    AreFedFull (n + length refs) (es ++ as_events refs) (full_pairs_fed refs xs)
fed-each n es refs [] h = tt
fed-each n es refs (x ∷ xs) h = (fed_batch refs h.0, fed-each n es refs xs h.1)

flushed-each : (n : ℕ) (es : List Event) (xs : List FullPair) → AreFedFull n es xs →
    AreFedFull n (es ++ event.Flush ∷ []) (map full_pair_flushed xs)
flushed-each n es [] h = tt
flushed-each n es (x ∷ xs) h = (fed_flush h.0, flushed-each n es xs h.1)

at-most : (n m : ℕ) (es : List Event) (xs : List FullPair) → n ≤ m → AreFedFull n es xs →
    FedFullAtMost m xs
at-most n m es xs le h =
    Each-weaker (λ x. IsLagging n es x.profile) (λ x. fed_of x.profile.plain ≤ m)
    (λ x fed. omega (arith, fed.lags.few, le)) xs h

-- references that wait
pub waiting-few : (n : ℕ) (refs : List Ref) (xs : List FullPair) → FullWaiting n refs xs →
    n ≤ most_references → Each (λ x. fed_of x.profile.plain + length refs ≤ most_references) xs
waiting-few n refs xs h most =
    Each-weaker (λ x. IsLagging h.before h.events x.profile)
    (λ x. fed_of x.profile.plain + length refs ≤ most_references)
    (λ x fed. omega (arith, fed.lags.few, h.within, most)) xs h.fed

pub waiting-alike : (n : ℕ) (refs : List Ref) (xs : List FullPair) → FullWaiting n refs xs →
    WereFedAlike xs
waiting-alike n refs xs h = record { count = h.before; events = h.events; fed = h.fed }

pub waiting-fed : (n : ℕ) (refs : List Ref) (xs ys : List FullPair) → FullWaiting n refs xs →
    ys ≡ full_pairs_fed refs xs → FullWaiting n [] ys
waiting-fed n refs xs ys h is = record {
  before = h.before + length refs;
  events = h.events ++ as_events refs;
  fed = subst (AreFedFull (h.before + length refs) (h.events ++ as_events refs)) (sym is)
      (fed-each h.before h.events refs xs h.fed);
  within = omega (arith, h.within);
}

pub waiting-behind : (n : ℕ) (refs : List Ref) (xs : List FullPair) → FullWaiting n refs xs →
    FedFullAtMost n (full_pairs_fed refs xs)
waiting-behind n refs xs h = at-most (h.before + length refs) n (h.events ++ as_events refs)
    (full_pairs_fed refs xs) h.within (fed-each h.before h.events refs xs h.fed)

pub waiting-flushed : (n : ℕ) (xs ys : List FullPair) → FullWaiting n [] xs →
    ys ≡ map full_pair_flushed xs → FullWaiting n [] ys
waiting-flushed n xs ys h is = record {
  before = h.before;
  events = h.events ++ event.Flush ∷ [];
  fed = subst (AreFedFull h.before (h.events ++ event.Flush ∷ [])) (sym is)
      (flushed-each h.before h.events xs h.fed);
  within = h.within;
}

-- nothing was fed yet
new-fed : (x : FullPair) → IsNewPair x → IsLagging 0 [] x.profile
new-fed x h =
    let g : GeometryValue = x.profile.plain.geometry in
    record { geometry = h.geometry; lags = subst (LagsBehind 0 g []) (sym h.is) (lags_new g) }

new-each : (xs : List FullPair) → Each IsNewPair xs → AreFedFull 0 [] xs
new-each [] h = tt
new-each (x ∷ xs) h = (new-fed x h.0, new-each xs h.1)

pub waiting-start : (xs : List FullPair) → Each IsNewPair xs → FullWaiting 0 [] xs
waiting-start xs h = record {
  before = 0;
  events = [];
  fed = new-each xs h;
  within = omega arith;
}

pub caught-none : (xs : List FullPair) → full_pairs_caught 0 xs ≡ xs
caught-none xs = same-all (full_pair_caught 0) (λ x. ap (λ v. record x { profile = v })
    (ap (λ k. after_settled k x.profile) {x = 0 - fed_of x.profile.plain} {y = 0}
    (omega arith) ∙ settled_none x.profile)) xs

-- A profile may count more references than it was fed.
more-caught : (n m : ℕ) (es : List Event) (v : FullState) → n ≤ m → IsLagging n es v →
    fed_of v.plain ≤ m
more-caught n m es v le h = omega (arith, h.lags.few, le)

caught-later : (n m : ℕ) (es : List Event) (r : Ref) (xs : List FullPair) → n ≤ m →
    AreFedFull n es xs → full_pairs_caught (m + 1) (full_pairs_fed (r ∷ []) xs)
    ≡ full_pairs_after (event.Reference r ∷ []) (full_pairs_caught m xs)
caught-later n m es r [] le h = refl
caught-later n m es r (x ∷ xs) le h =
    ap (λ v. record x { profile = v } ∷ full_pairs_caught (m + 1) (full_pairs_fed (r ∷ []) xs))
    (caught_more m x.profile r (fit_fed h.0) (more-caught n m es x.profile le h.0))
    ∙ ap (λ l. record x { profile = after_full_reference (with_settled m x.profile) r } ∷ l)
    (caught-later n m es r xs le h.1)

-- no reference and no flush changes a block size
no-finer-one : (bits : ℕ) (refs : List Ref) (v : FullState) → bits ≤ v.plain.geometry.b →
    bits ≤ (after_full_batch v refs).plain.geometry.b
no-finer-one bits [] v le = le
no-finer-one bits (r ∷ refs) v le = no-finer-one bits refs (after_unless_settled v r)
    (omega (arith, le, ap (λ g. g.b) (geometry_unless v r)))

pub no-finer-fed : (bits : ℕ) (refs : List Ref) (xs : List FullPair) → AreNoFinerFull bits xs →
    AreNoFinerFull bits (full_pairs_fed refs xs)
no-finer-fed bits refs [] h = tt
no-finer-fed bits refs (x ∷ xs) h =
    (no-finer-one bits refs x.profile h.0, no-finer-fed bits refs xs h.1)

pub no-finer-flushed : (bits : ℕ) (xs : List FullPair) → AreNoFinerFull bits xs →
    AreNoFinerFull bits (map full_pair_flushed xs)
no-finer-flushed bits [] h = tt
no-finer-flushed bits (x ∷ xs) h = (h.0, no-finer-flushed bits xs h.1)

pub finest-small : (xs : List FullPair) → finest_full_bits xs ≤ 20
finest-small xs = finest-most (λ (x : FullPair). x.profile.plain.geometry.b) 20 xs

pub finest-finer : (xs : List FullPair) → AreNoFinerFull (finest_full_bits xs) xs
finest-finer xs = finest-each (λ (x : FullPair). x.profile.plain.geometry.b) 20 xs

-- the second of two references changes nothing if it repeats the first
again : (n bits : ℕ) (es : List Event) (v : FullState) (a r : Ref) → IsLagging n es v →
    bits ≤ v.plain.geometry.b → is_repeated bits a r ≡ true →
    after_full_batch v (a ∷ r ∷ []) ≡ after_full_batch v (a ∷ [])
again n bits es v a r h le is =
    let parts = and_parts _ _ is in
    let same : block_of v.plain.geometry a.addr ≡ block_of v.plain.geometry r.addr =
    same-block bits v.plain.geometry.b a.addr r.addr le (eqb-true _ _ parts.0) in
    let w : FullState = after_unless_settled v a in
    ap (λ b. cond b w (after_full_reference w r))
    (settled_again v a r (fit_fed h) same parts.1)

again-each : (n bits : ℕ) (es : List Event) (a r : Ref) (xs : List FullPair) →
    AreFedFull n es xs → AreNoFinerFull bits xs → is_repeated bits a r ≡ true →
    full_pairs_fed (a ∷ r ∷ []) xs ≡ full_pairs_fed (a ∷ []) xs
again-each n bits es a r [] h finer is = refl
again-each n bits es a r (x ∷ xs) h finer is =
    ap (λ v. record x { profile = v } ∷ full_pairs_fed (a ∷ r ∷ []) xs)
    (again n bits es x.profile a r h.0 finer.0 is)
    ∙ ap (λ l. full_pair_fed (a ∷ []) x ∷ l) (again-each n bits es a r xs h.1 finer.1 is)

module _ (n bits : ℕ) (refs : List Ref) (xs : List FullPair) (h : FullWaiting n refs xs)
    (finer : AreNoFinerFull bits xs) (r : Ref) where
  repeated : repeats_last bits refs r ≡ true →
      full_pairs_fed (refs ++ r ∷ []) xs ≡ full_pairs_fed refs xs
  repeated is =
      let m = length refs - 1 in
      let a : Ref = get_or refs m (at Read 0) in
      let parts = and_parts _ _ is in
      let some : 0 < length refs = ltb-true 0 (length refs) parts.0 in
      let before : List Ref = take m refs in
      let whole : refs ≡ before ++ a ∷ [] =
      sym (take_all (m + 1) refs (omega (arith, some)))
      ∙ take_more refs m (at Read 0) (omega (arith, some)) in
      let ys = full_pairs_fed before xs in
      ap (λ l. full_pairs_fed (l ++ r ∷ []) xs) whole
      ∙ fed-append (before ++ a ∷ []) (r ∷ []) xs
      ∙ ap (full_pairs_fed (r ∷ [])) (fed-append before (a ∷ []) xs)
      ∙ sym (fed-append (a ∷ []) (r ∷ []) ys)
      ∙ again-each (h.before + length before) bits (h.events ++ as_events before) a r ys
      (fed-each h.before h.events before xs h.fed) (no-finer-fed bits before xs finer) parts.1
      ∙ sym (fed-append before (a ∷ []) xs)
      ∙ ap (λ l. full_pairs_fed l xs) (sym whole)

  -- one more of those that a kind keeps waits, or need not
  pub waiting-with : FullWaiting (n + 1) (with_waiting_ref bits refs r) xs
  waiting-with =
      cases (λ b. FullWaiting (n + 1) (cond b refs (refs ++ r ∷ [])) xs)
      (repeats_last bits refs r)
      (λ t. record {
        before = h.before;
        events = h.events;
        fed = h.fed;
        within = omega (arith, h.within);
      })
      (λ f. record {
        before = h.before;
        events = h.events;
        fed = h.fed;
        within = omega (arith, h.within, length-append refs (r ∷ []));
      })

  pub fed-with : full_pairs_fed (with_waiting_ref bits refs r) xs
      ≡ full_pairs_fed (refs ++ r ∷ []) xs
  fed-with =
      cases (λ b. repeats_last bits refs r ≡ b →
      full_pairs_fed (cond b refs (refs ++ r ∷ [])) xs ≡ full_pairs_fed (refs ++ r ∷ []) xs)
      (repeats_last bits refs r) (λ t is. sym (repeated is)) (λ f is. refl) refl

  pub kept-waits : (kind : Kind) → is_kept kind r.access ≡ true →
      full_pairs_caught (n + 1) (full_pairs_fed (with_waiting_ref bits refs r) xs)
      ≡ full_pairs_after (kept_events kind (r ∷ []))
      (full_pairs_caught n (full_pairs_fed refs xs))
  kept-waits kind kept =
      ap (full_pairs_caught (n + 1)) (fed-with ∙ fed-append refs (r ∷ []) xs)
      ∙ caught-later (h.before + length refs) n (h.events ++ as_events refs) r
      (full_pairs_fed refs xs) h.within (fed-each h.before h.events refs xs h.fed)
      ∙ ap (λ b. full_pairs_after (map (λ x. event.Reference x) (cond b (r ∷ []) []))
      (full_pairs_caught n (full_pairs_fed refs xs))) (sym kept)

pub left-caught : (kind : Kind) (r : Ref) (xs : List FullPair) → is_kept kind r.access ≡ false →
    xs ≡ full_pairs_after (kept_events kind (r ∷ [])) xs
left-caught kind r xs left =
    sym (after-nil xs) ∙
    ap (λ b. full_pairs_after (map (λ x. event.Reference x) (cond b (r ∷ []) [])) xs) (sym left)

-- a flush
pub caught-flush : (n : ℕ) (xs : List FullPair) →
    full_pairs_caught n (map full_pair_flushed xs)
    ≡ full_pairs_after (event.Flush ∷ []) (full_pairs_caught n xs)
caught-flush n [] = refl
caught-flush n (x ∷ xs) =
    let k : ℕ = n - fed_of x.profile.plain in
    ap (λ v. record x { profile = v } ∷ full_pairs_caught n (map full_pair_flushed xs))
    (sym (flush_settled k x.profile))
    ∙ ap (λ l. record x { profile = after_full_flush (after_settled k x.profile) } ∷ l)
    (caught-flush n xs)

-- the end
pub ended-is : (n : ℕ) (es : List Event) (old xs : List FullPair) →
    full_pairs_caught n xs ≡ full_pairs_after es old →
    full_pairs_ended n xs ≡ full_pairs_after_all es old
ended-is n es old xs caught =
    sym (map-map ending (full_pair_caught n) xs) ∙ ap (map ending) caught
    ∙ map-map ending (full_pair_after es) old
  where
    ending : FullPair → FullPair
    ending x = record x { profile = after_end x.profile }
