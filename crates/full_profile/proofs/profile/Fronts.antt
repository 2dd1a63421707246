-- References that find their block in front.
use Rattle.std.proofs.Common.{◌≡◌, ℕ, ◌+◌, ◌-◌, ◌<◌, ◌≤◌, Bool, true, false, not, ◌&&◌}
use Rattle.std.proofs.Common.{◌||◌, cond, eqb, max, List, [], ◌∷◌, length, take, get_or, set}
use Rattle.std.proofs.Common.{refl, sym, ◌∙◌, ap, subst, arith}
use Rattle.std.specs.List.{remove}
use Rattle.std.proofs.lemmas.Bool.{le-ltb, eqb-true, ne_eqb, and_parts}
use Rattle.std.proofs.lemmas.List.{set-get_or, take_all}
use Rattle.trace_core.specs.declared.events.Access.{Access}
use Rattle.trace_core.specs.declared.events.Ref.{Ref}
use Rattle.trace_core.specs.Events.{is_write}
use Rattle.cache_core.specs.Geometry.{GeometryValue, block_of, set_of_block}
use Rattle.profile_core.specs.profile.RecencyList.{index_of, is_in, is_front}
use Rattle.profile_core.specs.profile.State.{list_of, fed_of}
use Rattle.profile_core.specs.internal.profile.StackProfile.{most_references, IsSound}
use Rattle.profile_core.specs.profile.State.{one_more_at}
use Rattle.profile_core.specs.internal.profile.StackProfile.{IsFit}
use Rattle.profile_core.specs.profile.Fronts.{after_fronts}
use Rattle.profile_core.proofs.profile.Feeding.{found_front}
use Rattle.profile_core.proofs.profile.Fronts.{front_reference, counted_sound}
use Rattle.full_profile.specs.State.{FullState, KindState, cleans_of, clean_in_front, kind_number}
use Rattle.full_profile.specs.State.{kind_of, with_miss}
use Rattle.full_profile.specs.State.{after_reference_in_lists, after_full_reference}
use Rattle.full_profile.specs.Batches.{is_settled, after_settled}
use Rattle.full_profile.specs.internal.Copies.{CopiesValue, with_copy, copies_of}
use Rattle.full_profile.specs.internal.Marked.{Marked, blocks_in, cleans_in, cleans_after}
use Rattle.full_profile.specs.internal.Marked.{after_write_in_front}
use Rattle.full_profile.specs.internal.Sound.{IsFullSound, IsFullFit, full_state_of, plain_lists}
use Rattle.full_profile.proofs.profile.Fit.{fit_after}
use Rattle.full_profile.proofs.profile.Steps.{state_same, reference_is, copies_after}
use Rattle.full_profile.proofs.profile.Sounds.{settled_is, plain_fit}

first_put : (d c : ℕ) (ms : List ℕ) → 0 < length ms → length ms ≤ d →
    take d (c ∷ remove ms 0) ≡ set ms 0 c
first_put d c [] some short = absurd (omega arith)
first_put d c (m ∷ ms) some short = take_all d (c ∷ ms) (omega (arith, short))

no_copy : (a u : ℕ) (c : CopiesValue) → u ≡ 0 → with_copy a u c ≡ c
no_copy a u c none = ap (λ b. cond b (record {
  above = one_more_at c.above a;
  up_to = one_more_at c.up_to u;
}) c) (le-ltb a u (omega (arith, none)))

module _ {v : FullState} (f : IsFullFit v) (fit : IsFit v.plain) (access : Access) (x : ℕ)
    (front : is_front x (list_of v.plain (set_of_block v.plain.geometry x)) ≡ true) where
  abbrev k : ℕ
  k = set_of_block v.plain.geometry x

  abbrev xs : List ℕ
  xs = list_of v.plain k

  abbrev ms : List ℕ
  ms = cleans_of v k

  abbrev clean : ℕ
  clean = clean_in_front v.plain.geometry.e access x xs ms

  first : index_of x xs ≡ 0
  first = (found_front x xs front).distance_is

  pub some_there : 0 < length xs
  some_there = (found_front x xs front).within

  cleans_are : cleans_after v.plain.geometry.e access x xs ms ≡ set ms 0 clean
  cleans_are = ap (λ i. take v.plain.geometry.e (clean ∷ remove ms i)) first
      ∙ first_put v.plain.geometry.e clean ms (omega (arith, some_there, f.same_lengths k))
      (omega (arith, fit.short k, f.same_lengths k))

  copies_stay : copies_after v.plain.geometry.e x xs ms (copies_of v) ≡ copies_of v
  copies_stay = ap (λ b. cond b (with_copy (get_or ms (index_of x xs) 0) (index_of x xs)
      (copies_of v)) (cond (eqb (length xs) v.plain.geometry.e)
      (with_copy (get_or ms (v.plain.geometry.e - 1) 0) v.plain.geometry.e (copies_of v))
      (copies_of v))) (found_front x xs front).inside
      ∙ no_copy (get_or ms (index_of x xs) 0) (index_of x xs) (copies_of v) first

  -- only the clean depth in front changes, and the number of fronts
  pub front_is : after_reference_in_lists v access x xs ms ≡ record v {
    plain = after_fronts 1 v.plain;
    cleans = set v.cleans k (set ms 0 clean);
  }
  front_is = reference_is v access x xs ms
      ∙ state_same _ _ (front_reference v.plain x fit front) (ap (set v.cleans k) cleans_are)
      (ap (λ b. cond b v.kinds (set v.kinds (kind_number access)
      (with_miss x xs (kind_of v access)))) front) copies_stay

  -- or only that, if the clean depth is the same
  pub front_settled : clean ≡ get_or ms 0 0 →
      after_reference_in_lists v access x xs ms ≡ after_settled 1 v
  front_settled same = front_is ∙ ap (λ l. record v {
    plain = after_fronts 1 v.plain;
    cleans = l;
  }) (ap (λ c. set v.cleans k (set ms 0 c)) same ∙ ap (set v.cleans k) (set-get_or ms 0 0)
      ∙ set-get_or v.cleans k [])

  pub clean_written : is_write access ≡ true → clean ≡ 0
  clean_written written = ap (λ b. cond b 0 (cond (is_in x xs)
      (max (get_or ms (index_of x xs) 0) (index_of x xs)) v.plain.geometry.e)) written

  pub clean_read : is_write access ≡ false → clean ≡ get_or ms 0 0
  clean_read read = ap (λ b. cond b 0 (cond (is_in x xs)
      (max (get_or ms (index_of x xs) 0) (index_of x xs)) v.plain.geometry.e)) read
      ∙ ap (λ b. cond b (max (get_or ms (index_of x xs) 0) (index_of x xs)) v.plain.geometry.e)
      (found_front x xs front).inside
      ∙ ap (λ i. max (get_or ms i 0) i) first ∙ omega arith

-- a settled reference
settled_clean : (w : Bool) (a b c : ℕ) → (not w || eqb b 0) ≡ true →
    (w ≡ true → a ≡ 0) → (w ≡ false → a ≡ b) → a ≡ b
settled_clean true a b c settled written read =
    written refl ∙ sym (eqb-true b 0 settled)
settled_clean false a b c settled written read = read refl

pub settled_reference : {v : FullState} → IsFullFit v → IsFit v.plain → (r : Ref) →
    is_settled v r ≡ true → after_full_reference v r ≡ after_settled 1 v
settled_reference {v} f fit r settled =
    let x : ℕ = block_of v.plain.geometry r.addr in
    let k : ℕ = set_of_block v.plain.geometry x in
    let parts = and_parts (is_front x (list_of v.plain k))
    (not (is_write r.access) || eqb (get_or (cleans_of v k) 0 0) 0) settled in
    front_settled f fit r.access x parts.0
    (settled_clean (is_write r.access) _ (get_or (cleans_of v k) 0 0) 0 parts.1
    (clean_written f fit r.access x parts.0) (clean_read f fit r.access x parts.0))

-- a write of a front that some cache holds clean
pub unsettled_write : (f w : Bool) (b : ℕ) → w ≡ true → (b ≡ 0 → ⊥) →
    (f && (not w || eqb b 0)) ≡ false
unsettled_write false w b written other = refl
unsettled_write true w b written other = ap (λ t. not t || eqb b 0) written ∙ ne_eqb b 0 other

-- the code writes the front
module _ {g : GeometryValue} {m : Marked} {distances missed : List ℕ} {kinds : List KindState}
    {copies : CopiesValue}
    (h : IsFullSound g m distances missed kinds copies) (m' : Marked) (k x : ℕ)
    (access : Access) (of_set : k ≡ set_of_block g x) (front : is_front x (blocks_in m k) ≡ true)
    (written : is_write access ≡ true) (moved : m' ≡ after_write_in_front m k) {n : ℕ}
    (read : n ≡ get_or distances 0 n) where
  abbrev state : FullState
  state = full_state_of g m distances missed kinds copies

  front_there : is_front x (list_of state.plain (set_of_block g x)) ≡ true
  front_there = ap (λ j. is_front x (blocks_in m j)) (sym of_set) ∙ front

  pub written_after : full_state_of g m' (set distances 0 (n + 1)) missed kinds copies
      ≡ after_reference_in_lists state access x (list_of state.plain (set_of_block g x))
      (cleans_of state (set_of_block g x))
  written_after =
      ap (λ l. full_state_of g l (set distances 0 (n + 1)) missed kinds copies) moved
      ∙ ap (λ (w : FullState). record w { cleans = set m.cleans k (set (cleans_in m k) 0 0) })
      (settled_is h read 1)
      ∙ ap (λ j. record (after_settled 1 state) {
        cleans = set m.cleans j (set (cleans_in m j) 0 0);
      }) of_set
      ∙ ap (λ c. record (after_settled 1 state) {
        cleans = set m.cleans (set_of_block g x)
            (set (cleans_in m (set_of_block g x)) 0 c);
      }) (sym (clean_written h.fit (plain_fit h) access x front_there written))
      ∙ sym (front_is h.fit (plain_fit h) access x front_there)

  pub written_sound : fed_of state.plain + 1 ≤ most_references →
      IsFullSound g m' (set distances 0 (n + 1)) missed kinds copies
  written_sound few = record {
    plain = subst (λ l. IsSound g l (set distances 0 (n + 1)) missed) (sym (ap plain_lists moved))
        (counted_sound h.plain refl read 1 few);
    fit = subst IsFullFit (sym written_after) (fit_after h.fit (plain_fit h) access x);
  }
