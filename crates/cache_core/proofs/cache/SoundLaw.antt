-- The machine stays sound, whatever references and flushes come.
use Rattle.std.proofs.Common.{◌≡◌, ℕ, ◌+◌, ◌<◌, ◌≤◌, Bool, true, false, List, [], ◌∷◌, length}
use Rattle.std.proofs.Common.{get_or, Option, Some, None, sym, ap, refl, subst, arith, ⊎_elim, map}
use Rattle.std.proofs.Common.{find, length-set, length-append}
use Rattle.std.specs.Prelude.{MatchBool, remove, fold}
use Rattle.std.proofs.lemmas.List.{length-map}
use Rattle.std.proofs.lemmas.List.Edits.{length-remove}
use Rattle.std.proofs.lemmas.List.Quantifiers.{position-Some}
use Rattle.std.proofs.lemmas.Option.{slice_get-get_or}
use Rattle.std.proofs.lemmas.Bool.{cases_lt}
use Rattle.trace_core.specs.declared.events.Ref.{Ref}
use Rattle.trace_core.specs.declared.events.Event.{Event}
use Rattle.trace_core.specs.declared.events.Event.TheVariants as event
use Rattle.cache_core.specs.declared.outcome.Slot.{Slot}
use Rattle.cache_core.specs.declared.outcome.Outcome.{Outcome}
use Rattle.cache_core.specs.declared.design.Design.{Design}
use Rattle.cache_core.specs.declared.design.Repl.{Repl}
use Rattle.cache_core.specs.Geometry.{set_of_block, block_of}
use Rattle.cache_core.specs.cache.Outcomes.{outcome_of, on_hit, on_placing, on_passing, is_dirtied}
use Rattle.cache_core.specs.cache.Outcomes.{is_allocated}
use Rattle.cache_core.specs.cache.Machine.{Machine, MachineState, slot_of, is_block, lines_of_set}
use Rattle.cache_core.specs.cache.Machine.{start, step, next, run}
use Rattle.cache_core.specs.cache.Order.{Visits, VisitsAt, Fills, PassesOn, Moves, TakesIn}
use Rattle.cache_core.specs.cache.Order.{with_slot_at, victim_at, with_dirty_at, position_of}
use Rattle.cache_core.specs.cache.Order.{random_numbers_after}
use Rattle.cache_core.specs.replacement.Rules.{Place, InFront, InPlace, rules}
use Rattle.cache_core.specs.cache.Stands.{IsSoundState}
use Rattle.cache_core.proofs.cache.StateLaw.{step_agrees, sound_step}
use Rattle.cache_core.proofs.cache.Visits.{at_each}
use Rattle.cache_core.proofs.cache.FlushLaw.{start_sound, empty_good}
use Rattle.cache_core.proofs.replacement.Lawful.{marked_length, victim_within}

touch_exists : (p : Place) (slots : List Slot) (at : ℕ) → at < length slots →
    (new : List Slot) × Moves p slots at new × (length new ≡ length slots)
touch_exists InFront slots at h =
    let x = get_or slots at (record { block = 0; dirty = false }) in (
      x ∷ remove slots at,
      (
        x,
        slice_get-get_or slots at (record { block = 0; dirty = false }) h,
        refl,
      ),
      omega (arith, length-remove slots at h),
    )
touch_exists InPlace slots at h = (slots, refl, refl)

record Placed (policy : Repl) (number capacity : ℕ) (slots : List Slot) (slot : Slot) : Type 0 where
  evicted : Option Slot
  new : List Slot
  places : TakesIn (Some policy) number capacity slots slot evicted new
  few : length new ≤ capacity

length-pushed : (p : Place) (slot : Slot) (slots : List Slot) →
    length (with_slot_at p slot None slots) ≡ length slots + 1
length-pushed p slot slots = grind (arith, length-append)

length-exchanged : (p : Place) (slot : Slot) (at : ℕ) (slots : List Slot) → at < length slots →
    length (with_slot_at p slot (Some at) slots) ≡ length slots
length-exchanged p slot at slots h = grind (arith, length-remove, length-set)

place_exists : (policy : Repl) (number capacity : ℕ) (slots : List Slot) (slot : Slot) →
    0 < capacity → length slots ≤ capacity →
    Placed policy number capacity slots slot
place_exists policy number capacity slots slot r l =
    let to = (rules policy).placed in
    let at = victim_at (rules policy).victim number slots in
    let none : Slot = record { block = 0; dirty = false } in
    ⊎_elim
    (λ (t : length slots < capacity).
    record {
      evicted = None;
      new = with_slot_at to slot None slots;
      places = (t, refl);
      few =
          omega (arith, t, length-pushed to slot slots);
    })
    (λ (f : capacity ≤ length slots).
    let within = victim_within (rules policy).victim number slots (omega arith) in
    record {
      evicted = Some (get_or slots at none);
      new = with_slot_at to slot (Some at) slots;
      places = (omega arith, (slice_get-get_or slots at none within, refl));
      few = omega (arith, l, length-exchanged to slot at slots within);
    })
    (cases_lt (length slots) capacity)

-- some visit of a set, whatever the reference
pub record Visited (d : Design) (p : Repl) (numbers : ℕ → ℕ) (ref : Ref)
    (slots : List Slot) : Type 0 where
  pub outcome : Outcome
  pub new : List Slot
  pub rest : ℕ → ℕ
  pub visit : Visits d (Some p) numbers ref slots outcome new rest
  pub few : length new ≤ d.geometry.e

pub visit_exists : (d : Design) (p : Repl) (numbers : ℕ → ℕ) (ref : Ref) (slots : List Slot) →
    0 < d.geometry.e → length slots ≤ d.geometry.e →
    Visited d p numbers ref slots
visit_exists d p numbers ref slots r l = by_index (position_of b slots) refl
  where
    b : ℕ
    b = block_of d.geometry ref.addr

    by_alloc : (al : Bool) →
        (outcome : Outcome) × (new : List Slot) × (rest : ℕ → ℕ)
        × MatchBool al (Fills d (Some p) numbers ref slots outcome new rest)
        (PassesOn numbers ref slots outcome new rest) × (length new ≤ d.geometry.e)
    by_alloc true =
        let x = place_exists p (numbers 0) d.geometry.e slots (record {
          block = b;
          dirty =
              is_dirtied d.write ref.access;
        }) r l in (
          outcome_of (on_placing d.geometry d.write ref b x.evicted),
          x.new,
          random_numbers_after (Some p) x.evicted numbers,
          record { order = x.places; undrawn = refl; effect = refl },
          x.few,
        )
    by_alloc false = (
      outcome_of (on_passing ref),
      slots,
      numbers,
      record {
        order = refl;
        undrawn =
            refl;
        effect = refl;
      },
      l,
    )

    visited : (index : Option ℕ) (outcome : Outcome) (new : List Slot) (rest : ℕ → ℕ) →
        position_of b slots ≡ index →
        VisitsAt index d (Some p) numbers ref slots outcome new rest → length new ≤ d.geometry.e →
        Visited d p numbers ref slots
    visited index outcome new rest e v few = record {
      outcome = outcome;
      new = new;
      rest = rest;
      visit = subst (λ o. VisitsAt o d (Some p) numbers ref slots outcome new rest) (sym e) v;
      few = few;
    }

    by_index : (o : Option ℕ) → position_of b slots ≡ o → Visited d p numbers ref slots
    by_index None e = let x = by_alloc (is_allocated d.allocate ref.access) in
        visited None x.0 x.1 x.2 e x.3 x.4
    by_index (Some at) e =
        let s = with_dirty_at (is_dirtied d.write ref.access) slots at in
        let same : length s ≡ length slots =
        marked_length (is_dirtied d.write ref.access) slots at in
        let h : at < length s = omega (
          arith,
          (position-Some _ slots at (record { block = 0; dirty = false }) e).0,
          same,
        ) in
        let x = touch_exists (rules p).touched s at h in
        visited (Some at) (outcome_of (on_hit d.write ref)) x.0 numbers e
        (record { order = x.1; undrawn = refl; effect = refl })
        (omega (arith, x.2, same))

-- no set has more lines than ways
abbrev pub IsFew : Machine → MachineState → Type 0
IsFew m st = (k : ℕ) → length (lines_of_set m.design.geometry k st.lines) ≤ m.design.geometry.e

pub sound_ref : (m : Machine) (st : MachineState) (ref : Ref) → 0 < m.design.geometry.e →
    IsSoundState m st → IsFew m st →
    IsSoundState m (step m st ref).after × IsFew m (step m st ref).after
sound_ref m st ref r s f =
    let g = m.design.geometry in
    let b = block_of g ref.addr in
    let k = set_of_block g b in
    let numbers : ℕ → ℕ = λ n. m.random_numbers (st.drawn + n) in
    let here = lines_of_set g k st.lines in
    let v = visit_exists m.design m.policy numbers ref (map slot_of here) r
    (omega (arith, f k, length-map here slot_of)) in
    let a = step_agrees m st ref numbers v.outcome v.new v.rest s refl (find (is_block b) st.lines)
    refl v.visit in (
      sound_step m st (step m st ref) k v.new v.rest v.outcome s a,
      at_each (λ i. length (lines_of_set g i (step m st ref).after.lines) ≤ g.e) k
          (omega (
            arith,
            v.few,
            ap length a.held,
            length-map (lines_of_set g k (step m st ref).after.lines) slot_of,
          ))
          (λ j ne. rw (a.others j ne) (f j)),
    )

pub sound_next : (m : Machine) (st : MachineState) (e : Event) → 0 < m.design.geometry.e →
    IsSoundState m st → IsFew m st →
    IsSoundState m (next m st e) × IsFew m (next m st e)
sound_next m st (event.Reference ref) r s f = sound_ref m st ref r s f
sound_next m st event.Flush r s f = (
  (λ k. empty_good (rules m.policy).placed st.clock),
  (λ k. omega arith),
)

fold_sound : (m : Machine) (st : MachineState) (events : List Event) → 0 < m.design.geometry.e →
    IsSoundState m st → IsFew m st →
    IsSoundState m (fold (next m) st events) × IsFew m (fold (next m) st events)
fold_sound m st [] r s f = (s, f)
fold_sound m st (e ∷ events) r s f = let n = sound_next m st e r s f in
    fold_sound m (next m st e) events r n.0 n.1

pub run_sound : (m : Machine) (events : List Event) → 0 < m.design.geometry.e →
    IsSoundState m (run m events) × IsFew m (run m events)
run_sound m events r = fold_sound m start events r (start_sound m) (λ k. omega arith)
