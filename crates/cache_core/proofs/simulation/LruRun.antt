-- The LRU machine with write-allocate holds the fronts of the stacks, after every list of events.
use Rattle.std.proofs.Common.{◌≡◌, ℕ, ◌+◌, ◌≤◌, Bool, not, cond, List, [], ◌∷◌, ◌++◌, take, map}
use Rattle.std.proofs.Common.{append_assoc, append-nil, refl, sym, ◌∙◌, ap, subst, arith, find}
use Rattle.std.specs.Prelude.{is_some, fold}
use Rattle.std.specs.List.{list_any, count_by}
use Rattle.std.proofs.lemmas.List.Folds.{list_any_kept}
use Rattle.std.proofs.lemmas.List.{length-map}
use Rattle.std.proofs.lemmas.List.Sums.{sum_by-cons}
use Rattle.trace_core.specs.declared.events.Ref.{Ref}
use Rattle.trace_core.specs.declared.events.Event.{Event}
use Rattle.trace_core.specs.declared.events.Event.TheVariants as event
use Rattle.cache_core.specs.declared.design.WriteMode.{WriteMode}
use Rattle.cache_core.specs.declared.design.Repl.TheVariants.{Lru}
use Rattle.cache_core.specs.Geometry.{GeometryValue, block_of, set_of_block}
use Rattle.cache_core.specs.cache.Outcomes.{Effect}
use Rattle.cache_core.specs.cache.Machine.{Machine, MachineState, Line, slot_of, is_block}
use Rattle.cache_core.specs.cache.Machine.{lines_of_set, start, step, next, run, with_effects_from}
use Rattle.cache_core.specs.cache.Machine.{effects}
use Rattle.cache_core.specs.cache.Stands.{IsSoundState}
use Rattle.cache_core.specs.Windows.{Occurrence, window, window_after, distinct_of_set, is_hit}
use Rattle.cache_core.specs.Windows.{is_evict, occurrences, counts}
use Rattle.cache_core.specs.LruLaws.{lru_machine, is_held, HitLaw, VictimLaw, CountLaw, NextLaw}
use Rattle.cache_core.specs.LruLaws.{HitInclusion, HeldInclusion}
use Rattle.cache_core.proofs.Lists.{is}
use Rattle.cache_core.proofs.Distances.{distinct_of_set-nil, distinct_of_set-other}
use Rattle.cache_core.proofs.Occurrences.{occurrences_from, occurrences-from, window-nil}
use Rattle.cache_core.proofs.Occurrences.{window-push}
use Rattle.cache_core.proofs.cache.StateLaw.{step_agrees}
use Rattle.cache_core.proofs.cache.SoundLaw.{IsFew, visit_exists, sound_ref}
use Rattle.cache_core.proofs.simulation.LruSet.{blocks_of, visit_moves}

-- the effects from a state
abbrev pub effects_from : Machine → MachineState → List Event → List Effect
effects_from m st events = map (λ p. p.1) (with_effects_from m st events)

abbrev pub blocks_in : List Line → List ℕ
blocks_in lines = map (λ line. line.block) lines

blocks_slots : (lines : List Line) → blocks_of (map slot_of lines) ≡ blocks_in lines
blocks_slots [] = refl
blocks_slots (l ∷ ls) = ap (λ xs. l.block ∷ xs) (blocks_slots ls)

-- a sound state whose sets hold the fronts of the window's stacks
pub record IsStacked (g : GeometryValue) (write : WriteMode) (w : List ℕ)
    (st : MachineState) : Type 0 where
  pub sound : IsSoundState (lru_machine g write) st
  pub few : IsFew (lru_machine g write) st
  pub fronts : (k : ℕ) → blocks_in (lines_of_set g k st.lines) ≡ take g.e (distinct_of_set g k w)

take_nil : (n : ℕ) → take {A = ℕ} n [] ≡ []
take_nil n = grind arith

pub stacked_start : (g : GeometryValue) (write : WriteMode) → IsStacked g write [] start
stacked_start g write = grind (arith, distinct_of_set-nil)

-- one reference
record FollowsWindow (g : GeometryValue) (write : WriteMode) (w : List ℕ) (st : MachineState)
    (ref : Ref) : Type 0 where
  stacked : IsStacked g write (block_of g ref.addr ∷ w) (step (lru_machine g write) st ref).after
  hits : (step (lru_machine g write) st ref).effect.hit ≡ is_hit g
      (record { block = block_of g ref.addr; window = w })
  evicts : is_some (step (lru_machine g write) st ref).effect.evicted ≡ is_evict g
      (record { block = block_of g ref.addr; window = w })

follows : (g : GeometryValue) (write : WriteMode) (w : List ℕ) (st : MachineState) (ref : Ref) →
    1 ≤ g.e → IsStacked g write w st →
    FollowsWindow g write w st ref
follows g write w st ref some h =
    let m : Machine = lru_machine g write in
    let x : ℕ = block_of g ref.addr in
    let k : ℕ = set_of_block g x in
    let here : List Line = lines_of_set g k st.lines in
    let numbers : ℕ → ℕ = λ n. m.random_numbers (st.drawn + n) in
    let v = visit_exists m.design Lru numbers ref (map slot_of here) some
    (omega (arith, h.few k, length-map here slot_of)) in
    let a = step_agrees m st ref numbers v.outcome v.new v.rest h.sound refl
    (find (is_block x) st.lines) refl v.visit in
    let moved = visit_moves g write numbers ref w (map slot_of here) v.outcome v.new v.rest some
    (blocks_slots here ∙ h.fronts k) v.visit in
    let after = sound_ref m st ref some h.sound h.few in
    grind (arith, blocks_slots, distinct_of_set-other)

stacked_next : (g : GeometryValue) (write : WriteMode) (w : List ℕ) (st : MachineState)
    (event : Event) → 1 ≤ g.e → IsStacked g write w st →
    IsStacked g write (window_after g w event) (next (lru_machine g write) st event)
stacked_next g write w st (event.Reference ref) some h = (follows g write w st ref some h).stacked
stacked_next g write w st event.Flush some h = grind (arith, take_nil, distinct_of_set-nil)

pub stacked_run : (g : GeometryValue) (write : WriteMode) (w : List ℕ) (st : MachineState)
    (events : List Event) → 1 ≤ g.e → IsStacked g write w st →
    IsStacked g write (fold (window_after g) w events) (fold (next (lru_machine g write)) st events)
stacked_run g write w st [] some h = h
stacked_run g write w st (v ∷ events) some h =
    stacked_run g write (window_after g w v) (next (lru_machine g write) st v) events some
    (stacked_next g write w st v some h)

-- a test of the effects and a test of the windows agree over a list of events, if they do for one
-- reference
lru_from : (f : Effect → Bool) (p : Occurrence → Bool) (g : GeometryValue) (write : WriteMode) →
    1 ≤ g.e →
    ((w : List ℕ) (st : MachineState) (ref : Ref) → IsStacked g write w st →
    f (step (lru_machine g write) st ref).effect ≡ p
    (record { block = block_of g ref.addr; window = w })) →
    (w : List ℕ) (st : MachineState) (events : List Event) → IsStacked g write w st →
    map f (effects_from (lru_machine g write) st events) ≡ map p (occurrences_from g w events)
unfolding occurrences_from
lru_from f p g write some agree w st [] h = refl
lru_from f p g write some agree w st (event.Reference ref ∷ events) h =
    let stacked = (follows g write w st ref some h).stacked in
    cc (
      agree w st ref h,
      lru_from f p g write some agree (block_of g ref.addr ∷ w)
          (step (lru_machine g write) st ref).after events stacked,
    )
lru_from f p g write some agree w st (event.Flush ∷ events) h =
    lru_from f p g write some agree [] (next (lru_machine g write) st event.Flush) events
    (stacked_next g write w st event.Flush some h)

-- a count over a list is one over the results of its tests
pub count_by-map : {X : Type 0} (q : Bool → Bool) (p : X → Bool) (xs : List X) →
    count_by (λ x. q (p x)) xs ≡ count_by q (map p xs)
count_by-map q p [] = refl
count_by-map q p (x ∷ xs) = cc (
  sum_by-cons (λ y. cond (q (p y)) 1 0) x xs,
  sum_by-cons (λ b. cond (q b) 1 0) (p x) (map p xs),
  count_by-map q p xs,
)

-- a block is held if it is among the front of its set's stack
any_set : (g : GeometryValue) (x : ℕ) (lines : List Line) →
    list_any (is_block x) lines ≡ list_any (is x)
    (blocks_in (lines_of_set g (set_of_block g x) lines))
any_set g x [] = refl
any_set g x (l ∷ ls) = let same : l.block ≡ x → set_of_block g l.block ≡ set_of_block g x =
    ap (set_of_block g) in grind (arith, any_set g x ls)

pub holds_is : (g : GeometryValue) (write : WriteMode) (w : List ℕ) (st : MachineState) (x : ℕ) →
    IsStacked g write w st →
    is_held st x ≡ list_any (is x) (take g.e (distinct_of_set g (set_of_block g x) w))
holds_is g write w st x h = any_set g x st.lines ∙
    ap (list_any (is x)) (h.fronts (set_of_block g x))

-- the machine hits where the windows say so, and a block leaves there
pub hit_law : HitLaw
hit_law g write events some =
    lru_from (λ a. a.hit) (is_hit g) g write some
    (λ w st ref h. (follows g write w st ref some h).hits) [] start events
    (stacked_start g write)
    ∙ ap (map (is_hit g)) (sym (occurrences-from g events))

pub victim_law : VictimLaw
victim_law g write events some =
    lru_from (λ a. is_some a.evicted) (is_evict g) g write some
    (λ w st ref h. (follows g write w st ref some h).evicts) [] start events
    (stacked_start g write) ∙ ap (map (is_evict g)) (sym (occurrences-from g events))

-- so the machine's counts are the windows'
pub count_law : CountLaw
unfolding counts
count_law g write events some =
    cc (
      hit_law g write events some,
      count_by-map (λ b. b) (λ a. a.hit) (effects (lru_machine g write) events),
      count_by-map (λ b. b) (is_hit g) (occurrences g events),
      count_by-map not (λ a. a.hit) (effects (lru_machine g write) events),
      count_by-map not (is_hit g) (occurrences g events),
      count_by-map (λ b. b) (λ a. is_some a.evicted) (effects (lru_machine g write) events),
      victim_law g write events some,
      count_by-map (λ b. b) (is_evict g) (occurrences g events),
    )

-- the window of a list, carried along
window_folds : (g : GeometryValue) (before es : List Event) →
    fold (window_after g) (window g before) es ≡ window g (before ++ es)
window_folds g before [] = ap (window g) (sym (append-nil before))
window_folds g before (e ∷ es) =
    grind (arith, window-push, append_assoc, window_folds g (before ++ e ∷ []) es)

-- the state after a list holds the fronts of its window's stacks
run_stacked : (g : GeometryValue) (write : WriteMode) (events : List Event) → 1 ≤ g.e →
    IsStacked g write (window g events) (run (lru_machine g write) events)
run_stacked g write events some =
    subst (λ w. IsStacked g write w (run (lru_machine g write) events))
    (ap (λ w. fold (window_after g) w events) (sym (window-nil g)) ∙ window_folds g [] events)
    (stacked_run g write [] start events some (stacked_start g write))

pub next_law : NextLaw
next_law g write events ref some =
    let f = follows g write (window g events) (run (lru_machine g write) events) ref some
    (run_stacked g write events some) in
    (f.hits, f.evicts)

-- what a cache holds, one with a line more in each set holds
pub held_law : HeldInclusion
unfolding window distinct_of_set
held_law g write events x some h =
    let bigger : GeometryValue = record g { e = g.e + 1 } in
    let fewer = holds_is g write (window g events) (run (lru_machine g write) events) x
    (run_stacked g write events some) in
    let more = holds_is bigger write (window g events) (run (lru_machine bigger write) events) x
    (run_stacked bigger write events (omega arith)) in
    more ∙ list_any_kept (is x) (distinct_of_set g (set_of_block g x) (window g events)) g.e
    (sym fewer ∙ h)

-- what a cache hits, one with a line more in each set hits
pub hit_inclusion : HitInclusion
unfolding distinct_of_set
hit_inclusion g p h = grind arith
