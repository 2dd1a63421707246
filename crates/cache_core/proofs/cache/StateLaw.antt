-- One access, as the cache sees it and as the machine sees it.
use Rattle.std.proofs.Common.{◌≡◌, ◌≢◌, ℕ, ◌+◌, ◌%◌, ◌==◌, Bool, true, false, cond, ltb, List, []}
use Rattle.std.proofs.Common.{◌∷◌, ◌++◌, length, Option, Some, None, sym, ◌∙◌, ap, refl, subst}
use Rattle.std.proofs.Common.{arith, ⊎_elim, map, find}
use Rattle.std.specs.Prelude.{MatchBool, IfSome}
use Rattle.std.proofs.lemmas.List.{length-map, append-nil}
use Rattle.std.proofs.lemmas.List.Elements.{filter-append}
use Rattle.std.proofs.lemmas.Bool.{eq-eqb, le-ltb, lt-ltb}
use Rattle.std.proofs.lemmas.Bool.Decides.{eqb_tells}
use Rattle.trace_core.specs.declared.events.Ref.{Ref}
use Rattle.cache_core.specs.declared.outcome.Slot.{Slot}
use Rattle.cache_core.specs.declared.outcome.Outcome.{Outcome}
use Rattle.cache_core.specs.Geometry.{GeometryValue, set_of_block, block_of}
use Rattle.cache_core.specs.cache.Outcomes.{outcome_of, on_placing, is_dirtied, is_allocated}
use Rattle.cache_core.specs.cache.Machine.{Machine, MachineState, Line, slot_of, is_block}
use Rattle.cache_core.specs.cache.Machine.{lines_of_set, lines_without, with_line_at, key_at}
use Rattle.cache_core.specs.cache.Machine.{victim_line, Step, placing_step, passing_step, step_at}
use Rattle.cache_core.specs.cache.Machine.{step}
use Rattle.cache_core.specs.cache.Order.{Contents, Accesses, Visits, VisitsAt, Fills, PassesOn}
use Rattle.cache_core.specs.cache.Order.{TakesIn, random_numbers_after, slots_of}
use Rattle.cache_core.specs.replacement.Rules.{Place, InFront, InPlace, rules}
use Rattle.cache_core.specs.cache.Stands.{Absent, IsState, IsGood, IsSoundState}
use Rattle.cache_core.proofs.cache.Lines.{ne-eqb, not_found, find_in_set, absent_other, set_without}
use Rattle.cache_core.proofs.cache.Lines.{set_exchange, lines_without_absent, exchange_absent}
use Rattle.cache_core.proofs.cache.Lines.{Found, found, absent_right, order_later}
use Rattle.cache_core.proofs.cache.SetLaw.{touched, with_mark, position_absent, insert_law}
use Rattle.cache_core.proofs.cache.SetLaw.{insert_good, exchange_law}
use Rattle.cache_core.proofs.cache.Visits.{at_each, set_for, visit_for, others_for}

-- a line of a set, and one of another
cons_here : (g : GeometryValue) (k : ℕ) (x : Line) (ls : List Line) → set_of_block g x.block ≡ k →
    lines_of_set g k (x ∷ ls) ≡ x ∷ lines_of_set g k ls
cons_here g k x ls e = rw (eq-eqb (set_of_block g x.block) k e) refl

cons_other : (g : GeometryValue) (k : ℕ) (x : Line) (ls : List Line) → k ≢ set_of_block g x.block →
    lines_of_set g k (x ∷ ls) ≡ lines_of_set g k ls
cons_other g k x ls e = rw (ne-eqb (set_of_block g x.block) k (λ q. e (sym q))) refl

-- a line that goes among others changes its own set, and no other, where the one that leaves is of
-- that set too
pub line_here : (p : Place) (g : GeometryValue) (k : ℕ) (y : Line) (gone : Option Line)
    (ls : List Line) → set_of_block g y.block ≡ k →
    IfSome gone (λ x. set_of_block g x.block ≡ set_of_block g y.block) →
    lines_of_set g k (with_line_at p y gone ls) ≡ with_line_at p y gone (lines_of_set g k ls)
line_here InFront g k y None ls e f = cons_here g k y ls e
line_here InFront g k y (Some x) ls e f = cons_here g k y (lines_without x.block ls) e ∙
    ap (λ s. y ∷ s) (set_without g k x.block ls)
line_here InPlace g k y None ls e f =
    cc (filter-append (λ line. set_of_block g line.block == k) ls (y ∷ []), cons_here g k y [] e)
line_here InPlace g k y (Some x) ls e f = set_exchange g k x.block y ls (sym f)

pub line_other : (p : Place) (g : GeometryValue) (k : ℕ) (y : Line) (gone : Option Line)
    (ls : List Line) → k ≢ set_of_block g y.block →
    IfSome gone (λ x. set_of_block g x.block ≡ set_of_block g y.block) →
    lines_of_set g k (with_line_at p y gone ls) ≡ lines_of_set g k ls
line_other InFront g k y None ls e f = cons_other g k y ls e
line_other InFront g k y (Some x) ls e f =
    grind (arith, set_without, lines_without_absent, absent_other)
line_other InPlace g k y None ls e f = grind (arith, filter-append, append-nil)
line_other InPlace g k y (Some x) ls e f = grind (
  arith,
  set_exchange,
  exchange_absent,
  absent_other,
)

-- what a step has to do: the set of the block agrees again, the others stay
pub record Agrees (m : Machine) (st : MachineState) (now : Step) (k : ℕ) (slots : List Slot)
    (rest : ℕ → ℕ) (outcome : Outcome) : Type 0 where
  pub held : slots ≡ map slot_of (lines_of_set m.design.geometry k now.after.lines)
  pub others : (j : ℕ) → j ≢ k → lines_of_set m.design.geometry j now.after.lines ≡ lines_of_set
      m.design.geometry j st.lines
  pub random_numbers : rest ≡ (λ n. m.random_numbers (now.after.drawn + n))
  pub effect : outcome ≡ outcome_of now.effect
  pub good : IsGood (rules m.policy).placed now.after.clock
      (lines_of_set m.design.geometry k now.after.lines)
  pub clock : now.after.clock ≡ st.clock + 1

-- a line among those of a set is of that set
pub member_set : (g : GeometryValue) (k : ℕ) (x : Line) (ls : List Line) →
    Found x.block (lines_of_set g k ls) x → set_of_block g x.block ≡ k
member_set g k x ls r = ⊎_elim
    (λ t. t.1)
    (λ f. let a : Absent x.block (r.front ++ x ∷ r.back) =
    subst (Absent x.block) r.split (absent_other g k x.block ls (λ q. f.1 (sym q))) in
    absurd ((absent_right x.block r.front (x ∷ r.back) a).0 refl))
    (eqb_tells (set_of_block g x.block) k)

-- one reference at a sound machine, whose set is visited
module _ (m : Machine) (st : MachineState) (ref : Ref) (numbers : ℕ → ℕ) (outcome : Outcome)
    (slots : List Slot) (rest : ℕ → ℕ)
    (sound : IsSoundState m st) (undrawn : numbers ≡ (λ n. m.random_numbers (st.drawn + n))) where
  abbrev g : GeometryValue
  g = m.design.geometry

  abbrev b : ℕ
  b = block_of g ref.addr

  abbrev k : ℕ
  k = set_of_block g b

  abbrev here : List Line
  here = lines_of_set g k st.lines

  -- the slot of the block where it is placed
  abbrev new : Slot
  new = record { block = b; dirty = is_dirtied m.design.write ref.access }

  hit_agrees : (line : Line) → find (is_block b) st.lines ≡ Some line →
      Visits m.design (Some m.policy) numbers ref (map slot_of here) outcome slots rest →
      Agrees m st (step_at m ref b (victim_line m st k) st (Some line)) k slots rest outcome
  hit_agrees line h v =
      let d = is_dirtied m.design.write ref.access in
      let f : find (is_block b) here ≡ Some line = find_in_set g b st.lines ∙ h in
      let t = touched m.policy st.clock b line d here (sound k) f in
      let to : Place = (rules m.policy).touched in
      let y : Line = record (with_mark d line) { key = key_at to (st.clock + 1) line.key } in
      let hits = subst (λ o. VisitsAt o m.design (Some m.policy) numbers ref (map slot_of here)
      outcome slots rest) t.index v in
      let in_set : set_of_block g line.block ≡ k = ap (set_of_block g) (found b here line f).here in
      let e = line_here to g k y (Some (with_mark d line)) st.lines in_set refl in
      record {
        held = t.slots slots hits.order ∙ ap (map slot_of) (sym e);
        others = λ j ne. line_other to g j y (Some (with_mark d line)) st.lines
            (λ q. ne (q ∙ in_set)) refl;
        random_numbers = hits.undrawn ∙ undrawn;
        effect = hits.effect;
        good = rw e t.good;
        clock = refl;
      }

  -- where it goes, and its line there
  abbrev to : Place
  to = (rules m.policy).placed

  abbrev line_new : ℕ → Line
  line_new there = record {
    block = b;
    key = key_at to (st.clock + 1) there;
    dirty =
        is_dirtied m.design.write ref.access;
  }

  fill_agrees : (evicted : Option Slot) → Absent b here → TakesIn (Some m.policy) (numbers 0) g.e
      (map slot_of here) new evicted slots →
      rest ≡ random_numbers_after (Some m.policy) evicted numbers →
      outcome ≡ outcome_of (on_placing g m.design.write ref b evicted) →
      Agrees m st (placing_step m ref b (victim_line m st k) st) k slots rest outcome
  fill_agrees None a p u o =
      let not_full : ltb (length here) g.e ≡ true =
      lt-ltb (length here) g.e (omega (arith, p.0, length-map here slot_of)) in
      let e = line_here to g k (line_new (length here)) None st.lines refl tt in
      rw not_full record {
        held = insert_law m.policy (st.clock + 1) (length here) new here slots p.1 ∙
            ap (map slot_of) (sym e);
        others = λ j ne. line_other to g j (line_new (length here)) None st.lines ne tt;
        random_numbers = u ∙ undrawn;
        effect = o;
        good = rw e (insert_good m.policy st.clock new here (sound k) a);
        clock = refl;
      }
  fill_agrees (Some gone) a p u o =
      let full : ltb (length here) g.e ≡ false =
      le-ltb (length here) g.e (omega (arith, p.0, length-map here slot_of)) in
      let x = exchange_law m.policy st.clock (numbers 0) (length here) new gone here slots p.1
      (sound k) a in
      let way : numbers 0 % length (map slot_of here) ≡ m.random_numbers st.drawn % g.e =
      ap (λ n. numbers 0 % n) p.0 ∙ ap (λ (f : ℕ → ℕ). f 0 % g.e) undrawn ∙
      ap (λ n. m.random_numbers n % g.e) (omega arith) in
      let in_set : set_of_block g x.line.block ≡ k = member_set g k x.line st.lines x.among in
      let e = line_here to g k (line_new x.line.key) (Some x.line) st.lines refl in_set in
      grind (arith, line_other)

  pass_agrees : PassesOn numbers ref (map slot_of here) outcome slots rest →
      Agrees m st (passing_step ref st) k slots rest outcome
  pass_agrees v = grind (arith, order_later)

  miss_agrees : (fills : Bool) → Absent b here →
      MatchBool fills (Fills m.design (Some m.policy) numbers ref (map slot_of here)
      outcome slots rest)
      (PassesOn numbers ref (map slot_of here) outcome slots rest) →
      Agrees m st (cond fills (placing_step m ref b (victim_line m st k) st) (passing_step ref st))
      k slots rest outcome
  miss_agrees fills a v = grind (arith, fill_agrees, pass_agrees)

  pub step_agrees : (o : Option Line) → find (is_block b) st.lines ≡ o →
      Visits m.design (Some m.policy) numbers ref (map slot_of here) outcome slots rest →
      Agrees m st (step_at m ref b (victim_line m st k) st o) k slots rest outcome
  step_agrees (Some line) e v = hit_agrees line e v
  step_agrees None e v =
      let a : Absent b here = not_found b here (find_in_set g b st.lines ∙ e) in
      miss_agrees (is_allocated m.design.allocate ref.access) a
      (subst (λ o. VisitsAt o m.design (Some m.policy) numbers ref (map slot_of here) outcome slots
      rest) (position_absent b here a) v)

-- the machine stays sound
pub sound_step : (m : Machine) (st : MachineState) (now : Step) (k : ℕ) (slots : List Slot)
    (rest : ℕ → ℕ) (outcome : Outcome) →
    IsSoundState m st → Agrees m st now k slots rest outcome → IsSoundState m now.after
sound_step m st now k slots rest outcome s r = grind (arith, order_later)

-- what one access leads to
pub record Follows (m : Machine) (st : MachineState) (ref : Ref) (outcome : Outcome)
    (new : Contents) : Type 0 where
  pub state : IsState m (step m st ref).after new
  pub effect : outcome ≡ outcome_of (step m st ref).effect
  pub sound : IsSoundState m (step m st ref).after

pub access_law : (m : Machine) (st : MachineState) (old : Contents) (ref : Ref) (outcome : Outcome)
    (new : Contents) → IsSoundState m st →
    IsState m st old → Accesses old ref outcome new → Follows m st ref outcome new
access_law m st old ref outcome new s i a =
    let g = m.design.geometry in
    let k = set_for m ref in
    let v : Visits m.design (Some m.policy) old.random_numbers ref
    (map slot_of (lines_of_set g k st.lines)) outcome (slots_of new.sets k) new.random_numbers =
    rw (← i.policy, ← i.sets k) (visit_for m old ref outcome new i.design a) in
    let r =
    step_agrees m st ref old.random_numbers outcome (slots_of new.sets k) new.random_numbers s
    i.random_numbers
    (find (is_block (block_of g ref.addr)) st.lines) refl v in
    record {
      state = record {
        design = a.design ∙ i.design;
        policy = a.policy ∙ i.policy;
        random_numbers = r.random_numbers;
        count = a.count ∙ i.count;
        sets = at_each (λ n. slots_of new.sets n ≡ map slot_of
            (lines_of_set g n (step m st ref).after.lines)) k r.held
            (λ j ne. others_for m old ref outcome new i.design a j ne ∙ i.sets j ∙
            ap (map slot_of) (sym (r.others j ne)));
      };
      effect = r.effect;
      sound = sound_step m st (step m st ref) k (slots_of new.sets k)
          new.random_numbers outcome s r;
    }
