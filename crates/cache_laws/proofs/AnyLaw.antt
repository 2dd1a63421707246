-- One access under any policy, as the cache sees it and as the machine sees it.
use Rattle.std.proofs.Common.{◌≡◌, ◌≢◌, ℕ, ◌+◌, ◌<◌, ◌≤◌, ◌^◌, ◌==◌, ◌&&◌, Bool, true, false, not}
use Rattle.std.proofs.Common.{cond, eqb, ltb, replicate, List, [], ◌∷◌, ◌++◌, length, get_or}
use Rattle.std.proofs.Common.{Option, Some, None, sym, ◌∙◌, ap, refl, subst, arith, map, find}
use Rattle.std.specs.Prelude.{MatchBool, IfSome, sum_by, is_none, IsPermutation, Contains}
use Rattle.std.specs.List.{list_any}
use Rattle.std.proofs.lemmas.Bool.{or_parts, le-ltb, lt-ltb}
use Rattle.std.proofs.lemmas.List.{append-nil, length-map, length-replicate}
use Rattle.std.proofs.lemmas.List.Elements.{Contains-append_right}
use Rattle.std.proofs.lemmas.List.Quantifiers.{position-Some}
use Rattle.std.proofs.lemmas.List.Sums.{sum_by-cons, sum_by-set, get_or-le-sum_by}
use Rattle.std.proofs.lemmas.List.Sorted.{length_permutation, sum_by-IsPermutation}
use Rattle.trace_core.specs.declared.events.Ref.{Ref}
use Rattle.cache_core.specs.declared.outcome.Slot.{Slot}
use Rattle.cache_core.specs.declared.outcome.Outcome.{Outcome}
use Rattle.cache_core.specs.declared.design.Repl.{Repl}
use Rattle.cache_core.specs.Geometry.{GeometryValue, block_of, set_of_block}
use Rattle.cache_core.specs.cache.Outcomes.{outcome_of, on_placing, is_dirtied, is_allocated}
use Rattle.cache_core.specs.cache.Machine.{Machine, MachineState, Line, slot_of, is_block}
use Rattle.cache_core.specs.cache.Machine.{lines_of_set, is_full, with_line_at, key_at}
use Rattle.cache_core.specs.cache.Machine.{placing_step, Step, passing_step, start, step_at}
use Rattle.cache_core.specs.cache.Order.{Contents, VisitsAt, Fills, PassesOn, Hits, TakesIn}
use Rattle.cache_core.specs.cache.Order.{slots_of, position_of, with_dirty_at}
use Rattle.cache_core.specs.replacement.Rules.{Place, rules}
use Rattle.cache_core.specs.cache.Stands.{Absent, Distinct}
use Rattle.cache_core.specs.replacement.AnyPolicy.{HoldsSame, MayLeave, AnyStartLaw, AnyAccessLaw}
use Rattle.cache_core.specs.replacement.AnyPolicy.{AnyFlushLaw}
use Rattle.cache_core.proofs.replacement.Lawful.{marked_length, lawful_touch, lawful_place}
use Rattle.cache_core.proofs.cache.Lines.{Found, found, not_found, find_in_set, absent_round}
use Rattle.cache_core.proofs.cache.Lines.{find_split, distinct_front, distinct_back}
use Rattle.cache_core.proofs.cache.Lines.{distinct_without, around, distinct_around}
use Rattle.cache_core.proofs.cache.Lines.{with_line_at-none, with_line_at-some}
use Rattle.cache_core.proofs.cache.SetLaw.{with_mark}
use Rattle.cache_core.proofs.cache.StateLaw.{line_here, line_other, member_set}
use Rattle.cache_core.proofs.cache.Visits.{set_for, visit_for}
use Rattle.cache_core.proofs.cache.FlushLaw.{none_anywhere, dirty_all}
use Rattle.cache_core.proofs.simulation.LruSet.{blocks_of, position_none}
use Rattle.cache_core.proofs.cache.DownLaw.{any_clean, any_few}
use Rattle.cache_core.proofs.Lists.{is}
use Rattle.cache_laws.proofs.SlotSums.{LineAt, one_for, one_self, by_sums, line_sum, sum_split}
use Rattle.cache_laws.proofs.SlotSums.{line_for, around_sum}

-- what a step has to do: the set of the block agrees again, the others stay
record AgreesUpToOrder (m : Machine) (st : MachineState) (k : ℕ) (needed : Bool)
    (now : Option Line → Step) (slots : List Slot)
    (outcome : Outcome) : Type 0 where
  gone : Option Line
  may : MayLeave needed (lines_of_set m.design.geometry k st.lines) gone
  effect : outcome ≡ outcome_of (now gone).effect
  held : IsPermutation slots (map slot_of (lines_of_set m.design.geometry k (now gone).after.lines))
  distinct : Distinct (lines_of_set m.design.geometry k (now gone).after.lines)
  others : (j : ℕ) → j ≢ k → lines_of_set m.design.geometry j (now gone).after.lines ≡ lines_of_set
      m.design.geometry j st.lines

-- no slot of this block
none_of : (x : Slot) (slots : List Slot) → list_any (is x.block) (blocks_of slots) ≡ false →
    sum_by (one_for x) slots ≡ 0
none_of x [] h = refl
none_of x (s ∷ slots) h =
    let parts = or_parts (eqb s.block x.block) (list_any (is x.block) (blocks_of slots)) h in
    let none : one_for x s ≡ 0 = grind (arith, parts.0) in
    omega (arith, sum_by-cons (one_for x) s slots, none, none_of x slots parts.1)

abbrev empty_slot : Slot
empty_slot = record { block = 0; dirty = false }

-- the slot at an index that is marked
marked_sum : (d : Bool) (slots : List Slot) (at : ℕ) (line : Line) (f : Slot → ℕ) →
    at < length slots →
    slot_of line ≡ get_or slots at empty_slot → sum_by f (with_dirty_at d slots at) + f
    (slot_of line) ≡ sum_by f slots + f (slot_of (with_mark d line))
marked_sum d slots at line f h e = grind (arith, sum_by-set)

-- the sums over a set's slots, where one of its lines is seen apart
sums_around : (slots : List Slot) (here front : List Line) (line : Line) (back : List Line) →
    IsPermutation slots (map slot_of here) →
    here ≡ front ++ line ∷ back → (f : Slot → ℕ) →
    line_sum f (front ++ back) + f (slot_of line) ≡ sum_by f slots
sums_around slots here front line back perm split f =
    grind (arith, sum_by-IsPermutation f slots (map slot_of here) perm, sum_split f front line back)

-- a block that has a line has an index among the slots
held_placed : (b : ℕ) (here : List Line) (line : Line) (slots : List Slot) →
    IsPermutation slots (map slot_of here) →
    find (is_block b) here ≡ Some line → position_of b slots ≡ None → ⊥
held_placed b here line slots perm e q =
    let r = found b here line e in
    let none : sum_by (one_for (slot_of line)) slots ≡ 0 =
    none_of (slot_of line) slots (position_none line.block slots
    (ap (λ n. position_of n slots) r.here ∙ q)) in
    omega (
      arith,
      none,
      sums_around slots here r.front line r.back perm r.split
          (one_for (slot_of line)),
      one_self (slot_of line),
    )

-- and a block that has an index has a line, whose slot stands there
record Placed (b : ℕ) (here : List Line) (slots : List Slot) (at : ℕ) : Type 0 where
  line : Line
  held : find (is_block b) here ≡ Some line
  slot : slot_of line ≡ get_or slots at empty_slot

placed_held : (b : ℕ) (here : List Line) (slots : List Slot) (at : ℕ) → Distinct here →
    IsPermutation slots (map slot_of here) →
    position_of b slots ≡ Some at → Placed b here slots at
placed_held b here slots at d perm q =
    let x : Slot = get_or slots at empty_slot in
    let p = position-Some (λ (s : Slot). s.block == b) slots at empty_slot q in
    let counted = get_or-le-sum_by (one_for x) slots at empty_slot p.0 in
    let r = line_for x here (omega (
      arith,
      counted,
      one_self x,
      sum_by-IsPermutation (one_for x) slots (map slot_of here) perm,
    )) in
    let front = distinct_front r.front r.line r.back (subst Distinct r.split d) in
    grind (arith, find_split)

-- a reference at a machine, whose set holds the slots of the machine's lines in some order
module _ (m : Machine) (st : MachineState) (ref : Ref) (policy : Option Repl) (numbers : ℕ → ℕ)
    (outcome : Outcome) (slots new : List Slot)
    (rest : ℕ → ℕ)
    (some : 1 ≤ m.design.geometry.e)
    (d : Distinct (lines_of_set m.design.geometry (set_for m ref) st.lines))
    (perm : IsPermutation slots (map slot_of (lines_of_set m.design.geometry (set_for m ref)
    st.lines))) where
  abbrev g : GeometryValue
  g = m.design.geometry

  abbrev b : ℕ
  b = block_of g ref.addr

  abbrev k : ℕ
  k = set_of_block g b

  abbrev here : List Line
  here = lines_of_set g k st.lines

  -- the clock after the reference
  abbrev clock : ℕ
  clock = st.clock + 1

  -- the slot of the block where it is placed
  abbrev slot : Slot
  slot = record { block = b; dirty = is_dirtied m.design.write ref.access }

  -- the sets after a line goes among those of the block's set, where the slots are the same again
  record Goes (p : Place) (y : Line) (gone : Option Line) : Type 0 where
    held : IsPermutation new (map slot_of (lines_of_set g k (with_line_at p y gone st.lines)))
    distinct : Distinct (lines_of_set g k (with_line_at p y gone st.lines))
    others : (j : ℕ) → j ≢ k → lines_of_set g j (with_line_at p y gone st.lines) ≡ lines_of_set g j
        st.lines

  goes : (p : Place) (y : Line) (gone : Option Line) (xs ys : List Line) →
      set_of_block g y.block ≡ k →
      IfSome gone (λ x. set_of_block g x.block ≡ set_of_block g y.block) →
      with_line_at p y gone here ≡ around p y xs ys → Absent y.block xs →
      Absent y.block ys → Distinct (xs ++ ys) →
      ((f : Slot → ℕ) → sum_by f new ≡ line_sum f (xs ++ ys) + f (slot_of y)) → Goes p y gone
  goes p y gone xs ys e s after front back apart sums =
      let lines : lines_of_set g k (with_line_at p y gone st.lines) ≡ around p y xs ys =
      line_here p g k y gone st.lines e s ∙ after in
      record {
        held = rw lines (by_sums new (map slot_of (around p y xs ys)) (λ f. sums f ∙
            sym (around_sum f p y xs ys)));
        distinct = rw lines (distinct_around p y xs ys front back apart);
        others = λ j ne. line_other p g j y gone st.lines (λ q. ne (q ∙ e)) s;
      }

  -- a hit
  hit_agrees : (line : Line) (at : ℕ) → find (is_block b) here ≡ Some line →
      position_of b slots ≡ Some at →
      slot_of line ≡ get_or slots at empty_slot →
      Hits m.design policy numbers ref at slots outcome new rest →
      AgreesUpToOrder m st k false (λ gone. step_at m ref b gone st (Some line)) new outcome
  hit_agrees line at e q there hits =
      let r : Found b here line = found b here line e in
      let mark : Bool = is_dirtied m.design.write ref.access in
      let to : Place = (rules m.policy).touched in
      let y : Line = with_mark mark line in
      let z : Line = record y { key = key_at to clock line.key } in
      let dr : Distinct (r.front ++ line ∷ r.back) = subst Distinct r.split d in
      let front : Absent line.block r.front = distinct_front r.front line r.back dr in
      let back : Absent line.block r.back = distinct_back r.front line r.back dr in
      let within : at < length slots =
      (position-Some (λ (s : Slot). s.block == b) slots at empty_slot q).0 in
      let moved : IsPermutation (with_dirty_at mark slots at) new =
      lawful_touch policy (with_dirty_at mark slots at) at new
      (omega (arith, within, marked_length mark slots at)) hits.order in
      let sums : (f : Slot → ℕ) → sum_by f new ≡ line_sum f (r.front ++ r.back) + f (slot_of z) =
      λ f.
      omega (
        arith,
        sum_by-IsPermutation f (with_dirty_at mark slots at) new moved,
        marked_sum mark slots at line f within there,
        sums_around slots here r.front line r.back perm r.split f,
      ) in
      let w : Goes to z (Some y) =
      goes to z (Some y) r.front r.back (ap (set_of_block g) r.here) refl
      (ap (with_line_at to z (Some y)) r.split ∙ with_line_at-some to z y r.front line r.back refl
      front back) front back
      (distinct_without r.front line r.back dr) sums in
      record {
        gone = None;
        may = refl;
        effect = hits.effect;
        held = w.held;
        distinct =
            w.distinct;
        others = w.others;
      }

  -- where a placed block goes, and its line there
  abbrev to : Place
  to = (rules m.policy).placed

  abbrev line_new : ℕ → Line
  line_new there = record {
    block = b;
    key = key_at to clock there;
    dirty =
        is_dirtied m.design.write ref.access;
  }

  -- a miss that places its block in a set that is not full
  insert_agrees : Absent b here → length slots < g.e → IsPermutation (slot ∷ slots) new →
      outcome ≡ outcome_of (on_placing g m.design.write ref b None) →
      AgreesUpToOrder m st k (is_full m st k) (λ gone. placing_step m ref b gone st) new outcome
  insert_agrees a free t o =
      let long : length here ≡ length slots = sym (length-map here slot_of) ∙
      length_permutation slots (map slot_of here) perm in
      let not_full : ltb (length here) g.e ≡ true =
      lt-ltb (length here) g.e (omega (arith, free, long)) in
      let y : Line = line_new (length here) in
      let sums : (f : Slot → ℕ) → sum_by f new ≡ line_sum f (here ++ []) + f slot = λ f.
      omega (
        arith,
        sum_by-IsPermutation f (slot ∷ slots) new t,
        sum_by-cons f slot slots,
        sum_by-IsPermutation f slots (map slot_of here) perm,
        ap (line_sum f) (append-nil here),
      ) in
      let w : Goes to y None = goes to y None here [] refl tt (with_line_at-none to y here) a tt
      (rw append-nil d) sums in
      record {
        gone = None;
        may = ap not not_full;
        effect = o;
        held = w.held;
        distinct =
            w.distinct;
        others = w.others;
      }

  -- in a full set, where this line leaves
  leaving_agrees : (x : Slot) (rest : List Slot) (r : LineAt x here) → Absent b here →
      length slots ≡ g.e → IsPermutation slots (x ∷ rest) →
      IsPermutation (slot ∷ rest) new →
      outcome ≡ outcome_of (on_placing g m.design.write ref b (Some x)) →
      AgreesUpToOrder m st k (is_full m st k) (λ gone. placing_step m ref b gone st) new outcome
  leaving_agrees x rest r a whole left t o =
      let full : ltb (length here) g.e ≡ false =
      le-ltb (length here) g.e (omega (
        arith,
        whole,
        sym (length-map here slot_of) ∙
            length_permutation slots (map slot_of here) perm,
      )) in
      let y : Line = line_new r.line.key in
      let dr : Distinct (r.front ++ r.line ∷ r.back) = subst Distinct r.split d in
      let in_set : set_of_block g r.line.block ≡ k =
      member_set g k r.line st.lines (record {
        front = r.front;
        back = r.back;
        split =
            r.split;
        here = refl;
      }) in
      let apart = absent_round b r.front r.line r.back (subst (Absent b) r.split a) in
      let sums : (f : Slot → ℕ) → sum_by f new ≡ line_sum f (r.front ++ r.back) + f slot = λ f.
      omega (
        arith,
        sum_by-IsPermutation f (slot ∷ rest) new t,
        sum_by-cons f slot rest,
        sum_by-IsPermutation f slots (x ∷ rest) left,
        sum_by-cons f x rest,
        sums_around slots here r.front r.line r.back perm r.split f,
        ap f r.slot,
      ) in
      let w : Goes to y (Some r.line) =
      goes to y (Some r.line) r.front r.back refl in_set
      (ap (with_line_at to y (Some r.line)) r.split
      ∙ with_line_at-some to y r.line r.front r.line r.back refl
      (distinct_front r.front r.line r.back dr) (distinct_back r.front r.line r.back dr))
      apart.0 apart.1 (distinct_without r.front r.line r.back dr) sums in
      record {
        gone = Some r.line;
        may = (
          ap not full,
          subst (λ ls. Contains ls r.line) (sym r.split)
              (Contains-append_right r.front (r.line ∷ r.back) r.line (0, (omega arith), refl)),
        );
        effect = o ∙ ap (λ v. outcome_of (on_placing g m.design.write ref b (Some v))) (sym r.slot);
        held = w.held;
        distinct = w.distinct;
        others = w.others;
      }

  fill_agrees : (number : ℕ) (evicted : Option Slot) → Absent b here →
      TakesIn None number g.e slots slot evicted new →
      outcome ≡ outcome_of (on_placing g m.design.write ref b evicted) →
      AgreesUpToOrder m st k (is_full m st k) (λ gone. placing_step m ref b gone st) new outcome
  fill_agrees number None a t o = insert_agrees a t.0 t.1 o
  fill_agrees number (Some x) a t o =
      let counted : 1 ≤ line_sum (one_for x) here =
      omega (
        arith,
        sum_by-IsPermutation (one_for x) slots (x ∷ t.1.0) t.1.1,
        sum_by-cons (one_for x) x t.1.0,
        sum_by-IsPermutation (one_for x) slots (map slot_of here) perm,
        one_self x,
      ) in
      leaving_agrees x t.1.0 (line_for x here counted) a t.0 t.1.1 t.1.2 o

  miss_agrees : (fills : Bool) → Absent b here →
      MatchBool fills (Fills m.design policy numbers ref slots outcome new rest)
      (PassesOn numbers ref slots outcome new rest) →
      AgreesUpToOrder m st k (fills && is_full m st k)
      (λ gone. cond fills (placing_step m ref b gone st) (passing_step ref st)) new outcome
  miss_agrees true a v =
      fill_agrees 0 outcome.evicted a (lawful_place policy (numbers 0) 0 g.e slots slot
      outcome.evicted new some v.order) v.effect
  miss_agrees false a v = record {
    gone = None;
    may = refl;
    effect = v.effect;
    held =
        rw v.order perm;
    distinct = d;
    others = λ j ne. refl;
  }

  -- a hit or a miss, by the block's line and by its index
  step_agrees : (o : Option Line) (index : Option ℕ) → find (is_block b) here ≡ o →
      position_of b slots ≡ index →
      VisitsAt index m.design policy numbers ref slots outcome new rest →
      AgreesUpToOrder m st k (is_none o && is_allocated m.design.allocate ref.access && is_full m st
      k) (λ gone. step_at m ref b gone st o)
      new outcome
  step_agrees (Some line) (Some at) e q v =
      let p = placed_held b here slots at d perm q in
      let same : p.line ≡ line = let both : Some p.line ≡ Some line = sym p.held ∙ e in cc in
      hit_agrees line at e q (ap slot_of (sym same) ∙ p.slot) v
  step_agrees (Some line) None e q v = absurd (held_placed b here line slots perm e q)
  step_agrees None (Some at) e q v = let p = placed_held b here slots at d perm q in absurd cc
  step_agrees None None e q v = miss_agrees (is_allocated m.design.allocate ref.access)
      (not_found b here e) v

pub any_access : AnyAccessLaw
any_access m st old ref outcome new some i a =
    let g = m.design.geometry in
    let b = block_of g ref.addr in
    let k = set_for m ref in
    let o = find (is_block b) st.lines in
    let r =
    step_agrees m st ref old.policy old.random_numbers outcome (slots_of old.sets k)
    (slots_of new.sets k) new.random_numbers some (i.distinct k) (i.sets k) o
    (position_of b (slots_of old.sets k)) (find_in_set g b st.lines) refl
    (visit_for m old ref outcome new i.design a) in
    grind (arith, any_few, any_clean)

-- a cache with no slots holds what the machine holds where it has no line
holds_nothing : (m : Machine) (st : MachineState) (c : Contents) (n : ℕ) → c.design ≡ m.design →
    c.sets ≡ replicate n [] →
    n ≡ 2 ^ m.design.geometry.s →
    HoldsSame m (record st { lines = [] }) c
holds_nothing m st c n d e all = grind (arith, length-replicate, none_anywhere)

pub any_start : AnyStartLaw
any_start m c d e = holds_nothing m start c (2 ^ m.design.geometry.s) d e refl

pub any_flush : AnyFlushLaw
any_flush m st old dirty new i f =
    let same = λ (k : ℕ). sym (sum_by-IsPermutation (λ (slot : Slot). cond slot.dirty 1 0)
    (slots_of old.sets k) _ (i.sets k)) in (
      holds_nothing m st new (length old.sets) (f.design ∙ i.design) f.empty i.count,
      f.counted ∙
          dirty_all m.design.geometry st.lines old.sets i.count same,
    )
