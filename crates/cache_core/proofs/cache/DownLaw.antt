-- Never more than two references are sent down, whatever line leaves: a write-through cache holds
-- no dirty line.
use Rattle.std.proofs.Common.{◌≡◌, ℕ, ◌%◌, ◌≤◌, Bool, false, cond, ltb, List, [], ◌∷◌}
use Rattle.std.proofs.Common.{length, Option, Some, None, sym, ◌∙◌, ap, refl, arith, find}
use Rattle.std.specs.Prelude.{All, fold, count_by}
use Rattle.std.proofs.lemmas.List.Elements.{All-nil, All-cons, All-head, All-tail, All-map}
use Rattle.std.proofs.lemmas.List.Elements.{All-weaker, All-filter, All-push}
use Rattle.std.proofs.lemmas.List.Sums.{sum_by-cons}
use Rattle.trace_core.specs.declared.events.Ref.{Ref}
use Rattle.trace_core.specs.declared.events.Event.{Event}
use Rattle.trace_core.specs.declared.events.Event.TheVariants as event
use Rattle.trace_core.specs.Events.{one_if}
use Rattle.cache_core.specs.declared.design.WriteMode.TheVariants.{Through}
use Rattle.cache_core.specs.Geometry.{block_of, set_of}
use Rattle.cache_core.specs.cache.Machine.{Machine, MachineState, Line, is_block, lines_of_set}
use Rattle.cache_core.specs.cache.Machine.{exchange, least_line, lesser_line, victim, with_line_at}
use Rattle.cache_core.specs.cache.Machine.{victim_line, step, step_at, step_with, next, dirty_count}
use Rattle.cache_core.specs.replacement.Rules.{Place, InFront, InPlace, Victim, rules}
use Rattle.cache_core.specs.cache.Stands.{DownLaw}
use Rattle.cache_core.specs.replacement.AnyPolicy.{MayLeave, is_evicting}
use Rattle.cache_core.proofs.Lists.{cases}

-- a line is not dirty, if there is one
abbrev NoneDirty : Option Line → Type 0
NoneDirty o = (line : Line) → o ≡ Some line → line.dirty ≡ false

-- no line is dirty
abbrev pub IsClean : Line → Type 0
IsClean line = line.dirty ≡ false

abbrev pub Clean : List Line → Type 0
Clean ls = All IsClean ls

-- that is, none is counted
clean_count : (ls : List Line) → Clean ls → count_by (λ (l : Line). l.dirty) ls ≡ 0
clean_count [] h = refl
clean_count (l ∷ ls) h = grind (arith, All-head, clean_count ls (All-tail IsClean l ls h))

not_dirty : (b : Bool) → one_if b ≡ 0 → b ≡ false
not_dirty b h = grind arith

count_clean : (ls : List Line) → count_by (λ (l : Line). l.dirty) ls ≡ 0 → Clean ls
count_clean [] h = All-nil IsClean
count_clean (l ∷ ls) h =
    let e = sum_by-cons (λ (x : Line). one_if x.dirty) l ls in
    All-cons IsClean l ls (not_dirty l.dirty (omega (arith, e))) (count_clean ls (omega (arith, e)))

clean_exchange : (block : ℕ) (new : Line) (ls : List Line) → new.dirty ≡ false → Clean ls →
    Clean (exchange block new ls)
clean_exchange block new ls e h =
    All-map IsClean _ ls
    (All-weaker IsClean _ (λ line clean. cases (λ b. (cond b new line).dirty ≡ false)
    (is_block block line) (λ _. e) (λ _. clean)) ls h)

clean_find : (p : Line → Bool) (ls : List Line) (line : Line) → Clean ls → find p ls ≡ Some line →
    line.dirty ≡ false
clean_find p [] line h e = absurd cc
clean_find p (l ∷ ls) line h e =
    cases (λ b. (cond b (Some l) (find p ls) ≡ Some line) → line.dirty ≡ false) (p l)
    (λ _ q. let same : l ≡ line = cc in ap (λ (x : Line). x.dirty) (sym same) ∙
    All-head IsClean l ls h)
    (λ _ q. clean_find p ls line (All-tail IsClean l ls h) q) e

clean_lesser : (l : Line) (o : Option Line) → l.dirty ≡ false → NoneDirty o →
    (lesser_line l o).dirty ≡ false
clean_lesser l o e h = grind arith

clean_least : (ls : List Line) (line : Line) → Clean ls → least_line ls ≡ Some line →
    line.dirty ≡ false
clean_least [] line h e = absurd cc
clean_least (l ∷ ls) line h e =
    let same : lesser_line l (least_line ls) ≡ line = cc in
    ap (λ (x : Line). x.dirty) (sym same) ∙ clean_lesser l (least_line ls) (All-head IsClean l ls h)
    (λ x q. clean_least ls x (All-tail IsClean l ls h) q)

clean_victim : (v : Victim) (way : ℕ) (ls : List Line) (line : Line) → Clean ls →
    victim v way ls ≡ Some line → line.dirty ≡ false
clean_victim v way ls line h e = grind (arith, clean_least, clean_find)

clean_line : (p : Place) (new : Line) (gone : Option Line) (ls : List Line) → new.dirty ≡ false →
    Clean ls → Clean (with_line_at p new gone ls)
clean_line InFront new None ls e h = All-cons IsClean new ls e h
clean_line InFront new (Some gone) ls e h = All-cons IsClean new _ e (All-filter _ IsClean ls h)
clean_line InPlace new None ls e h = All-push IsClean ls new h e
clean_line InPlace new (Some gone) ls e h = clean_exchange gone.block _ ls e h

pub clean_step_at : (m : Machine) (ref : Ref) (block : ℕ) (leaving : Option Line)
    (st : MachineState) (o : Option Line) → m.design.write ≡ Through →
    find (is_block block) st.lines ≡ o → Clean st.lines →
    Clean (step_at m ref block leaving st o).after.lines
clean_step_at m ref block leaving st o w f h = grind (arith, clean_find, clean_line)

clean_fold : (m : Machine) (st : MachineState) (events : List Event) → m.design.write ≡ Through →
    Clean st.lines → Clean (fold (next m) st events).lines
clean_fold m st [] w h = h
clean_fold m st (event.Reference ref ∷ events) w h =
    let b = block_of m.design.geometry ref.addr in
    clean_fold m (step m st ref).after events w
    (clean_step_at m ref b (victim_line m st (set_of m.design.geometry ref.addr)) st
    (find (is_block b) st.lines) w refl h)
clean_fold m st (event.Flush ∷ events) w h = clean_fold m (next m st event.Flush) events w
    (All-nil IsClean)

-- what is sent down
clean_leaves : (m : Machine) (st : MachineState) (set : ℕ) (line : Line) → Clean st.lines →
    victim_line m st set ≡ Some line → line.dirty ≡ false
clean_leaves m st set line h e =
    let here : List Line = lines_of_set m.design.geometry set st.lines in
    let v = (rules m.policy).victim in
    let way = m.random_numbers st.drawn % m.design.geometry.e in
    cases (λ b. (cond b None (victim v way here) ≡ Some line) → line.dirty ≡ false)
    (ltb (length here) m.design.geometry.e)
    (λ _ q. absurd cc)
    (λ _ q. clean_victim v way here line (All-filter _ IsClean st.lines h) q) e

pub step_most : (m : Machine) (ref : Ref) (block : ℕ) (leaving : Option Line) (st : MachineState)
    (o : Option Line) →
    (m.design.write ≡ Through → NoneDirty leaving) →
    length (step_at m ref block leaving st o).effect.down ≤ 2
step_most m ref block leaving st o h = grind arith

pub down_law : DownLaw
down_law m events ref = grind (arith, clean_leaves, clean_fold)

-- a line that may leave a clean cache
may_clean : (needed : Bool) (here : List Line) (gone : Option Line) (line : Line) → Clean here →
    MayLeave needed here gone → gone ≡ Some line →
    line.dirty ≡ false
may_clean needed here None line h may e = absurd cc
may_clean needed here (Some x) line h may e = grind arith

-- under any policy
pub any_clean : (m : Machine) (st : MachineState) (ref : Ref) (gone : Option Line) →
    (m.design.write ≡ Through → dirty_count st ≡ 0) →
    m.design.write ≡ Through → dirty_count (step_with m ref gone st).after ≡ 0
any_clean m st ref gone h w =
    let block = block_of m.design.geometry ref.addr in
    let o = find (is_block block) st.lines in
    clean_count (step_at m ref block gone st o).after.lines
    (clean_step_at m ref block gone st o w refl (count_clean st.lines (h w)))

pub any_few : (m : Machine) (st : MachineState) (ref : Ref) (gone : Option Line) →
    (m.design.write ≡ Through → dirty_count st ≡ 0) →
    MayLeave (is_evicting m st ref) (lines_of_set m.design.geometry
    (set_of m.design.geometry ref.addr) st.lines) gone →
    length (step_with m ref gone st).effect.down ≤ 2
any_few m st ref gone h may =
    let block = block_of m.design.geometry ref.addr in
    let here = lines_of_set m.design.geometry (set_of m.design.geometry ref.addr) st.lines in
    step_most m ref block gone st (find (is_block block) st.lines)
    (λ w line e. may_clean (is_evicting m st ref) here gone line
    (All-filter _ IsClean st.lines (count_clean st.lines (h w))) may e)
