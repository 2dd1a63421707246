-- The lines of the LRU machine are marked dirty where look-back says so, and so are those that
-- leave it.
use Rattle.std.proofs.Common.{◌≡◌, ℕ, ◌+◌, ◌-◌, ◌<◌, ◌≤◌, ◌^◌, ◌&&◌, ◌||◌, Bool, true}
use Rattle.std.proofs.Common.{false, not, cond, eqb, ltb, List, [], ◌∷◌, ◌++◌, length, take, drop}
use Rattle.std.proofs.Common.{map, reverse, Option, Some, None, is_some, filter, find}
use Rattle.std.proofs.Common.{refl, sym, ◌∙◌, ap, subst, arith, ⊎_elim}
use Rattle.std.specs.List.{count_by, range_with_len}
use Rattle.std.specs.Option.{option_map}
use Rattle.std.specs.Prelude.{unwrap_or}
use Rattle.std.proofs.Math.Seq.{drop-append_seam}
use Rattle.std.proofs.lemmas.Bool.{eqb-true, eq-eqb, ne_eqb, ltb-false, cond-true}
use Rattle.std.proofs.lemmas.Bool.{cond-false, cases_lt}
use Rattle.std.proofs.lemmas.List.{get_or_past, map-append, length-map, length-append, length-take}
use Rattle.std.proofs.lemmas.List.Sums.{sum_by-cons}
use Rattle.std.proofs.lemmas.List.Folds.{fold-map}
use Rattle.std.proofs.lemmas.List.FromFn.{length-map-range_with_len, get_or-map-range_with_len}
use Rattle.std.proofs.lemmas.Nat.{mod_below, pow_pos}
use Rattle.trace_core.specs.declared.events.Ref.{Ref}
use Rattle.trace_core.specs.declared.events.Event.{Event}
use Rattle.trace_core.specs.declared.events.Event.TheVariants as event
use Rattle.trace_core.specs.Events.{is_write, one_if}
use Rattle.cache_core.specs.declared.design.WriteMode.TheVariants.{Back}
use Rattle.cache_core.specs.declared.outcome.Slot.{Slot}
use Rattle.cache_core.specs.Geometry.{GeometryValue, block_of, set_of_block, set_of}
use Rattle.cache_core.specs.Windows.{window, distinct_of_set, is_hit, is_evict}
use Rattle.cache_core.specs.LruLaws.{lru_machine, occurrence_after}
use Rattle.cache_core.specs.cache.Machine.{Machine, MachineState, Line, is_block, lines_of_set}
use Rattle.cache_core.specs.cache.Machine.{lines_without, least_line, victim_line, step_at}
use Rattle.cache_core.specs.cache.Machine.{dirty_count, slot_of}
use Rattle.cache_core.specs.cache.Order.{dirty_in, dirty_slots}
use Rattle.cache_core.proofs.cache.FlushLaw.{dirty_all}
use Rattle.cache_core.specs.cache.Stands.{Falls}
use Rattle.cache_core.proofs.Lists.{cases, eqb_flip}
use Rattle.cache_core.proofs.cache.Lines.{not_found, lines_without_absent, least_last}
use Rattle.cache_core.proofs.simulation.LruRun.{IsStacked, blocks_in}
use Rattle.full_profile.specs.LookBack.{is_block_dirty, held_blocks, copybacks_at}
use Rattle.full_profile.proofs.laws.Dirty.{dirty_push}
use Rattle.full_profile.proofs.laws.Copybacks.{below_same, count_one}

-- each line's mark is what look-back says of its block
abbrev pub Marked : GeometryValue → List Event → List Line → Type 0
Marked g past [] = Unit {0}
Marked g past (line ∷ lines) =
    (line.dirty ≡ is_block_dirty g line.block past) × Marked g past lines

marked_filter : (g : GeometryValue) (past : List Event) (p : Line → Bool) (lines : List Line) →
    Marked g past lines → Marked g past (filter p lines)
marked_filter g past p [] h = tt
marked_filter g past p (line ∷ lines) h =
    let rest = marked_filter g past p lines h.1 in
    elim (p line) as (λ b. Marked g past (cond b (line ∷ filter p lines) (filter p lines)))
    [ true ↦ (h.0, rest) | false ↦ rest ]

-- a reference leaves the lines of other blocks as they are
marked_others : (g : GeometryValue) (es : List Event) (r : Ref) (lines : List Line) →
    Marked g (reverse es) lines →
    Marked g (reverse (es ++ event.Reference r ∷ [])) (lines_without (block_of g r.addr) lines)
marked_others g es r [] h = tt
marked_others g es r (line ∷ lines) h =
    let x : ℕ = block_of g r.addr in
    let past : List Event = reverse (es ++ event.Reference r ∷ []) in
    let rest = marked_others g es r lines h.1 in
    cases (λ b. eqb line.block x ≡ b →
    Marked g past (cond (not b) (line ∷ lines_without x lines) (lines_without x lines)))
    (eqb line.block x)
    (λ t is. rest)
    (λ f is. (
      h.0 ∙ sym (dirty_push g es r line.block
          ∙ cond-false (eqb x line.block) _ _ (eqb_flip x line.block is)),
      rest,
    ))
    refl

-- the line of a block
find_marked : (g : GeometryValue) (past : List Event) (x : ℕ) (lines : List Line) (line : Line) →
    find (is_block x) lines ≡ Some line → Marked g past lines →
    (line.block ≡ x) × (line.dirty ≡ is_block_dirty g x past)
find_marked g past x [] line e h = absurd (cc)
find_marked g past x (l ∷ lines) line e h = cases
    (λ b. eqb l.block x ≡ b → cond b (Some l) (find (is_block x) lines) ≡ Some line →
    (line.block ≡ x) × (line.dirty ≡ is_block_dirty g x past))
    (eqb l.block x)
    (λ t is same.
    let one : l ≡ line = cc in
    let block : l.block ≡ x = eqb-true l.block x is in (
      ap (λ k. k.block) (sym one) ∙ block,
      ap (λ k. k.dirty) (sym one) ∙ h.0 ∙ ap (λ b. is_block_dirty g b past) block,
    ))
    (λ f is same. find_marked g past x lines line same h.1)
    refl e

module _ (g : GeometryValue) (es : List Event) (r : Ref) where
  abbrev m : Machine
  m = lru_machine g Back

  abbrev x : ℕ
  x = block_of g r.addr

  abbrev past_then : List Event
  past_then = reverse (es ++ event.Reference r ∷ [])

  -- the mark of the block of a reference
  own_mark : (hit was : Bool) → hit ≡ is_hit g (occurrence_after g es r) →
      (hit ≡ true → was ≡ is_block_dirty g x (reverse es)) →
      (is_write r.access || (hit && was)) ≡ is_block_dirty g x past_then
  own_mark hit was is h =
      either_way hit was h
      ∙ ap (λ b. is_write r.access || (b && is_block_dirty g x (reverse es))) is
      ∙ sym (dirty_push g es r x ∙ cond-true (eqb x x) _ _ (eq-eqb x x refl))
    where
      either_way : (b c : Bool) → (b ≡ true → c ≡ is_block_dirty g x (reverse es)) →
          (is_write r.access || (b && c))
          ≡ (is_write r.access || (b && is_block_dirty g x (reverse es)))
      either_way true c same = ap (λ d. is_write r.access || d) (same refl)
      either_way false c same = refl

  either_false : (b : Bool) → (b || false) ≡ b
  either_false true = refl
  either_false false = refl

  pub marked_at : (st : MachineState) (leaving found : Option Line) →
      find (is_block x) st.lines ≡ found →
      (step_at m r x leaving st found).effect.hit ≡ is_hit g (occurrence_after g es r) →
      Marked g (reverse es) st.lines →
      Marked g past_then (step_at m r x leaving st found).after.lines
  marked_at st leaving (Some line) e hit h =
      let at = find_marked g (reverse es) x st.lines line e h in (
        own_mark true line.dirty hit (λ _. at.1)
            ∙ ap (λ b. is_block_dirty g b past_then) (sym at.0),
        subst (λ (b : ℕ). Marked g past_then (lines_without b st.lines)) (sym at.0)
            (marked_others g es r st.lines h),
      )
  marked_at st None None e hit h = (
    sym (either_false (is_write r.access)) ∙ own_mark false false hit (λ no. absurd (cc)),
    subst (Marked g past_then) (lines_without_absent x st.lines (not_found x st.lines e))
        (marked_others g es r st.lines h),
  )
  marked_at st (Some gone) None e hit h = (
    sym (either_false (is_write r.access)) ∙ own_mark false false hit (λ no. absurd (cc)),
    marked_filter g past_then (λ line. not (is_block gone.block line)) st.lines
        (subst (Marked g past_then) (lines_without_absent x st.lines (not_found x st.lines e))
        (marked_others g es r st.lines h)),
  )

-- lines that end with a last one
record HasLast (lines : List Line) : Type 0 where
  front : List Line
  last : Line
  is : lines ≡ front ++ last ∷ []

last_line : (lines : List Line) → 1 ≤ length lines → HasLast lines
last_line [] h = absurd (omega (arith, h))
last_line (l ∷ []) h = record { front = []; last = l; is = refl }
last_line (l ∷ (k ∷ lines)) h =
    let rest = last_line (k ∷ lines) (omega arith) in
    record { front = l ∷ rest.front; last = rest.last; is = ap (λ ls. l ∷ ls) rest.is }

marked_last : (g : GeometryValue) (past : List Event) (front : List Line) (last : Line) →
    Marked g past (front ++ last ∷ []) → last.dirty ≡ is_block_dirty g last.block past
marked_last g past [] last h = h.0
marked_last g past (l ∷ front) last h = marked_last g past front last h.1

-- the line that leaves holds the least recent block of its set
record IsVictim (g : GeometryValue) (past : List Event) (blocks : List ℕ)
    (gone : Line) : Type 0 where
  block : drop (g.e - 1) blocks ≡ gone.block ∷ []
  mark : gone.dirty ≡ is_block_dirty g gone.block past

module _ (g : GeometryValue) (some : 1 ≤ g.e) (w : List ℕ) (past : List Event) (st : MachineState)
    (stacked : IsStacked g Back w st) (marked : Marked g past st.lines) (k : ℕ) where
  abbrev here : List Line
  here = lines_of_set g k st.lines

  abbrev held : List ℕ
  held = take g.e (distinct_of_set g k w)

  count_here : length here ≡ length held
  count_here = sym (length-map here (λ line. line.block)) ∙ ap length (stacked.fronts k)

  full_victim : (gone : Line) → g.e ≤ length here → least_line here ≡ Some gone →
      IsVictim g past held gone
  full_victim gone full least =
      let l = last_line here (omega (arith, some, full)) in
      let falls : Falls (st.clock + 1) (l.front ++ l.last ∷ []) =
      subst (Falls (st.clock + 1)) l.is (stacked.sound k).order in
      let same : Some l.last ≡ Some gone =
      sym (least_last (st.clock + 1) l.front l.last falls) ∙ ap least_line (sym l.is) ∙ least in
      let one : l.last ≡ gone = cc (same) in
      let marks : Marked g past (l.front ++ l.last ∷ []) =
      subst (Marked g past) l.is
      (marked_filter g past (λ line. eqb (set_of_block g line.block) k) st.lines marked) in
      let few : length l.front + 1 ≡ g.e = omega (
        arith,
        ap length l.is,
        length-append l.front (l.last ∷ []),
        full,
        count_here,
        length-take g.e (distinct_of_set g k w),
      ) in
      let blocks : held ≡ blocks_in l.front ++ l.last.block ∷ [] =
      sym (stacked.fronts k) ∙ ap blocks_in l.is ∙ map-append (λ line. line.block) l.front
      (l.last ∷ []) in
      let last : drop (g.e - 1) held ≡ l.last.block ∷ [] =
      ap (λ xs. drop (g.e - 1) xs) blocks
      ∙ ap (λ n. drop n (blocks_in l.front ++ l.last.block ∷ [])) {x = g.e - 1} {y = length
      (blocks_in l.front)} (omega (arith, few, length-map l.front (λ line. line.block)))
      ∙ drop-append_seam (blocks_in l.front) (l.last.block ∷ []) in
      record {
        block = last ∙ ap (λ line. line.block ∷ []) one;
        mark = subst (λ (line : Line). line.dirty ≡ is_block_dirty g line.block past) one
            (marked_last g past l.front l.last marks);
      }

  victim_is : (gone : Line) → victim_line (lru_machine g Back) st k ≡ Some gone →
      IsVictim g past held gone
  victim_is gone e = cases (λ b. ltb (length here) g.e ≡ b → cond b None (least_line here)
      ≡ Some gone → IsVictim g past held gone)
      (ltb (length here) g.e)
      (λ t is none. absurd (cc (none)))
      (λ f is least. full_victim gone (ltb-false (length here) g.e is) least)
      refl e

-- what leaves at a reference is a copyback if it is dirty
abbrev pub is_copied : Option Slot → Bool
is_copied evicted = unwrap_or (option_map (λ slot. slot.dirty) evicted) false

module _ (g : GeometryValue) (some : 1 ≤ g.e) (es : List Event) (r : Ref) (st : MachineState)
    (stacked : IsStacked g Back (window g es) st) (marked : Marked g (reverse es) st.lines) where
  abbrev out : List ℕ
  out = drop (g.e - 1) (held_blocks g es (set_of g r.addr))

  abbrev is_old : ℕ → Bool
  is_old b = is_block_dirty g b (reverse es)

  pub copied_at : (leaving found : Option Line) →
      victim_line (lru_machine g Back) st (set_of g r.addr) ≡ leaving →
      is_some (step_at (lru_machine g Back) r (block_of g r.addr) leaving st found).effect.evicted
      ≡ is_evict g (occurrence_after g es r) →
      one_if (is_copied (step_at (lru_machine g Back) r (block_of g r.addr) leaving st
      found).effect.evicted) ≡ copybacks_at g es (event.Reference r)
  copied_at leaving (Some line) v evict = ap (λ b. count_by is_old (cond b out [])) evict
  copied_at None None v evict = ap (λ b. count_by is_old (cond b out [])) evict
  copied_at (Some gone) None v evict =
      let at = victim_is g some (window g es) (reverse es) st stacked marked (set_of g r.addr) gone
      v in
      ap (λ b. cond {A = ℕ} b 1 0) at.mark
      ∙ sym (count_one is_old gone.block)
      ∙ ap (count_by is_old) (sym at.block)
      ∙ ap (λ b. count_by is_old (cond b out [])) evict

-- the dirty lines, set by set
none_past : (g : GeometryValue) (k : ℕ) (lines : List Line) → 2 ^ g.s ≤ k →
    lines_of_set g k lines ≡ []
none_past g k [] le = refl
none_past g k (line ∷ lines) le =
    let lt = mod_below line.block (2 ^ g.s) (pow_pos g.s) in
    cond-false (eqb (set_of_block g line.block) k) _ _ (ne_eqb _ _ (λ e. omega (arith, e, lt, le)))
    ∙ none_past g k lines le

marks_counted : (g : GeometryValue) (past : List Event) (lines : List Line) → Marked g past lines →
    count_by (λ b. is_block_dirty g b past) (blocks_in lines) ≡ dirty_in (map slot_of lines)
marks_counted g past [] h = refl
marks_counted g past (line ∷ lines) h =
    let here : cond {A = ℕ} (is_block_dirty g line.block past) 1 0 ≡ cond line.dirty 1 0 =
    ap (λ b. cond {A = ℕ} b 1 0) (sym h.0) in
    omega (
      arith,
      sum_by-cons (λ b. cond (is_block_dirty g b past) 1 0) line.block (blocks_in lines),
      sum_by-cons (λ (s : Slot). cond s.dirty 1 0) (slot_of line) (map slot_of lines),
      here,
      marks_counted g past lines h.1,
    )

pub flushed : (g : GeometryValue) (es : List Event) (st : MachineState) →
    IsStacked g Back (window g es) st → Marked g (reverse es) st.lines →
    dirty_count st ≡ copybacks_at g es event.Flush
flushed g es st stacked marked =
    let n : ℕ = 2 ^ g.s in
    let slots : ℕ → List Slot = λ k. map slot_of (lines_of_set g k st.lines) in
    let sets : List (List Slot) = map slots (range_with_len 0 n) in
    let dirty : ℕ → Bool = λ b. is_block_dirty g b (reverse es) in
    let all : dirty_slots sets ≡ dirty_count st =
    dirty_all g st.lines sets (length-map-range_with_len slots 0 n)
    (λ k. ⊎_elim
    (λ (lt : k < n). ap dirty_in (get_or-map-range_with_len slots 0 n k k [] lt (omega arith)))
    (λ (le : n ≤ k). ap dirty_in (get_or_past sets k [] (omega (
      arith,
      le,
      length-map-range_with_len slots 0 n,
    )) ∙ ap (map slot_of) (sym (none_past g k st.lines le))))
    (cases_lt k n)) in
    sym all
    ∙ fold-map (λ a ss. a + dirty_in ss) slots 0 (range_with_len 0 n)
    ∙ sym (below_same (λ k. count_by dirty (held_blocks g es k)) (λ k. dirty_in (slots k)) n
    (λ k lt. ap (count_by dirty) (sym (stacked.fronts k))
    ∙ marks_counted g (reverse es) (lines_of_set g k st.lines)
    (marked_filter g (reverse es) (λ line. eqb (set_of_block g line.block) k) st.lines marked)))
