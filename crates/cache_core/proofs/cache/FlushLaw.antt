-- A new cache and a flush, as the cache sees them and as the machine sees them.
use Rattle.std.proofs.Common.{◌≡◌, ℕ, zero, suc, ◌+◌, ◌^◌, ◌<◌, cond, List, [], ◌∷◌, length, set}
use Rattle.std.proofs.Common.{replicate, Some, sym, ◌∙◌, ap, refl, arith, ⊎_elim, map, length-set}
use Rattle.std.proofs.Common.{get_or-set_same, get_or-set_other}
use Rattle.std.specs.Prelude.{count_by}
use Rattle.std.proofs.lemmas.List.{length-replicate}
use Rattle.std.proofs.lemmas.List.Sums.{sum_by-set, sum_by-cons}
use Rattle.std.proofs.lemmas.Bool.{eq-eqb}
use Rattle.std.proofs.lemmas.Bool.Decides.{eqb_tells}
use Rattle.std.proofs.Math.Nat.{one-le-pow}
use Rattle.std.proofs.lemmas.Nat.{mod_below}
use Rattle.cache_core.specs.declared.outcome.Slot.{Slot}
use Rattle.cache_core.specs.Geometry.{GeometryValue, set_of_block}
use Rattle.cache_core.specs.cache.Machine.{Machine, MachineState, Line, slot_of, lines_of_set}
use Rattle.cache_core.specs.cache.Machine.{start, dirty_count}
use Rattle.cache_core.specs.cache.Order.{Contents, FlushesCache, slots_of, dirty_in, dirty_slots}
use Rattle.cache_core.specs.replacement.Rules.{Place, rules}
use Rattle.cache_core.specs.cache.Stands.{IsState, IsGood, IsSoundState}
use Rattle.cache_core.proofs.cache.Lines.{ne-eqb}

-- no set has a slot
pub none_anywhere : (n k : ℕ) → slots_of (replicate n []) k ≡ []
none_anywhere zero zero = refl
none_anywhere zero (suc k) = refl
none_anywhere (suc n) zero = refl
none_anywhere (suc n) (suc k) = none_anywhere n k

-- the dirty slots of all sets are the dirty lines
none_dirty : (sets : List (List Slot)) → ((k : ℕ) → dirty_in (slots_of sets k) ≡ 0) →
    dirty_slots sets ≡ 0
none_dirty [] h = refl
none_dirty (x ∷ xs) h =
    let here : dirty_in x ≡ 0 = h zero in
    let rest = none_dirty xs (λ k. h (suc k)) in
    omega (arith, sum_by-cons dirty_in x xs, here, rest)

pub dirty_all : (g : GeometryValue) (lines : List Line) (sets : List (List Slot)) →
    length sets ≡ 2 ^ g.s →
    ((k : ℕ) → dirty_in (slots_of sets k) ≡ dirty_in (map slot_of (lines_of_set g k lines))) →
    dirty_slots sets ≡ count_by (λ (line : Line). line.dirty) lines
dirty_all g [] sets l h = none_dirty sets h
dirty_all g (x ∷ lines) sets l h =
    let k = set_of_block g x.block in
    let one : ℕ = cond x.dirty 1 0 in
    let old : List Slot = map slot_of (lines_of_set g k lines) in
    let pos : 0 < 2 ^ g.s = one-le-pow g.s 2 (omega arith) in
    let in_sets : k < length sets = omega (arith, l, mod_below x.block (2 ^ g.s) pos) in
    let here : dirty_in (slots_of sets k) ≡ dirty_in (slot_of x ∷ old) =
    h k ∙ rw (eq-eqb k k refl) refl in
    let less : List (List Slot) = set sets k old in
    let less_sets : (j : ℕ) → dirty_in (slots_of less j) ≡ dirty_in
    (map slot_of (lines_of_set g j lines)) = λ j. ⊎_elim
    (λ t. rw t.1 (ap dirty_in (get_or-set_same sets k old [] in_sets)))
    (λ f. ap dirty_in (get_or-set_other sets k j old [] f.1) ∙ h j ∙
    rw (ne-eqb k j (λ q. f.1 (sym q))) refl)
    (eqb_tells j k) in
    let i = dirty_all g lines less (length-set sets k old ∙ l) less_sets in
    let moved = sum_by-set dirty_in sets k old [] in_sets in
    let counted : dirty_in (slots_of sets k) ≡ one + dirty_in old =
    here ∙ sum_by-cons (λ (s : Slot). cond s.dirty 1 0) (slot_of x) old in
    omega (arith, i, moved, counted, sum_by-cons (λ (line : Line). cond line.dirty 1 0) x lines)

pub empty_good : (p : Place) (c : ℕ) → IsGood p c []
empty_good p c = grind arith

pub start_sound : (m : Machine) → IsSoundState m start
start_sound m k = empty_good (rules m.policy).placed 0

pub start_state : (m : Machine) (c : Contents) → c.design ≡ m.design → c.policy ≡ Some m.policy →
    c.random_numbers ≡ m.random_numbers →
    c.sets ≡ replicate (2 ^ m.design.geometry.s) [] → IsState m start c
start_state m c d r w e = grind (arith, length-replicate, none_anywhere)

-- what a flush leads to
pub record FlushFollows (m : Machine) (st : MachineState) (dirty : ℕ)
    (new : Contents) : Type 0 where
  pub state : IsState m (record st { lines = [] }) new
  pub effect : dirty ≡ dirty_count st
  pub sound : IsSoundState m (record st { lines = [] })

pub flush_law : (m : Machine) (st : MachineState) (old : Contents) (dirty : ℕ) (new : Contents) →
    IsState m st old → FlushesCache old dirty new →
    FlushFollows m st dirty new
flush_law m st old dirty new i f = record {
  state = record {
    design = f.design ∙ i.design;
    policy = f.policy ∙ i.policy;
    random_numbers = f.random_numbers ∙ i.random_numbers;
    count = ap length f.empty ∙ length-replicate (length old.sets) [] ∙ i.count;
    sets = λ k. ap (λ s. slots_of s k) f.empty ∙ none_anywhere (length old.sets) k;
  };
  effect = f.counted ∙ dirty_all m.design.geometry st.lines old.sets i.count
      (λ k. ap (count_by (λ (slot : Slot). slot.dirty)) (i.sets k));
  sound = λ k. empty_good (rules m.policy).placed st.clock;
}
