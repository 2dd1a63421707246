-- How long a list is that gets a block in front, and which sets have a block then.
use Rattle.std.proofs.Common.{◌≡◌, ℕ, zero, suc, ◌+◌, ◌-◌, ◌*◌, ◌<◌, ◌≤◌, ◌^◌, Bool, true, false}
use Rattle.std.proofs.Common.{cond}
use Rattle.std.proofs.Common.{eqb, ltb, min, List, [], ◌∷◌, length, take, drop, map, get_or, set}
use Rattle.std.proofs.Common.{refl}
use Rattle.std.proofs.Common.{sym, ◌∙◌, ap, subst, arith, inl, inr, length-set, length-take}
use Rattle.std.proofs.Common.{length-append, length-drop, get_or-set_same, get_or-set_other, eq-eqb}
use Rattle.std.specs.Prelude.{replicate, Some}
use Rattle.std.specs.List.{remove}
use Rattle.std.proofs.Math.Nat.{mul-le-mul_left, mul-le-mul_right}
use Rattle.std.proofs.lemmas.Bool.{ltb-true, cases_eq, eqb-true, false≢true}
use Rattle.std.proofs.lemmas.Bool.Decides.{nat_tests}
use Rattle.std.proofs.lemmas.List.{set-get_or, length-replicate}
use Rattle.cache_core.specs.Touched.{TouchedValue, Covers, after_count}
use Rattle.cache_core.proofs.Lists.{list_any_is}
use Rattle.cache_core.proofs.TouchedSets.{covers_change, covers_none}
use Rattle.trace_core.specs.declared.events.Access.{Access}
use Rattle.profile_core.specs.profile.RecencyList.{index_of, is_in, move_to_front}
use Rattle.profile_core.proofs.Elements.{all_set, all_same}
use Rattle.full_profile.specs.State.{clean_in_front}
use Rattle.full_profile.specs.declared.marked_lists.MarkedTouch.{MarkedTouch}
use Rattle.full_profile.specs.declared.marked_lists.MarkedTouch.TheVariants.{Behind, New, Full}
use Rattle.full_profile.specs.internal.Marked.{Marked, AreAlike, AreTouched, blocks_in, cleans_in}
use Rattle.full_profile.specs.internal.Marked.{marked_touch_of, after_access, cleans_after}
use Rattle.profile_core.proofs.Shifting.{length-remove, remove_end, index-le}
use Rattle.full_profile.proofs.marked_lists.Emptying.{lengths_set, length-lengths, length_at}

-- the length of a list with a block in front depends on its length alone
size_after : (d i y : ℕ) (xs : List ℕ) → length (take d (y ∷ remove xs i)) ≡ min d
    (suc (min i (length xs) + (length xs - suc i)))
size_after d i y xs = omega (
  arith,
  length-take d (y ∷ remove xs i),
  length-append (take i xs) (drop (suc i) xs),
  length-take i xs,
  length-drop (suc i) xs,
)

pub same_size : (d i y z : ℕ) (xs ys : List ℕ) → length ys ≡ length xs →
    length (take d (z ∷ remove ys i)) ≡ length (take d (y ∷ remove xs i))
same_size d i y z xs ys same = size_after d i z ys
    ∙ ap (λ n. min d (suc (min i n + (n - suc i)))) same ∙ sym (size_after d i y xs)

-- where the block was found
pub inside_lt : (x : ℕ) (xs : List ℕ) → is_in x xs ≡ true → index_of x xs < length xs
inside_lt x xs inside = ltb-true (index_of x xs) (length xs)
    (sym (list_any_is (λ y. eqb y x) xs) ∙ inside)

pub size_found : (d x : ℕ) (xs : List ℕ) → is_in x xs ≡ true → length xs ≤ d →
    length (take d (move_to_front x xs)) ≡ length xs
size_found d x xs inside short = omega (
  arith,
  length-take d (move_to_front x xs),
  length-remove xs (index_of x xs) (inside_lt x xs inside),
  short,
)

absent_at : (b : Bool) (p n : ℕ) → b ≡ false → b ≡ ltb p n → p ≤ n → p ≡ n
absent_at b p n out e le = grind (arith, nat_tests)

-- where it was not
pub index_absent : (x : ℕ) (xs : List ℕ) → is_in x xs ≡ false → index_of x xs ≡ length xs
index_absent x xs out = absent_at (is_in x xs) (index_of x xs) (length xs) out
    (list_any_is (λ y. eqb y x) xs) (index-le x xs)

pub size_new : (d x : ℕ) (xs : List ℕ) → is_in x xs ≡ false →
    length (take d (move_to_front x xs)) ≡ min d (length xs + 1)
size_new d x xs out = omega (
  arith,
  length-take d (move_to_front x xs),
  ap length (remove_end xs (index_of x xs) (omega (arith, index_absent x xs out))),
)

-- what tells where an access found its block
pub full_parts : (b e : Bool) (c p q r n : ℕ) →
    Full c ≡ cond b (Behind p q) (cond e (Full r) (New n)) →
    (b ≡ false) × (e ≡ true) × (c ≡ r)
full_parts true e c p q r n is = absurd (cc)
full_parts false true c p q r n is = (refl, refl, cc)
full_parts false false c p q r n is = absurd (cc)

pub new_parts : (b e : Bool) (h p q r n : ℕ) →
    New h ≡ cond b (Behind p q) (cond e (Full r) (New n)) →
    (b ≡ false) × (e ≡ false) × (h ≡ n)
new_parts true e h p q r n is = absurd (cc)
new_parts false true h p q r n is = absurd (cc)
new_parts false false h p q r n is = (refl, refl, cc)

kept_parts : (b e : Bool) (touch : MarkedTouch) (p q r n : ℕ) →
    touch ≡ cond b (Behind p q) (cond e (Full r) (New n)) →
    ((h : ℕ) → touch ≡ New h → ⊥) → (b ≡ false → e ≡ true)
kept_parts true e touch p q r n is other = λ f. absurd (cc)
kept_parts false true touch p q r n is other = λ _. refl
kept_parts false false touch p q r n is other = absurd (other n is)

pub unequal : (a b : ℕ) → eqb a b ≡ false → a ≡ b → ⊥
unequal a b differ same = absurd (false≢true (sym differ ∙ eq-eqb a b same))

-- the lists after an access
module _ {m : Marked} {touched : TouchedValue} (t : AreTouched m touched) (k : ℕ)
    (lt : k < length m.blocks) (x : ℕ) (access : Access) where
  abbrev xs : List ℕ
  xs = blocks_in m k

  abbrev ms : List ℕ
  ms = cleans_in m k

  abbrev new : List ℕ
  new = take m.depth (move_to_front x xs)

  abbrev clean_new : List ℕ
  clean_new = cleans_after m.depth access x xs ms

  among_counts : k < length (map length m.blocks)
  among_counts = omega (arith, lt, length-lengths m.blocks)

  among_cleans : k < length m.cleans
  among_cleans = omega (arith, lt, t.alike.set_count)

  new_alike : length clean_new ≡ length new
  new_alike = same_size m.depth (index_of x xs) x (clean_in_front m.depth access x xs ms) xs ms
      (t.alike.same_lengths k)

  pub access_alike : AreAlike (after_access m k x access)
  access_alike = record {
    set_count = length-set m.cleans k clean_new ∙ t.alike.set_count ∙
        sym (length-set m.blocks k new);
    same_lengths = λ i. elim (cases_eq i k) [
      | inl same ↦ ap (λ j. length (get_or (set m.cleans k clean_new) j [])) same
          ∙ ap length (get_or-set_same m.cleans k clean_new [] among_cleans) ∙ new_alike
          ∙ sym (ap (λ j. length (get_or (set m.blocks k new) j [])) same
          ∙ ap length (get_or-set_same m.blocks k new [] lt))
      | inr other ↦ ap length (get_or-set_other m.cleans k i clean_new [] other)
          ∙ t.alike.same_lengths i
          ∙ sym (ap length (get_or-set_other m.blocks k i new [] other))
    ];
  }

  after_touched : (touched' : TouchedValue) →
      Covers touched' (set (map length m.blocks) k (length new)) →
      AreTouched (after_access m k x access) touched'
  after_touched touched' covers = record {
    alike = access_alike;
    few = omega (arith, t.few, length-set m.blocks k new);
    small = t.small;
    short = all_set (λ _ l. length l ≤ m.depth) m.blocks k new [] lt
        (omega (arith, length-take m.depth (move_to_front x xs))) (λ i _. t.short i);
    covers = subst (λ ns. Covers touched' ns) (sym (lengths_set m.blocks k new)) covers;
  }

  -- with one block more
  module _ {held : ℕ} (found : New held ≡ marked_touch_of m.depth x xs ms) where
    abbrev parts : (is_in x xs ≡ false) × (eqb (length xs) m.depth ≡ false) × (held ≡ length xs)
    parts = new_parts (is_in x xs) (eqb (length xs) m.depth) held (index_of x xs)
        (get_or ms (index_of x xs) 0) (get_or ms (m.depth - 1) 0) (length xs) found

    pub held_small : held < 2 ^ 22
    held_small =
        let other : length xs ≡ m.depth → ⊥ = unequal (length xs) m.depth parts.1 in
        omega (arith, parts.2, t.short k, t.small, other)

    grown : length new ≡ held + 1
    grown =
        let other : length xs ≡ m.depth → ⊥ = unequal (length xs) m.depth parts.1 in
        omega (arith, size_new m.depth x xs parts.0, parts.2, t.short k, other)

    pub one_grown : (now : Marked) (touched' : TouchedValue) → now ≡ after_access m k x access →
        touched' ≡ after_count k held (held + 1) touched → AreTouched now touched'
    one_grown now touched' now_is is =
        subst (λ n. AreTouched n touched') (sym now_is) (after_touched touched'
        (subst (λ n. Covers touched' (set (map length m.blocks) k n)) (sym grown)
        (subst (λ u. Covers u (set (map length m.blocks) k (held + 1))) (sym is)
        (covers_change touched (map length m.blocks) k held (held + 1) among_counts
        (parts.2 ∙ sym (length_at m.blocks k)) t.covers))))

  -- or with as many
  kept : (touch : MarkedTouch) → touch ≡ marked_touch_of m.depth x xs ms →
      ((h : ℕ) → touch ≡ New h → ⊥) → (b : Bool) → is_in x xs ≡ b → length new ≡ length xs
  kept touch found other true inside = size_found m.depth x xs inside (t.short k)
  kept touch found other false out =
      let full : eqb (length xs) m.depth ≡ true = kept_parts (is_in x xs)
      (eqb (length xs) m.depth) touch (index_of x xs) (get_or ms (index_of x xs) 0)
      (get_or ms (m.depth - 1) 0) (length xs) found other out in
      omega (arith, size_new m.depth x xs out, eqb-true (length xs) m.depth full)

  pub none_grown : (now : Marked) (touch : MarkedTouch) → now ≡ after_access m k x access →
      touch ≡ marked_touch_of m.depth x xs ms → ((h : ℕ) → touch ≡ New h → ⊥) → AreTouched now
      touched
  none_grown now touch now_is found other =
      let same : length new ≡ get_or (map length m.blocks) k 0 =
      kept touch found other (is_in x xs) refl ∙ sym (length_at m.blocks k) in
      subst (λ n. AreTouched n touched) (sym now_is) (after_touched touched
      (subst (λ ns. Covers touched ns) (sym (ap (set (map length m.blocks) k) same
      ∙ set-get_or (map length m.blocks) k 0)) t.covers))

-- lists that are empty
lengths_none : (n : ℕ) → map length (replicate {A = List ℕ} n []) ≡ replicate n 0
lengths_none zero = refl
lengths_none (suc n) = ap (λ ns. 0 ∷ ns) (lengths_none n)

pub none_touched : (d n n' : ℕ) (touched : TouchedValue) (capacity : ℕ) (now : Marked) →
    now ≡ record { depth = d; blocks = replicate n []; cleans = replicate n' [] } → n' ≡ n →
    n ≤ 2 ^ 22 → d ≤ 2 ^ 22 → touched ≡ record { capacity = capacity; sets = Some [] } →
    AreTouched now touched
none_touched d n n' touched capacity now is same few small none =
    subst (λ m. AreTouched m touched) (sym is) (record {
      alike = record {
        set_count = length-replicate n' [] ∙ same ∙ sym (length-replicate n []);
        same_lengths = λ k. ap length (all_same {A = List ℕ} n' k []) ∙
            sym (ap length (all_same {A = List ℕ} n k []));
      };
      few = omega (arith, few, length-replicate {A = List ℕ} n []);
      small = small;
      short = λ k. omega (arith, ap length (all_same {A = List ℕ} n k []));
      covers = covers_none touched capacity n (map length (replicate {A = List ℕ} n [])) none
          (lengths_none n);
    })

pub depth_small : (sets depth : ℕ) → 1 ≤ sets → sets * depth ≤ 2 ^ 22 → depth ≤ 2 ^ 22
depth_small sets depth some small = omega (arith, mul-le-mul_right depth some)

pub sets_small : (sets depth : ℕ) → 1 ≤ depth → sets * depth ≤ 2 ^ 22 → sets ≤ 2 ^ 22
sets_small sets depth some small =
    omega (arith, mul-le-mul_left sets some)
