-- What the calls of the order of slots do, by the fields.
use Rattle.std.proofs.Common.{◌≡◌, ◌≢◌, ℕ, zero, suc, ◌+◌, ◌-◌, ◌*◌, ◌%◌, ◌^◌, ◌<◌, ◌≤◌, List, []}
use Rattle.std.proofs.Common.{◌∷◌, ◌++◌}
use Rattle.std.proofs.Common.{length, set, get_or, replicate, refl, sym, ◌∙◌, ap}
use Rattle.std.proofs.Common.{subst, arith, ◌⊎◌, inl, inr}
use Rattle.std.proofs.Common.{Bool, true, false, Some, ltb}
use Rattle.std.specs.Prelude.{slice_get, remove, nat_lt, IfOk}
use Rattle.std.proofs.Common.{Result, Ok, Err}
use Rattle.std.specs.Bool.{then_some}
use Rattle.std.specs.List.{range_with_len}
use Rattle.std.proofs.lemmas.List.{get_or_read, get_or-set_same}
use Rattle.std.proofs.lemmas.Option.{slice_get_within}
use Rattle.block_index.specs.SlotLists.{SlotListsValue, has_slot, index_of_slot, is_listed}
use Rattle.block_index.specs.SlotLists.{AreApart, AreOnce, with_first, without_slot}
use Rattle.cache_core.specs.declared.design.Repl.{Repl}
use Rattle.cache_core.specs.declared.design.Repl.TheVariants.{Lru, Fifo, Random}
use Rattle.cache_core.specs.replacement.Rules.{rules, InFront}
use Rattle.cache_core.specs.internal.cache.SlotOrder.{IsKept, orders, order_of, in_ways}
use Rattle.cache_core.specs.internal.cache.SlotOrder.{with_next, with_moved, victim_index}
use Rattle.cache_core.proofs.cache.indexed.SlotsApart.{some_is, removed_self, index_once, slot_in}
use Rattle.cache_core.proofs.cache.indexed.SlotsApart.{length_remove_index}
use Rattle.cache_core.proofs.cache.indexed.HeldLaw.{by_set}
use Rattle.cache_core.proofs.cache.indexed.IndexedDeeds.{in_no_list}
use Rattle.cache_core.proofs.cache.indexed.PolicySlots.{moved_length}
use Rattle.cache_core.proofs.cache.indexed.WaysLaw.{ways_at, ways_set, range_push, range_get}
use Rattle.cache_core.proofs.cache.indexed.SlotOrderLaw.{new_kept, new_sets, random_kept, zero_ways}
use Rattle.cache_core.proofs.cache.indexed.SlotOrderLaw.{with_list, kept_moved, kept_count}
use Rattle.cache_core.proofs.cache.indexed.SlotOrderLaw.{kept_ways, kept_long, kept_within}
use Rattle.cache_core.proofs.cache.indexed.SlotOrderLaw.{kept_sets}

by_not : (b : Bool) → (b ≡ true → ⊥) → b ≡ false
by_not true never = absurd (never refl)
by_not false never = refl

first_of : (a m : ℕ) → then_some (nat_lt 0 m) a ≡ slice_get (range_with_len a m) 0
first_of a zero = refl
first_of a (suc m) = let some : ltb 0 (suc m) ≡ true = grind arith in ap (λ b. then_some b a) some

-- the last slot stands behind the others
remove_behind : (xs : List ℕ) (s i : ℕ) → slice_get xs i ≡ Some s → suc i ≡ length xs →
    remove xs i ++ s ∷ [] ≡ xs
remove_behind [] s i e long = absurd (omega (arith, long))
remove_behind (x ∷ []) s zero e long = ap (λ y. y ∷ []) (sym (some_is x s e))
remove_behind (x ∷ y ∷ xs) s zero e long = absurd (omega (arith, long))
remove_behind (x ∷ xs) s (suc i) e long =
    ap (λ ys. x ∷ ys) (remove_behind xs s i e (omega (arith, long)))

last_apart : (xs : List ℕ) (s : ℕ) → AreOnce xs → slice_get xs (length xs - 1) ≡ Some s →
    remove xs (index_of_slot s xs) ++ s ∷ [] ≡ xs
last_apart xs s once e =
    let at = index_once xs (length xs - 1) s once e in
    let lt = slice_get_within xs (length xs - 1) s e in
    ap (λ i. remove xs i ++ s ∷ []) at ∙ remove_behind xs s (length xs - 1) e (omega (arith, lt))

-- a slot that was taken out of a list is in none
pub taken_out : (v : SlotListsValue) (k s : ℕ) → AreApart v → k < length v.lists →
    has_slot s (order_of v.lists k) ≡ true →
    is_listed (set v.lists k (remove (order_of v.lists k) (index_of_slot s (order_of v.lists k)))) s
    ≡ false
taken_out v k s a lt i =
    in_no_list s (set v.lists k (remove (order_of v.lists k) (index_of_slot s
    (order_of v.lists k))))
    (by_set v.lists k (remove (order_of v.lists k) (index_of_slot s (order_of v.lists k))) lt
    (λ n ys. has_slot s ys ≡ false) (removed_self s (order_of v.lists k) (a.once k))
    (λ j ne. by_not (has_slot s (order_of v.lists j)) (λ h. ne (a.one_list j k s h i))))

pub set_again : {X : Type 0} (xs : List X) (s : ℕ) (v w : X) → set (set xs s v) s w ≡ set xs s w
set_again [] s v w = refl
set_again (x ∷ xs) zero v w = refl
set_again (x ∷ xs) (suc s) v w = ap (λ ys. x ∷ ys) (set_again xs s v w)

-- it comes to the front
pub brought : (v : SlotListsValue) (k s : ℕ) → k < length v.lists →
    with_first (without_slot v k s) k s
    ≡ with_list v k (with_moved InFront s (order_of v.lists k))
brought v k s lt =
    let rest : List ℕ = remove (order_of v.lists k) (index_of_slot s (order_of v.lists k)) in
    ap (λ ys. record v { lists = ys })
    (ap (λ (ys : List ℕ). set (set v.lists k rest) k (s ∷ ys))
    (get_or-set_same v.lists k rest [] lt) ∙ set_again v.lists k rest (s ∷ rest))

module _ (ways : ℕ) (filled : List ℕ) (lists : SlotListsValue) (k : ℕ) (p : Repl)
    (i : IsKept p ways filled lists) (within : k < length (orders p ways filled lists)) where
  in_filled : k < length filled
  in_filled = omega (arith, kept_sets p ways filled lists i, within)

  -- how many slots of the set are filled
  pub count_here : (m : ℕ) → m ≡ get_or filled k m →
      length (order_of (orders p ways filled lists) k) ≡ m
  count_here m e = kept_long ways filled lists k p i ∙ sym (get_or_read filled k m in_filled e 0)

  -- there are lists
  module _ (named : (p ≡ Lru) ⊎ (p ≡ Fifo)) where
    pub are_lists : orders p ways filled lists ≡ lists.lists
    are_lists = elim named [
      | inl e ↦ ap (λ q. orders q ways filled lists) e
      | inr e ↦ ap (λ q. orders q ways filled lists) e
    ]

    here : order_of (orders p ways filled lists) k ≡ order_of lists.lists k
    here = ap (λ ys. order_of ys k) are_lists

    pub grown_kept : (s m : ℕ) → m ≡ get_or filled k m →
        length (order_of (orders p ways filled lists) k) < ways →
        IsKept p ways (set filled k (m + 1)) (with_list lists k (s ∷ order_of lists.lists k))
    grown_kept s m e room = kept_count ways filled lists k p (s ∷ order_of lists.lists k) (m + 1) i
        (omega (arith, room, count_here m e))
        (omega (arith, count_here m e, ap (λ (ys : List ℕ). length ys) here))

    pub brought_kept : (s : ℕ) → has_slot s (order_of (orders p ways filled lists) k) ≡ true →
        IsKept p ways filled (with_list lists k (with_moved InFront s (order_of lists.lists k)))
    brought_kept s h = kept_moved ways filled lists k p
        (with_moved InFront s (order_of lists.lists k)) i
        (moved_length InFront s (order_of lists.lists k) (ap (has_slot s) (sym here) ∙ h))

    pub in_some_list : k < length lists.lists
    in_some_list = subst (λ (ys : List (List ℕ)). k < length ys) are_lists within

    module _ (m s : ℕ) (e : m ≡ get_or filled k m) (some : m ≢ 0)
        (last : slice_get (order_of lists.lists k) (length (order_of lists.lists k) - 1) ≡ Some s)
        (once : AreOnce (order_of lists.lists k)) where
      abbrev rest : List ℕ
      rest = remove (order_of lists.lists k) (index_of_slot s (order_of lists.lists k))

      last_in : has_slot s (order_of lists.lists k) ≡ true
      last_in = slot_in (order_of lists.lists k) (length (order_of lists.lists k) - 1) s last

      pub popped_kept : IsKept p ways (set filled k (m - 1)) (with_list lists k rest)
      popped_kept = kept_count ways filled lists k p rest (m - 1) i
          (omega (
            arith,
            kept_within ways filled lists k p i in_filled,
            get_or_read filled k m in_filled e 0,
          ))
          (omega (
            arith,
            length_remove_index s (order_of lists.lists k) last_in,
            count_here m e,
            ap (λ (ys : List ℕ). length ys) here,
          ))

      pub popped_list : order_of (orders p ways filled lists) k ≡ rest ++ s ∷ []
      popped_list = here ∙ sym (last_apart (order_of lists.lists k) s once last)

      pub popped_sets : orders p ways (set filled k (m - 1)) (with_list lists k rest)
          ≡ set (orders p ways filled lists) k rest
      popped_sets = elim named [
        | inl q ↦ ap (λ r. orders r ways (set filled k (m - 1)) (with_list lists k rest)) q
            ∙ ap (λ ys. set ys k rest) (sym are_lists)
        | inr q ↦ ap (λ r. orders r ways (set filled k (m - 1)) (with_list lists k rest)) q
            ∙ ap (λ ys. set ys k rest) (sym are_lists)
      ]

  -- the order is that of the ways
  module _ (named : p ≡ Random) (m : ℕ) (e : m ≡ get_or filled k m) where
    are_ways : orders p ways filled lists ≡ in_ways ways 0 filled
    are_ways = ap (λ q. orders q ways filled lists) named

    row : order_of (orders p ways filled lists) k ≡ range_with_len (k * ways) m
    row =
        let start : 0 + k * ways ≡ k * ways = omega arith in
        ap (λ ys. order_of ys k) are_ways ∙ ways_at ways 0 filled k in_filled
        ∙ ap (λ a. range_with_len a (get_or filled k 0)) start
        ∙ ap (range_with_len (k * ways)) (sym (get_or_read filled k m in_filled e 0))

    pub way_kept : (n : ℕ) → n ≤ ways → IsKept p ways (set filled k n) lists
    way_kept n le = subst (λ (q : Repl). IsKept q ways (set filled k n) lists) (sym named)
        (kept_ways ways filled lists k n
        (subst (λ (q : Repl). IsKept q ways filled lists) named i) le)

    way_sets : (n : ℕ) → orders p ways (set filled k n) lists
        ≡ set (orders p ways filled lists) k (range_with_len (k * ways) n)
    way_sets n =
        let start : 0 + k * ways ≡ k * ways = omega arith in
        ap (λ q. orders q ways (set filled k n) lists) named ∙ ways_set ways 0 filled k n in_filled
        ∙ ap (λ a. set (in_ways ways 0 filled) k (range_with_len a n)) start
        ∙ ap (λ ys. set ys k (range_with_len (k * ways) n)) (sym are_ways)

    pub few_ways : m ≤ ways
    few_ways = omega (
      arith,
      kept_within ways filled lists k p i in_filled,
      get_or_read filled k m in_filled e 0,
    )

    pub way_next : orders p ways (set filled k (m + 1)) lists
        ≡ set (orders p ways filled lists) k
        (with_next (rules p).placed (k * ways + m) (order_of (orders p ways filled lists) k))
    way_next =
        let one : m + 1 ≡ suc m = omega arith in
        way_sets (m + 1) ∙ ap (set (orders p ways filled lists) k)
        (ap (range_with_len (k * ways)) one ∙ range_push (k * ways) m
        ∙ ap (λ ys. ys ++ (k * ways + m) ∷ []) (sym row)
        ∙ ap (λ q. with_next (rules q).placed (k * ways + m)
        (order_of (orders p ways filled lists) k)) (sym named))

    pub way_first : then_some (nat_lt 0 m) (k * ways)
        ≡ slice_get (order_of (orders p ways filled lists) k) 0
    way_first = first_of (k * ways) m ∙ ap (λ ys. slice_get ys 0) (sym row)

    pub way_drawn : (number : ℕ) → number % m < m →
        slice_get (order_of (orders p ways filled lists) k) (victim_index (rules p).victim number
        (length (order_of (orders p ways filled lists) k))) ≡ Some (k * ways + number % m)
    way_drawn number lt =
        ap (λ q. slice_get (order_of (orders p ways filled lists) k) (victim_index (rules q).victim
        number (length (order_of (orders p ways filled lists) k)))) named
        ∙ ap (λ n. slice_get (order_of (orders p ways filled lists) k) (number % n)) (count_here m
        e)
        ∙ ap (λ ys. slice_get ys (number % m)) row
        ∙ range_get (k * ways) m (number % m) lt

    pub way_list : m ≢ 0 → order_of (orders p ways filled lists) k
        ≡ range_with_len (k * ways) (m - 1) ++ (k * ways + m - 1) ∷ []
    way_list some =
        let one : m ≡ suc (m - 1) = omega (arith, some) in
        let at : k * ways + (m - 1) ≡ k * ways + m - 1 = omega (arith, some) in
        row ∙ ap (range_with_len (k * ways)) one ∙ range_push (k * ways) (m - 1)
        ∙ ap (λ a. range_with_len (k * ways) (m - 1) ++ a ∷ []) at

    pub way_popped : orders p ways (set filled k (m - 1)) lists
        ≡ set (orders p ways filled lists) k (range_with_len (k * ways) (m - 1))
    way_popped = way_sets (m - 1)

-- at first no slot is filled
pub if_ok : {A E : Type 0} (r : Result A E) (P Q : A → Type 0) → ((a : A) → P a → Q a) →
    IfOk r P → IfOk r Q
if_ok (Ok a) P Q f h = f a h
if_ok (Err e) P Q f h = tt

pub made_kept : (p : Repl) (ways n : ℕ) (lists : SlotListsValue) → ways * n ≤ 2 ^ 22 →
    lists ≡ record { slots = n * ways; lists = replicate n [] } →
    IsKept p ways (replicate n 0) lists
made_kept p ways n lists few e =
    subst (λ (v : SlotListsValue). IsKept p ways (replicate n 0) v) (sym e) (new_kept p ways n few)

pub made_sets : (p : Repl) (ways n : ℕ) (lists : SlotListsValue) →
    lists ≡ record { slots = n * ways; lists = replicate n [] } →
    orders p ways (replicate n 0) lists ≡ replicate n []
made_sets p ways n lists e =
    ap (orders p ways (replicate n 0)) e ∙ new_sets p ways n (n * ways)

pub random_made : (p : Repl) (ways n : ℕ) (lists : SlotListsValue) → p ≡ Random →
    ways * n ≤ 2 ^ 22 → IsKept p ways (replicate n 0) lists
random_made p ways n lists named few =
    subst (λ (q : Repl). IsKept q ways (replicate n 0) lists) (sym named)
    (random_kept ways n lists few)

pub random_sets : (p : Repl) (ways n : ℕ) (lists : SlotListsValue) → p ≡ Random →
    orders p ways (replicate n 0) lists ≡ replicate n []
random_sets p ways n lists named =
    ap (λ q. orders q ways (replicate n 0) lists) named ∙ zero_ways ways 0 n
