-- Lists in slots: what is read of one, and one of them written anew.
use Rattle.std.proofs.Common.{◌≡◌, ℕ, zero, suc, ◌-◌, ◌<◌, ◌≤◌, ◌^◌, false, cond, eqb, List, []}
use Rattle.std.proofs.Common.{◌∷◌, length, take}
use Rattle.std.proofs.Common.{get_or, set, refl, sym, ◌∙◌, ap, subst, arith, length-set}
use Rattle.std.proofs.Common.{get_or-set_same, get_or-set_other}
use Rattle.std.specs.Prelude.{replicate}
use Rattle.std.proofs.lemmas.List.{length-take-le, get_or_read, length-replicate, set-get_or}
use Rattle.std.proofs.lemmas.Bool.{ne_eqb}
use Rattle.std.proofs.lemmas.List.{get_or-replicate, ext_get_or, take_all}
use Rattle.trace_core.specs.declared.events.Access.{Access}
use Rattle.trace_core.specs.Events.{is_write}
use Rattle.profile_core.specs.profile.RecencyList.{is_front, move_to_front}
use Rattle.std.proofs.Common.{get_or-take}
use Rattle.profile_core.proofs.Elements.{all_set, all_same}
use Rattle.profile_core.proofs.slots.SlotLemmas.{length-ordered_numbers, blank_order}
use Rattle.profile_core.specs.internal.rows.Rows.{rows_by_set}
use Rattle.full_profile.specs.declared.marked_lists.slotted.ListSlots.{ListSlots}
use Rattle.full_profile.specs.declared.marked_lists.slotted.TheConstants.{EMPTY}
use Rattle.full_profile.specs.declared.marked_lists.MarkedTouch.TheVariants.{New, Full}
use Rattle.full_profile.specs.internal.Marked.{Marked, blocks_in, cleans_in, cleans_after}
use Rattle.full_profile.specs.internal.Marked.{marked_touch_of, empty_marked, without_list}
use Rattle.full_profile.proofs.marked_lists.Emptying.{blank_of}
use Rattle.full_profile.specs.internal.Slotted.{IsInSlots, AreSlotted, blocks_behind, cleans_behind}
use Rattle.full_profile.specs.internal.Slotted.{listed_blocks, listed_cleans, no_list, list_in}
use Rattle.full_profile.specs.internal.Slotted.{all_blocks, all_cleans}
use Rattle.profile_core.proofs.RowsBySet.{length-rows_by_set, rows_at, rows_put, rows_same}
use Rattle.full_profile.proofs.marked_lists.RowLists.{lists_written}

-- how many there are behind the front
pub blocks_behind_long : {l : ListSlots} → IsInSlots l → length (blocks_behind l) ≡ 16
blocks_behind_long {l} s = length-ordered_numbers l.slots.order l.slots.numbers 16
    (omega (arith, s.order.order_len))

pub cleans_behind_long : {l : ListSlots} → IsInSlots l → length (cleans_behind l) ≡ 16
cleans_behind_long {l} s = length-ordered_numbers l.slots.order l.cleans 16
    (omega (arith, s.order.order_len))

-- a list with another length
abbrev pub begun : ListSlots → ListSlots
begun l = record l { len = 1 }

abbrev pub ended : ListSlots → ListSlots
ended l = record l { len = 0 }

pub begun_in_slots : {l : ListSlots} → IsInSlots l → IsInSlots (begun l)
begun_in_slots s = record { order = s.order; cleans_len = s.cleans_len }

pub ended_in_slots : {l : ListSlots} → IsInSlots l → IsInSlots (ended l)
ended_in_slots s = record { order = s.order; cleans_len = s.cleans_len }

-- what is known where the list of set k is asked for
pub record HasSlots (d k : ℕ) (fronts cleans : List ℕ) (lists : List ListSlots)
    (m : Marked) : Type 0 where
  pub sound : AreSlotted d fronts cleans lists
  pub seen : record {
    depth = d;
    blocks = all_blocks fronts lists;
    cleans = all_cleans cleans lists;
  } ≡ m
  pub is_set : k < length m.blocks

pub known : {d k : ℕ} {fronts cleans : List ℕ} {lists : List ListSlots} {m : Marked} →
    AreSlotted d fronts cleans lists → record {
      depth = d;
      blocks = all_blocks fronts lists;
      cleans = all_cleans cleans lists;
    } ≡ m → k < length m.blocks → HasSlots d k fronts cleans lists m
known sound seen is_set = record { sound = sound; seen = seen; is_set = is_set }

-- the sets are as many as the lists
pub set_count : (d : ℕ) (fronts cleans : List ℕ) (lists : List ListSlots) {m : Marked} → record {
  depth = d;
  blocks = all_blocks fronts lists;
  cleans = all_cleans cleans lists;
} ≡ m → length lists ≡ length m.blocks
set_count d fronts cleans lists seen =
    sym (length-rows_by_set (length lists)
    (λ i. listed_blocks (get_or fronts i 0) (list_in lists i)))
    ∙ ap (λ v. length v.blocks) seen

-- the first of a list that is not empty, or 0
first_of : (n f : ℕ) (xs : List ℕ) → (n ≡ 0 → f ≡ 0) → f ≡ get_or (take n (f ∷ xs)) 0 0
first_of zero f xs blank = blank refl
first_of (suc n) f xs blank = refl

first_set : (n f g : ℕ) (xs : List ℕ) → take n (g ∷ xs) ≡ set (take n (f ∷ xs)) 0 g
first_set zero f g xs = refl
first_set (suc n) f g xs = refl

module _ {d k : ℕ} {fronts cleans : List ℕ} {lists : List ListSlots} {m : Marked}
    (h : HasSlots d k fronts cleans lists m) where
  pub within : k < length lists
  within = omega (arith, h.is_set, set_count d fronts cleans lists h.seen)

  pub front_within : k < length fronts
  front_within = omega (arith, within, h.sound.fronts_len)

  pub clean_within : k < length cleans
  clean_within = omega (arith, within, h.sound.cleans_len)

  pub depth_is : d ≡ m.depth
  depth_is = ap (λ v. v.depth) h.seen

  pub in_slots : IsInSlots (list_in lists k)
  in_slots = h.sound.sound k within

  pub blocks_are : blocks_in m k ≡ listed_blocks (get_or fronts k 0) (list_in lists k)
  blocks_are = ap (λ v. blocks_in v k) (sym h.seen) ∙ rows_at (length lists) k
      (λ i. listed_blocks (get_or fronts i 0) (list_in lists i)) within

  pub cleans_are : cleans_in m k ≡ listed_cleans (get_or cleans k 0) (list_in lists k)
  cleans_are = ap (λ v. cleans_in v k) (sym h.seen) ∙ rows_at (length lists) k
      (λ i. listed_cleans (get_or cleans i 0) (list_in lists i)) within

  pub blocks_size : length (blocks_in m k) ≡ (list_in lists k).len
  blocks_size = ap length blocks_are ∙ length-take-le (list_in lists k).len
      (get_or fronts k 0 ∷ blocks_behind (list_in lists k))
      (omega (arith, blocks_behind_long in_slots, h.sound.short k, h.sound.most))

  pub cleans_size : length (cleans_in m k) ≡ (list_in lists k).len
  cleans_size = ap length cleans_are ∙ length-take-le (list_in lists k).len
      (get_or cleans k 0 ∷ cleans_behind (list_in lists k))
      (omega (arith, cleans_behind_long in_slots, h.sound.short k, h.sound.most))

  -- what is read of it
  pub list_read : {l : ListSlots} → l ≡ get_or lists k l → l ≡ list_in lists k
  list_read {l} read = get_or_read lists k l within read no_list

  pub front_read : {x : ℕ} → x ≡ get_or fronts k x → x ≡ get_or fronts k 0
  front_read {x} read = get_or_read fronts k x front_within read 0

  pub clean_read : {x : ℕ} → x ≡ get_or cleans k x → x ≡ get_or cleans k 0
  clean_read {x} read = get_or_read cleans k x clean_within read 0

  -- a list as it is lent
  pub list_lent : {l : ListSlots} → l ≡ get_or lists k l → IsInSlots l
  list_lent read = subst IsInSlots (sym (list_read read)) in_slots

  pub lent_blocks : {f : ℕ} {l : ListSlots} → f ≡ get_or fronts k f → l ≡ get_or lists k l →
      listed_blocks f l ≡ blocks_in m k
  lent_blocks {f} {l} front read = ap (λ x. listed_blocks x l) (front_read front)
      ∙ ap (listed_blocks (get_or fronts k 0)) (list_read read) ∙ sym blocks_are

  pub lent_cleans : {c : ℕ} {l : ListSlots} → c ≡ get_or cleans k c → l ≡ get_or lists k l →
      listed_cleans c l ≡ cleans_in m k
  lent_cleans {c} {l} clean read = ap (λ x. listed_cleans x l) (clean_read clean)
      ∙ ap (listed_cleans (get_or cleans k 0)) (list_read read) ∙ sym cleans_are

  pub first_block : get_or fronts k 0 ≡ get_or (blocks_in m k) 0 0
  first_block = first_of (list_in lists k).len (get_or fronts k 0)
      (blocks_behind (list_in lists k)) (h.sound.blank k) ∙ ap (λ l. get_or l 0 0) (sym blocks_are)

  pub first_clean : 0 < length (blocks_in m k) → get_or cleans k 0 ≡ get_or (cleans_in m k) 0 0
  first_clean some = first_of (list_in lists k).len (get_or cleans k 0)
      (cleans_behind (list_in lists k)) (λ none. absurd (omega (arith, none, some, blocks_size)))
      ∙ ap (λ l. get_or l 0 0) (sym cleans_are)

  -- the front's clean depth written
  pub clean_written : (x : ℕ) → record {
    depth = d;
    blocks = all_blocks fronts lists;
    cleans = all_cleans (set cleans k x) lists;
  } ≡ record m { cleans = set m.cleans k (set (cleans_in m k) 0 x) }
  clean_written x =
      let l = list_in lists k in
      let row = λ (cs : List ℕ) (i : ℕ). listed_cleans (get_or cs i 0) (list_in lists i) in
      ap (λ ls. record { depth = d; blocks = all_blocks fronts lists; cleans = ls })
      (rows_put (length lists) k (row cleans) (row (set cleans k x)) (set (cleans_in m k) 0 x)
      within
      (ap (λ c. listed_cleans c l) (get_or-set_same cleans k x 0 clean_within)
      ∙ first_set l.len (get_or cleans k 0) x (cleans_behind l)
      ∙ ap (λ ls. set ls 0 x) (sym cleans_are))
      (λ j _ other. ap (λ c. listed_cleans c (list_in lists j))
      (get_or-set_other cleans k j x 0 other)))
      ∙ ap (λ (v : Marked). record v { cleans = set v.cleans k (set (cleans_in m k) 0 x) }) h.seen

  -- a list written anew, with its front
  module _ (front clean : ℕ) (l : ListSlots) (sound : IsInSlots l) (short : l.len ≤ d)
      (blank : l.len ≡ 0 → front ≡ 0) where
    pub put_sound : AreSlotted d (set fronts k front) (set cleans k clean) (set lists k l)
    put_sound =
        let count = length-set lists k l in
        record {
          two = h.sound.two;
          most = h.sound.most;
          few = omega (arith, h.sound.few, count);
          fronts_len = length-set fronts k front ∙ h.sound.fronts_len ∙ sym count;
          cleans_len = length-set cleans k clean ∙ h.sound.cleans_len ∙ sym count;
          sound = λ i lt. all_set (λ j t. j < length lists → IsInSlots t) lists k l no_list within
              (λ _. sound) (λ j _. h.sound.sound j) i (omega (arith, lt, count));
          short = all_set (λ _ t. t.len ≤ d) lists k l no_list within short
              (λ j _. h.sound.short j);
          blank = all_set (λ j t. t.len ≡ 0 → get_or (set fronts k front) j 0 ≡ 0) lists k l
              no_list within
              (λ none. get_or-set_same fronts k front 0 front_within ∙ blank none)
              (λ j other none. get_or-set_other fronts k j front 0 other ∙ h.sound.blank j none);
        }

    pub put_lists : (new clean_new : List ℕ) → listed_blocks front l ≡ new →
        listed_cleans clean l ≡ clean_new →
        record {
          depth = d;
          blocks = all_blocks (set fronts k front) (set lists k l);
          cleans = all_cleans (set cleans k clean) (set lists k l);
        } ≡ record m { blocks = set m.blocks k new; cleans = set m.cleans k clean_new }
    put_lists new clean_new is clean_is =
        let row = λ (fs : List ℕ) (ls : List ListSlots) (i : ℕ).
        listed_blocks (get_or fs i 0) (list_in ls i) in
        let clean_row = λ (cs : List ℕ) (ls : List ListSlots) (i : ℕ).
        listed_cleans (get_or cs i 0) (list_in ls i) in
        let there : list_in (set lists k l) k ≡ l = get_or-set_same lists k l no_list within in
        let elsewhere : (j : ℕ) → (j ≡ k → ⊥) → list_in (set lists k l) j ≡ list_in lists j =
        λ j other. get_or-set_other lists k j l no_list other in
        lists_written k new clean_new h.seen
        (ap (λ n. rows_by_set n (row (set fronts k front) (set lists k l))) (length-set lists k l)
        ∙ rows_put (length lists) k (row fronts lists) (row (set fronts k front) (set lists k l))
        new within
        (ap (λ f. listed_blocks f (list_in (set lists k l) k))
        (get_or-set_same fronts k front 0 front_within)
        ∙ ap (listed_blocks front) there ∙ is)
        (λ j _ other. ap (λ f. listed_blocks f (list_in (set lists k l) j))
        (get_or-set_other fronts k j front 0 other)
        ∙ ap (listed_blocks (get_or fronts j 0)) (elsewhere j other)))
        (ap (λ n. rows_by_set n (clean_row (set cleans k clean) (set lists k l)))
        (length-set lists k l)
        ∙ rows_put (length lists) k (clean_row cleans lists)
        (clean_row (set cleans k clean) (set lists k l)) clean_new within
        (ap (λ c. listed_cleans c (list_in (set lists k l) k))
        (get_or-set_same cleans k clean 0 clean_within)
        ∙ ap (listed_cleans clean) there ∙ clean_is)
        (λ j _ other. ap (λ c. listed_cleans c (list_in (set lists k l) j))
        (get_or-set_other cleans k j clean 0 other)
        ∙ ap (listed_cleans (get_or cleans j 0)) (elsewhere j other)))

-- a list that is emptied
module _ {d k : ℕ} {fronts cleans : List ℕ} {lists : List ListSlots} {m : Marked}
    (h : HasSlots d k fronts cleans lists m) {l : ListSlots} (read : l ≡ get_or lists k l) where
  -- its front's clean depth stays
  kept : set cleans k (get_or cleans k 0) ≡ cleans
  kept = set-get_or cleans k 0

  pub emptied_sound : AreSlotted d (set fronts k 0) cleans (set lists k (ended l))
  emptied_sound = subst (λ cs. AreSlotted d (set fronts k 0) cs (set lists k (ended l))) kept
      (put_sound h 0 (get_or cleans k 0) (ended l) (ended_in_slots (list_lent h read)) (omega arith)
      (λ _. refl))

  pub list_emptied : record {
    depth = d;
    blocks = all_blocks (set fronts k 0) (set lists k (ended l));
    cleans = all_cleans cleans (set lists k (ended l));
  } ≡ without_list m k
  list_emptied = subst (λ cs. record {
    depth = d;
    blocks = all_blocks (set fronts k 0) (set lists k (ended l));
    cleans = all_cleans cs (set lists k (ended l));
  } ≡ without_list m k) kept
      (put_lists h 0 (get_or cleans k 0) (ended l) (ended_in_slots (list_lent h read)) (omega arith)
      (λ _. refl) [] [] refl refl)

-- lists that are the same as far as n
pub front_same : (n : ℕ) (xs ys : List ℕ) → n ≤ length xs → n ≤ length ys →
    ((k : ℕ) → k < n → get_or xs k 0 ≡ get_or ys k 0) → take n xs ≡ take n ys
front_same n xs ys short short' same =
    let long : length (take n xs) ≡ n = length-take-le n xs short in
    ext_get_or 0 (take n xs) (take n ys) (long ∙ sym (length-take-le n ys short'))
    (λ k lt.
    (let below : k < n = omega (arith, lt, long) in
    get_or-take n xs k 0 below ∙ same k below ∙ sym (get_or-take n ys k 0 below)))

-- empty lists
empty_len : (m k : ℕ) → (get_or (replicate m EMPTY) k no_list).len ≡ 0
empty_len zero k = refl
empty_len (suc m) zero = refl
empty_len (suc m) (suc k) = empty_len m k

pub empty_in_slots : IsInSlots EMPTY
empty_in_slots = record { order = blank_order; cleans_len = refl }

module _ (d m : ℕ) (fronts cleans : List ℕ) (lists : List ListSlots)
    (no_fronts : fronts ≡ replicate m 0) (no_cleans : cleans ≡ replicate m 0)
    (none : lists ≡ replicate m EMPTY) where
  count : length lists ≡ m
  count = ap length none ∙ length-replicate m EMPTY

  empty_at : (k : ℕ) → k < m → list_in lists k ≡ EMPTY
  empty_at k lt = ap (λ ls. get_or ls k no_list) none ∙ get_or-replicate m k EMPTY no_list lt

  pub new_sound : 2 ≤ d → d ≤ 16 → m ≤ 2 ^ 22 → AreSlotted d fronts cleans lists
  new_sound two most few = record {
    two = two;
    most = most;
    few = omega (arith, few, count);
    fronts_len = ap length no_fronts ∙ length-replicate m 0 ∙ sym count;
    cleans_len = ap length no_cleans ∙ length-replicate m 0 ∙ sym count;
    sound = λ k lt. subst IsInSlots (sym (empty_at k (omega (arith, lt, count)))) empty_in_slots;
    short = λ k. omega (arith, ap (λ ls. (list_in ls k).len) none, empty_len m k);
    blank = λ k _. ap (λ fs. get_or fs k 0) no_fronts ∙ all_same m k 0;
  }

  pub new_lists : ◌≡◌ {A = Marked} (record {
    depth = d;
    blocks = all_blocks fronts lists;
    cleans = all_cleans cleans lists;
  }) (empty_marked m d)
  new_lists =
      let lists_of : List (List ℕ) → List (List ℕ) → Marked =
      λ bs cs. record { depth = d; blocks = bs; cleans = cs } in
      let rows : (row : ℕ → List ℕ) → ((k : ℕ) → k < m → row k ≡ []) →
      rows_by_set (length lists) row ≡ replicate m [] = λ row each.
      rows_same (length lists) row (replicate m []) (length-replicate m [] ∙ sym count)
      (λ k lt. each k (omega (arith, lt, count))
      ∙ sym (get_or-replicate m k [] [] (omega (arith, lt, count)))) in
      ap (λ (ls : List (List ℕ)). lists_of ls (all_cleans cleans lists))
      (rows (λ i. listed_blocks (get_or fronts i 0) (list_in lists i))
      (λ k lt. ap (listed_blocks (get_or fronts k 0)) (empty_at k lt)))
      ∙ ap (λ (ls : List (List ℕ)). lists_of (replicate m []) ls)
      (rows (λ i. listed_cleans (get_or cleans i 0) (list_in lists i))
      (λ k lt. ap (listed_cleans (get_or cleans k 0)) (empty_at k lt)))

-- a list that begins with a block
take_one : (d y : ℕ) → 2 ≤ d → take d (y ∷ []) ≡ y ∷ []
take_one d y two = take_all d (y ∷ []) (omega arith)

pub first_blocks : (d x : ℕ) (xs : List ℕ) (l : ListSlots) → 2 ≤ d → length xs ≡ 0 → l.len ≡ 1 →
    listed_blocks x l ≡ take d (move_to_front x xs)
first_blocks d x xs l two none one =
    ap (λ n. take n (x ∷ blocks_behind l)) one ∙ sym (take_one d x two)
    ∙ ap (λ ys. take d (move_to_front x ys)) (sym (blank_of xs none))

pub first_cleans : (d x c : ℕ) (access : Access) (xs ms : List ℕ) (l : ListSlots) → 2 ≤ d →
    length xs ≡ 0 → length ms ≡ 0 → l.len ≡ 1 → c ≡ cond (is_write access) 0 d →
    listed_cleans c l ≡ cleans_after d access x xs ms
first_cleans d x c access xs ms l two none no_cleans one is =
    ap (λ n. take n (c ∷ cleans_behind l)) one ∙ sym (take_one d c two)
    ∙ ap (λ v. take d (v ∷ [])) is
    ∙ ap (λ ys. cleans_after d access x ys []) (sym (blank_of xs none))
    ∙ ap (cleans_after d access x xs) (sym (blank_of ms no_cleans))

pub first_touch : (d x : ℕ) (xs ms : List ℕ) → 2 ≤ d → length xs ≡ 0 →
    New 0 ≡ marked_touch_of d x xs ms
first_touch d x xs ms two none =
    ap (λ b. cond b (Full (get_or ms (d - 1) 0)) (New 0))
    (sym (ne_eqb 0 d (λ e. absurd (omega arith))))
    ∙ ap (λ ys. marked_touch_of d x ys ms) (sym (blank_of xs none))

-- the front is another block
pub not_front : (n f x : ℕ) (xs : List ℕ) → 1 ≤ n → is_front x (take n (f ∷ xs)) ≡ false →
    eqb f x ≡ false
not_front zero f x xs some other = absurd (omega arith)
not_front (suc n) f x xs some other = other
