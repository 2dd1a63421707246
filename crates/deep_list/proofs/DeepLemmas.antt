-- The slots of a list, after each change.
use Rattle.std.proofs.Common.{◌≡◌, ℕ, zero, suc, ◌+◌, ◌-◌, ◌<◌, ◌≤◌, ◌^◌, inl, inr}
use Rattle.std.proofs.Common.{true, false, List, [], ◌∷◌, ◌++◌, length, drop, append-nil}
use Rattle.std.proofs.Common.{take, get_or, set, sum, refl, sym, ◌∙◌, ap, subst, arith}
use Rattle.std.proofs.Common.{length-set, get_or-set_same, get_or-set_other}
use Rattle.std.specs.Prelude.{replicate}
use Rattle.std.specs.List.{remove}
use Rattle.std.proofs.lemmas.Bool.{cases_eq, cases_lt, false≢true}
use Rattle.std.proofs.lemmas.List.{take_all, drop_all, length-take-le, get_or_past}
use Rattle.std.proofs.lemmas.List.{length-replicate}
use Rattle.std.proofs.lemmas.List.Sums.{sum_by-set, sum_by_more}
use Rattle.deep_list.specs.Slots.{SlotsValue, AreFlags, live_items, slots_with_block}
use Rattle.deep_list.specs.Slots.{slots_without, IsAt}
use Rattle.deep_list.specs.Slots.{NoneHas}
use Rattle.deep_list.specs.Chains.{ChainsValue, AreChains, AreFiled, AreFiledFrom, IsFiled}
use Rattle.deep_list.specs.Chains.{with_slot}
use Rattle.block_index.specs.Chains.{chain_of_block}
use Rattle.deep_list.specs.Deep.{Deep, index_of_block, has_block, IsOnce, IsRanked, cut_to}
use Rattle.deep_list.specs.Deep.{IsDeep, IsGathering, IsGathered}
use Rattle.deep_list.proofs.ChainLemmas.{chain_small, chains_more, filed_more, same_all, same_most}
use Rattle.deep_list.proofs.ChainLemmas.{zeros}
use Rattle.deep_list.proofs.SlotLemmas.{sum_take-set_above, flags_set}
use Rattle.deep_list.proofs.LiveItemLemmas.{live_items-vacate, live_items-fill, live_items-move}
use Rattle.deep_list.proofs.LiveItemLemmas.{live_items-dead, length-live_items, at-live_items}
use Rattle.deep_list.proofs.LiveItemLemmas.{sum-dead, is_in-live_items, absent-live_items}
use Rattle.deep_list.proofs.LiveItemLemmas.{index-live_items, sum-some}
use Rattle.deep_list.proofs.LiveItemLemmas.{remove-last, remove-end, once-remove}
use Rattle.deep_list.proofs.LiveItemLemmas.{index-absent, once-apart}

abbrev pub deep_of : {V : Type 0} → ℕ → List ℕ → List V → Deep V
deep_of cap xs ys = record { cap = cap; blocks = xs; values = ys }

-- lists with the same blocks and values
pub same_deep : {V : Type 0} {xs xs' : List ℕ} {ys ys' : List V} (cap : ℕ) → xs ≡ xs' → ys ≡ ys' →
    deep_of cap xs ys ≡ deep_of cap xs' ys'
same_deep {V} {xs} {xs'} {ys} {ys'} cap e f =
    ap (λ zs. deep_of cap zs ys) e ∙ ap (λ zs. deep_of cap xs' zs) f

-- what a slice of a whole vector wrote
pub written_whole : {V : Type 0} (n : ℕ) (xs ys : List V) → length xs ≡ length ys → n ≡ length ys →
    take n (xs ++ drop (length xs) ys) ≡ xs
written_whole n xs ys same all =
    ap (λ zs. take n (xs ++ zs)) (drop_all (length xs) ys (omega arith))
    ∙ ap (take n) (append-nil xs) ∙ take_all n xs (omega arith)

zero_set : (xs : List ℕ) (s k : ℕ) → get_or xs k 0 ≡ 0 → get_or (set xs s 0) k 0 ≡ 0
zero_set [] s k h = h
zero_set (x ∷ xs) zero zero h = refl
zero_set (x ∷ xs) zero (suc k) h = h
zero_set (x ∷ xs) (suc s) zero h = h
zero_set (x ∷ xs) (suc s) (suc k) h = zero_set xs s k h

one_set : (xs : List ℕ) (s k : ℕ) → get_or (set xs s 0) k 0 ≡ 1 → get_or xs k 0 ≡ 1
one_set [] s k h = h
one_set (x ∷ xs) zero zero h = absurd (omega (arith, h))
one_set (x ∷ xs) zero (suc k) h = h
one_set (x ∷ xs) (suc s) zero h = h
one_set (x ∷ xs) (suc s) (suc k) h = one_set xs s k h

pub live_within : (xs : List ℕ) (s : ℕ) → get_or xs s 0 ≡ 1 → s < length xs
live_within xs s one = elim (cases_lt s (length xs)) [
  | inl lt ↦ lt
  | inr le ↦
      absurd (omega (arith, get_or_past xs s 0 le, one))
]

dead_flag : (xs : List ℕ) (s : ℕ) → AreFlags xs → (get_or xs s 0 ≡ 1 → ⊥) → get_or xs s 0 ≡ 0
dead_flag xs s flags ne = let le : get_or xs s 0 ≤ 1 = flags s in omega arith

module _ {top end : ℕ} {slots : SlotsValue} {chains : ChainsValue}
    (r : IsRanked top end slots chains) where
  -- a slot vacated
  pub vacated_ranked : (s end' : ℕ) → top ≤ end' → end' ≤ end →
      ((k : ℕ) → end' ≤ k → get_or (set slots.live s 0) k 0 ≡ 0)
      → IsRanked top end' (slots_without slots s) chains
  vacated_ranked s end' order less behind = record {
    same = r.same ∙ sym (length-set slots.live s 0);
    small = omega (arith, r.small, length-set slots.live s 0);
    flags = flags_set slots.live s 0 (omega arith) r.flags;
    order = order;
    within = omega (arith, less, r.within, length-set slots.live s 0);
    before = λ k lt. zero_set slots.live s k (r.before k lt);
    behind = behind;
    chains_are = let P : ℕ → Type 0 = λ n. AreChains top n chains in
        subst P (sym (length-set slots.live s 0)) r.chains_are;
    filed = λ k one. r.filed k (one_set slots.live s k one);
    latest = λ k j le lt one. r.latest k j le lt (one_set slots.live s j one);
  }

  pub vacated_any : (s : ℕ) → IsRanked top end (slots_without slots s) chains
  vacated_any s = vacated_ranked s end r.order (omega arith) (λ k le. zero_set slots.live s k
      (r.behind k le))

  pub behind_last : (s : ℕ) → ((k : ℕ) → s < k → k < end → get_or slots.live k 0 ≡ 1 → ⊥) →
      (k : ℕ) → s < k → get_or slots.live k 0 ≡ 0
  behind_last s none k past =
      elim (cases_lt k end) [
        | inl inside ↦ dead_flag slots.live k r.flags (none k past inside)
        | inr le ↦ r.behind k le
      ]

  pub vacated_last : (s : ℕ) → get_or slots.live s 0 ≡ 1 → s < end →
      ((k : ℕ) → s < k → k < end → get_or slots.live k 0 ≡ 1 → ⊥)
      → IsRanked top s (slots_without slots s) chains
  vacated_last s one lt none =
      vacated_ranked s s
      (elim (cases_lt s top) [
        | inl before ↦ absurd (omega (arith, r.before s before, one))
        | inr le ↦ le
      ])
      (omega arith)
      (λ k le. elim (cases_eq k s) [
        | inl same ↦ ap (λ j. get_or (set slots.live s 0) j 0) same ∙
            get_or-set_same slots.live s 0 0 (live_within slots.live s one)
        | inr other ↦ zero_set slots.live s k (behind_last s none k (omega (arith, le, other)))
      ])

  vacated_sum : (s : ℕ) → get_or slots.live s 0 ≡ 1 → sum (set slots.live s 0) + 1 ≡ sum slots.live
  vacated_sum s one = omega (
    arith,
    sum_by-set (λ x. x) slots.live s 0 0
        (live_within slots.live s one),
    one,
  )

  -- block x in the slot before all live ones
  module _ (x t : ℕ) (next : t + 1 ≡ top) where
    free : (k : ℕ) → k ≤ t → get_or slots.live k 0 ≡ 0
    free k le = r.before k (omega arith)

    lt : t < length slots.live
    lt = omega (arith, r.order, r.within)

    pub filled_kept : live_items (set slots.blocks t x) (set slots.live t 1) ≡ x ∷ live_items
        slots.blocks slots.live
    filled_kept = live_items-fill slots.blocks slots.live t x r.same lt free

    pub filled_values : {V : Type 0} (values : List V) (v : V) →
        length values ≡ length slots.live
        → live_items (set values t v) (set slots.live t 1) ≡ v ∷ live_items values slots.live
    filled_values values v beside = live_items-fill values slots.live t v beside lt free

    pub filled_sum : sum (set slots.live t 1) ≡ sum slots.live + 1
    filled_sum = omega (arith, sum_by-set (λ x. x) slots.live t 1 0 lt, free t (omega arith))

    filled_filed : AreFiledFrom top chains (slots_with_block slots t x)
    filled_filed s le one =
        let other : (s ≡ t → ⊥) = λ same. omega (arith, le, same, next) in
        let P : ℕ → Type 0 = λ y. IsFiled chains y s in
        subst P (sym (get_or-set_other slots.blocks t s x 0 other))
        (r.filed s (sym (get_or-set_other slots.live t s 1 0 other) ∙ one))

    filled_latest : has_block x (live_items slots.blocks slots.live) ≡ false → (s k : ℕ) → t ≤ s →
        s < k → get_or (set slots.live t 1) k 0 ≡ 1
        → get_or (set slots.blocks t x) s 0 ≡ get_or (set slots.blocks t x) k 0 → ⊥
    filled_latest absent s k le less one e =
        let other : (k ≡ t → ⊥) = λ same. omega (arith, same, le, less) in
        let live : get_or slots.live k 0 ≡ 1 =
        sym (get_or-set_other slots.live t k 1 0 other) ∙ one in
        let is = get_or-set_other slots.blocks t k x 0 other in
        elim (cases_eq s t) [
          | inl same ↦ false≢true (sym absent ∙
              is_in-live_items x slots.blocks slots.live k r.same live
              (sym is ∙ sym e ∙ ap (λ i. get_or (set slots.blocks t x) i 0) same
              ∙ get_or-set_same slots.blocks t x 0 (omega (arith, lt, r.same))))
          | inr later ↦ r.latest s k (omega (arith, le, later, next)) less live
              (sym (get_or-set_other slots.blocks t s x 0 later) ∙ e ∙ is)
        ]

    pub filled_ranked : has_block x (live_items slots.blocks slots.live) ≡ false →
        IsRanked t end (slots_with_block slots t x)
        (with_slot chains t (chain_of_block (length chains.heads) x))
    filled_ranked absent =
        let here : get_or (set slots.blocks t x) t 0 ≡ x =
        get_or-set_same slots.blocks t x 0 (omega (arith, lt, r.same)) in
        let Q : ℕ → Type 0 = λ y. AreFiledFrom t
        (with_slot chains t (chain_of_block (length chains.heads) y))
        (slots_with_block slots t x) in
        let from = subst Q here (filed_more r.chains_are t next lt (slots_with_block slots t x)
        filled_filed) in
        let P : ℕ → Type 0 = λ n. AreChains t n
        (with_slot chains t (chain_of_block (length chains.heads) x)) in
        record {
          same = length-set slots.blocks t x ∙ r.same ∙ sym (length-set slots.live t 1);
          small = omega (arith, r.small, length-set slots.live t 1);
          flags = flags_set slots.live t 1 (omega arith) r.flags;
          order = omega (arith, r.order);
          within = omega (arith, r.within, length-set slots.live t 1);
          before = λ k lt. get_or-set_other slots.live t k 1 0 (omega arith) ∙ free k (omega arith);
          behind = λ k le. get_or-set_other slots.live t k 1 0 (omega (arith, r.order)) ∙
              r.behind k le;
          chains_are = subst P (sym (length-set slots.live t 1)) (chains_more r.chains_are t next lt
              (chain_of_block (length chains.heads) x)
              (chain_small (length chains.heads) x r.chains_are.some));
          filed = λ s one. elim (cases_lt s t) [
            | inl past ↦ absurd (omega (
              arith,
              get_or-set_other slots.live t s 1 0 (omega arith),
              free s (omega arith),
              one,
            ))
            | inr le ↦ from s le one
          ];
          latest = filled_latest absent;
        }

module _ {from to : ℕ} {v w : SlotsValue} (g : IsGathering from to v w) (f : ℕ)
    (next : f + 1 ≡ from) where
  one_more : sum (take from w.live) ≡ sum (take f w.live) + get_or w.live f 0
  one_more = ap (λ j. sum (take j w.live)) (sym next) ∙ sum_by_more (λ x. x) w.live f 0
      (omega (arith, g.order, g.within))

  pub values_moved : {V : Type 0} (values : List V) (d : V) (u : ℕ) → u + 1 ≡ to →
      length values ≡ length w.live → get_or w.live f 0 ≡ 1
      → live_items (set values u (get_or values f d)) (set (set w.live f 0) u 1)
      ≡ live_items values w.live
  values_moved values d u last beside one =
      live_items-move values w.live f u d beside one (omega (arith, g.order))
      (omega (arith, g.within)) (λ k past le. g.dead k (omega arith) (omega arith))

  pub gathering_moved : (u : ℕ) → u + 1 ≡ to → get_or w.live f 0 ≡ 1 →
      IsGathering f u v (slots_with_block (slots_without w f) u (get_or w.blocks f 0))
  gathering_moved u last one =
      let long : length (set (set w.live f 0) u 1) ≡ length w.live =
      length-set (set w.live f 0) u 1 ∙ length-set w.live f 0 in
      record {
        same = length-set w.blocks u (get_or w.blocks f 0) ∙ g.same ∙ sym long;
        long = long ∙ g.long;
        flags = flags_set (set w.live f 0) u 1 (omega arith)
            (flags_set w.live f 0 (omega arith) g.flags);
        order = omega (arith, g.order);
        within = omega (arith, g.within, long);
        dead = λ s le lt. get_or-set_other (set w.live f 0) u s 1 0 (omega arith) ∙
            elim (cases_eq s f) [
              | inl same ↦ ap (λ j. get_or (set w.live f 0) j 0) same ∙ get_or-set_same w.live f 0 0
                  (live_within w.live f one)
              | inr other ↦ get_or-set_other w.live f s 0 0 other ∙ g.dead s (omega arith)
                  (omega arith)
            ];
        full = λ s le lt. elim (cases_eq s u) [
          | inl same ↦ ap (λ j. get_or (set (set w.live f 0) u 1) j 0) same ∙
              get_or-set_same (set w.live f 0) u 1 0
              (omega (arith, g.within, length-set w.live f 0))
          | inr other ↦ get_or-set_other (set w.live f 0) u s 1 0 other ∙
              get_or-set_other w.live f s 0 0 (omega (arith, g.order, le, other)) ∙
              g.full s (omega (arith, le, other)) (omega (arith, lt, long))
        ];
        kept_same = live_items-move w.blocks w.live f u 0 g.same one (omega (arith, g.order))
            (omega (arith, g.within))
            (λ k past le. g.dead k (omega arith) (omega arith)) ∙ g.kept_same;
        left = omega (
          arith,
          g.left,
          one_more,
          one,
          long,
          sum_take-set_above f u 1 (set w.live f 0) (omega (arith, g.order)),
          sum_take-set_above f f 0 w.live (omega arith),
        );
      }

pub gathered_ranked : {top : ℕ} {v w : SlotsValue} (chains : ChainsValue) → IsGathered top v w →
    length w.live ≤ 2 ^ 24
    → AreChains top (length w.live) chains → AreFiled chains w →
    IsOnce (live_items v.blocks v.live) → IsRanked top (length w.live) w chains
gathered_ranked {top} {v} {w} chains g small are filed once = record {
  same = g.same;
  small = small;
  flags = g.flags;
  order = omega (arith, g.top_is);
  within = omega arith;
  before = g.dead;
  behind = λ s le. get_or_past w.live s 0 le;
  chains_are = are;
  filed = filed;
  latest = λ s t le lt one. once-apart w.blocks w.live s t g.same
      (let P : List ℕ → Type 0 = IsOnce in subst P (sym g.kept_same) once) lt
      (g.full s le (omega (arith, lt, live_within w.live t one))) one;
}

-- no live slot
module _ (cap n : ℕ) (slots : SlotsValue) (long : length slots.blocks ≡ n)
    (none : slots.live ≡ replicate n 0) where
  dead : (k : ℕ) → get_or slots.live k 0 ≡ 0
  dead k = ap (λ xs. get_or xs k 0) none ∙ zeros n k

  size : length slots.live ≡ n
  size = ap length none ∙ length-replicate {A = ℕ} n 0

  pub none_kept : {A : Type 0} (items : List A) → live_items items slots.live ≡ []
  none_kept items = live_items-dead items slots.live dead

  pub none_deep : (values : ℕ) (chains : ChainsValue) → values ≡ n → 1 ≤ cap → cap < n →
      n ≤ 2 ^ 24 → AreChains n n chains → IsDeep cap 0 n n values slots chains
  none_deep values chains beside some room small are = record {
    some = some;
    room = omega (arith, size, room);
    beside = omega (arith, size, beside);
    at_most = omega arith;
    held_is = sym (sum-dead slots.live dead);
    once = let P : List ℕ → Type 0 = IsOnce in subst P (sym (none_kept slots.blocks)) tt;
    ranked = record {
      same = long ∙ sym size;
      small = omega (arith, size, small);
      flags = λ k. omega (arith, dead k);
      order = omega arith;
      within = omega (arith, size);
      before = λ k lt. dead k;
      behind = λ k le. dead k;
      chains_are = let P : ℕ → Type 0 = λ m. AreChains n m chains in subst P (sym size) are;
      filed = λ k one. absurd (omega (arith, dead k, one));
      latest = λ k j le lt one. absurd (omega (arith, dead j, one));
    };
  }

pub chains_none : (n count : ℕ) (v : ChainsValue) → 1 ≤ count → count ≤ 2 ^ 24 →
    v.heads ≡ replicate count n → v.next ≡ replicate n 0 → AreChains n n v
chains_none n count v one few heads next = record {
  some = omega (arith, ap length heads, length-replicate {A = ℕ} count n, one);
  few = omega (arith, ap length heads, length-replicate {A = ℕ} count n, few);
  long = ap length next ∙ length-replicate {A = ℕ} n 0;
  heads_from = λ k lt. omega (
    arith,
    ap (λ xs. get_or xs k 0) heads,
    same_all count n k (omega (arith, lt, ap length heads, length-replicate {A = ℕ} count n)),
  );
  heads_within = λ k. omega (arith, ap (λ xs. get_or xs k 0) heads, same_most count n k);
  next_from = λ s le lt. absurd (omega arith);
  next_within = λ s. omega (arith, ap (λ xs. get_or xs s 0) next, zeros n s);
}

module _ {cap held top end values : ℕ} {slots : SlotsValue} {chains : ChainsValue}
    (d : IsDeep cap held top end values slots chains) where
  pub held_length : held ≡ length (live_items slots.blocks slots.live)
  held_length = d.held_is ∙ sym (length-live_items slots.blocks slots.live d.ranked.same
      d.ranked.flags)

  -- a live slot vacated
  module _ (s : ℕ) (one : get_or slots.live s 0 ≡ 1) where
    pub vacated_kept : live_items slots.blocks (set slots.live s 0) ≡ remove
        (live_items slots.blocks slots.live) (sum (take s slots.live))
    vacated_kept = live_items-vacate slots.blocks slots.live s d.ranked.same d.ranked.flags one

    pub vacated_values : {V : Type 0} (items : List V) → length items ≡ values →
        live_items items (set slots.live s 0) ≡ remove (live_items items slots.live)
        (sum (take s slots.live))
    vacated_values items long =
        live_items-vacate items slots.live s (long ∙ d.beside) d.ranked.flags one

    pub value_at : {V : Type 0} (items : List V) (e : V) → length items ≡ values →
        get_or items s e ≡ get_or (live_items items slots.live) (sum (take s slots.live)) e
    value_at items e long =
        sym (at-live_items items slots.live s e (long ∙ d.beside) d.ranked.flags one)

    pub vacated_deep : (end' : ℕ) (w : SlotsValue) → w ≡ slots_without slots s →
        IsRanked top end' (slots_without slots s) chains
        → IsDeep cap (held - 1) top end' values w chains
    vacated_deep end' w is ranked =
        let sums = vacated_sum d.ranked s one in
        let P : SlotsValue → Type 0 = λ v. IsDeep cap (held - 1) top end' values v chains in
        subst P (sym is) (record {
          some = d.some;
          room = omega (arith, d.room, length-set slots.live s 0);
          beside = omega (arith, d.beside, length-set slots.live s 0);
          at_most = omega (arith, d.at_most);
          held_is = omega (arith, d.held_is, sums);
          once = let Q : List ℕ → Type 0 = IsOnce in
              subst Q (sym vacated_kept) (once-remove (sum (take s slots.live))
              (live_items slots.blocks slots.live) d.once);
          ranked = ranked;
        })

  -- the slot of a block
  module _ (x s : ℕ) (at : IsAt slots x s) where
    pub found_inside : has_block x (live_items slots.blocks slots.live) ≡ true
    found_inside = is_in-live_items x slots.blocks slots.live s d.ranked.same at.live at.block

    pub found_index : index_of_block x (live_items slots.blocks slots.live) ≡
        sum (take s slots.live)
    found_index = index-live_items x slots.blocks slots.live s d.ranked.same d.ranked.flags d.once
        at.live at.block

  pub not_found : (x : ℕ) → NoneHas slots x →
      has_block x (live_items slots.blocks slots.live) ≡ false
  not_found x none =
      absent-live_items x slots.blocks slots.live d.ranked.flags
      (λ s lt live is. none s lt (record { live = live; block = is }))

  -- the last live slot
  module _ (s : ℕ) (one : get_or slots.live s 0 ≡ 1) (past : (k : ℕ) → s < k → k < end →
      get_or slots.live k 0 ≡ 1 → ⊥) where
    pub last_index : suc (sum (take s slots.live)) ≡ length (live_items slots.blocks slots.live)
    last_index =
        let sums : sum slots.live ≡ sum (take s slots.live) + 1 =
        sum-some slots.live s (live_within slots.live s one) one (behind_last d.ranked s past) in
        omega (arith, held_length, d.held_is, sums)

    pub last_place : sum (take s slots.live) ≡ length (live_items slots.blocks slots.live) - 1
    last_place = omega (arith, last_index)

    pub last_kept : live_items slots.blocks (set slots.live s 0) ≡ take
        (length (live_items slots.blocks slots.live) - 1) (live_items slots.blocks slots.live)
    last_kept =
        vacated_kept s one ∙ remove-last (live_items slots.blocks slots.live)
        (sum (take s slots.live)) last_index
        ∙ ap (λ n. take n (live_items slots.blocks slots.live)) last_place

    pub last_values : {V : Type 0} (items : List V) → length items ≡ values →
        live_items items (set slots.live s 0) ≡ take
        (length (live_items slots.blocks slots.live) - 1) (live_items items slots.live)
    last_values items long =
        let same : length (live_items items slots.live) ≡ sum slots.live =
        length-live_items items slots.live (long ∙ d.beside) d.ranked.flags in
        vacated_values s one items long ∙ remove-last (live_items items slots.live)
        (sum (take s slots.live)) (omega (arith, last_index, same, held_length, d.held_is))
        ∙ ap (λ n. take n (live_items items slots.live)) last_place

  pub length-values : {V : Type 0} (items : List V) → length items ≡ values →
      length (live_items items slots.live) ≡ length (live_items slots.blocks slots.live)
  length-values items long =
      length-live_items items slots.live (long ∙ d.beside) d.ranked.flags ∙
      sym (length-live_items slots.blocks slots.live d.ranked.same d.ranked.flags)

  -- the values beside the blocks, without that of an absent block
  pub absent_values : {V : Type 0} (items : List V) (x : ℕ) → length items ≡ values →
      has_block x (live_items slots.blocks slots.live) ≡ false
      → live_items items slots.live ≡ remove (live_items items slots.live)
      (index_of_block x (live_items slots.blocks slots.live))
  absent_values items x long absent =
      sym (remove-end (live_items items slots.live)
      (index_of_block x (live_items slots.blocks slots.live))
      (omega (
        arith,
        length-values items long,
        index-absent x (live_items slots.blocks slots.live) absent,
      )))

  pub some_live : ((k : ℕ) → k < end → get_or slots.live k 0 ≡ 1 → ⊥) →
      live_items slots.blocks slots.live ≡ []
  some_live none =
      live_items-dead slots.blocks slots.live
      (λ k. elim (cases_lt k end) [
        | inl inside ↦ dead_flag slots.live k d.ranked.flags
            (none k inside)
        | inr le ↦ d.ranked.behind k le
      ])

pub without_absent : (x : ℕ) (xs : List ℕ) → has_block x xs ≡ false →
    remove xs (index_of_block x xs) ≡ xs
without_absent x xs absent = remove-end xs (index_of_block x xs) (index-absent x xs absent)

-- a list of which one slot more is live, that before all live ones
pub filled_deep : {cap held top0 end0 top end values : ℕ} {slots0 slots : SlotsValue}
    {chains0 chains : ChainsValue}
    → IsDeep cap held top0 end0 values slots0 chains0 → IsRanked top end slots chains →
    live_items slots.blocks slots.live ≡ live_items slots0.blocks slots0.live
    → length slots.live ≡ length slots0.live → (x t : ℕ) → t + 1 ≡ top →
    has_block x (live_items slots0.blocks slots0.live) ≡ false
    → length (live_items slots0.blocks slots0.live) < cap →
    (w : SlotsValue) (chains' : ChainsValue) →
    w ≡ slots_with_block slots t x
    → IsRanked t end (slots_with_block slots t x) chains'
    → IsDeep cap (held + 1) t end values w chains'
filled_deep {cap} {held} {top0} {end0} {top} {end} {values} {slots0} {slots} d r same long x t next
    absent short w chains' is ranked =
    let P : SlotsValue → Type 0 = λ v. IsDeep cap (held + 1) t end values v chains' in
    let Q : List ℕ → Type 0 = IsOnce in
    let once : IsOnce (x ∷ live_items slots.blocks slots.live) =
    (ap (has_block x) same ∙ absent, subst Q (sym same) d.once) in
    subst P (sym is) (record {
      some = d.some;
      room = omega (arith, d.room, long, length-set slots.live t 1);
      beside = omega (arith, d.beside, long, length-set slots.live t 1);
      at_most = omega (arith, held_length d, short);
      held_is = omega (
        arith,
        held_length d,
        ap length same,
        length-live_items slots.blocks slots.live
            r.same r.flags,
        filled_sum r x t next,
      );
      once = subst Q (sym (filled_kept r x t next)) once;
      ranked = ranked;
    })

-- full or not, there is room once the last block of a full list is gone
pub take_cap : {A : Type 0} (cap : ℕ) (x : A) (xs : List A) → 1 ≤ cap →
    x ∷ take (cap - 1) xs ≡ take cap (x ∷ xs)
take_cap zero x xs some = absurd (omega arith)
take_cap (suc cap) x xs some = ap (λ n. x ∷ take n xs) (omega arith)

-- how long a list is, by its fields
pub record IsHeld (V : Type 0) (cap held : ℕ) (v : Deep V) : Type 0 where
  pub cap_is : cap ≡ v.cap
  pub some : 1 ≤ cap
  pub at_most : held ≤ cap
  pub length_is : length v.blocks ≡ held
  pub values_length : length v.values ≡ held

pub held_is : {V : Type 0} {cap held top end : ℕ} {slots : SlotsValue} {chains : ChainsValue}
    (v : Deep V) (items : List V) →
    IsDeep cap held top end (length items) slots chains
    → record {
      cap = cap;
      blocks = live_items slots.blocks slots.live;
      values = live_items items slots.live;
    } ≡ v → IsHeld V cap held v
held_is v items d is = record {
  cap_is = ap (λ w. w.cap) is;
  some = d.some;
  at_most = d.at_most;
  length_is = sym (held_length d ∙ ap (λ w. length w.blocks) is);
  values_length = sym (held_length d ∙ sym (length-values d items refl)
      ∙ ap (λ w. length w.values) is);
}

module _ {V : Type 0} {cap held : ℕ} {v : Deep V} (h : IsHeld V cap held v) where
  pub full_some : held ≡ cap → v.blocks ≡ [] → ⊥
  full_some full none = absurd (omega (arith, ap length none, h.length_is, h.some, full))

  pub full_length : held ≡ cap → length v.blocks ≡ v.cap
  full_length full = h.length_is ∙ full ∙ h.cap_is

  pub full_cut : held ≡ cap → cut_to (length v.blocks - 1) v ≡ cut_to (v.cap - 1) v
  full_cut full = ap (λ n. cut_to (n - 1) v) (full_length full)

  pub full_room : (w : Deep V) → held ≡ cap → w ≡ cut_to (length v.blocks - 1) v →
      length w.blocks < w.cap
  full_room w full is =
      omega (
        arith,
        ap (λ u. length u.blocks) is,
        ap (λ u. u.cap) is,
        length-take-le (length v.blocks - 1) v.blocks (omega arith),
        h.length_is,
        h.some,
        full,
        h.cap_is,
      )

  pub short_cut : (held ≡ cap → ⊥) → v ≡ cut_to (v.cap - 1) v
  short_cut short =
      let whole : take (v.cap - 1) v.blocks ≡ v.blocks =
      take_all (v.cap - 1) v.blocks (omega (arith, h.length_is, h.at_most, h.cap_is, short)) in
      let values : take (v.cap - 1) v.values ≡ v.values =
      take_all (v.cap - 1) v.values (omega (arith, h.values_length, h.at_most, h.cap_is, short)) in
      let made : List ℕ → List V → Deep V = λ xs ys. record {
        cap = v.cap;
        blocks = xs;
        values = ys;
      } in
      ap (λ xs. made xs v.values) (sym whole)
      ∙ ap (λ ys. made (take (v.cap - 1) v.blocks) ys) (sym values)

  pub short_room : (held ≡ cap → ⊥) → length v.blocks < v.cap
  short_room short = omega (arith, h.length_is, h.at_most, h.cap_is, short)
