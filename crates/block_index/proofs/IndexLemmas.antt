-- The blocks of the slots, and the slots on the chains.
use Rattle.std.proofs.Common.{◌≡◌, ℕ, zero, suc, ◌+◌, ◌/◌, ◌<◌, ◌≤◌, ◌^◌, inl, inr}
use Rattle.std.proofs.Common.{true, false, cond, List, [], ◌∷◌, length, get_or, set, refl, sym, ◌∙◌}
use Rattle.std.proofs.Common.{ap, subst, arith, length-set, get_or-set_same, get_or-set_other}
use Rattle.std.specs.Prelude.{Option, Some, None, slice_get, replicate}
use Rattle.std.proofs.lemmas.Bool.{cases_Bool, false≢true, false_from_ne_true}
use Rattle.std.proofs.lemmas.List.{set-get_or, length-replicate}
use Rattle.std.proofs.lemmas.Option.{slice_get_within}
use Rattle.block_index.specs.SlotLists.{SlotListsValue, has_slot, is_listed, list_at}
use Rattle.block_index.specs.SlotLists.{with_first, without_slot, AreApart}
use Rattle.block_index.specs.BlockIndex.{IndexValue, HasBlock, NoSlotHas, AreDifferent}
use Rattle.block_index.specs.Chains.{chain_of_block}
use Rattle.block_index.specs.BlockIndex.{blocks_listed, AreOnChains}
use Rattle.block_index.proofs.ListLemmas.{listed, listed-in}
use Rattle.block_index.proofs.ChangeLemmas.{pushed_has, pushed_listed, pushed_same, not_in}
use Rattle.block_index.proofs.ChangeLemmas.{removed_has, removed_listed, removed_same}

-- the block of one slot
pub get-listed : (lists : List (List ℕ)) (a : ℕ) (xs : List ℕ) (i j : ℕ) → a + i ≡ j →
    i < length xs
    → slice_get (blocks_listed lists a xs) i
    ≡ Some (cond (is_listed lists j) (Some (get_or xs i 0)) None)
unfolding blocks_listed
get-listed lists a [] i j e lt = absurd (omega arith)
get-listed lists a (x ∷ xs) zero j e lt =
    let f : a ≡ j = omega (arith, e) in
    ap (λ n. Some (cond (is_listed lists n) (Some x) None)) f
get-listed lists a (x ∷ xs) (suc i) j e lt =
    get-listed lists (suc a) xs i j (omega (arith, e)) (omega arith)

pub length-listed : (lists : List (List ℕ)) (a : ℕ) (xs : List ℕ) →
    length (blocks_listed lists a xs) ≡ length xs
unfolding blocks_listed
length-listed lists a [] = refl
length-listed lists a (x ∷ xs) = ap (λ n. suc n) (length-listed lists (suc a) xs)

module _ (lists : List (List ℕ)) (blocks : List ℕ) where
  abbrev blocks_of : List (Option ℕ)
  blocks_of = blocks_listed lists 0 blocks

  pub within-has : (s : ℕ) (o : Option ℕ) → slice_get blocks_of s ≡ Some o → s < length blocks
  within-has s o has =
      omega (arith, slice_get_within blocks_of s o has, length-listed lists 0 blocks)

  pub listed-has : (s b : ℕ) → slice_get blocks_of s ≡ Some (Some b) →
      (is_listed lists s ≡ true) × (get_or blocks s 0 ≡ b)
  listed-has s b has =
      let is = get-listed lists 0 blocks s s (omega arith) (within-has s (Some b) has) in
      let x : ℕ = get_or blocks s 0 in
      elim (cases_Bool (is_listed lists s)) [
        | inl e ↦
            let f : Some (cond (is_listed lists s) (Some x) None) ≡ Some (Some x) =
            ap (λ t. Some (cond t (Some x) None)) e in
            let g : x ≡ b = cc in (e, g)
        | inr e ↦
            let f : Some (cond (is_listed lists s) (Some x) None) ≡ Some None =
            ap (λ t. Some (cond t (Some x) None)) e in
            absurd (cc)
      ]

  pub free-has : (s : ℕ) → slice_get blocks_of s ≡ Some None → is_listed lists s ≡ false
  free-has s has =
      let is = get-listed lists 0 blocks s s (omega arith) (within-has s None has) in
      let x : ℕ = get_or blocks s 0 in
      false_from_ne_true (is_listed lists s) (λ e.
      let f : Some (cond (is_listed lists s) (Some x) None) ≡ Some (Some x) =
      ap (λ t. Some (cond t (Some x) None)) e in
      absurd (cc))

  pub has-listed : (s : ℕ) → s < length blocks → is_listed lists s ≡ true →
      slice_get blocks_of s ≡ Some (Some (get_or blocks s 0))
  has-listed s lt e =
      let x : ℕ = get_or blocks s 0 in
      get-listed lists 0 blocks s s (omega arith) lt ∙ ap (λ t. Some (cond t (Some x) None)) e

-- the blocks after a change to the lists, and to the block of one slot
same-listed : (lists lists' : List (List ℕ)) (a : ℕ) (xs : List ℕ) →
    ((t : ℕ) → a ≤ t → is_listed lists' t ≡ is_listed lists t)
    → blocks_listed lists' a xs ≡ blocks_listed lists a xs
unfolding blocks_listed
same-listed lists lists' a [] same = refl
same-listed lists lists' a (x ∷ xs) same =
    let ys : List (Option ℕ) = blocks_listed lists' (suc a) xs in
    ap (λ t. cond t (Some x) None ∷ ys) (same a (omega arith))
    ∙ ap (λ zs. cond (is_listed lists a) (Some x) None ∷ zs)
    (same-listed lists lists' (suc a) xs (λ t le. same t (omega arith)))

set-listed : (lists lists' : List (List ℕ)) (a : ℕ) (xs : List ℕ) (i j b : ℕ) → a + i ≡ j →
    ((t : ℕ) → (t ≡ j → ⊥) → is_listed lists' t ≡ is_listed lists t)
    → blocks_listed lists' a (set xs i b)
    ≡ set (blocks_listed lists a xs) i (cond (is_listed lists' j) (Some b) None)
unfolding blocks_listed
set-listed lists lists' a [] i j b e same = refl
set-listed lists lists' a (x ∷ xs) zero j b e same =
    let f : a ≡ j = omega (arith, e) in
    let ys : List (Option ℕ) = blocks_listed lists' (suc a) xs in
    ap (λ n. cond (is_listed lists' n) (Some b) None ∷ ys) f
    ∙ ap (λ zs. cond (is_listed lists' j) (Some b) None ∷ zs)
    (same-listed lists lists' (suc a) xs
    (λ t le. same t (λ g. absurd (omega (arith, g, f, le)))))
set-listed lists lists' a (x ∷ xs) (suc i) j b e same =
    let ys : List (Option ℕ) = blocks_listed lists' (suc a) (set xs i b) in
    ap (λ t. cond t (Some x) None ∷ ys) (same a (λ g. absurd (omega (arith, g, e))))
    ∙ ap (λ zs. cond (is_listed lists a) (Some x) None ∷ zs)
    (set-listed lists lists' (suc a) xs i j b (omega (arith, e)) same)

module _ (v : SlotListsValue) (blocks : List ℕ) (k s : ℕ) (kl : k < length v.lists) where
  pub added_blocks : (b : ℕ) → blocks_listed (with_first v k s).lists 0 (set blocks s b)
      ≡ set (blocks_listed v.lists 0 blocks) s (Some b)
  added_blocks b =
      set-listed v.lists (with_first v k s).lists 0 blocks s s b (omega arith)
      (λ t ne. pushed_same v.lists k s t ne)
      ∙ ap (λ t. set (blocks_listed v.lists 0 blocks) s (cond t (Some b) None))
      (pushed_listed v k s kl)

  pub removed_blocks : AreApart v → has_slot s (list_at v k) ≡ true →
      blocks_listed (without_slot v k s).lists 0 blocks
      ≡ set (blocks_listed v.lists 0 blocks) s None
  removed_blocks apart inside =
      let x : ℕ = get_or blocks s 0 in
      ap (blocks_listed (without_slot v k s).lists 0) (sym (set-get_or blocks s 0))
      ∙ set-listed v.lists (without_slot v k s).lists 0 blocks s s x (omega arith)
      (λ t ne. removed_same v.lists k s t ne)
      ∙ ap (λ t. set (blocks_listed v.lists 0 blocks) s (cond t (Some x) None))
      (removed_listed v k s kl apart inside)

module _ {blocks : List ℕ} {v : SlotListsValue} (h : AreOnChains blocks v) where
  abbrev pub value : IndexValue
  value = record { blocks = blocks_listed v.lists 0 blocks }

  abbrev chain : ℕ → ℕ
  chain b = chain_of_block (length v.lists) b

  pub are_different : AreDifferent value
  are_different s t b at_s at_t =
      let x = listed-has v.lists blocks s b at_s in
      let y = listed-has v.lists blocks t b at_t in
      h.different s t x.0 y.0 (x.1 ∙ sym y.1)

  -- a slot that has a block is on the chain of the block
  pub on_chain : (s b : ℕ) → HasBlock value s b → has_slot s (list_at v (chain b)) ≡ true
  on_chain s b has =
      let x = listed-has v.lists blocks s b has in
      let at = listed-in s v.lists x.0 in
      let P : ℕ → Type 0 = λ k. has_slot s (list_at v k) ≡ true in
      subst P (sym (h.filed at.0 s at.2) ∙ ap chain x.1) at.2

  pub has_chain : AreApart v → (k s : ℕ) → has_slot s (list_at v k) ≡ true →
      HasBlock value s (get_or blocks s 0)
  has_chain apart k s inside =
      has-listed v.lists blocks s (omega (arith, apart.below k s inside, h.slots_are))
      (listed s v.lists k inside)

  -- slot s, which has no block, with block b
  module _ (k s b : ℕ) (kl : k < length v.lists) (is : chain b ≡ k)
      (free : is_listed v.lists s ≡ false) (sl : s < length blocks) (none : NoSlotHas value b)
      (apart : AreApart v) where
    at_other : (j t : ℕ) → has_slot t (list_at v j) ≡ true →
        get_or (set blocks s b) t 0 ≡ get_or blocks t 0
    at_other j t inside =
        get_or-set_other blocks s t b 0 (λ e. not_in v k s kl free j t (sym e) inside)

    at_same : (t : ℕ) → s ≡ t → get_or (set blocks s b) t 0 ≡ b
    at_same t e = ap (λ i. get_or (set blocks s b) i 0) (sym e) ∙ get_or-set_same blocks s b 0 sl

    added_filed : (j t : ℕ) → has_slot t (list_at (with_first v k s) j) ≡ true →
        chain (get_or (set blocks s b) t 0) ≡ j
    added_filed j t inside =
        elim (pushed_has v k s kl j t inside) [
          | inl e ↦ ap chain (at_same t e.0) ∙ is ∙ sym e.1
          | inr e ↦ ap chain (at_other j t e) ∙ h.filed j t e
        ]

    -- a slot with another block
    not_b : (j t : ℕ) → has_slot t (list_at v j) ≡ true → get_or blocks t 0 ≡ b → ⊥
    not_b j t inside e =
        let P : ℕ → Type 0 = λ x. HasBlock value t x in
        none t (subst P e (has_chain apart j t inside))

    added_different : (t u : ℕ) → is_listed (with_first v k s).lists t ≡ true →
        is_listed (with_first v k s).lists u ≡ true
        → get_or (set blocks s b) t 0 ≡ get_or (set blocks s b) u 0 → t ≡ u
    added_different t u in_t in_u same =
        let x = listed-in t (with_first v k s).lists in_t in
        let y = listed-in u (with_first v k s).lists in_u in
        elim (pushed_has v k s kl x.0 t x.2) [
          | inl e ↦ elim (pushed_has v k s kl y.0 u y.2) [
            | inl f ↦ sym e.0 ∙ f.0
            | inr f ↦ absurd (not_b y.0 u f (sym (at_other y.0 u f) ∙ sym same ∙ at_same t e.0))
          ]
          | inr e ↦ elim (pushed_has v k s kl y.0 u y.2) [
            | inl f ↦ absurd (not_b x.0 t e (sym (at_other x.0 t e) ∙ same ∙ at_same u f.0))
            | inr f ↦ h.different t u (listed t v.lists x.0 e) (listed u v.lists y.0 f)
                (sym (at_other x.0 t e) ∙ same ∙ at_other y.0 u f)
          ]
        ]

    pub added_indexed : AreOnChains (set blocks s b) (with_first v k s)
    added_indexed =
        let long = length-set v.lists k (s ∷ list_at v k) in
        let many = length-set blocks s b in record {
          few = omega (arith, h.few, many);
          slots_are = h.slots_are ∙ sym many;
          chains_are = long ∙ h.chains_are ∙ ap (λ n. n / 2 + 1) (sym many);
          filed = λ j t inside. ap (λ n. chain_of_block n (get_or (set blocks s b) t 0)) long
              ∙ added_filed j t inside;
          different = added_different;
        }

  -- without the block of slot s
  pub removed_indexed : (k s : ℕ) → k < length v.lists → AreOnChains blocks (without_slot v k s)
  removed_indexed k s kl =
      let left : List ℕ = list_at (without_slot v k s) k in
      let long : length (without_slot v k s).lists ≡ length v.lists = length-set v.lists k _ in
      let was : (t : ℕ) → is_listed (without_slot v k s).lists t ≡ true →
      is_listed v.lists t ≡ true =
      λ t on.
      let at = listed-in t (without_slot v k s).lists on in
      listed t v.lists at.0 (removed_has v k s kl at.0 t at.2) in record {
        few = h.few;
        slots_are = h.slots_are;
        chains_are = long ∙ h.chains_are;
        filed = λ j t inside. ap (λ n. chain_of_block n (get_or blocks t 0)) long
            ∙ h.filed j t (removed_has v k s kl j t inside);
        different = λ t u in_t in_u. h.different t u (was t in_t) (was u in_u);
      }

-- an index of no block
pub none-listed : (n s : ℕ) → is_listed (replicate n []) s ≡ false
none-listed zero s = refl
none-listed (suc n) s = none-listed n s

pub none_blocks : (n : ℕ) (lists : List (List ℕ)) (a : ℕ) →
    ((s : ℕ) → is_listed lists s ≡ false) → blocks_listed lists a (replicate n 0) ≡ replicate n None
unfolding blocks_listed
none_blocks zero lists a none = refl
none_blocks (suc n) lists a none =
    let ys : List (Option ℕ) = blocks_listed lists (suc a) (replicate n 0) in
    ap (λ t. cond t (Some 0) None ∷ ys) (none a) ∙ ap (λ zs. None ∷ zs)
    (none_blocks n lists (suc a) none)

pub none_indexed : (n : ℕ) → n ≤ 2 ^ 22 →
    AreOnChains (replicate n 0) (record { slots = n; lists = replicate (n / 2 + 1) [] })
none_indexed n few =
    let long = length-replicate {A = ℕ} n 0 in
    let m : ℕ = n / 2 + 1 in record {
      few = omega (arith, few, long);
      slots_are = sym long;
      chains_are = length-replicate {A = List ℕ} m [] ∙ ap (λ i. i / 2 + 1) (sym long);
      filed = λ k s inside. absurd (false≢true
          (sym (none-listed m s) ∙ listed s (replicate m []) k inside));
      different = λ s t in_s in_t same. absurd (false≢true (sym (none-listed m s) ∙ in_s));
    }
