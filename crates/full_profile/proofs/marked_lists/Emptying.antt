-- Lists that are emptied one after the other, in any order.
use Rattle.std.proofs.Common.{◌≡◌, ℕ, zero, suc, ◌<◌, ◌≤◌, List, [], ◌∷◌, length, map}
use Rattle.std.proofs.Common.{get_or, set, refl, sym, ◌∙◌, ap, subst, arith, inl, inr}
use Rattle.std.proofs.Common.{length-set, get_or-set_same, get_or-set_other}
use Rattle.std.specs.Prelude.{replicate}
use Rattle.std.proofs.lemmas.Bool.{cases_eq, cases_lt}
use Rattle.std.proofs.lemmas.List.Sums.{sum_by-set}
use Rattle.cache_core.specs.Touched.{ListsFilled}
use Rattle.full_profile.specs.declared.copies.Emptying.{Emptying}
use Rattle.full_profile.specs.internal.Copies.{CopiesValue, CanTake, with_copies_of}
use Rattle.full_profile.specs.internal.Copies.{with_all_copies, up_to_of}
use Rattle.full_profile.specs.internal.Marked.{Marked, AreAlike, blocks_in, cleans_in, emptied}
use Rattle.full_profile.specs.internal.Marked.{without_list}
use Rattle.full_profile.proofs.copies.Adding.{copies_more, emptied_first, none_listed}

pub length-lengths : (ls : List (List ℕ)) → length (map length ls) ≡ length ls
length-lengths [] = refl
length-lengths (l ∷ ls) = ap suc (length-lengths ls)

pub length_at : (ls : List (List ℕ)) (k : ℕ) →
    get_or (map length ls) k 0 ≡ length (get_or ls k [])
length_at [] k = refl
length_at (l ∷ ls) zero = refl
length_at (l ∷ ls) (suc k) = length_at ls k

pub lengths_set : (ls : List (List ℕ)) (k : ℕ) (l : List ℕ) →
    map length (set ls k l) ≡ set (map length ls) k (length l)
lengths_set [] k l = refl
lengths_set (x ∷ ls) zero l = refl
lengths_set (x ∷ ls) (suc k) l = ap (λ ns. length x ∷ ns) (lengths_set ls k l)

all_blank : (ls : List (List ℕ)) → ((k : ℕ) → get_or ls k [] ≡ []) → ls ≡ replicate (length ls) []
all_blank [] none = refl
all_blank (l ∷ ls) none = ap (λ x. x ∷ ls) (none 0) ∙
    ap (λ xs. [] ∷ xs) (all_blank ls (λ k. none (suc k)))

pub blank_of : (l : List ℕ) → length l ≡ 0 → l ≡ []
blank_of [] none = refl
blank_of (x ∷ l) none = absurd (omega (arith, none))

past_end : (ls : List (List ℕ)) (k : ℕ) → length ls ≤ k → get_or ls k [] ≡ []
past_end [] k le = refl
past_end (l ∷ ls) zero le = absurd (omega arith)
past_end (l ∷ ls) (suc k) le = past_end ls k (omega arith)

-- what is left of emptying some lists
pub record IsLeft (e : Emptying) (was : Marked) (c : CopiesValue) (now : Marked)
    (d : CopiesValue) : Type 0 where
  pub depth : now.depth ≡ was.depth
  pub alike : AreAlike now
  pub set_count : length now.blocks ≡ length was.blocks
  pub clean_count : length now.cleans ≡ length was.cleans
  pub room : CanTake now.depth now.cleans d
  pub counted : with_all_copies (up_to_of e was.depth) now.cleans d
      ≡ with_all_copies (up_to_of e was.depth) was.cleans c

-- one list less
module _ {e : Emptying} {was : Marked} {c : CopiesValue} {now : Marked} {d : CopiesValue}
    (left : IsLeft e was c now d) (k : ℕ) (lt : k < length now.blocks) where
  among_cleans : k < length now.cleans
  among_cleans = omega (arith, lt, left.alike.set_count)

  pub one_emptied : AreAlike (without_list now k)
  one_emptied = record {
    set_count = length-set now.cleans k [] ∙ left.alike.set_count ∙
        sym (length-set now.blocks k []);
    same_lengths = λ i. elim (cases_eq i k) [
      | inl same ↦ ap (λ j. length (get_or (set now.cleans k []) j [])) same
          ∙ ap length (get_or-set_same now.cleans k [] [] among_cleans)
          ∙ sym (ap (λ j. length (get_or (set now.blocks k []) j [])) same
          ∙ ap length (get_or-set_same now.blocks k [] [] lt))
      | inr other ↦ ap length (get_or-set_other now.cleans k i [] [] other)
          ∙ left.alike.same_lengths i
          ∙ sym (ap length (get_or-set_other now.blocks k i [] [] other))
    ];
  }

  pub one_less : (now' : Marked) (d' : CopiesValue) → now' ≡ without_list now k →
      d' ≡ with_copies_of (up_to_of e now.depth) 0 (cleans_in now k) d → IsLeft e was c now' d'
  one_less now' d' now_is d_is =
      let more = copies_more (up_to_of e now.depth) 0 (cleans_in now k) d in
      let less = sum_by-set length now.cleans k [] [] among_cleans in
      subst (λ n. IsLeft e was c n d') (sym now_is) (subst (IsLeft e was c (without_list now k))
      (sym d_is) (record {
        depth = left.depth;
        alike = one_emptied;
        set_count = length-set now.blocks k [] ∙ left.set_count;
        clean_count = length-set now.cleans k [] ∙ left.clean_count;
        room = record {
          above_within = omega (arith, left.room.above_within, more.above_long);
          within = omega (arith, left.room.within, more.up_to_long);
          above_few = omega (arith, left.room.above_few, more.above_few, less);
          few = omega (arith, left.room.few, more.up_to_few, less);
        };
        counted = ap (λ n. with_all_copies (up_to_of e was.depth) (set now.cleans k [])
            (with_copies_of (up_to_of e n) 0 (cleans_in now k) d)) left.depth
            ∙ emptied_first (up_to_of e was.depth) now.cleans k d ∙ left.counted;
      }))

-- no list is left
module _ {e : Emptying} {was : Marked} {c : CopiesValue} {now : Marked} {d : CopiesValue}
    (left : IsLeft e was c now d) (none : (k : ℕ) → blocks_in now k ≡ []) where
  no_cleans : (k : ℕ) → cleans_in now k ≡ []
  no_cleans k = blank_of (cleans_in now k) (left.alike.same_lengths k ∙ ap length (none k))

  pub none_left : now ≡ emptied was
  none_left =
      let blocks : now.blocks ≡ replicate (length was.blocks) [] =
      all_blank now.blocks none ∙ ap (λ n. replicate n []) left.set_count in
      let cleans : now.cleans ≡ replicate (length was.cleans) [] =
      all_blank now.cleans no_cleans ∙ ap (λ n. replicate n []) left.clean_count in
      let lists : ℕ → List (List ℕ) → List (List ℕ) → Marked =
      λ n bs cs. record { depth = n; blocks = bs; cleans = cs } in
      ap (λ n. lists n now.blocks now.cleans) left.depth
      ∙ ap (λ bs. lists was.depth bs now.cleans) blocks
      ∙ ap (lists was.depth (replicate (length was.blocks) [])) cleans

  pub all_counted : d ≡ with_all_copies (up_to_of e was.depth) was.cleans c
  all_counted = sym (none_listed (up_to_of e was.depth) now.cleans d no_cleans) ∙ left.counted

-- by the sets that are listed
pub none_filled : (ls : List (List ℕ)) → ListsFilled [] (map length ls) →
    (k : ℕ) → get_or ls k [] ≡ []
none_filled ls filled k =
    blank_of (get_or ls k []) (sym (length_at ls k) ∙ filled.others k refl)

pub filled_within : (k : ℕ) (sets : List ℕ) (ls : List (List ℕ)) →
    ListsFilled (k ∷ sets) (map length ls) → k < length ls
filled_within k sets ls filled = omega (
  arith,
  filled.within 0 0 (omega arith),
  length-lengths ls,
)

-- by those that were passed
pub none_behind : (ls : List (List ℕ)) (n : ℕ) → length ls ≤ n →
    ((k : ℕ) → k < n → get_or ls k [] ≡ []) → (k : ℕ) → get_or ls k [] ≡ []
none_behind ls n le none k = elim (cases_lt k n) [
  | inl lt ↦ none k lt
  | inr ge ↦ past_end ls k (omega (arith, ge, le))
]
