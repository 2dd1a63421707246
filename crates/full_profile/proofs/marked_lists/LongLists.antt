-- Lists whose first blocks stand in a row and the others in a deep list: what stands in a list, and
-- one list written anew.
use Rattle.std.proofs.Common.{◌≡◌, ◌≢◌, ℕ, zero, suc, ◌+◌, ◌*◌, ◌<◌, ◌≤◌, ◌^◌, List, [], ◌∷◌}
use Rattle.std.proofs.Common.{◌++◌}
use Rattle.std.proofs.Common.{length, take, get_or, set, refl, sym, ◌∙◌, ap, subst, arith}
use Rattle.std.proofs.Common.{append-nil}
use Rattle.std.proofs.Common.{length-append, length-set, get_or-set_same, get_or-set_other, inl}
use Rattle.std.proofs.Common.{inr}
use Rattle.std.specs.List.{remove}
use Rattle.std.specs.Prelude.{replicate}
use Rattle.std.proofs.lemmas.Bool.{cases_eq}
use Rattle.std.proofs.lemmas.List.{length-replicate, get_or-replicate, take-take}
use Rattle.std.proofs.lemmas.List.{get_or_read}
use Rattle.std.proofs.lemmas.List.{take_all}
use Rattle.trace_core.specs.declared.events.Access.{Access}
use Rattle.deep_list.specs.Deep.{Deep, IsOnce, cut_to}
use Rattle.profile_core.specs.profile.RecencyList.{index_of, move_to_front}
use Rattle.profile_core.specs.internal.set_lists.LongLists.{whole_lists, nothing, rest_of, AreSplit}
use Rattle.profile_core.specs.internal.set_lists.LongLists.{empty_deep}
use Rattle.profile_core.proofs.Elements.{all_set}
use Rattle.profile_core.proofs.LongListLemmas.{HasWhole, within, within_far}
use Rattle.profile_core.proofs.LongListLemmas.{list_is, joined-set}
use Rattle.profile_core.proofs.LongListLemmas.{length-joined, joined_empty, empty_list}
use Rattle.profile_core.proofs.LongListLemmas.{empty_rest, split_none}
use Rattle.full_profile.specs.State.{clean_in_front}
use Rattle.full_profile.specs.internal.Marked.{Marked, AreAlike, blocks_in, cleans_in}
use Rattle.full_profile.specs.internal.Marked.{after_access, after_mark_in_front, without_list}
use Rattle.full_profile.specs.internal.Marked.{empty_marked}
use Rattle.full_profile.specs.internal.LongMarked.{whole_cleans, whole_marked, values_of, InParts}
use Rattle.full_profile.specs.internal.Sound.{plain_lists}
use Rattle.full_profile.proofs.marked_lists.Touching.{same_size}
use Rattle.full_profile.proofs.marked_lists.TwoParts.{set_twice, front_set}

-- the clean depths of set k's list
cleans_at : (near : List (List ℕ)) (far : List (Deep ℕ)) (k : ℕ) → k < length near →
    get_or (whole_cleans near far) k [] ≡ get_or near k [] ++ values_of far k
cleans_at [] far k lt = absurd (omega arith)
cleans_at (xs ∷ near) [] k lt = sym (append-nil (get_or (xs ∷ near) k []))
cleans_at (xs ∷ near) (d ∷ far) zero lt = refl
cleans_at (xs ∷ near) (d ∷ far) (suc k) lt = cleans_at near far k (omega arith)

pub cleans-set : (near : List (List ℕ)) (far : List (Deep ℕ)) (k : ℕ) (xs : List ℕ) (d : Deep ℕ) →
    k < length near → k < length far
    → whole_cleans (set near k xs) (set far k d) ≡ set (whole_cleans near far) k (xs ++ d.values)
cleans-set [] far k xs d lt within = absurd (omega arith)
cleans-set (ys ∷ near) [] k xs d lt within = absurd (omega (arith, within))
cleans-set (ys ∷ near) (e ∷ far) zero xs d lt within = refl
cleans-set (ys ∷ near) (e ∷ far) (suc k) xs d lt within =
    ap (λ ls. (ys ++ e.values) ∷ ls) (cleans-set near far k xs d (omega arith)
    (omega (arith, within)))

-- what is known of set k's list where it is asked for
pub record HasMarked (near : Marked) (beyond : ℕ) (far : List (Deep ℕ)) (k : ℕ)
    (m : Marked) : Type 0 where
  pub sound : InParts near beyond far
  pub seen : whole_marked near beyond far ≡ m
  pub is_set : k < length m.blocks

pub known : {near : Marked} {beyond : ℕ} {far : List (Deep ℕ)} {k : ℕ} {m : Marked} →
    InParts near beyond far → whole_marked near beyond far ≡ m → k < length m.blocks →
    HasMarked near beyond far k m
known sound seen is_set = record { sound = sound; seen = seen; is_set = is_set }

-- the lists once a list was written anew
pub record IsWritten (near : Marked) (beyond : ℕ) (far : List (Deep ℕ)) (m : Marked) : Type 0 where
  pub sound : InParts near beyond far
  pub seen : whole_marked near beyond far ≡ m

module _ {near : Marked} {beyond : ℕ} {far : List (Deep ℕ)} {k : ℕ} {m : Marked}
    (h : HasMarked near beyond far k m) where
  pub plain : HasWhole (plain_lists near) beyond far k (plain_lists m)
  plain = record {
    sound = h.sound.split;
    seen = ap plain_lists h.seen;
    is_set = h.is_set;
  }

  abbrev pub row : List ℕ
  row = blocks_in near k

  abbrev pub rest : List ℕ
  rest = rest_of far k

  abbrev pub marks : List ℕ
  marks = cleans_in near k

  abbrev pub values : List ℕ
  values = values_of far k

  pub near_set : k < length near.blocks
  near_set = within plain

  pub far_set : k < length far
  far_set = within_far plain

  -- the deep list of set k as it is read
  pub far_read : {d : Deep ℕ} → d ≡ get_or far k d → d ≡ get_or far k nothing
  far_read {d} read = get_or_read far k d far_set read nothing

  pub clean_set : k < length near.cleans
  clean_set = omega (arith, near_set, h.sound.alike.set_count)

  pub blocks_are : blocks_in m k ≡ row ++ rest
  blocks_are = list_is plain

  pub cleans_are : cleans_in m k ≡ marks ++ values
  cleans_are = ap (λ w. cleans_in w k) (sym h.seen) ∙ cleans_at near.cleans far k clean_set

  pub depth_is : near.depth + beyond ≡ m.depth
  depth_is = ap (λ w. w.depth) h.seen

  pub marks_long : length marks ≡ length row
  marks_long = h.sound.alike.same_lengths k

  pub values_long : length values ≡ length rest
  values_long = h.sound.beside k

  pub whole_long : length (blocks_in m k) ≤ m.depth
  whole_long = omega (
    arith,
    ap length blocks_are,
    length-append row rest,
    h.sound.split.short k,
    h.sound.split.rest_short k,
    depth_is,
  )

  -- with other blocks and clean depths of set k's row
  abbrev pub near_with : List ℕ → List ℕ → Marked
  near_with blocks cleans = record near {
    blocks = set near.blocks k blocks;
    cleans = set near.cleans k cleans;
  }

  alike_with : (blocks cleans : List ℕ) → length cleans ≡ length blocks →
      AreAlike (near_with blocks cleans)
  alike_with blocks cleans same = record {
    set_count = length-set near.cleans k cleans ∙ h.sound.alike.set_count ∙
        sym (length-set near.blocks k blocks);
    same_lengths = λ i. elim (cases_eq i k) [
      | inl at ↦ ap (λ j. length (get_or (set near.cleans k cleans) j [])) at
          ∙ ap length (get_or-set_same near.cleans k cleans [] clean_set) ∙ same
          ∙ sym (ap (λ j. length (get_or (set near.blocks k blocks) j [])) at
          ∙ ap length (get_or-set_same near.blocks k blocks [] near_set))
      | inr other ↦ ap length (get_or-set_other near.cleans k i cleans [] other)
          ∙ h.sound.alike.same_lengths i
          ∙ sym (ap length (get_or-set_other near.blocks k i blocks [] other))
    ];
  }

  -- the whole lists, with a list of two parts written anew
  pub written : (blocks cleans : List ℕ) (d : Deep ℕ) → length cleans ≡ length blocks →
      length d.values ≡ length d.blocks →
      AreSplit (plain_lists (near_with blocks cleans)) beyond (set far k d) →
      IsWritten (near_with blocks cleans) beyond (set far k d) (record m {
        blocks = set m.blocks k (blocks ++ d.blocks);
        cleans = set m.cleans k (cleans ++ d.values);
      })
  written blocks cleans d same beside split = record {
    sound = record {
      split = split;
      some = h.sound.some;
      small = h.sound.small;
      alike = alike_with blocks cleans same;
      beside = all_set (λ _ e. length e.values ≡ length e.blocks) far k d nothing far_set beside
          (λ i _. h.sound.beside i);
    };
    seen =
        let made : List (List ℕ) → List (List ℕ) → Marked = λ bs cs. record {
          depth = near.depth + beyond;
          blocks = bs;
          cleans = cs;
        } in
        ap (λ bs. made bs (whole_cleans (set near.cleans k cleans) (set far k d)))
        (joined-set near.blocks far k blocks d near_set far_set)
        ∙ ap (made (set (whole_lists near.blocks far) k (blocks ++ d.blocks)))
        (cleans-set near.cleans far k cleans d clean_set far_set)
        ∙ ap (λ (v : Marked). record v {
          blocks = set v.blocks k (blocks ++ d.blocks);
          cleans = set v.cleans k (cleans ++ d.values);
        }) h.seen;
  }

  -- the row with block x in front, which was then given clean depth c
  abbrev pub brought : ℕ → ℕ → Marked
  brought x c = near_with (take near.depth (move_to_front x row))
      (take near.depth (c ∷ remove marks (index_of x row)))

  pub brought_is : (x c : ℕ) (access : Access) {near' near'' : Marked} →
      near' ≡ after_access near k x access → near'' ≡ after_mark_in_front near' k c →
      near'' ≡ brought x c
  brought_is x c access {near'} {near''} moved marked =
      let old : ℕ = clean_in_front near.depth access x row marks in
      let left : List ℕ = remove marks (index_of x row) in
      let first : List ℕ = take near.depth (old ∷ left) in
      let made : List (List ℕ) → Marked = λ cs. record {
        depth = near.depth;
        blocks = set near.blocks k (take near.depth (move_to_front x row));
        cleans = cs;
      } in
      marked ∙ ap (λ n. after_mark_in_front n k c) moved
      ∙ ap (λ l. made (set (set near.cleans k first) k (set l 0 c)))
      (get_or-set_same near.cleans k first [] clean_set)
      ∙ ap (λ l. made (set (set near.cleans k first) k l)) (front_set near.depth old c left)
      ∙ ap made (set_twice near.cleans k first (take near.depth (c ∷ left)))

  pub brought_alike : (x c : ℕ) →
      length (take near.depth (c ∷ remove marks (index_of x row)))
      ≡ length (take near.depth (move_to_front x row))
  brought_alike x c = same_size near.depth (index_of x row) x c row marks marks_long

  -- the list of set k emptied
  emptied_split : (d : Deep ℕ) → d ≡ get_or far k nothing →
      AreSplit (plain_lists (near_with [] [])) beyond (set far k (empty_deep d))
  emptied_split d is =
      let none = empty_deep d in
      let lists = set near.blocks k [] in
      let s = h.sound.split in
      record {
        far_len = length-set far k none ∙ s.far_len ∙ sym (length-set near.blocks k []);
        two = s.two;
        small = subst (λ (n : ℕ). n * (near.depth + beyond) ≤ 2 ^ 22)
            (sym (length-set near.blocks k [])) s.small;
        caps = λ j lt. all_set (λ i e. i < length far → e.cap ≡ beyond) far k none nothing
            far_set (λ in_range. ap (λ e. e.cap) is ∙ s.caps k in_range) (λ i _. s.caps i) j
            (omega (arith, lt, length-set far k none));
        short = all_set (λ _ ys. length ys ≤ near.depth) near.blocks k [] [] near_set (omega arith)
            (λ j _. s.short j);
        rest_short = all_set (λ _ e. length e.blocks ≤ beyond) far k none nothing far_set
            (omega arith) (λ j _. s.rest_short j);
        full = all_set (λ j e. e.blocks ≢ [] → length (get_or lists j []) ≡ near.depth) far k
            none nothing far_set (λ some. absurd (some refl))
            (λ j other some. ap length (get_or-set_other near.blocks k j [] [] other) ∙
            s.full j some);
        once = all_set (λ j e. IsOnce (get_or lists j [] ++ e.blocks)) far k none nothing
            far_set (subst (λ ys. IsOnce (ys ++ [])) (sym (get_or-set_same near.blocks k [] []
            near_set)) tt)
            (λ j other. subst (λ ys. IsOnce (ys ++ rest_of far j))
            (sym (get_or-set_other near.blocks k j [] [] other)) (s.once j));
      }

  pub emptied : (d : Deep ℕ) → d ≡ get_or far k nothing → {near' : Marked} →
      near' ≡ without_list near k → {d' : Deep ℕ} → d' ≡ empty_deep d →
      IsWritten near' beyond (set far k d') (without_list m k)
  emptied d is {near'} near_is {d'} far_is =
      subst (λ n. IsWritten n beyond (set far k d') (without_list m k)) (sym near_is)
      (subst (λ e. IsWritten (without_list near k) beyond (set far k e) (without_list m k))
      (sym far_is) (written [] [] (empty_deep d) refl refl (emptied_split d is)))

-- all lists are empty
cleans_empty : (n : ℕ) (far : List (Deep ℕ)) → ((k : ℕ) → values_of far k ≡ []) →
    whole_cleans (replicate n []) far ≡ replicate n []
cleans_empty zero far none = refl
cleans_empty (suc n) [] none = refl
cleans_empty (suc n) (d ∷ far) none =
    ap (λ ys. ys ∷ whole_cleans (replicate n []) far) (none 0) ∙
    ap (λ ls. [] ∷ ls) (cleans_empty n far (λ k. none (suc k)))

empty_values : (n cap k : ℕ) → values_of (replicate n (empty_list ℕ cap)) k ≡ []
empty_values zero cap k = refl
empty_values (suc n) cap zero = refl
empty_values (suc n) cap (suc k) = empty_values n cap k

module _ (near : Marked) (sets beyond : ℕ) (far : List (Deep ℕ))
    (near_is : near ≡ empty_marked sets 64)
    (far_is : far ≡ replicate sets (empty_list ℕ beyond)) where
  abbrev none : List (Deep ℕ)
  none = replicate sets (empty_list ℕ beyond)

  pub new_long : 1 ≤ beyond → 64 + beyond ≤ 2 ^ 22 → sets * (64 + beyond) ≤ 2 ^ 22 →
      InParts near beyond far
  new_long some short small =
      let count : length none ≡ sets = length-replicate sets (empty_list ℕ beyond) in
      let set_count : length (replicate {A = List ℕ} sets []) ≡ sets = length-replicate sets [] in
      subst (λ n. InParts n beyond far) (sym near_is)
      (subst (λ f. InParts (empty_marked sets 64) beyond f) (sym far_is) (record {
        split = split_none (plain_lists (empty_marked sets 64)) beyond sets none refl
            (empty_rest ℕ sets beyond)
            (λ k lt. ap (λ d. d.cap) (get_or-replicate sets k (empty_list ℕ beyond) nothing
            (omega (arith, lt, count))))
            (count ∙ sym set_count) (omega arith)
            (subst (λ (n : ℕ). n * (64 + beyond) ≤ 2 ^ 22) (sym set_count) small);
        some = some;
        small = short;
        alike = record { set_count = refl; same_lengths = λ k. refl };
        beside = λ k. ap length (empty_values sets beyond k)
            ∙ sym (ap length (empty_rest ℕ sets beyond k));
      }))

  pub new_whole : (depth : ℕ) → 64 + beyond ≡ depth →
      whole_marked near beyond far ≡ empty_marked sets depth
  new_whole depth is =
      let made : List (List ℕ) → List (List ℕ) → Marked = λ bs cs. record {
        depth = 64 + beyond;
        blocks = bs;
        cleans = cs;
      } in
      ap (λ n. whole_marked n beyond far) near_is
      ∙ ap (whole_marked (empty_marked sets 64) beyond) far_is
      ∙ ap (λ bs. made bs (whole_cleans (replicate sets []) none))
      (joined_empty sets none (empty_rest ℕ sets beyond))
      ∙ ap (made (replicate sets [])) (cleans_empty sets none (empty_values sets beyond))
      ∙ ap (empty_marked sets) is

pub whole_count : {near : Marked} {beyond : ℕ} {far : List (Deep ℕ)} → InParts near beyond far →
    length (whole_lists near.blocks far) ≡ length far
whole_count {near} {beyond} {far} s = length-joined near.blocks far ∙ sym s.split.far_len

-- a list cut again, and one that is not cut
pub cut_again : (i n : ℕ) (d : Deep ℕ) → i ≤ n → cut_to i (cut_to n d) ≡ cut_to i d
cut_again i n d le =
    let made : List ℕ → List ℕ → Deep ℕ = λ xs ys. record {
      cap = d.cap;
      blocks = xs;
      values = ys;
    } in
    ap (λ xs. made xs (take i (take n d.values))) (take-take i n d.blocks le)
    ∙ ap (made (take i d.blocks)) (take-take i n d.values le)

pub cut_whole : (n : ℕ) (d : Deep ℕ) → n ≡ length d.blocks → length d.values ≡ length d.blocks →
    d ≡ cut_to n d
cut_whole n d all beside =
    let made : List ℕ → List ℕ → Deep ℕ = λ xs ys. record {
      cap = d.cap;
      blocks = xs;
      values = ys;
    } in
    ap (λ xs. made xs d.values) (sym (take_all n d.blocks (omega (arith, all))))
    ∙ ap (made (take n d.blocks)) (sym (take_all n d.values (omega (arith, all, beside))))
