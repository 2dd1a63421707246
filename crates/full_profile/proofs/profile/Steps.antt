-- The state after a reference, part by part.
use Rattle.std.proofs.Common.{◌≡◌, ℕ, ◌+◌, ◌-◌, Bool, true, false, cond, eqb, ltb, List, []}
use Rattle.std.proofs.Common.{◌∷◌, ◌^◌, length, get_or, set, fold, refl, ◌∙◌, ap}
use Rattle.std.specs.Prelude.{replicate}
use Rattle.trace_core.specs.declared.events.Access.{Access}
use Rattle.cache_core.specs.Geometry.{set_of_block}
use Rattle.profile_core.specs.profile.RecencyList.{index_of, is_in, is_front}
use Rattle.profile_core.specs.profile.State.{ProfileState, one_more_at}
use Rattle.profile_core.specs.profile.State.{after_reference, after_flush}
use Rattle.full_profile.specs.State.{FullState, KindState, kind_number, kind_of}
use Rattle.full_profile.specs.State.{after_copies, with_miss, after_copies_of}
use Rattle.full_profile.specs.State.{after_reference_in_lists, after_emptying}
use Rattle.full_profile.specs.internal.Copies.{CopiesValue, with_copy, with_copies_of}
use Rattle.full_profile.specs.internal.Copies.{with_all_copies, copies_of}
use Rattle.full_profile.specs.internal.Marked.{cleans_after}

-- two states that are the same part by part
pub state_same : (v w : FullState) → v.plain ≡ w.plain → v.cleans ≡ w.cleans → v.kinds ≡ w.kinds →
    copies_of v ≡ copies_of w → v ≡ w
state_same v w plain cleans kinds copies =
    let state : ProfileState → List (List ℕ) → List KindState → CopiesValue → FullState =
    λ p ms ks c. record {
      plain = p;
      cleans = ms;
      kinds = ks;
      copied_above = c.above;
      copied_up_to = c.up_to;
    } in
    ap (λ p. state p v.cleans v.kinds (copies_of v)) plain
    ∙ ap (λ ms. state w.plain ms v.kinds (copies_of v)) cleans
    ∙ ap (λ ks. state w.plain w.cleans ks (copies_of v)) kinds
    ∙ ap (state w.plain w.cleans w.kinds) copies

-- a copyback counts in the copybacks alone
copy_if : (b : Bool) (above up_to : ℕ) (v : FullState) →
    let after = cond b (record v {
      copied_above = one_more_at v.copied_above above;
      copied_up_to = one_more_at v.copied_up_to up_to;
    }) v in
    after ≡ record v {
      copied_above = (cond b (record {
        above = one_more_at v.copied_above above;
        up_to = one_more_at v.copied_up_to up_to;
      }) (copies_of v)).above;
      copied_up_to = (cond b (record {
        above = one_more_at v.copied_above above;
        up_to = one_more_at v.copied_up_to up_to;
      }) (copies_of v)).up_to;
    }
copy_if true above up_to v = refl
copy_if false above up_to v = refl

-- a state with other copybacks
abbrev pub with_copies : FullState → CopiesValue → FullState
with_copies v c = record v { copied_above = c.above; copied_up_to = c.up_to }

pub copy_is : (above up_to : ℕ) (v : FullState) →
    after_copies above up_to v ≡ with_copies v (with_copy above up_to (copies_of v))
copy_is above up_to v = copy_if (ltb above up_to) above up_to v

pub copies_are : (up_to : ℕ → ℕ) (index : ℕ) (cleans : List ℕ) (v : FullState) →
    after_copies_of up_to index cleans v
    ≡ with_copies v (with_copies_of up_to index cleans (copies_of v))
unfolding after_copies_of with_copies_of
copies_are up_to index [] v = refl
copies_are up_to index (clean ∷ cleans) v =
    ap (after_copies clean (up_to index)) (copies_are up_to (index + 1) cleans v)
    ∙ copy_is clean (up_to index) _

pub all_copies_are : (up_to : ℕ → ℕ) (lists : List (List ℕ)) (v : FullState) →
    fold (λ w cleans. after_copies_of up_to 0 cleans w) v lists
    ≡ with_copies v (with_all_copies up_to lists (copies_of v))
all_copies_are up_to [] v = refl
all_copies_are up_to (l ∷ lists) v =
    ap (λ w. fold (λ u cleans. after_copies_of up_to 0 cleans u) w lists) (copies_are up_to 0 l v)
    ∙ all_copies_are up_to lists _

-- after all lists are emptied
pub emptying_is : (up_to : ℕ → ℕ) (v : FullState) →
    after_emptying up_to v ≡ record (with_copies v (with_all_copies up_to v.cleans (copies_of v))) {
      plain = after_flush v.plain;
      cleans = replicate
          (2 ^ v.plain.geometry.s) [];
    }
emptying_is up_to v = ap (λ (w : FullState). record w {
  plain = after_flush v.plain;
  cleans = replicate
      (2 ^ v.plain.geometry.s) [];
}) (all_copies_are up_to v.cleans v)

-- the copybacks that a reference shows
evict_if : (b e : Bool) (a u a' u' : ℕ) (v : FullState) →
    cond b (after_copies a u v) (cond e (after_copies a' u' v) v)
    ≡ with_copies v (cond b (with_copy a u (copies_of v)) (cond e (with_copy a' u' (copies_of v))
    (copies_of v)))
evict_if true e a u a' u' v = copy_is a u v
evict_if false true a u a' u' v = copy_is a' u' v
evict_if false false a u a' u' v = refl

abbrev pub copies_after : ℕ → ℕ → List ℕ → List ℕ → CopiesValue → CopiesValue
copies_after d x xs ms c = cond (is_in x xs) (with_copy (get_or ms (index_of x xs) 0) (index_of x
    xs) c)
    (cond (eqb (length xs) d) (with_copy (get_or ms (d - 1) 0) d c) c)

-- the misses of each kind
abbrev pub kinds_after : FullState → Access → ℕ → List ℕ → List KindState
kinds_after v access x xs = cond (is_front x xs) v.kinds (set v.kinds (kind_number access)
    (with_miss x xs (kind_of v access)))

-- the whole state after a reference
pub reference_is : (v : FullState) (access : Access) (x : ℕ) (xs ms : List ℕ) →
    after_reference_in_lists v access x xs ms ≡ record (with_copies v
    (copies_after v.plain.geometry.e x xs ms (copies_of v))) {
      plain = after_reference v.plain x;
      cleans = set v.cleans (set_of_block v.plain.geometry x)
          (cleans_after v.plain.geometry.e access x xs ms);
      kinds = kinds_after v access x xs;
    }
reference_is v access x xs ms = ap (λ (w : FullState). record w {
  plain = after_reference v.plain x;
  cleans = set v.cleans (set_of_block v.plain.geometry x)
      (cleans_after v.plain.geometry.e access x xs ms);
  kinds = kinds_after v access x xs;
}) (evict_if (is_in x xs) (eqb (length xs) v.plain.geometry.e) (get_or ms (index_of x xs) 0)
    (index_of x xs) (get_or ms (v.plain.geometry.e - 1) 0) v.plain.geometry.e v)
