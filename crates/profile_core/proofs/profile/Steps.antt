-- What a reference does to a profile, over the trace that it stands for.
use Rattle.std.proofs.Common.{◌≡◌, ℕ, ◌+◌, ◌<◌, ◌≤◌, Bool, true, false, not, ◌&&◌, cond, eqb, ltb}
use Rattle.std.proofs.Common.{min, List, length, take, refl, sym, ◌∙◌, ap, subst, arith, get_or}
use Rattle.std.proofs.Common.{get_or-set_same, get_or-set_other, length-take}
use Rattle.std.proofs.lemmas.Bool.Decides.{nat_tests}
use Rattle.std.proofs.lemmas.List.Sums.{prefix_len-le-length}
use Rattle.cache_core.proofs.Lists.{is, list_any_is, position_or_len-take}
use Rattle.cache_core.proofs.Distances.{has_last_is, distance_is}
use Rattle.cache_core.specs.Geometry.{GeometryValue, set_of_block}
use Rattle.cache_core.specs.Windows.{Occurrence, distinct_of_set, has_last, distance, blocks_seen}
use Rattle.profile_core.specs.profile.RecencyList.{index_of, is_in}
use Rattle.profile_core.specs.profile.State.{one_more_at}

-- a block at distance d in a list of n, seen through its first m
pub hit_within : (d n m : ℕ) → d ≤ n → (ltb d n && ltb d m) ≡ ltb (min d m) (min m n)
hit_within d n m h = grind (arith, nat_tests)

pub distance_within : (d n m i : ℕ) → i < m →
    (ltb d n && eqb d i) ≡ (ltb (min d m) (min m n) && eqb (min d m) i)
distance_within d n m i h = grind (arith, nat_tests)

pub probes_within : (d n m : ℕ) → d ≤ n → cond (ltb d n && ltb d m) (d + 1) (min n m) ≡ min
    (min d m + 1) (min m n)
probes_within d n m h = grind (arith, nat_tests)

pub raise_at : (ns : List ℕ) (i d : ℕ) → i < length ns →
    get_or (one_more_at ns i) d 0 ≡ get_or ns d 0 + cond (eqb i d) 1 0
raise_at ns i d h = grind (arith, nat_tests, get_or-set_same, get_or-set_other)

pub raise_if : (b : Bool) (ns : List ℕ) (i d : ℕ) → (b ≡ true → i < length ns) →
    get_or (cond b (one_more_at ns i) ns) d 0 ≡ get_or ns d 0 + cond (b && eqb i d) 1 0
raise_if true ns i d h = raise_at ns i d (h refl)
raise_if false ns i d h = omega arith

pub raise_unless : (b : Bool) (ns : List ℕ) (i d : ℕ) → (b ≡ false → i < length ns)
    → get_or (cond b ns (one_more_at ns i)) d 0 ≡ get_or ns d 0 + cond (not b && eqb i d) 1 0
raise_unless true ns i d h = omega arith
raise_unless false ns i d h = raise_at ns i d (h refl)

-- whether and where a reference finds its block among the first n different blocks of its set
pub record Finds (g : GeometryValue) (n : ℕ) (p : Occurrence) (xs : List ℕ) : Type 0 where
  pub last : has_last p ≡ ltb (distance g p) (blocks_seen g p)
  pub within : distance g p ≤ blocks_seen g p
  pub index : index_of p.block xs ≡ min (distance g p) n
  pub len : length xs ≡ min n (blocks_seen g p)
  pub found : is_in p.block xs ≡ ltb (min (distance g p) n) (min n (blocks_seen g p))
  pub hit : (has_last p && ltb (distance g p) n) ≡ is_in p.block xs

pub finds : (g : GeometryValue) (n : ℕ) (p : Occurrence) (xs : List ℕ) →
    xs ≡ take n (distinct_of_set g (set_of_block g p.block) p.window) → Finds g n p xs
finds g n p xs e =
    let st : List ℕ = distinct_of_set g (set_of_block g p.block) p.window in
    let d = distance_is g p in
    let last : has_last p ≡ ltb (distance g p) (blocks_seen g p) = has_last_is g p ∙
    list_any_is (is p.block) st ∙ ap (λ k. ltb k (length st)) (sym d) in
    let within : distance g p ≤ blocks_seen g p = subst (λ (k : ℕ). k ≤ length st) (sym d)
    (prefix_len-le-length (λ y. not (eqb y p.block)) st) in
    let index : index_of p.block xs ≡ min (distance g p) n = ap (index_of p.block) e ∙
    position_or_len-take (is p.block) n st ∙ ap (λ k. min k n) (sym d) in
    let len : length xs ≡ min n (blocks_seen g p) = ap length e ∙ length-take n st in
    let found : is_in p.block xs ≡ ltb (min (distance g p) n) (min n (blocks_seen g p)) =
    list_any_is (is p.block) xs ∙ ap (λ k. ltb k (length xs)) index ∙
    ap (λ k. ltb (min (distance g p) n) k) len in
    record {
      last = last;
      within = within;
      index = index;
      len = len;
      found = found;
      hit = ap (λ b. b && ltb (distance g p) n) last ∙ hit_within (distance g p) (blocks_seen g p) n
          within ∙ sym found;
    }
