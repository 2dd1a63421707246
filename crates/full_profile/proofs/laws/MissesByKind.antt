-- The misses of each kind of access.
use Rattle.std.proofs.Common.{◌≡◌, ℕ, ◌+◌, ◌<◌, ◌≤◌, ◌&&◌, Bool, true, false, not, cond}
use Rattle.std.proofs.Common.{eqb, ltb, leb, List, length, drop, get_or, sum, refl}
use Rattle.std.proofs.Common.{sym, ◌∙◌, ap, arith}
use Rattle.std.proofs.lemmas.Bool.{eqb-true, ltb-true, lt-ltb, and_from}
use Rattle.std.proofs.lemmas.Bool.Decides.{nat_tests}
use Rattle.std.proofs.lemmas.List.Sums.{sum_by-set, sum_by-take-drop}
use Rattle.trace_core.specs.declared.events.Access.{Access}
use Rattle.trace_core.specs.declared.events.Access.TheVariants.{Fetch, Read, Write}
use Rattle.trace_core.specs.Events.{is_fetch, is_read, is_write}
use Rattle.cache_core.proofs.Lists.{cases, list_any_is}
use Rattle.profile_core.specs.profile.RecencyList.{index_of, is_in, is_front}
use Rattle.profile_core.specs.profile.State.{one_more_at}
use Rattle.profile_core.proofs.profile.Feeding.{found_front}
use Rattle.full_profile.specs.State.{FullState, KindState, kind_number, kind_of, kind_misses_at}
use Rattle.full_profile.specs.State.{empty_kind, with_miss, after_reference_in_lists}
use Rattle.full_profile.proofs.laws.Copies.{raised_sum}
use Rattle.full_profile.proofs.laws.Fit.{kind_after}

-- a test of accesses by their number
pub record IsKind (a : Access) (is_kind : Access → Bool) : Type 0 where
  pub tells : (access : Access) → is_kind access ≡ eqb (kind_number a) (kind_number access)

pub fetch_kind : IsKind Fetch is_fetch
fetch_kind = record { tells = fetch_told }
  where
    fetch_told : (access : Access) → is_fetch access ≡ eqb (kind_number Fetch) (kind_number access)
    fetch_told Fetch = refl
    fetch_told Read = refl
    fetch_told Write = refl

pub read_kind : IsKind Read is_read
read_kind = record { tells = read_told }
  where
    read_told : (access : Access) → is_read access ≡ eqb (kind_number Read) (kind_number access)
    read_told Fetch = refl
    read_told Read = refl
    read_told Write = refl

pub write_kind : IsKind Write is_write
write_kind = record { tells = write_told }
  where
    write_told : (access : Access) → is_write access ≡ eqb (kind_number Write) (kind_number access)
    write_told Fetch = refl
    write_told Read = refl
    write_told Write = refl

raised_rest : (ns : List ℕ) (i ways : ℕ) → i < length ns →
    sum (drop ways (one_more_at ns i)) ≡ sum (drop ways ns) + cond (leb ways i) 1 0
raised_rest ns i ways lt =
    let all = sum_by-set (λ n. n) ns i (get_or ns i 0 + 1) 0 lt in
    let was = sum_by-take-drop (λ n. n) ns ways in
    let now = sum_by-take-drop (λ n. n) (one_more_at ns i) ways in
    let first = raised_sum ns i ways lt in
    let either : cond {A = ℕ} (ltb i ways) 1 0 + cond (leb ways i) 1 0 ≡ 1 =
    grind (arith, nat_tests) in
    omega (arith, all, was, now, first, either)

-- whether a cache of so many ways misses a block of a list
abbrev pub is_miss : ℕ → ℕ → List ℕ → Bool
is_miss ways x blocks = not (is_in x blocks && ltb (index_of x blocks) ways)

-- one more miss
missed_more : (ways x : ℕ) (blocks : List ℕ) (kind : KindState) →
    length blocks ≤ length kind.behind →
    kind_misses_at ways (with_miss x blocks kind)
    ≡ kind_misses_at ways kind + cond (is_miss ways x blocks) 1 0
missed_more ways x blocks kind short =
    let d : ℕ = index_of x blocks in
    cases (λ b. is_in x blocks ≡ b →
    kind_misses_at ways (cond b (record kind { behind = one_more_at kind.behind d })
    (record kind { missed = kind.missed + 1 }))
    ≡ kind_misses_at ways kind + cond (not (b && ltb d ways)) 1 0)
    (is_in x blocks)
    (λ t is.
    let lt : d < length blocks = ltb-true d (length blocks) (sym (list_any_is (λ y. eqb y x) blocks)
    ∙ is) in
    let more = raised_rest kind.behind d ways (omega (arith, lt, short)) in
    let either : cond {A = ℕ} (not (ltb d ways)) 1 0 ≡ cond (leb ways d) 1 0 =
    grind (arith, nat_tests) in
    omega (arith, more, either))
    (λ f is. omega arith)
    refl

-- a front is no miss
front_hits : (ways x : ℕ) (blocks : List ℕ) → 1 ≤ ways → is_front x blocks ≡ true →
    is_miss ways x blocks ≡ false
front_hits ways x blocks some front =
    let found = found_front x blocks front in
    let near : ltb (index_of x blocks) ways ≡ true =
    ap (λ i. ltb i ways) found.distance_is ∙ lt-ltb 0 ways some in
    ap not (and_from _ _ found.inside near)

-- a reference counts its own miss
pub kind_more : (a : Access) (is_kind : Access → Bool) → IsKind a is_kind → (v : FullState)
    (access : Access) (ways x : ℕ) (blocks cleans : List ℕ) → length v.kinds ≡ 3 → 1 ≤ ways →
    length blocks ≤ length (kind_of v access).behind →
    kind_misses_at ways (kind_of (after_reference_in_lists v access x blocks cleans) a)
    ≡ kind_misses_at ways (kind_of v a) + cond (is_kind access && is_miss ways x blocks) 1 0
kind_more a is_kind kind v access ways x blocks cleans three some short =
    let same : Bool = eqb (kind_number a) (kind_number access) in
    let miss : Bool = is_miss ways x blocks in
    let was : ℕ = kind_misses_at ways (kind_of v a) in
    ap (kind_misses_at ways) (kind_after v access a x blocks cleans three)
    ∙ cases (λ b. is_front x blocks ≡ b → kind_misses_at ways (cond b (kind_of v a)
    (cond same (with_miss x blocks (kind_of v access)) (kind_of v a)))
    ≡ was + cond (same && miss) 1 0)
    (is_front x blocks)
    (λ t front. sym (ap (λ b. was + cond (same && b) 1 0) (front_hits ways x blocks some front)
    ∙ never same was))
    (λ f behind. cases (λ b. same ≡ b → kind_misses_at ways
    (cond b (with_miss x blocks (kind_of v access)) (kind_of v a)) ≡ was + cond (b && miss) 1 0)
    same
    (λ t is. missed_more ways x blocks (kind_of v access) short
    ∙ ap (λ k. kind_misses_at ways k + cond miss 1 0)
    (sym (same_kind v a access (eqb-true _ _ is))))
    (λ f is. omega arith)
    refl)
    refl
    ∙ ap (λ b. was + cond (b && miss) 1 0) (sym (kind.tells access))
  where
    never : (b : Bool) (n : ℕ) → n + cond {A = ℕ} (b && false) 1 0 ≡ n
    never true n = omega arith
    never false n = omega arith

    same_kind : (u : FullState) (i j : Access) → kind_number i ≡ kind_number j →
        kind_of u i ≡ kind_of u j
    same_kind u i j e = ap (λ n. get_or u.kinds n (empty_kind u.plain.geometry)) e
