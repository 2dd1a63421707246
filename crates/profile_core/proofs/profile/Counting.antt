-- What a profile answers is what the definitions say of the events that it stands for.
use Rattle.std.proofs.Common.{◌≡◌, ℕ, ◌+◌, ◌*◌, ◌≤◌, ◌^◌, Bool, true, false, not, ◌&&◌, cond, eqb}
use Rattle.std.proofs.Common.{ltb, leb, min, List, [], ◌∷◌, length, take, drop, map, sum, refl, sym}
use Rattle.std.proofs.Common.{◌∙◌, ap, subst, arith, get_or, length-take}
use Rattle.std.specs.List.{count_by, sum_by, range_with_len}
use Rattle.std.proofs.lemmas.Bool.Decides.{nat_tests}
use Rattle.std.proofs.lemmas.List.{take_all}
use Rattle.std.proofs.lemmas.List.Sums.{sum_by-cons, sum_by-take-drop, sum_by-le}
use Rattle.std.proofs.lemmas.List.FromFn.{fill_by_all, take-map-range_with_len}
use Rattle.trace_core.specs.declared.events.Event.{Event}
use Rattle.trace_core.specs.declared.events.Event.TheVariants as event
use Rattle.cache_core.specs.Geometry.{GeometryValue, block_of}
use Rattle.cache_core.specs.Windows.{Occurrence, distinct_of_set, has_last, distance, blocks_seen}
use Rattle.cache_core.specs.Windows.{is_hit, window, occurrences, probes, held, counts}
use Rattle.cache_core.proofs.Occurrences.{occurrences_from, occurrences-from}
use Rattle.cache_core.specs.declared.outcome.Counts.{Counts}
use Rattle.profile_core.specs.profile.State.{ProfileState, fed_of, held_of, counts_at}
use Rattle.profile_core.specs.profile.ProfileStandsFor.{ProfileStandsFor}
use Rattle.profile_core.proofs.profile.Sums.{sum-counts}
use Rattle.profile_core.proofs.profile.Steps.{Finds, finds}

-- a sum of two, term by term
pub sum_by_parts : {X : Type 0} (f g h : X → ℕ) (xs : List X) → ((x : X) → f x + g x ≡ h x) →
    sum_by f xs + sum_by g xs ≡ sum_by h xs
sum_by_parts f g h [] e = refl
sum_by_parts f g h (x ∷ xs) e = omega (
  arith,
  sum_by-cons f x xs,
  sum_by-cons g x xs,
  sum_by-cons h x xs,
  e x,
  sum_by_parts f g h xs e,
)

pub sum_by_same : {X : Type 0} (f g : X → ℕ) (xs : List X) → ((x : X) → f x ≡ g x) →
    sum_by f xs ≡ sum_by g xs
sum_by_same f g [] e = refl
sum_by_same f g (x ∷ xs) e = omega (
  arith,
  sum_by-cons f x xs,
  sum_by-cons g x xs,
  e x,
  sum_by_same f g xs e,
)

sum_by_one : {X : Type 0} (xs : List X) → sum_by (λ _. 1) xs ≡ length xs
sum_by_one [] = refl
sum_by_one (x ∷ xs) = sum_by-cons (λ _. 1) x xs ∙ omega (arith, sum_by_one xs)

sum_by-map : {X Y : Type 0} (f : Y → ℕ) (g : X → Y) (xs : List X) →
    sum_by f (map g xs) ≡ sum_by (λ x. f (g x)) xs
sum_by-map f g [] = refl
sum_by-map f g (x ∷ xs) = omega (
  arith,
  sum_by-cons f (g x) (map g xs),
  sum_by-cons (λ y. f (g y)) x xs,
  sum_by-map f g xs,
)

-- each reference looks back no further than what was seen
looks_back : (g : GeometryValue) (p : Occurrence) → Finds g 0 p []
looks_back g p = finds g 0 p [] refl

-- whether a cache of e lines per set hits there, and whether it evicts
abbrev pub hit_at : GeometryValue → ℕ → Occurrence → Bool
hit_at g e p = has_last p && ltb (distance g p) e

abbrev pub evict_at : GeometryValue → ℕ → Occurrence → Bool
evict_at g e p = not (hit_at g e p) && leb e (blocks_seen g p)

yes_or_no : (b : Bool) → cond b 1 0 + cond (not b) 1 0 ≡ 1
yes_or_no true = refl
yes_or_no false = refl

in_or_out : (d n m e : ℕ) → d ≤ n → e ≤ m →
    cond (not (ltb d n && ltb d e) && leb e n) 1 0 + cond (not (ltb d n && ltb d m) && ltb
    (min n m) e) 1 0 ≡ cond (not (ltb d n && ltb d e)) 1 0
in_or_out d n m e h k = grind (arith, nat_tests)

always : (b : Bool) (n m : ℕ) → cond {A = ℕ} (not b && ltb (min n m) (m + 1)) 1 0 ≡ cond (not b) 1 0
always true n m = refl
always false n m = grind (arith, nat_tests)

-- the first e numbers of the two histograms
pub distances_sum : (es : List Event) (v : ProfileState) (e : ℕ) → ProfileStandsFor es v →
    e ≤ v.geometry.e
    → sum (take e v.distances) ≡ count_by (hit_at v.geometry e) (occurrences v.geometry es)
distances_sum es v e h le =
    let g = v.geometry in
    let f : ℕ → ℕ = λ d. count_by (λ p. has_last p && eqb (distance g p) d) (occurrences g es) in
    ap (λ ns. sum (take e ns)) (fill_by_all f v.distances g.e 0 h.distance_count h.distances)
    ∙ ap sum (take-map-range_with_len f 0 g.e e le)
    ∙ sum-counts has_last (distance g) (occurrences g es) e

pub misses_sum : (es : List Event) (v : ProfileState) (e : ℕ) → ProfileStandsFor es v →
    e ≤ v.geometry.e + 1 →
    sum (take e v.misses_by_occupancy)
    ≡ count_by (λ p. not (is_hit v.geometry p) && ltb (min (blocks_seen v.geometry p) v.geometry.e)
    e) (occurrences v.geometry es)
misses_sum es v e h le =
    let g = v.geometry in
    let f : ℕ → ℕ = λ n. count_by (λ p. not (is_hit g p) && eqb (min (blocks_seen g p) g.e) n)
    (occurrences g es) in
    ap (λ ns. sum (take e ns)) (fill_by_all f v.misses_by_occupancy (g.e + 1) 0 h.occupancy_count
    (λ k lt. h.misses_by_occupancy k (omega arith)))
    ∙ ap sum (take-map-range_with_len f 0 (g.e + 1) e le)
    ∙ sum-counts (λ p. not (is_hit g p)) (λ p. min (blocks_seen g p) g.e) (occurrences g es) e

all_of : (g : GeometryValue) (e : ℕ) (ps : List Occurrence) → count_by (hit_at g e) ps + count_by
    (λ p. not (hit_at g e p)) ps ≡ length ps
all_of g e ps = sum_by_parts (λ p. cond (hit_at g e p) 1 0) (λ p. cond (not (hit_at g e p)) 1 0)
    (λ _. 1) ps (λ p. yes_or_no (hit_at g e p)) ∙ sum_by_one ps

pub fed_is : (es : List Event) (v : ProfileState) → ProfileStandsFor es v →
    fed_of v ≡ length (occurrences v.geometry es)
fed_is es v h =
    let g = v.geometry in
    let ps : List Occurrence = occurrences g es in
    let found : sum v.distances ≡ count_by (is_hit g) ps =
    ap sum (sym (take_all g.e v.distances (omega (arith, h.distance_count)))) ∙
    distances_sum es v g.e h (omega arith) in
    let not_found : sum v.misses_by_occupancy ≡ count_by (λ p. not (is_hit g p)) ps =
    ap sum (sym (take_all (g.e + 1) v.misses_by_occupancy (omega (arith, h.occupancy_count)))) ∙
    misses_sum es v (g.e + 1) h (omega arith)
    ∙ sum_by_same (λ p. cond (not (is_hit g p) && ltb (min (blocks_seen g p) g.e) (g.e + 1)) 1 0)
    (λ p. cond (not (is_hit g p)) 1 0) ps
    (λ p. always (is_hit g p) (blocks_seen g p) g.e) in
    omega (arith, found, not_found, all_of g g.e ps)

evicted : (g : GeometryValue) (m e : ℕ) (p : Occurrence) → e ≤ m →
    cond (evict_at g e p) 1 0 + cond (not (hit_at g m p) && ltb (min (blocks_seen g p) m) e) 1
    0 ≡ cond (not (hit_at g e p)) 1 0
evicted g m e p le =
    let f = looks_back g p in
    subst
    (λ (b : Bool). cond (not (b && ltb (distance g p) e) && leb e (blocks_seen g p)) 1 0
    + cond (not (b && ltb (distance g p) m) && ltb (min (blocks_seen g p) m) e) 1 0 ≡ cond
    (not (b && ltb (distance g p) e)) 1 0)
    (sym f.last) (in_or_out (distance g p) (blocks_seen g p) m e f.within le)

-- the occurrences do not depend on the number of lines
occurrences_from_same : (g : GeometryValue) (e : ℕ) (w : List ℕ) (es : List Event) →
    occurrences_from (record g { e = e }) w es ≡ occurrences_from g w es
unfolding occurrences_from
occurrences_from_same g e w [] = refl
occurrences_from_same g e w (event.Reference r ∷ es) =
    ap (λ ps. record { block = block_of g r.addr; window = w } ∷ ps)
    (occurrences_from_same g e (block_of g r.addr ∷ w) es)
occurrences_from_same g e w (event.Flush ∷ es) = occurrences_from_same g e [] es

occurrences_same : (g : GeometryValue) (e : ℕ) (es : List Event) →
    occurrences (record g { e = e }) es ≡ occurrences g es
occurrences_same g e es = occurrences-from (record g { e = e }) es ∙
    occurrences_from_same g e [] es ∙ sym (occurrences-from g es)

-- the counts by the occurrences of the same geometry with another number of lines
counts_by : (g : GeometryValue) (e : ℕ) (ps : List Occurrence) → Counts
counts_by g e ps = record {
  hits = count_by (hit_at g e) ps;
  misses = count_by (λ p. not (hit_at g e p)) ps;
  evictions = count_by (evict_at g e) ps;
}

counts_same : (g : GeometryValue) (e : ℕ) (es : List Event) →
    counts (record g { e = e }) es ≡ counts_by g e (occurrences g es)
unfolding counts distinct_of_set counts_by
counts_same g e es = ap (counts_by g e) (occurrences_same g e es)

pub counts_are : (es : List Event) (v : ProfileState) (e : ℕ) → ProfileStandsFor es v →
    e ≤ v.geometry.e
    → counts_at v e ≡ counts (record v.geometry { e = e }) es
unfolding counts_by
counts_are es v e h le =
    let g = v.geometry in
    let ps : List Occurrence = occurrences g es in
    let hits = distances_sum es v e h le in
    let fed = fed_is es v h in
    let split = sum_by-take-drop (λ n. n) v.distances e in
    let misses_split = sum_by-take-drop (λ n. n) v.misses_by_occupancy e in
    let both = all_of g e ps in
    let misses : sum (drop e v.distances) + sum v.misses_by_occupancy ≡ count_by
    (λ p. not (hit_at g e p)) ps = omega (arith, hits, fed, split, both) in
    let young = misses_sum es v e h (omega arith) in
    let old : count_by (evict_at g e) ps + count_by
    (λ p. not (is_hit g p) && ltb (min (blocks_seen g p) g.e) e) ps ≡ count_by
    (λ p. not (hit_at g e p)) ps =
    sum_by_parts (λ p. cond (evict_at g e p) 1 0)
    (λ p. cond (not (is_hit g p) && ltb (min (blocks_seen g p) g.e) e) 1 0)
    (λ p. cond (not (hit_at g e p)) 1 0) ps
    (λ p. evicted g g.e e p le) in
    let evictions : sum (drop e v.distances) + sum (drop e v.misses_by_occupancy) ≡ count_by
    (evict_at g e) ps =
    omega (arith, misses, young, old, misses_split) in
    let same : counts_at v e ≡ counts_by g e ps = cc (hits, misses, evictions) in
    same ∙ sym (counts_same g e es)

pub held_is : (es : List Event) (v : ProfileState) → ProfileStandsFor es v →
    held_of v ≡ held v.geometry es
unfolding held
held_is es v h =
    let g = v.geometry in
    let list : ℕ → List ℕ = λ k. take g.e (distinct_of_set g k (window g es)) in
    ap (sum_by length) (fill_by_all list v.lists (2 ^ g.s) [] h.set_count h.lists)
    ∙ sum_by-map length list (range_with_len 0 (2 ^ g.s))
    ∙ sum_by_same (λ k. length (list k)) (λ k. min (length (distinct_of_set g k (window g es))) g.e)
    (range_with_len 0 (2 ^ g.s))
    (λ k. length-take g.e (distinct_of_set g k (window g es)) ∙ omega arith)

few : (last near : Bool) (d n m : ℕ) → (near ≡ ltb d m) → cond (last && near) (d + 1) (min n m) ≤ m
few last near d n m e = grind (arith, nat_tests)

at_most : (g : GeometryValue) (p : Occurrence) → cond (is_hit g p) (distance g p + 1)
    (min (blocks_seen g p) g.e) ≤ g.e
at_most g p = few (has_last p) (ltb (distance g p) g.e) (distance g p) (blocks_seen g p) g.e refl

-- at most g.e comparisons per reference
pub probes_at_most : (g : GeometryValue) (es : List Event) →
    probes g es ≤ length (occurrences g es) * g.e
unfolding probes
probes_at_most g es =
    sum_by-le (λ p. cond (is_hit g p) (distance g p + 1) (min (blocks_seen g p) g.e)) g.e
    (occurrences g es)
    (λ k p _. at_most g (get_or (occurrences g es) k p))
