-- The counts of a full profile are those of caches.
use Rattle.std.proofs.Common.{◌≡◌, ℕ, zero, suc, ◌+◌, ◌<◌, ◌≤◌, ◌^◌, ◌&&◌, Bool}
use Rattle.std.proofs.Common.{not, cond, ltb, List, [], ◌∷◌, ◌++◌, take, drop, sum}
use Rattle.std.proofs.Common.{get_or, replicate, refl, sym, ◌∙◌, ap, subst, arith}
use Rattle.std.specs.List.{sum_by, remove}
use Rattle.std.proofs.lemmas.Bool.Decides.{nat_tests}
use Rattle.std.proofs.lemmas.List.Folds.{sum_by-replicate}
use Rattle.std.proofs.lemmas.List.Sums.{sum_by-cons, sum_by-take-drop, sum_by-set}
use Rattle.std.proofs.lemmas.Nat.{mod_below, pow_pos}
use Rattle.trace_core.specs.declared.events.Access.{Access}
use Rattle.trace_core.specs.declared.events.Access.TheVariants.{Fetch, Read, Write}
use Rattle.trace_core.specs.declared.events.Ref.{Ref}
use Rattle.trace_core.specs.Events.{is_fetch, is_read, is_write}
use Rattle.trace_core.specs.declared.events.Event.{Event}
use Rattle.trace_core.specs.declared.events.Event.TheVariants as event
use Rattle.cache_core.specs.Geometry.{GeometryValue, IsGeometry, block_of, set_of}
use Rattle.profile_core.specs.profile.RecencyList.{index_of}
use Rattle.profile_core.specs.profile.State.{list_of}
use Rattle.profile_core.proofs.profile.Counting.{counts_are}
use Rattle.full_profile.specs.LookBack.{copybacks, misses_of, misses_at, copybacks_at, full_counts}
use Rattle.full_profile.specs.LookBack.{sum_after}
use Rattle.full_profile.specs.State.{FullState, empty_full, cleans_of, kind_of, kind_misses_at}
use Rattle.full_profile.specs.State.{after_full_reference, after_full_flush, after_full_event}
use Rattle.full_profile.specs.State.{after_end, full_after, full_counts_at, copied_at, kind_number}
use Rattle.full_profile.specs.State.{empty_kind, clean_in_front}
use Rattle.profile_core.proofs.profile.Counting.{sum_by_parts, sum_by_same}
use Rattle.full_profile.proofs.laws.Copies.{one_within, counted_from}
use Rattle.full_profile.proofs.laws.Copies.{evictions}
use Rattle.full_profile.proofs.laws.Fit.{FullStandsFor, fed_event, fed_new, emptied}
use Rattle.full_profile.proofs.laws.Runs.{each_event, after_more, geometry_stays}
use Rattle.full_profile.proofs.laws.Waiting.{dirty_in, waiting, waiting_after}
use Rattle.full_profile.proofs.laws.MissesByKind.{IsKind, kind_more, fetch_kind, read_kind}
use Rattle.full_profile.proofs.laws.MissesByKind.{write_kind, is_miss}
use Rattle.full_profile.proofs.laws.LookingBack.{with_ways, sum_after_push, hit_is}
use Rattle.full_profile.proofs.laws.Dirty.{KnowsDirty, knows_reference, knows_flush, knows_new}
use Rattle.full_profile.proofs.laws.Copybacks.{copyback_at, copybacks_at_flush}

-- where all blocks from an index on are counted for the cache of so many ways if they are dirty
all_counted : (up_to : ℕ → ℕ) (ways index : ℕ) (cleans : List ℕ) →
    ((i : ℕ) → index ≤ i → ways ≤ up_to i) →
    counted_from up_to ways index cleans ≡ dirty_in ways cleans
all_counted up_to ways index [] h = refl
all_counted up_to ways index (c ∷ cleans) h =
    let le = h index (omega arith) in
    let here : one_within c (up_to index) ways ≡ cond (ltb c ways) 1 0 = grind (arith, nat_tests) in
    omega (
      arith,
      here,
      sum_by-cons (λ clean. cond (ltb clean ways) 1 0) c cleans,
      all_counted up_to ways (index + 1) cleans (λ i lt. h i (omega (arith, lt))),
    )

-- at the end: those at the index `ways` or behind it
behind_counted : (ways more index : ℕ) (cleans : List ℕ) → ways ≡ more + index →
    counted_from (λ i. i) ways index cleans ≡ dirty_in ways (drop more cleans)
behind_counted ways zero index cleans e =
    all_counted (λ i. i) ways index cleans (λ i le. omega (arith, e, le))
behind_counted ways (suc more) index [] e = refl
behind_counted ways (suc more) index (c ∷ cleans) e =
    let none : one_within c index ways ≡ 0 = grind (arith, nat_tests) in
    omega (arith, none, behind_counted ways more (index + 1) cleans (omega (arith, e)))

-- A full profile counts for the caches of n + 1 ways what they did with a list of events; some
-- copybacks wait.
record CountsFor (n : ℕ) (es : List Event) (v : FullState) : Type 0 where
  stands : FullStandsFor es v
  within : suc n ≤ v.plain.geometry.e
  kinds : (a : Access) (is_kind : Access → Bool) → IsKind a is_kind →
      kind_misses_at (suc n) (kind_of v a)
      ≡ misses_of is_kind (with_ways v.plain.geometry (suc n)) es
  dirty : KnowsDirty (suc n) es v
  copied : sum (take (suc n) v.copied_above) + sum_by (waiting (suc n)) v.cleans
      ≡ sum (take (suc n) v.copied_up_to) + copybacks (with_ways v.plain.geometry (suc n)) es

none_waiting : (n m : ℕ) → sum_by (waiting (suc n)) (replicate m []) ≡ 0
none_waiting n m = omega (arith, sum_by-replicate (waiting (suc n)) m [])

module _ (n : ℕ) (es : List Event) (v : FullState) (h : CountsFor n es v) where
  abbrev small : GeometryValue
  small = with_ways v.plain.geometry (suc n)

  copied_reference : (r : Ref) → let u = after_full_reference v r in
      sum (take (suc n) u.copied_above) + sum_by (waiting (suc n)) u.cleans
      ≡ sum (take (suc n) u.copied_up_to) + copybacks small (es ++ event.Reference r ∷ [])
  copied_reference r =
      let g : GeometryValue = v.plain.geometry in
      let x : ℕ = block_of g r.addr in
      let k : ℕ = set_of g r.addr in
      let blocks : List ℕ = list_of v.plain k in
      let cleans : List ℕ = cleans_of v k in
      let d : ℕ = index_of x blocks in
      let fit = h.stands.fit in
      let lt : k < 2 ^ g.s = mod_below x (2 ^ g.s) (pow_pos g.s) in
      let out = evictions v x blocks cleans (suc n) (fit.plain.short k) fit.above_count
      fit.up_to_count in
      let moved = sum_by-set (waiting (suc n)) v.cleans k
      (take g.e (clean_in_front g.e r.access x blocks cleans ∷ remove cleans d)) []
      (omega (arith, lt, fit.set_count)) in
      let waits = waiting_after n g.e x (clean_in_front g.e r.access x blocks cleans) blocks cleans
      (fit.alike k) (fit.plain.short k) h.within in
      let more = sum_after_push (copybacks_at small) [] es (event.Reference r) in
      let here = copyback_at n es v h.stands h.within h.dirty r in
      omega (arith, out.sums, moved, waits, more, here, h.copied)

  kinds_reference : (r : Ref) (a : Access) (is_kind : Access → Bool) → IsKind a is_kind →
      kind_misses_at (suc n) (kind_of (after_full_reference v r) a)
      ≡ misses_of is_kind small (es ++ event.Reference r ∷ [])
  kinds_reference r a is_kind kind =
      let g : GeometryValue = v.plain.geometry in
      let x : ℕ = block_of g r.addr in
      let k : ℕ = set_of g r.addr in
      let fit = h.stands.fit in
      let here = kind_more a is_kind kind v r.access (suc n) x (list_of v.plain k) (cleans_of v k)
      fit.kind_count (omega arith) (omega (arith, fit.plain.short k, fit.behind_count r.access)) in
      let more = sum_after_push (misses_at is_kind small) [] es (event.Reference r) in
      let miss : misses_at is_kind small es (event.Reference r)
      ≡ cond (is_kind r.access && is_miss (suc n) x (list_of v.plain k)) 1 0 =
      ap (λ b. cond {A = ℕ} (is_kind r.access && not b) 1 0)
      (hit_is es v.plain h.stands.plain (suc n) h.within r) in
      omega (arith, here, more, miss, h.kinds a is_kind kind)

  counts_reference : (r : Ref) →
      CountsFor n (es ++ event.Reference r ∷ []) (after_full_reference v r)
  counts_reference r = record {
    stands = fed_event es v (event.Reference r) h.stands;
    within = h.within;
    kinds = kinds_reference r;
    dirty = knows_reference (suc n) es v h.stands (omega arith) h.within h.dirty r;
    copied = copied_reference r;
  }

  copied_flush : let u = after_full_flush v in
      sum (take (suc n) u.copied_above) + sum_by (waiting (suc n)) u.cleans
      ≡ sum (take (suc n) u.copied_up_to) + copybacks small (es ++ event.Flush ∷ [])
  copied_flush =
      let g : GeometryValue = v.plain.geometry in
      let out = emptied (λ index. g.e) (suc n) v h.stands.fit (λ i lt. omega arith) in
      let all = sum_by_same (counted_from (λ index. g.e) (suc n) 0) (dirty_in (suc n)) v.cleans
      (λ cleans. all_counted (λ index. g.e) (suc n) 0 cleans (λ i le. h.within)) in
      let split = sum_by_parts (λ cleans. dirty_in (suc n) (take (suc n) cleans)) (waiting (suc n))
      (dirty_in (suc n)) v.cleans
      (λ cleans. sum_by-take-drop (λ clean. cond (ltb clean (suc n)) 1 0) cleans (suc n)) in
      let more = sum_after_push (copybacks_at small) [] es event.Flush in
      let here = copybacks_at_flush n es v h.stands h.within h.dirty in
      omega (arith, out.sums, all, split, more, here, none_waiting n (2 ^ g.s), h.copied)

  kinds_flush : (a : Access) (is_kind : Access → Bool) → IsKind a is_kind →
      kind_misses_at (suc n) (kind_of (after_full_flush v) a)
      ≡ misses_of is_kind small (es ++ event.Flush ∷ [])
  kinds_flush a is_kind kind =
      let g : GeometryValue = v.plain.geometry in
      let out = emptied (λ index. g.e) 0 v h.stands.fit (λ i lt. omega arith) in
      let same : kind_of (after_full_flush v) a ≡ kind_of v a =
      ap (λ kinds. get_or kinds (kind_number a) (empty_kind g)) out.kinds in
      let more = sum_after_push (misses_at is_kind small) [] es event.Flush in
      omega (arith, ap (kind_misses_at (suc n)) same, more, h.kinds a is_kind kind)

  counts_flush : CountsFor n (es ++ event.Flush ∷ []) (after_full_flush v)
  counts_flush = record {
    stands = fed_event es v event.Flush h.stands;
    within = h.within;
    kinds = kinds_flush;
    dirty = knows_flush (suc n) es v;
    copied = copied_flush;
  }

  -- once the last event is past, no copyback waits
  copied_end : copied_at (after_end v) (suc n) ≡ copybacks small es
  copied_end =
      let out = emptied (λ index. index) (suc n) v h.stands.fit (λ i lt. omega (arith, lt)) in
      let all = sum_by_same (counted_from (λ index. index) (suc n) 0) (waiting (suc n)) v.cleans
      (λ cleans. behind_counted (suc n) (suc n) 0 cleans (omega arith)) in
      omega (arith, out.sums, all, h.copied)

  kinds_end : (a : Access) (is_kind : Access → Bool) → IsKind a is_kind →
      kind_misses_at (suc n) (kind_of (after_end v) a) ≡ misses_of is_kind small es
  kinds_end a is_kind kind =
      let out = emptied (λ index. index) 0 v h.stands.fit (λ i lt. omega (arith, lt)) in
      ap (λ kinds. kind_misses_at (suc n) (get_or kinds (kind_number a)
      (empty_kind v.plain.geometry))) out.kinds ∙ h.kinds a is_kind kind

  counts_end : full_counts_at (after_end v) (suc n) ≡ full_counts small es
  unfolding full_counts
  counts_end =
      let plain = counts_are es v.plain (suc n) h.stands.plain h.within in
      let fetches = kinds_end Fetch is_fetch fetch_kind in
      let reads = kinds_end Read is_read read_kind in
      let writes = kinds_end Write is_write write_kind in
      cc (plain, fetches, reads, writes, copied_end)

counts_event : (n : ℕ) (es : List Event) (v : FullState) (e : Event) → CountsFor n es v →
    CountsFor n (es ++ e ∷ []) (after_full_event v e)
counts_event n es v (event.Reference r) h = counts_reference n es v h r
counts_event n es v event.Flush h = counts_flush n es v h

none_missed : (n : ℕ) (g : GeometryValue) → kind_misses_at n (empty_kind g) ≡ 0
none_missed n g = omega (
  arith,
  sum_by-take-drop (λ m. m) (replicate g.e 0) n,
  sum_by-replicate (λ m. m) g.e 0,
)

new_misses : (n : ℕ) (g : GeometryValue) (a : Access) →
    kind_misses_at n (kind_of (empty_full g) a) ≡ 0
new_misses n g Fetch = none_missed n g
new_misses n g Read = none_missed n g
new_misses n g Write = none_missed n g

counts_new : (n : ℕ) (g : GeometryValue) → IsGeometry g → suc n ≤ g.e →
    CountsFor n [] (empty_full g)
unfolding sum_after
counts_new n g is within = record {
  stands = fed_new g is;
  within = within;
  kinds = λ a is_kind kind. new_misses (suc n) g a;
  dirty = knows_new (suc n) g;
  copied = omega (arith, none_waiting n (2 ^ g.s));
}

counts_after : (n : ℕ) (g : GeometryValue) (es : List Event) → IsGeometry g → suc n ≤ g.e →
    CountsFor n es (full_after g es)
counts_after n g es is within = each_event (λ xs. CountsFor n xs (full_after g xs))
    (counts_new n g is within)
    (λ xs e h. subst (CountsFor n (xs ++ e ∷ [])) (sym (after_more g xs e))
    (counts_event n xs (full_after g xs) e h)) es

pub full_counts_are : (g : GeometryValue) (es : List Event) (ways : ℕ) → IsGeometry g → 1 ≤ ways →
    ways ≤ g.e → full_counts_at (after_end (full_after g es)) ways
    ≡ full_counts (record g { e = ways }) es
full_counts_are g es zero is some within = absurd (omega (arith, some))
full_counts_are g es (suc n) is some within =
    counts_end n es (full_after g es) (counts_after n g es is within)
    ∙ ap (λ geometry. full_counts (with_ways geometry (suc n)) es) (geometry_stays g es)
