-- LRU caches of as many sets, with more lines in each.
use Rattle.std.proofs.Common.{◌≡◌, ◌≤◌, ℕ, Bool, not, ◌&&◌, cond, ltb, leb, List}
use Rattle.std.proofs.Common.{[], ◌∷◌, refl, sym, ap, ◌∙◌, arith}
use Rattle.std.specs.Prelude.{count_by}
use Rattle.std.proofs.lemmas.Bool.Decides.{nat_tests}
use Rattle.std.proofs.lemmas.List.Sums.{sum_by-le-sum_by}
use Rattle.trace_core.specs.declared.events.Event.{Event}
use Rattle.trace_core.specs.declared.events.Event.TheVariants as event
use Rattle.cache_core.specs.Geometry.{GeometryValue, block_of}
use Rattle.cache_core.specs.Windows.{Occurrence, occurrences, has_last, distinct_of_set, distance}
use Rattle.cache_core.specs.Windows.{blocks_seen, is_hit, is_evict, counts}
use Rattle.cache_core.proofs.Occurrences.{occurrences_from, occurrences-from}

-- the occurrences do not depend on the number of lines
occurrences_from-same : (g : GeometryValue) (e : ℕ) (w : List ℕ) (es : List Event) →
    occurrences_from (record g { e = e }) w es ≡ occurrences_from g w es
unfolding occurrences_from
occurrences_from-same g e w [] = refl
occurrences_from-same g e w (event.Reference r ∷ es) =
    ap (λ ps. record { block = block_of g r.addr; window = w } ∷ ps)
    (occurrences_from-same g e (block_of g r.addr ∷ w) es)
occurrences_from-same g e w (event.Flush ∷ es) = occurrences_from-same g e [] es

occurrences-same : (g : GeometryValue) (e : ℕ) (es : List Event) →
    occurrences (record g { e = e }) es ≡ occurrences g es
occurrences-same g e es = occurrences-from (record g { e = e }) es ∙
    occurrences_from-same g e [] es ∙ sym (occurrences-from g es)

-- one reference, by its distance d and the n blocks that were seen
hit : (last : Bool) (d e m : ℕ) → e ≤ m → cond (last && ltb d e) 1 0 ≤ cond (last && ltb d m) 1 0
hit last d e m le = grind (arith, nat_tests)

miss : (last : Bool) (d e m : ℕ) → e ≤ m → cond (not (last && ltb d m)) 1 0 ≤ cond
    (not (last && ltb d e)) 1 0
miss last d e m le = grind (arith, nat_tests)

evict : (last : Bool) (d n e m : ℕ) → e ≤ m → cond (not (last && ltb d m) && leb m n) 1 0 ≤ cond
    (not (last && ltb d e) && leb e n) 1 0
evict last d n e m le = grind (arith, nat_tests)

module _ (g : GeometryValue) (ways : ℕ) (es : List Event) (le : g.e ≤ ways) where
  same : (p : Occurrence → Bool) → count_by p (occurrences (record g { e = ways }) es) ≡ count_by p
      (occurrences g es)
  same p = ap (count_by p) (occurrences-same g ways es)

  pub more-hits : (counts g es).hits ≤ (counts (record g { e = ways }) es).hits
  unfolding counts distinct_of_set
  more-hits = omega (
    arith,
    same (is_hit (record g { e = ways })),
    sum_by-le-sum_by (λ p. cond (is_hit g p) 1 0) (λ p. cond (is_hit (record g { e = ways }) p) 1 0)
        (occurrences g es)
        (λ p. hit (has_last p) (distance g p) g.e ways le),
  )

  pub fewer-misses : (counts (record g { e = ways }) es).misses ≤ (counts g es).misses
  unfolding counts distinct_of_set
  fewer-misses = omega (
    arith,
    same (λ p. not (is_hit (record g { e = ways }) p)),
    sum_by-le-sum_by (λ p. cond (not (is_hit (record g { e = ways }) p)) 1 0)
        (λ p. cond (not (is_hit g p)) 1 0) (occurrences g es)
        (λ p. miss (has_last p) (distance g p) g.e ways le),
  )

  pub fewer-evictions : (counts (record g { e = ways }) es).evictions ≤ (counts g es).evictions
  unfolding counts distinct_of_set
  fewer-evictions = omega (
    arith,
    same (is_evict (record g { e = ways })),
    sum_by-le-sum_by (λ p. cond (is_evict (record g { e = ways }) p) 1 0)
        (λ p. cond (is_evict g p) 1 0) (occurrences g es)
        (λ p. evict (has_last p) (distance g p) (blocks_seen g p) g.e ways le),
  )
