-- What the pairs and the depths of rows are, and how many comparisons a sweep makes at most.
use Rattle.std.proofs.Common.{◌≡◌, ℕ, suc, ◌*◌, ◌≤◌, Bool, true, not, List, [], ◌∷◌, ◌++◌, map}
use Rattle.std.proofs.Common.{length, refl, sym, ap, ◌∙◌, inl, inr, arith, subst}
use Rattle.std.specs.Prelude.{◌≢◌, ◌↔◌, filter, Contains, AllPairs, sum_by}
use Rattle.std.proofs.lemmas.Bool.{cases_Bool, false≢true, not_from_false, not-true}
use Rattle.std.proofs.lemmas.List.Elements.{All-weaker, filter_passes}
use Rattle.std.proofs.lemmas.List.Kept.{AllPairs-cons, AllPairs-filter}
use Rattle.std.proofs.lemmas.List.Sums.{sum_by-le-sum_by}
use Rattle.trace_core.specs.declared.events.Event.{Event}
use Rattle.trace_core.specs.declared.events.Event.TheVariants as event
use Rattle.trace_core.specs.Events.{references_in}
use Rattle.cache_core.specs.Geometry.{GeometryValue}
use Rattle.cache_core.specs.Windows.{occurrences, occurrences_after, probes}
use Rattle.sweep_core.specs.declared.space.Config.{Config}
use Rattle.sweep_core.specs.Work.{pair_of, has_pair, pairs, depth, geometry_of_pair, work}
use Rattle.sweep_core.specs.Work.{total_depth}
use Rattle.sweep_core.proofs.Lists.{Member, Member-mapped, contains-of, member-of, kept-of}
use Rattle.sweep_core.proofs.Lists.{Member-filter, max-reached, sum-times}
use Rattle.sweep_core.proofs.Depths.{depth-above}
use Rattle.sweep_core.proofs.Pairs.{has_pair-is, has_pair-from}

-- each pair stands once
pub pairs-distinct : (cs : List Config) → AllPairs (λ p q. p ≢ q) (pairs cs)
unfolding pairs
pairs-distinct [] = λ i j d less inside. absurd (omega arith)
pairs-distinct (c ∷ cs) =
    let other : ℕ × ℕ → Bool = λ p. not (has_pair p c) in
    AllPairs-cons (λ p q. p ≢ q) (pair_of c) (filter other (pairs cs))
    (All-weaker (λ p. other p ≡ true) (λ p. pair_of c ≢ p)
    (λ p h e. false≢true (sym (not-true _ h) ∙ has_pair-from p c e))
    (filter other (pairs cs)) (filter_passes other (pairs cs)))
    (AllPairs-filter (λ p q. p ≢ q) other (pairs cs) (pairs-distinct cs))

-- a configuration of a pair among others
abbrev OfPair : List Config → ℕ × ℕ → Type 0
OfPair cs p = (c : Config) × Member c cs × (pair_of c ≡ p)

pair-had : (cs : List Config) (p : ℕ × ℕ) → Member p (pairs cs) → OfPair cs p
unfolding pairs
pair-had [] p m = absurd m
pair-had (c ∷ cs) p (inl e) = (c, inl refl, e)
pair-had (c ∷ cs) p (inr m) =
    let w = pair-had cs p (Member-filter (λ q. not (has_pair q c)) p (pairs cs) m).0 in
    (w.0, inr w.1, w.2)

pair-has : (cs : List Config) (p : ℕ × ℕ) (c : Config) → Member c cs → pair_of c ≡ p →
    Member p (pairs cs)
unfolding pairs
pair-has [] p c m e = absurd m
pair-has (x ∷ cs) p c (inl same) e = inl (ap pair_of same ∙ e)
pair-has (x ∷ cs) p c (inr m) e =
    elim (cases_Bool (has_pair p x)) [
      | inl here ↦ inl (has_pair-is p x here)
      | inr other ↦ inr (kept-of (λ q. not (has_pair q x)) p (pairs cs) (not_from_false _ other)
          (pair-has cs p c m e))
    ]

-- the pairs are those that a configuration has
pub pairs-members : (cs : List Config) (p : ℕ × ℕ) →
    Contains (pairs cs) p ↔ ((c : Config) × Contains cs c × (pair_of c ≡ p))
pairs-members cs p = (
  λ m. let w = pair-had cs p (member-of p (pairs cs) m) in (w.0, contains-of w.0 cs w.1, w.2),
  λ w. contains-of p (pairs cs) (pair-has cs p w.0 (member-of w.0 cs w.1) w.2),
)

pub depth-most : (all : List Config) (c : Config) → Contains all c → c.assoc ≤ depth all (pair_of c)
depth-most all c m = depth-above all c (member-of c all m)

-- a configuration of a pair that is as deep as the pair
abbrev AsDeep : List Config → ℕ × ℕ → Type 0
AsDeep all p = (c : Config) × Contains all c × (pair_of c ≡ p) × (c.assoc ≡ depth all p)

pub depth-reached : (all : List Config) (p : ℕ × ℕ) → Contains (pairs all) p → AsDeep all p
unfolding depth
depth-reached all p m =
    let some = pair-had all p (member-of p (pairs all) m) in
    let below : some.0.assoc ≤ depth all (pair_of some.0) = depth-above all some.0 some.1 in
    elim (max-reached 0 (map (λ c. c.assoc) (filter (has_pair p) all))) [
      | inl none ↦ (
        some.0,
        contains-of some.0 all some.1,
        some.2,
        lowest (subst (λ q. some.0.assoc ≤ depth all q) some.2 below) none,
      )
      | inr reached ↦
          let at = Member-mapped (λ c. c.assoc) (depth all p) (filter (has_pair p) all) reached in
          let w = Member-filter (has_pair p) at.0 all at.1 in
          (at.0, contains-of at.0 all w.0, has_pair-is p at.0 w.1, at.2)
    ]
  where
    lowest : {n d : ℕ} → n ≤ d → d ≡ 0 → n ≡ d
    lowest low none = omega arith

-- one for each reference
occurrences-length : (g : GeometryValue) (before es : List Event) →
    length (occurrences_after g before es) ≡ length (references_in es)
unfolding occurrences_after
occurrences-length g before [] = refl
occurrences-length g before (event.Reference r ∷ es) =
    ap suc (occurrences-length g (before ++ event.Reference r ∷ []) es)
occurrences-length g before (event.Flush ∷ es) =
    occurrences-length g (before ++ event.Flush ∷ []) es

-- at most as many comparisons per reference as its profile is deep
pub work-most : (es : List Event) (all rows : List Config) →
    ((g : GeometryValue) → probes g es ≤ length (occurrences g es) * g.e)
    → work es all rows ≤ length (references_in es) * total_depth all rows
unfolding work
work-most es all rows most =
    let n = length (references_in es) in
    let each : (p : ℕ × ℕ) → probes (geometry_of_pair all p) es ≤ n * depth all p =
    λ p. rw (sym (occurrences-length (geometry_of_pair all p) [] es))
    (most (geometry_of_pair all p)) in
    let sum : sum_by (λ p. n * depth all p) (pairs rows) ≡ n * total_depth all rows =
    sum-times n (depth all) (pairs rows) in
    omega (
      arith,
      sum_by-le-sum_by (λ p. probes (geometry_of_pair all p) es) (λ p. n * depth all p)
          (pairs rows) each,
      sum,
    )
