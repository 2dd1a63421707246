-- The depth of a pair is the greatest valid associativity, and gives a geometry.
use Rattle.std.proofs.Common.{◌≡◌, ℕ, ◌*◌, ◌^◌, ◌≤◌, Bool, true, ◌&&◌, List, map, refl, ap, ◌∙◌}
use Rattle.std.proofs.Common.{arith, Option, Some, inl, inr, subst}
use Rattle.std.specs.Prelude.{filter}
use Rattle.std.specs.List.{AllByRecursion as Each}
use Rattle.std.proofs.lemmas.Bool.{and_parts, and_from, eqb-true, eq-eqb, le-leb, cases_lt}
use Rattle.std.proofs.lemmas.Nat.{pow-add}
use Rattle.std.proofs.Math.Nat.{mul_comm}
use Rattle.sweep_core.proofs.Lists.{Member, Each-weaker, Each-both, Each-map, Each-filter}
use Rattle.sweep_core.proofs.Lists.{Member-map, passes-all, kept-of, max-is, max-above}
use Rattle.cache_core.proofs.PowersOfTwo.{log2-pow, log2-is}
use Rattle.cache_core.specs.Geometry.{IsGeometry, geometry_value, size_of}
use Rattle.sweep_core.specs.declared.space.Config.{Config}
use Rattle.sweep_core.specs.Space.{Ranges, is_valid, bytes_of, HasSize, config}
use Rattle.cache_core.specs.Powers.{log2}
use Rattle.sweep_core.specs.Table.{is_after, table, all_configs}
use Rattle.sweep_core.specs.SweepText.{geometry_of_config, config_geometry}
use Rattle.sweep_core.specs.Work.{depth, has_pair}
use Rattle.sweep_core.proofs.Validity.{IsLimited, valid_of, power-exponent, products}
use Rattle.sweep_core.proofs.Rising.{valid-member}
use Rattle.sweep_core.proofs.Orders.{is_less-from, later_after}

pub geometry-of : (space : Ranges) (c : Config) → IsLimited space → is_valid space c ≡ true →
    IsGeometry (geometry_of_config c)
geometry-of space c l h =
    let v = valid_of space c h in
    let i = power-exponent c.bsize v.block_power (omega (arith, v.bsize.1, l.bsize.1)) in
    let j = power-exponent c.sets v.set_power (omega (arith, v.sets.1, l.sets.1)) in
    let li : log2 c.bsize ≡ i.0 = ap log2 i.2 ∙ log2-pow i.0 (omega (arith, i.1)) in
    let lj : log2 c.sets ≡ j.0 = ap log2 j.2 ∙ log2-pow j.0 (omega (arith, j.1)) in
    let back : c.assoc * 2 ^ log2 c.sets ≡ c.assoc * c.sets =
    ap (λ x. c.assoc * x) (log2-is c.sets v.set_power) in
    record {
      sets = omega (arith, j.1);
      blocks = omega (arith, i.1);
      some = omega (arith, v.assoc.0, l.assoc.0);
      ways = omega (arith, v.assoc.1, l.assoc.1);
      lines = omega (arith, v.lines);
    }

pub bytes-are : (space : Ranges) (c : Config) → is_valid space c ≡ true →
    size_of (geometry_of_config c) ≡ bytes_of c
bytes-are space c h =
    let v = valid_of space c h in
    ap (λ x. c.assoc * x) (pow-add 2 (log2 c.sets) (log2 c.bsize))
    ∙ ap (λ x. c.assoc * (x * 2 ^ log2 c.bsize)) (log2-is c.sets v.set_power)
    ∙ ap (λ x. c.assoc * (c.sets * x)) (log2-is c.bsize v.block_power)
    ∙ mul_comm c.assoc (c.sets * c.bsize) ∙ ap (λ x. x * c.assoc) (mul_comm c.sets c.bsize)

pub geometry-tested : (space : Ranges) (c : Config) → IsLimited space → is_valid space c ≡ true →
    config_geometry c ≡ Some (geometry_of_config c)
geometry-tested space c l h =
    let v = valid_of space c h in
    let g = geometry-of space c l h in
    rw (
      v.block_power,
      v.set_power,
      le-leb _ _ g.sets,
      le-leb _ _ g.blocks,
      le-leb _ _ g.some,
      le-leb _ _ g.ways,
      le-leb _ _ g.lines,
    ) refl

pub size-fits : (space : Ranges) (c : Config) → IsLimited space →
    is_valid space c ≡ true → HasSize c
size-fits space c l h =
    let v = valid_of space c h in
    let p = products space c.bsize c.sets c.assoc l v.bsize v.sets v.assoc in
    (p.1, p.2)

wider-after : (after : Option Config) (c : Config) (n : ℕ) → is_after after c ≡ true → c.assoc ≤ n →
    is_after after (config c.bsize c.sets n) ≡ true
wider-after after c n h w =
    elim (cases_lt c.assoc n) [
      | inl more ↦ later_after after c (config c.bsize c.sets n) h
          (is_less-from c (config c.bsize c.sets n) (inr (refl, inr (refl, more))))
      | inr same ↦ subst (λ (k : ℕ). is_after after (config c.bsize c.sets k) ≡ true) {x =
          c.assoc} {y = n} (omega arith) h
    ]

pub depth-is : (space : Ranges) (after : Option Config) (c : Config) (n : ℕ) → IsLimited space →
    is_valid space c ≡ true → is_after after c ≡ true
    → is_valid space (config c.bsize c.sets n) ≡ true →
    ((e : ℕ) → is_valid space (config c.bsize c.sets e) ≡ true → e ≤ n)
    → depth (table space after) (c.bsize, c.sets) ≡ n
unfolding depth table
depth-is space after c n l valid later top greatest =
    let p : Config → Bool = λ d. is_valid space d && is_after after d in
    let q : Config → Bool = has_pair (c.bsize, c.sets) in
    let rows = filter p (all_configs space.assoc) in
    let bound : Each (λ d. d.assoc ≤ n) (filter q rows) =
    Each-weaker (λ d. (p d ≡ true) × (q d ≡ true)) (λ d. d.assoc ≤ n)
    (λ d h. let w = and_parts _ _ h.1 in
    greatest d.assoc (subst (λ (x : Config). is_valid space x ≡ true)
    (ap (λ x. config x d.sets d.assoc) (eqb-true _ _ w.0) ∙ ap (λ y. config c.bsize y d.assoc)
    (eqb-true _ _ w.1)) (and_parts _ _ h.0).0))
    (filter q rows) (Each-both (λ d. p d ≡ true) (λ d. q d ≡ true) (λ d. (p d ≡ true) ×
    (q d ≡ true)) (λ d h k. (h, k)) (filter q rows)
    (Each-filter (λ d. p d ≡ true) q rows (passes-all p (all_configs space.assoc)))
    (passes-all q rows)) in
    let member : Member (config c.bsize c.sets n) (filter q rows) =
    kept-of q (config c.bsize c.sets n) rows (and_from _ _ (eq-eqb c.bsize c.bsize refl)
    (eq-eqb c.sets c.sets refl))
    (kept-of p (config c.bsize c.sets n) (all_configs space.assoc)
    (and_from _ _ top (wider-after after c n later (greatest c.assoc valid)))
    (valid-member space (config c.bsize c.sets n) l top)) in
    max-is n (map (λ d. d.assoc) (filter q rows)) 0 (omega arith)
    (Each-map (λ x. x ≤ n) (λ d. d.assoc) (filter q rows) bound)
    (inr (Member-map (λ d. d.assoc) (config c.bsize c.sets n) (filter q rows) member))

-- no configuration is deeper than its pair
pub depth-above : (all : List Config) (c : Config) → Member c all →
    c.assoc ≤ depth all (c.bsize, c.sets)
unfolding depth
depth-above all c m =
    max-above c.assoc 0 (map (λ d. d.assoc) (filter (has_pair (c.bsize, c.sets)) all))
    (inr (Member-map (λ d. d.assoc) c (filter (has_pair (c.bsize, c.sets)) all)
    (kept-of (has_pair (c.bsize, c.sets)) c all (and_from _ _ (eq-eqb c.bsize c.bsize refl)
    (eq-eqb c.sets c.sets refl)) m)))

-- equal numbers give one geometry
pub same-geometry : {s t e d b k : ℕ} → s ≡ t → e ≡ d → b ≡ k →
    geometry_value s e b ≡ geometry_value t d k
same-geometry p q r = rw (p, q, r) refl
