-- The geometry of a cache is the one that its numbers give.
use Rattle.std.proofs.Common.{◌≡◌, ◌≢◌, ℕ, ◌+◌, ◌*◌, ◌^◌, ◌<◌, ◌≤◌, true}
use Rattle.std.proofs.Common.{Option, Some, None, ◌∙◌, ap, refl, arith}
use Rattle.std.specs.Prelude.{option_and_then}
use Rattle.std.proofs.Math.Pow.{pow-lt}
use Rattle.std.proofs.Math.Nat.{mul-le-mul, mul-le-mul_left, one-le-pow}
use Rattle.std.proofs.lemmas.Bool.{eqb-true}
use Rattle.cache_core.specs.declared.system.plan.CacheSpec.{CacheSpec}
use Rattle.cache_core.specs.Geometry.{GeometryValue, IsGeometry, is_geometry, geometry_of}
use Rattle.cache_core.specs.system.Plans.{exponent_of, geometry_for, IsGeometryFor, GeometryLaw}
use Rattle.cache_core.proofs.system.plan.Exponents.{exponent_some}

exponent_sound : (unit number k : ℕ) → exponent_of unit number ≡ Some k →
    (unit * 2 ^ k ≡ number) × (k < 21)
unfolding exponent_of
exponent_sound unit number k e = grind (arith, eqb-true)

exponent_is : (unit k : ℕ) → 1 ≤ unit → k ≤ 20 → exponent_of unit (unit * 2 ^ k) ≡ Some k
exponent_is unit k some small = exponent_some unit (unit * 2 ^ k) k (omega arith)
    (λ j l e. less j l e) refl
  where
    less : (j : ℕ) → j < k → unit * 2 ^ j ≢ unit * 2 ^ k
    less j l e =
        let powers : 2 ^ j < 2 ^ k = pow-lt l in
        let step : 2 ^ j + 1 ≤ 2 ^ k = omega arith in
        let products : unit * (2 ^ j + 1) ≤ unit * 2 ^ k = mul-le-mul_left unit step in
        absurd (omega arith)

pub limits_of : (g : GeometryValue) → is_geometry g ≡ true → IsGeometry g
limits_of g t = grind arith

pub within_of : (g : GeometryValue) → IsGeometry g → is_geometry g ≡ true
within_of g l = grind arith

by_sets : (spec : CacheSpec) (g : GeometryValue) (b : ℕ) (o : Option ℕ) →
    exponent_of (spec.assoc * spec.bsize) spec.size ≡ o →
    1 * 2 ^ b ≡ spec.bsize →
    option_and_then (λ s. geometry_of s spec.assoc b) o ≡ Some g → IsGeometryFor spec g
by_sets spec g b o e h q = grind (arith, exponent_sound)

by_blocks : (spec : CacheSpec) (g : GeometryValue) (o : Option ℕ) → exponent_of 1 spec.bsize ≡ o →
    option_and_then (λ b. option_and_then (λ s. geometry_of s spec.assoc b)
    (exponent_of (spec.assoc * spec.bsize) spec.size)) o ≡ Some g →
    IsGeometryFor spec g
by_blocks spec g None e q = absurd cc
by_blocks spec g (Some b) e q = by_sets spec g b (exponent_of (spec.assoc * spec.bsize) spec.size)
    refl (exponent_sound 1 spec.bsize b e).0 q

geometry_from : (spec : CacheSpec) (g : GeometryValue) → IsGeometryFor spec g →
    geometry_for spec ≡ Some g
geometry_from spec g h =
    let blocks : exponent_of 1 spec.bsize ≡ Some g.b = ap (exponent_of 1) (omega (arith, h.bsize)) ∙
    exponent_is 1 g.b (omega arith) h.limits.blocks in
    let one : 1 ≤ 2 ^ g.b = one-le-pow g.b 2 (omega arith) in
    let ways : 1 ≤ spec.assoc = omega (arith, h.assoc, h.limits.some) in
    let bytes : 1 ≤ spec.bsize = omega (arith, h.bsize) in
    let unit : 1 * 1 ≤ spec.assoc * spec.bsize = mul-le-mul ways bytes in
    let some : 1 ≤ spec.assoc * spec.bsize = omega arith in
    let sets : exponent_of (spec.assoc * spec.bsize) spec.size ≡ Some g.s =
    ap (exponent_of (spec.assoc * spec.bsize)) h.size ∙ exponent_is (spec.assoc * spec.bsize) g.s
    some h.limits.sets in
    grind arith

pub geometry_law : GeometryLaw
geometry_law spec g = (by_blocks spec g (exponent_of 1 spec.bsize) refl, geometry_from spec g)
