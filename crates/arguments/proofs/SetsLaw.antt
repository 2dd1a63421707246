-- A cache that is asked for by its sets has these sets.
use Rattle.std.proofs.Common.{◌≡◌, ℕ, ◌*◌, ◌/◌, ◌^◌, ◌<◌, ◌≤◌, ◌∙◌, ap, sym, arith, Option, Some}
use Rattle.std.proofs.Common.{None, IfSome}
use Rattle.std.proofs.Math.Nat.{mul-div_cancel, mul-le-mul, mul_assoc, mul_comm, one-le-pow}
use Rattle.std.proofs.Math.Nat.{pow-le-pow_right}
use Rattle.std.proofs.lemmas.Bool.{eqb-true}
use Rattle.cache_core.proofs.system.plan.GeometryLaw.{geometry_law}
use Rattle.cache_core.specs.declared.system.plan.CacheSpec.{CacheSpec}
use Rattle.cache_core.specs.Geometry.{GeometryValue}
use Rattle.cache_core.specs.system.Plans.{IsGeometryFor}
use Rattle.arguments.specs.DinJob.{IsGeometryWith, SetsLaw, size_asked}

-- a size that is not 0 is the product
product_of : (size : Option ℕ) (sets bsize assoc n : ℕ) →
    size_asked size (Some sets) bsize assoc ≡ Some n → 1 ≤ n → n ≡ sets * bsize * assoc
product_of None sets bsize assoc n e some = grind arith
product_of (Some given) sets bsize assoc n e some = grind (arith, eqb-true)

-- and then a size that was given beside the sets is the product too
given_fits : (size : Option ℕ) (sets bsize assoc n : ℕ) →
    size_asked size (Some sets) bsize assoc ≡ Some n → 1 ≤ n
    → IfSome size (λ given. given ≡ sets * bsize * assoc)
given_fits None sets bsize assoc n e some = grind arith
given_fits (Some given) sets bsize assoc n e some = grind (arith, eqb-true)

-- the product is the size, where it is below 2^64 and fits the size that was given
size_is : (size : Option ℕ) (sets bsize assoc n : ℕ) → sets * bsize * assoc < 2 ^ 64 →
    IfSome size (λ given. given ≡ sets * bsize * assoc)
    → size_asked size (Some sets) bsize assoc ≡ Some n → n ≡ sets * bsize * assoc
size_is None sets bsize assoc n below fits e = grind arith
size_is (Some given) sets bsize assoc n below fits e = grind (arith, eqb-true)

-- equal products of a positive number are of equal numbers
cancelled : (x y u : ℕ) → 1 ≤ u → x * u ≡ y * u → x ≡ y
cancelled x y u some e =
    let positive : 0 < u = omega arith in
    sym (mul-div_cancel x positive) ∙ ap (λ p. p / u) e ∙ mul-div_cancel y positive

numbers_of : (spec : CacheSpec) (size : Option ℕ) (sets : ℕ) (g : GeometryValue) →
    size_asked size (Some sets) spec.bsize spec.assoc ≡ Some spec.size
    → IsGeometryFor spec g → IsGeometryWith size sets spec.bsize spec.assoc g
numbers_of spec size sets g e h =
    let bytes : 1 ≤ 2 ^ g.b = one-le-pow g.b 2 (omega arith) in
    let many : 1 ≤ 2 ^ g.s = one-le-pow g.s 2 (omega arith) in
    let block : 1 ≤ spec.bsize = omega (arith, h.bsize) in
    let ways : 1 ≤ spec.assoc = omega (arith, h.assoc, h.limits.some) in
    let unit : 1 * 1 ≤ spec.assoc * spec.bsize = mul-le-mul ways block in
    let all : 1 * 1 * 1 ≤ spec.assoc * spec.bsize * 2 ^ g.s = mul-le-mul unit many in
    let some : 1 ≤ spec.size = omega (arith, all, h.size) in
    let product : spec.size ≡ sets * spec.bsize * spec.assoc =
    product_of size sets spec.bsize spec.assoc spec.size e some in
    let left : sets * (spec.assoc * spec.bsize) ≡ sets * spec.bsize * spec.assoc =
    ap (λ p. sets * p) (mul_comm spec.assoc spec.bsize) ∙
    sym (mul_assoc sets spec.bsize spec.assoc) in
    record {
      sets = cancelled sets (2 ^ g.s) (spec.assoc * spec.bsize) (omega arith)
          (left ∙ sym product ∙ h.size ∙ mul_comm (spec.assoc * spec.bsize) (2 ^ g.s));
      bsize = h.bsize;
      assoc = h.assoc;
      size = given_fits size sets spec.bsize spec.assoc spec.size e some;
      limits = h.limits;
    }

geometry_of_numbers : (spec : CacheSpec) (size : Option ℕ) (sets : ℕ) (g : GeometryValue)
    → size_asked size (Some sets) spec.bsize spec.assoc ≡ Some spec.size →
    IsGeometryWith size sets spec.bsize spec.assoc g → IsGeometryFor spec g
geometry_of_numbers spec size sets g e h =
    let rows : 2 ^ g.s ≤ 2 ^ 20 = pow-le-pow_right (omega arith) h.limits.sets in
    let bytes : 2 ^ g.b ≤ 2 ^ 20 = pow-le-pow_right (omega arith) h.limits.blocks in
    let row : sets * spec.bsize ≤ 2 ^ 20 * 2 ^ 20 = rw (h.sets, h.bsize) (mul-le-mul rows bytes) in
    let ways : spec.assoc ≤ 65536 = omega (arith, h.assoc, h.limits.ways) in
    let all : sets * spec.bsize * spec.assoc ≤ 2 ^ 20 * 2 ^ 20 * 65536 = mul-le-mul row ways in
    let product : spec.size ≡ sets * spec.bsize * spec.assoc =
    size_is size sets spec.bsize spec.assoc spec.size (omega arith) h.size e in
    let turned : sets * spec.bsize * spec.assoc ≡ spec.assoc * spec.bsize * sets =
    mul_assoc sets spec.bsize spec.assoc ∙ mul_comm sets (spec.bsize * spec.assoc) ∙
    ap (λ p. p * sets) (mul_comm spec.bsize spec.assoc) in
    record {
      bsize = h.bsize;
      assoc = h.assoc;
      size = product ∙ turned ∙ ap (λ p. spec.assoc * spec.bsize * p) h.sets;
      limits = h.limits;
    }

pub sets_law : SetsLaw
sets_law spec size sets g e = (
  (λ made. numbers_of spec size sets g e ((geometry_law spec g).0 made)),
  (λ numbers. (geometry_law spec g).1 (geometry_of_numbers spec size sets g e numbers)),
)
