-- The numbers of a geometry fit.
use Rattle.std.proofs.Common.{◌≡◌, ℕ, ◌+◌, ◌*◌, ◌^◌, ◌%◌, arith, pow-add}
use Rattle.std.proofs.Math.Pow.{pow_mono}
use Rattle.cache_core.specs.Geometry.{IsGeometry, geometry_value}

pub size_fits : (s e b : ℕ) → IsGeometry (geometry_value s e b) →
    e * 2 ^ (s + b) % 18446744073709551616 ≡ e * 2 ^ (s + b)
size_fits s e b g = grind (arith, pow_mono g.blocks, pow-add 2 s b)
