-- The size in bytes fits.
use Rattle.std.proofs.Common.{refl}
use Rattle.cache_core.proofs.Bounds.{size_fits}
use Rattle.cache_core.proofs.geometry.Geometry.size.Goals as goal

pub returns : goal.returns
returns c =
    let i = c.self.inside in
    rw (size_fits i.s i.e i.b c.self.invariant.0, ← c.self.view_is) refl
