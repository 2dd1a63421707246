-- The numbers of a geometry are one.
use Rattle.std.proofs.Common.{◌≡◌, Bool, true, false, cond, Some, None}
use Rattle.profile_core.proofs.profile.known_geometry.Goals as goal

some_of : {A : Type 0} (b : Bool) (x y : A) → Some x ≡ cond b (Some y) None → x ≡ y
some_of true x y is = cc
some_of false x y is = absurd (cc)

pub returns : goal.returns
returns c = some_of _ c.in-Some.geometry _ c.in-Some.ensures
