-- A cache that the plan has is new.
use Rattle.std.proofs.Common.{refl}
use Rattle.cache_core.proofs.system.new_cache.Goals as goal

pub returns-in_ok-new-in-Some : goal.returns-in_ok-new-in-Some
returns-in_ok-new-in-Some c = rw c.in-Some.is (
  c.in_ok-new-in-Some.field-0,
  refl,
  c.in_ok-new-in-Some.ensures,
)
