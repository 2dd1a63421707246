-- Worked plans, computed.
use Rattle.std.proofs.Common.{ℕ, ◌≡◌, ◌^◌, refl, Some, None}
use Rattle.std.specs.Prelude.{Err, Ok}
use Rattle.cache_core.specs.declared.design.WriteMode.TheVariants.{Back}
use Rattle.cache_core.specs.declared.design.AllocMode.TheVariants.{Always}
use Rattle.cache_core.specs.declared.design.Repl.TheVariants.{Lru}
use Rattle.cache_core.specs.declared.system.plan.CacheSpec.{CacheSpec}
use Rattle.cache_core.specs.declared.system.plan.PlannedCache.{PlannedCache}
use Rattle.cache_core.specs.declared.system.plan.FirstLevel.{FirstLevel}
use Rattle.cache_core.specs.declared.system.plan.CacheName.TheVariants.{L1D, L1U, L2U}
use Rattle.cache_core.specs.declared.system.plan.PlanFault.TheVariants.{NoFirst, MixedFirst}
use Rattle.cache_core.specs.declared.system.plan.PlanFault.TheVariants.{BadGeometry, SmallBlock}
use Rattle.cache_core.specs.Geometry.{geometry_value}
use Rattle.cache_core.specs.system.Plans.{plan_of, geometry_for, exponent_of}

-- a cache of this size, block size and associativity
abbrev spec : ℕ → ℕ → ℕ → CacheSpec
spec size bsize assoc = record {
  size = size;
  bsize = bsize;
  assoc = assoc;
  repl = Lru;
  wback =
      Back;
  walloc = Always;
}

abbrev planned : ℕ → ℕ → ℕ → PlannedCache
planned s e b = record {
  design = record {
    geometry = geometry_value s e b;
    write = Back;
    allocate =
        Always;
  };
  policy = Lru;
}

abbrev unified : CacheSpec → FirstLevel
unified u = record { i = None; d = None; u = Some u }

no_first_level : plan_of (record { i = None; d = None; u = None })
    (Some (spec 16 16 1)) ≡ Err NoFirst
no_first_level = refl

unified_beside_fetches : plan_of (record {
  i = Some (spec 3 3 3);
  d = None;
  u =
      Some (spec 16 16 1);
}) None ≡ Err MixedFirst
unified_beside_fetches = refl

block_above_the_size : plan_of (unified (spec 16 32 1)) None ≡ Err (BadGeometry L1U)
unfolding exponent_of
block_above_the_size = refl

first_bad_cache_is_named : plan_of (record {
  i = Some (spec 16 16 1);
  d = Some (spec 48 16 1);
  u =
      None;
}) (Some (spec 0 0 0)) ≡ Err (BadGeometry L1D)
unfolding exponent_of
first_bad_cache_is_named = refl

second_level_without_ways : plan_of (unified (spec 32 32 1)) (Some (spec 16 16 0)) ≡ Err
    (BadGeometry L2U)
unfolding exponent_of
second_level_without_ways = refl

smaller_blocks_below : plan_of (unified (spec 32 32 1)) (Some (spec 32 16 1)) ≡ Err SmallBlock
unfolding exponent_of
smaller_blocks_below = refl

equal_blocks_below : plan_of (unified (spec 32 32 1)) (Some (spec 64 32 1))
    ≡ Ok (record { i = None; d = None; u = Some (planned 0 1 5); second = Some (planned 1 1 5) })
unfolding exponent_of
equal_blocks_below = refl

three_ways : geometry_for (spec 96 16 3) ≡ Some (geometry_value 1 3 4)
unfolding exponent_of
three_ways = refl

most_lines : geometry_for (spec (2 ^ 42) (2 ^ 20) 65536) ≡ Some (geometry_value 6 65536 20)
unfolding exponent_of
most_lines = refl

too_many_lines : geometry_for (spec (2 ^ 43) (2 ^ 20) 65536) ≡ None
unfolding exponent_of
too_many_lines = refl
