-- The caches of a system: as they are asked for, and as they are planned.
use Rattle.std.specs.Prelude.{◌≡◌, ℕ, ◌*◌, ◌^◌, Bool, true, false, ◌||◌, ◌&&◌, ◌==◌, nat_lt}
use Rattle.std.specs.Prelude.{if◌then◌else◌, Option, Some, None, is_some, is_none, find, Result, Ok}
use Rattle.std.specs.Prelude.{Err, option_and_then, ◌↔◌, List, codes}
use Rattle.std.specs.List.{range_with_len}
use Rattle.std.specs.Option.{option_map}
use Rattle.cache_core.specs.declared.system.plan.PlannedCache.{PlannedCache}
use Rattle.cache_core.specs.declared.system.plan.CacheSpec.{CacheSpec}
use Rattle.cache_core.specs.declared.system.plan.FirstLevel.{FirstLevel}
use Rattle.cache_core.specs.declared.system.plan.CacheName.{CacheName}
use Rattle.cache_core.specs.declared.system.plan.CacheName.TheVariants.{L1I, L1D, L1U, L2U}
use Rattle.cache_core.specs.declared.system.plan.PlanFault.{PlanFault}
use Rattle.cache_core.specs.declared.system.plan.PlanFault.TheVariants.{NoFirst, MixedFirst}
use Rattle.cache_core.specs.declared.system.plan.PlanFault.TheVariants.{BadGeometry, SmallBlock}
use Rattle.cache_core.specs.Geometry.{GeometryValue, IsGeometry, geometry_of}

-- the name of a cache, as options and output write it
abbrev pub cache_name : CacheName → List ℕ
cache_name L1I = codes "l1-i"
cache_name L1D = codes "l1-d"
cache_name L1U = codes "l1-u"
cache_name L2U = codes "l2-u"

-- the caches of a plan
pub record PlannedCaches : Type 0 where
  pub i : Option PlannedCache
  pub d : Option PlannedCache
  pub u : Option PlannedCache
  pub second : Option PlannedCache

-- the least k up to 20 for which unit * 2^k is the number
unfoldable pub exponent_of : ℕ → ℕ → Option ℕ
exponent_of unit number = find (λ k. unit * 2 ^ k == number) (range_with_len 0 21)

-- the geometry of a cache that is asked for: its bsize is 2^b, and its size assoc times bsize times
-- 2^s
abbrev pub geometry_for : CacheSpec → Option GeometryValue
geometry_for spec = option_and_then
    (λ b. option_and_then (λ s. geometry_of s spec.assoc b)
    (exponent_of (spec.assoc * spec.bsize) spec.size))
    (exponent_of 1 spec.bsize)

-- a geometry is the one of a cache that is asked for
pub record IsGeometryFor (spec : CacheSpec) (g : GeometryValue) : Type 0 where
  pub bsize : spec.bsize ≡ 2 ^ g.b
  pub assoc : spec.assoc ≡ g.e
  pub size : spec.size ≡ spec.assoc * spec.bsize * 2 ^ g.s
  pub limits : IsGeometry g

-- a cache that is asked for, with this geometry
abbrev pub planned_with : CacheSpec → GeometryValue → PlannedCache
planned_with spec g = record {
  design = record {
    geometry = g;
    write = spec.wback;
    allocate =
        spec.walloc;
  };
  policy = spec.repl;
}

-- a cache that is asked for, with its own geometry; none if it has none
abbrev pub planned_cache : CacheSpec → Option PlannedCache
planned_cache spec = option_map (planned_with spec) (geometry_for spec)

-- no first-level cache is asked for
abbrev pub has_none : FirstLevel → Bool
has_none first = is_none first.i && is_none first.d && is_none first.u

-- a unified first-level cache is asked for beside another
abbrev pub is_mixed : FirstLevel → Bool
is_mixed first = is_some first.u && (is_some first.i || is_some first.d)

-- a cache is asked for that has no geometry
abbrev pub lacks_geometry : Option CacheSpec → Bool
lacks_geometry None = false
lacks_geometry (Some spec) = is_none (geometry_for spec)

-- the second-level cache has smaller blocks than a first-level one, if that is asked for
abbrev pub has_smaller_blocks_than : CacheSpec → Option CacheSpec → Bool
has_smaller_blocks_than second None = false
has_smaller_blocks_than second (Some spec) = nat_lt second.bsize spec.bsize

-- some first-level cache has larger blocks than the second-level one, if that is asked for
abbrev pub has_larger_blocks_than : FirstLevel → Option CacheSpec → Bool
has_larger_blocks_than first None = false
has_larger_blocks_than first (Some second) =
    has_smaller_blocks_than second first.i || has_smaller_blocks_than second first.d ||
    has_smaller_blocks_than second first.u

-- the first fault of a plan
abbrev pub plan_fault : FirstLevel → Option CacheSpec → Option PlanFault
plan_fault first second =
    if has_none first then Some NoFirst
    else if is_mixed first then Some MixedFirst
    else if lacks_geometry first.i then Some (BadGeometry L1I)
    else if lacks_geometry first.d then Some (BadGeometry L1D)
    else if lacks_geometry first.u then Some (BadGeometry L1U)
    else if lacks_geometry second then Some (BadGeometry L2U)
    else if has_larger_blocks_than first second then Some SmallBlock
    else None

-- the caches that are asked for and have a geometry
abbrev pub planned_caches : FirstLevel → Option CacheSpec → PlannedCaches
planned_caches first second = record {
  i = option_and_then planned_cache first.i;
  d = option_and_then planned_cache first.d;
  u = option_and_then planned_cache first.u;
  second = option_and_then planned_cache second;
}

-- the fault, if there is one, and otherwise the caches
abbrev pub caches_or_fault : Option PlanFault → PlannedCaches → Result PlannedCaches PlanFault
caches_or_fault None caches = Ok caches
caches_or_fault (Some fault) caches = Err fault

-- the plan that is asked for, or its first fault
abbrev pub plan_of : FirstLevel → Option CacheSpec → Result PlannedCaches PlanFault
plan_of first second = caches_or_fault (plan_fault first second) (planned_caches first second)

-- a cache that a plan may have is within the limits
abbrev pub IsPlannedCache : Option PlannedCache → Type 0
IsPlannedCache None = Unit {0}
IsPlannedCache (Some planned) = IsGeometry planned.design.geometry

-- the limits of a plan: some first level, none beside a unified one, each cache within its limits
pub record IsPlan (plan : PlannedCaches) : Type 0 where
  pub i : IsPlannedCache plan.i
  pub d : IsPlannedCache plan.d
  pub u : IsPlannedCache plan.u
  pub second : IsPlannedCache plan.second
  pub some : (is_some plan.i || (is_some plan.d || is_some plan.u)) ≡ true
  pub apart : (is_some plan.u && (is_some plan.i || is_some plan.d)) ≡ false

-- the geometry is the one that the relation gives
abbrev pub GeometryLaw : Type 0
GeometryLaw = (spec : CacheSpec) (g : GeometryValue) →
    (geometry_for spec ≡ Some g) ↔ IsGeometryFor spec g
