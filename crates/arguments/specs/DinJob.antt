-- The meaning of the arguments after `din` and `log`.
use Rattle.std.specs.Prelude.{◌≡◌, ◌↔◌, ◌^◌, ℕ, Bool, List, Option, Some, None, Result, Ok, codes}
use Rattle.std.specs.Prelude.{◌||◌, if◌then◌else◌, is_some, ok_or, option_and_then, option_map}
use Rattle.std.specs.Prelude.{unwrap_or, ◌*◌, ◌==◌, IfSome}
use Rattle.cache_core.specs.Powers.{is_power}
use Rattle.std.specs.Result.{result_map_both}
use Rattle.std.specs.Str.{bytes_eq}
use Rattle.clap.specs.Words.{Row, Text}
use Rattle.cache_core.specs.Geometry.{GeometryValue, IsGeometry}
use Rattle.cache_core.specs.system.Plans.{PlannedCaches, geometry_for, plan_of}
use Rattle.trace_core.specs.declared.line.Format.{Format}
use Rattle.trace_core.specs.declared.line.Format.TheVariants.{Din as DinFormat}
use Rattle.cache_core.specs.declared.design.AllocMode.{AllocMode}
use Rattle.cache_core.specs.declared.design.AllocMode.TheVariants.{Always, Never}
use Rattle.cache_core.specs.declared.system.plan.CacheName.{CacheName}
use Rattle.cache_core.specs.declared.system.plan.CacheName.TheVariants.{L1I, L1D, L1U, L2U}
use Rattle.cache_core.specs.declared.system.plan.CacheSpec.{CacheSpec}
use Rattle.cache_core.specs.declared.design.Repl.{Repl}
use Rattle.cache_core.specs.declared.design.Repl.TheVariants.{Lru, Fifo, Random}
use Rattle.cache_core.specs.declared.design.WriteMode.{WriteMode}
use Rattle.cache_core.specs.declared.design.WriteMode.TheVariants.{Back, Through}
use Rattle.arguments.specs.Faults.{JobFault, incomplete, plan}
use Rattle.arguments.specs.Job.{longest_trace}
use Rattle.arguments.specs.Numbers.{number_of, scaled_of, within_u64}
use Rattle.options.specs.Options.{assoc_option_of, bsize_option_of, informat_option, repl_option_of}
use Rattle.options.specs.Options.{seed_option, sets_option_of, size_option_of, walloc_option_of}
use Rattle.options.specs.Options.{wback_option_of}
use Rattle.arguments.specs.Readings.{and_then, format_named, optional_value, value_or}
use Rattle.arguments.specs.declared.din_job.CacheReading.{CacheReading}
use Rattle.arguments.specs.declared.din_job.CacheReadings.{CacheReadings}
use Rattle.arguments.specs.declared.job.Job.{Job}
use Rattle.arguments.specs.declared.job.Job.TheVariants.{Din, Log}

-- a value of kind P: a scaled number that is a power of two
abbrev pub power_of : Text → Option ℕ
power_of text = option_and_then (λ n. if is_power n then Some n else None) (scaled_of text)

-- Dinero IV's letters: l LRU, f FIFO, r random
abbrev pub repl_named : Text → Option Repl
repl_named text = if bytes_eq text (codes "l") then Some Lru
    else (if bytes_eq text (codes "f") then Some Fifo
    else (if bytes_eq text (codes "r") then Some Random else None))

-- Dinero IV's letters: a always, n never
abbrev pub walloc_named : Text → Option AllocMode
walloc_named text = if bytes_eq text (codes "a") then Some Always
    else (if bytes_eq text (codes "n") then Some Never else None)

-- Dinero IV's letters: a write-back, n write-through
abbrev pub wback_named : Text → Option WriteMode
wback_named text = if bytes_eq text (codes "a") then Some Back
    else (if bytes_eq text (codes "n") then Some Through else None)

-- the seven options of a cache, in the table's order
abbrev pub reading_of : CacheName → List Row → Result CacheReading JobFault
reading_of cache rows =
    and_then (optional_value (size_option_of cache).id power_of rows) (λ size.
    and_then (optional_value (sets_option_of cache).id power_of rows) (λ sets.
    and_then (optional_value (bsize_option_of cache).id power_of rows) (λ bsize.
    and_then (optional_value (assoc_option_of cache).id number_of rows) (λ assoc.
    and_then (optional_value (repl_option_of cache).id repl_named rows) (λ repl.
    and_then (optional_value (walloc_option_of cache).id walloc_named rows) (λ walloc.
    and_then (optional_value (wback_option_of cache).id wback_named rows) (λ wback.
    Ok (record {
      size = size;
      sets = sets;
      bsize = bsize;
      assoc = assoc;
      repl = repl;
      walloc = walloc;
      wback = wback;
    }))))))))

-- one of the seven was given
abbrev pub is_given : CacheReading → Bool
is_given r = is_some r.size ||
    (is_some r.sets || (is_some r.bsize || (is_some r.assoc || (is_some r.repl
    || (is_some r.walloc || is_some r.wback)))))

-- a size that no cache has: it stands for numbers that give no size
abbrev pub no_size : ℕ
no_size = 0

-- the size of so many sets, blocks of this size and lines per set; none from 2^64 on
abbrev pub size_of_sets : ℕ → ℕ → ℕ → ℕ
size_of_sets sets bsize assoc = unwrap_or (within_u64 (sets * bsize * assoc)) no_size

-- The size that was given, or that of the sets. Where both are given and differ, it is one that no
-- cache has. Sets are this project's.
abbrev pub size_asked : Option ℕ → Option ℕ → ℕ → ℕ → Option ℕ
size_asked size None bsize assoc = size
size_asked None (Some sets) bsize assoc = Some (size_of_sets sets bsize assoc)
size_asked (Some size) (Some sets) bsize assoc =
    Some (if size == size_of_sets sets bsize assoc then size else no_size)

-- the cache with its defaults; none without a block size, and none without both a size and sets
abbrev pub spec_asked : CacheReading → Option CacheSpec
spec_asked r = option_and_then (λ bsize. option_map (λ size. record {
  size = size;
  bsize = bsize;
  assoc = unwrap_or r.assoc 1;
  repl = unwrap_or r.repl Lru;
  wback = unwrap_or r.wback Back;
  walloc = unwrap_or r.walloc Always;
}) (size_asked r.size r.sets bsize (unwrap_or r.assoc 1))) r.bsize

-- A cache is there exactly if one of its options was given. It then needs a block size, and a size
-- or sets.
abbrev pub cache_of : CacheName → CacheReading → Result (Option CacheSpec) JobFault
cache_of cache r = if is_given r
    then and_then (ok_or (spec_asked r) (incomplete cache)) (λ spec. Ok (Some spec))
    else Ok None

-- The plan of the values given for the four caches, or the first fault: caches that lack size or
-- bsize, then the plan's.
abbrev pub plan_given : CacheReadings → Result PlannedCaches JobFault
plan_given caches =
    and_then (cache_of L1I caches.i) (λ i.
    and_then (cache_of L1D caches.d) (λ d.
    and_then (cache_of L1U caches.u) (λ u.
    and_then (cache_of L2U caches.second) (λ second.
    result_map_both (λ p. p) plan (plan_of (record { i = i; d = d; u = u }) second)))))

-- the values given for the first-level instruction, data and unified cache, and the second level's
abbrev pub caches_given : List Row → Result CacheReadings JobFault
caches_given rows =
    and_then (reading_of L1I rows) (λ i.
    and_then (reading_of L1D rows) (λ d.
    and_then (reading_of L1U rows) (λ u.
    and_then (reading_of L2U rows) (λ second.
    Ok (record { i = i; d = d; u = u; second = second })))))

-- The caches, the seed and the format that these entries name, or the first fault: bad values in
-- the table's order, then the caches' and the plan's. The default format and the default seed are
-- this project's.
abbrev pub options_given : List Row → Result (PlannedCaches × ℕ × Format) JobFault
options_given rows =
    and_then (caches_given rows) (λ caches.
    and_then (value_or DinFormat informat_option.id format_named rows) (λ format.
    and_then (value_or 42 seed_option.id number_of rows) (λ seed.
    and_then (plan_given caches) (λ p. Ok (p, seed, format)))))

-- the job of `din`, or the first fault
abbrev pub din_of : List Row → Result Job JobFault
din_of rows = and_then (options_given rows) (λ o. Ok (Din o.0 o.1 o.2 longest_trace))

-- the job of `log`, or the first fault
abbrev pub log_of : List Row → Result Job JobFault
log_of rows = and_then (options_given rows) (λ o. Ok (Log o.0 o.1 o.2 longest_trace))

-- the geometry with this number of sets, bytes in a block and ways, and with the size that was
-- given beside them, if one was
pub record IsGeometryWith (given : Option ℕ) (number bytes ways : ℕ)
    (g : GeometryValue) : Type 0 where
  pub sets : number ≡ 2 ^ g.s
  pub bsize : bytes ≡ 2 ^ g.b
  pub assoc : ways ≡ g.e
  pub size : IfSome given (λ size. size ≡ number * bytes * ways)
  pub limits : IsGeometry g

-- a cache that is asked for by its sets has the geometry of exactly these, if one is within the
-- limits and fits the size beside them
abbrev pub SetsLaw : Type 0
SetsLaw = (spec : CacheSpec) (size : Option ℕ) (sets : ℕ) (g : GeometryValue)
    → size_asked size (Some sets) spec.bsize spec.assoc ≡ Some spec.size
    → (geometry_for spec ≡ Some g) ↔ IsGeometryWith size sets spec.bsize spec.assoc g
