-- A cache with more lines in each set hits no less, and misses and evicts no more.
use Rattle.std.proofs.Common.{◌*◌, arith}
use Rattle.cache_core.specs.Geometry.{geometry_value}
use Rattle.cache_laws.proofs.MoreWays.{more-hits, fewer-misses, fewer-evictions}
use Rattle.cache_laws.proofs.more_ways_miss_no_more.Goals as goal

pub returns-clause-hits : goal.returns-clause-hits
returns-clause-hits c = more-hits

pub returns-clause-misses : goal.returns-clause-misses
returns-clause-misses c = fewer-misses

pub returns-clause-evictions : goal.returns-clause-evictions
returns-clause-evictions c = fewer-evictions

pub returns-clause-doubled : goal.returns-clause-doubled
returns-clause-doubled c e b events = fewer-misses (geometry_value 0 e b) (e * 2) events
    (omega arith)
