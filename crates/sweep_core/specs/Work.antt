-- How many comparisons a sweep counts: those of profiles that each look for the block of each
-- reference. One look that decides for several profiles counts as one comparison in each of them.
use Rattle.std.specs.Prelude.{ℕ, ◌==◌, ◌&&◌, not, max, Bool, List, [], ◌∷◌, map, filter, fold}
use Rattle.std.specs.Prelude.{sum_by}
use Rattle.trace_core.specs.declared.events.Event.{Event}
use Rattle.trace_core.specs.Reading.{events}
use Rattle.cache_core.specs.Geometry.{GeometryValue, geometry_value}
use Rattle.cache_core.specs.Windows.{probes}
use Rattle.sweep_core.specs.declared.space.Config.{Config}
use Rattle.sweep_core.specs.declared.request.Request.{Request}
use Rattle.sweep_core.specs.SweepText.{configs_of, rows_of}
use Rattle.cache_core.specs.Powers.{log2}

-- the pair of block size and set count of a configuration
abbrev pub pair_of : Config → ℕ × ℕ
pair_of c = (c.bsize, c.sets)

-- whether a configuration has these block size and set count
abbrev pub has_pair : ℕ × ℕ → Config → Bool
has_pair p c = c.bsize == p.0 && c.sets == p.1

-- the pairs of block size and set count that some configurations have, each once
unfoldable pub pairs : List Config → List (ℕ × ℕ)
pairs [] = []
pairs (c ∷ cs) = pair_of c ∷ filter (λ p. not (has_pair p c)) (pairs cs)

-- the greatest associativity that some configurations of a pair have
unfoldable pub depth : List Config → ℕ × ℕ → ℕ
depth all p = fold max 0 (map (λ c. c.assoc) (filter (has_pair p) all))

-- the geometry of the deepest cache of a pair
abbrev pub geometry_of_pair : List Config → ℕ × ℕ → GeometryValue
geometry_of_pair all p = geometry_value (log2 p.1) (depth all p) (log2 p.0)

-- the comparisons of one profile for each pair of the rows, as deep as the greatest associativity
-- of that pair in all
unfoldable pub work : List Event → List Config → List Config → ℕ
work es all rows = sum_by (λ p. probes (geometry_of_pair all p) es) (pairs rows)

-- the comparisons that a sweep of a text counts
unfoldable pub sweep_work : Request → List ℕ → ℕ
sweep_work r text = work (events r.format r.kind text) (configs_of r) (rows_of r)

-- the depths of the pairs of some rows, summed up
abbrev pub total_depth : List Config → List Config → ℕ
total_depth all rows = sum_by (depth all) (pairs rows)
