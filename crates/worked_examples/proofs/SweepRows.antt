-- Worked rows of sweeps, computed from the definitions.
use Rattle.std.specs.Prelude.{ℕ, ◌≡◌, Bool, true, false, List, [], ◌∷◌, ◌++◌, refl, map, Some, None}
use Rattle.std.specs.Prelude.{Result, Ok, Err, codes}
use lib.Count.{count_trailing_zeros}
use Rattle.std.specs.Fmt.{digits}
use Rattle.trace_core.specs.Reading.{events}
use Rattle.trace_core.specs.declared.events.Kind.{Kind}
use Rattle.trace_core.specs.declared.events.Kind.TheVariants.{All, DataOnly, FetchOnly}
use Rattle.trace_core.specs.declared.line.Format.TheVariants.{Din, Lackey}
use Rattle.trace_core.specs.declared.events.Event.{Event}
use Rattle.cache_core.specs.declared.outcome.Counts.{Counts}
use Rattle.cache_core.specs.Geometry.{geometry_value}
use Rattle.cache_core.specs.Windows.{window, counts, probes, occurrences_after, distinct}
use Rattle.cache_core.specs.Windows.{distinct_of_set}
use Rattle.sweep_core.specs.declared.space.Config.{Config}
use Rattle.sweep_core.specs.declared.request.Request.{Request}
use Rattle.sweep_core.specs.declared.space.SpaceFault.{SpaceFault}
use Rattle.sweep_core.specs.declared.space.Which.{Which}
use Rattle.sweep_core.specs.declared.space.Which.TheVariants.{Bsize, Sets, Assoc, Size}
use Rattle.sweep_core.specs.declared.space.Cause.{Cause}
use Rattle.sweep_core.specs.declared.space.Cause.TheVariants.{NotPower, Limit, Reversed}
use Rattle.sweep_core.specs.Space.{Ranges, ranges, space_of, config}
use Rattle.cache_core.specs.Powers.{is_power}
use Rattle.sweep_core.specs.Table.{table, all_configs}
use Rattle.sweep_core.specs.SweepText.{sweep_text, sweep_task, row_counts, rows_text, configs_of}
use Rattle.sweep_core.specs.SweepText.{rows_of, config_geometry}
use Rattle.sweep_core.specs.Work.{sweep_work, work, pairs, depth}

-- a sweep of a din text from the first configuration on
abbrev sweep : Ranges → Request
sweep space = record {
  space = space;
  kind = All;
  format = Din;
  after = None;
  rows =
      None;
  max_lines = 1000;
}

abbrev after : Config → Request → Request
after c r = record r { after = Some c }

abbrev with_rows : ℕ → Request → Request
with_rows n r = record r { rows = Some n }

abbrev of_kind : Kind → Request → Request
of_kind kind r = record r { kind = kind }

-- block size, set count and depth of each profile that a sweep makes
abbrev profiles_of : Request → List (ℕ × ℕ × ℕ)
profiles_of r = map (λ p. (p.0, p.1, depth (configs_of r) p)) (pairs (rows_of r))

-- block size, set count, associativity, hits, misses and evictions of a row
abbrev row : List Event → Config → ℕ × ℕ × ℕ × ℕ × ℕ × ℕ
row es c = let n : Counts = row_counts es c in
    (c.bsize, c.sets, c.assoc, n.hits, n.misses, n.evictions)

-- those of the rows of a sweep of a text
abbrev rows : Request → List ℕ → List (ℕ × ℕ × ℕ × ℕ × ℕ × ℕ)
rows r text = map (row (events r.format r.kind text)) (rows_of r)

abbrev header : List ℕ
header = codes "bsize,sets,assoc,size,hits,misses,evictions\n"

abbrev nine : List ℕ
nine = codes "0 10\n0 20\n1 20\n0 22\n1 18\n0 110\n0 210\n0 12\n1 12\n"

-- one or two sets, one or two ways
abbrev small : Request
small = sweep (ranges (16, 16) (1, 2) (1, 2) (16, 64) false)

-- one set of up to four ways, and of powers of two alone
abbrev one_set : Bool → Request
one_set powers = sweep (ranges (16, 16) (1, 1) (1, 4) (0, 1024) powers)

-- a range of sizes
abbrev of_32_bytes : Request
of_32_bytes = sweep (ranges (16, 16) (1, 2) (1, 2) (32, 32) false)

-- a single configuration
abbrev one : ℕ → ℕ → ℕ → ℕ → Request
one b s e z = sweep (ranges (b, b) (s, s) (e, e) (z, z) false)

-- a lackey log
abbrev log : List ℕ
log =
    codes "==1234== Lackey, an example Valgrind tool\nI  0023C790,2\n S BE80199C,4\n\n"
    ++ codes "--1234-- note\n M 0025747C,1\n*end\n"

abbrev of_log : Kind → Request
of_log kind = record (one 16 1 1 16) { kind = kind; format = Lackey }

-- the texts of two tables: whole, and resumed after a row
texts :
    (sweep_text small nine ≡ header ++
    codes "16,1,1,16,3,6,5\n16,1,2,32,4,5,3\n16,2,1,32,4,5,3\n16,2,2,64,4,5,2\n")
    × (sweep_text (after (config 16 1 2) small) nine ≡ codes "16,2,1,32,4,5,3\n16,2,2,64,4,5,2\n")
unfolding sweep_text table all_configs is_power count_trailing_zeros rows_text counts
    occurrences_after window distinct distinct_of_set digits
texts = (refl, refl)

-- the comparisons of sweeps: whole, resumed, of one size, and of the first rows alone, which have
-- fewer pairs as deep as ever
works :
    (sweep_work small nine ≡ 21)
    × (sweep_work (one_set false) nine ≡ 14)
    × (sweep_work (after (config 16 1 2) small) nine ≡ 9)
    × (sweep_work of_32_bytes nine ≡ 19)
    × (sweep_work (with_rows 1 small) nine ≡ 12)
    × (sweep_work (with_rows 0 small) nine ≡ 0)
unfolding sweep_work table all_configs is_power count_trailing_zeros work pairs depth probes
    occurrences_after window distinct distinct_of_set
works = (refl, refl, refl, refl, refl, refl)

-- their profiles; where a sweep is resumed in the middle of a pair, the pair's is as deep as ever
profiles :
    (profiles_of small ≡ (16, 1, 2) ∷ (16, 2, 2) ∷ [])
    × (profiles_of (one_set true) ≡ (16, 1, 4) ∷ [])
    × (profiles_of (after (config 16 1 2) small) ≡ (16, 2, 2) ∷ [])
    × (profiles_of (after (config 16 1 1) small) ≡ (16, 1, 2) ∷ (16, 2, 2) ∷ [])
    × (profiles_of of_32_bytes ≡ (16, 1, 2) ∷ (16, 2, 1) ∷ [])
    × (profiles_of (with_rows 1 small) ≡ (16, 1, 2) ∷ [])
    × (profiles_of (with_rows 0 small) ≡ [])
unfolding table all_configs is_power count_trailing_zeros pairs depth
profiles = (refl, refl, refl, refl, refl, refl, refl)

-- one set of up to four ways, and of powers of two alone; a range of sizes, and one with no cache
ranges-rows :
    (rows (one_set false) nine ≡ (16, 1, 1, 3, 6, 5) ∷ (16, 1, 2, 4, 5, 3) ∷ (
      16,
      1,
      3,
      5,
      4,
      1,
    ) ∷ (16, 1, 4, 5, 4, 0) ∷ [])
    × (rows (one_set true) nine ≡ (16, 1, 1, 3, 6, 5) ∷ (16, 1, 2, 4, 5, 3) ∷ (
      16,
      1,
      4,
      5,
      4,
      0,
    ) ∷ [])
    × (rows of_32_bytes nine ≡ (16, 1, 2, 4, 5, 3) ∷ (16, 2, 1, 4, 5, 3) ∷ [])
    × (rows (sweep (ranges (16, 16) (1, 2) (1, 2) (65, 66) false)) nine ≡ [])
unfolding table all_configs is_power count_trailing_zeros counts occurrences_after window distinct
    distinct_of_set
ranges-rows = (refl, refl, refl, refl)

-- resumed after triples that are no configurations, and after the last row
resumed-rows :
    (rows (after (config 16 1 7) small) nine ≡ (16, 2, 1, 4, 5, 3) ∷ (16, 2, 2, 4, 5, 2) ∷ [])
    × (rows (after (config 16 2 2) small) nine ≡ [])
    × (rows (after (config 18446744073709551615 0 0) small) nine ≡ [])
unfolding table all_configs is_power count_trailing_zeros counts occurrences_after window distinct
    distinct_of_set
resumed-rows = (refl, refl, refl)

-- no row, and two pages
pages-rows :
    (rows (with_rows 0 small) nine ≡ [])
    × (rows (with_rows 2 small) nine ≡ (16, 1, 1, 3, 6, 5) ∷ (16, 1, 2, 4, 5, 3) ∷ [])
    × (rows (with_rows 9 (after (config 16 1 2) small)) nine ≡ (16, 2, 1, 4, 5, 3) ∷ (
      16,
      2,
      2,
      4,
      5,
      2,
    ) ∷ [])
unfolding table all_configs is_power count_trailing_zeros counts occurrences_after window distinct
    distinct_of_set
pages-rows = (refl, refl, refl)

-- a trace on which first-in first-out has more misses with more ways
twelve-rows : rows (sweep (ranges (16, 16) (1, 1) (3, 5) (0, 1024) false))
    (codes "0 10\n0 20\n0 30\n0 40\n0 10\n0 20\n0 50\n0 10\n0 20\n0 30\n0 40\n0 50\n") ≡ (
      16,
      1,
      3,
      2,
      10,
      7,
    ) ∷ (16, 1, 4, 4, 8, 4) ∷ (16, 1, 5, 7, 5, 0) ∷ []
unfolding table all_configs is_power count_trailing_zeros counts occurrences_after window distinct
    distinct_of_set
twelve-rows = refl

-- an empty trace; flushes between references, also of another kind
flushed-rows :
    (rows (one 1 1 1 1) [] ≡ (1, 1, 1, 0, 0, 0) ∷ [])
    × (rows (one 16 1 1 16) (codes "0 10\n4 0\n0 10\n3 0\n") ≡ (16, 1, 1, 0, 2, 0) ∷ [])
    × (rows (one 16 1 1 16) (codes "0 10\n4 0\n0 20\n") ≡ (16, 1, 1, 0, 2, 0) ∷ [])
    × (rows (of_kind FetchOnly (one 16 1 1 16)) (codes "2 10\n4 0\n2 10\n") ≡ (
      16,
      1,
      1,
      0,
      2,
      0,
    ) ∷ [])
unfolding table all_configs is_power count_trailing_zeros counts occurrences_after window distinct
    distinct_of_set
flushed-rows = (refl, refl, refl, refl)

-- each kind of a lackey log
log-rows :
    (rows (of_log All) log ≡ (16, 1, 1, 1, 3, 2) ∷ [])
    × (rows (of_log DataOnly) log ≡ (16, 1, 1, 1, 2, 1) ∷ [])
    × (rows (of_log FetchOnly) log ≡ (16, 1, 1, 0, 1, 0) ∷ [])
unfolding table all_configs is_power count_trailing_zeros counts occurrences_after window distinct
    distinct_of_set
log-rows = (refl, refl, refl)

-- at the limits
limits-rows :
    (rows (sweep (ranges (1, 1) (1048576, 1048576) (1, 2) (1, 4194304) false)) [] ≡ (
      1,
      1048576,
      1,
      0,
      0,
      0,
    ) ∷ (1, 1048576, 2, 0, 0, 0) ∷ [])
    × (rows (one 1 64 65536 4194304) [] ≡ (1, 64, 65536, 0, 0, 0) ∷ [])
    × (rows (one 1 128 65536 8388608) [] ≡ [])
    × (rows (one 1048576 64 65536 4398046511104) [] ≡ (1048576, 64, 65536, 0, 0, 0) ∷ [])
    × (rows (one 1 1 4097 4097) [] ≡ (1, 1, 4097, 0, 0, 0) ∷ [])
unfolding table all_configs is_power count_trailing_zeros counts occurrences_after window distinct
    distinct_of_set
limits-rows = (refl, refl, refl, refl, refl)

abbrev refused : Which → Cause → Result Ranges SpaceFault
refused which cause = Err (record { which = which; cause = cause })

-- which ranges are refused, and why
refusals :
    (space_of (24, 24) (1, 2) (1, 2) (16, 64) false ≡ refused Bsize NotPower)
    × (space_of (0, 0) (1, 2) (1, 2) (16, 64) false ≡ refused Bsize NotPower)
    × (space_of (2097152, 2097152) (1, 2) (1, 2) (16, 64) false ≡ refused Bsize Limit)
    × (space_of (16, 16) (4, 2) (1, 2) (16, 64) false ≡ refused Sets Reversed)
    × (space_of (16, 16) (1, 2) (0, 0) (16, 64) false ≡ refused Assoc Limit)
    × (space_of (1, 1) (1, 1) (65537, 65537) (65537, 65537) false ≡ refused Assoc Limit)
    × (space_of (16, 16) (1, 2) (1, 2) (64, 16) false ≡ refused Size Reversed)
    × (space_of (16, 16) (1, 2) (1, 2) (16, 64) false ≡ Ok
    (ranges (16, 16) (1, 2) (1, 2) (16, 64) false))
unfolding is_power
refusals = (refl, refl, refl, refl, refl, refl, refl, refl)

-- the geometry of a triple; none if a number is no power of two, or beyond the limits
geometries :
    (config_geometry (config 16 2 3) ≡ Some (geometry_value 1 3 4))
    × (config_geometry (config 24 2 3) ≡ None)
    × (config_geometry (config 16 3 3) ≡ None)
    × (config_geometry (config 0 2 3) ≡ None)
    × (config_geometry (config 16 2 0) ≡ None)
    × (config_geometry (config 2097152 2 3) ≡ None)
    × (config_geometry (config 1 128 65536) ≡ None)
unfolding is_power count_trailing_zeros
geometries = (refl, refl, refl, refl, refl, refl, refl)

-- a sweep doesn't write before the end of its trace, and at a fault nothing
writes_late : (r : Request) → (sweep_task r).writes_early ≡ false
unfolding sweep_task
writes_late r = refl
