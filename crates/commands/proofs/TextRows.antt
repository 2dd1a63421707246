-- Worked runs of `csim` and `din`: what they write, computed from the definitions.
use Rattle.std.proofs.Common.{◌≡◌, ℕ, true, false, List, ◌++◌, Option, Some, None, refl}
use Rattle.std.specs.Prelude.{codes}
use Rattle.std.specs.Fmt.{digits}
use Rattle.trace_core.specs.declared.fault.TraceFault.TheVariants as fault
use Rattle.trace_core.specs.declared.line.LineFault.TheVariants.{Address}
use Rattle.trace_core.specs.declared.line.Format.{Format}
use Rattle.trace_core.specs.declared.line.Format.TheVariants.{Din, Lackey}
use Rattle.trace_core.specs.Reading.{reading}
use Rattle.trace_core.specs.Task.{entries_in}
use Rattle.cache_core.specs.declared.design.Repl.{Repl}
use Rattle.cache_core.specs.declared.design.Repl.TheVariants.{Lru, Fifo}
use Rattle.cache_core.specs.declared.design.WriteMode.TheVariants.{Back}
use Rattle.cache_core.specs.declared.design.AllocMode.TheVariants.{Always}
use Rattle.cache_core.specs.declared.system.plan.PlannedCache.{PlannedCache}
use Rattle.cache_core.specs.system.Plans.{PlannedCaches}
use Rattle.cache_core.specs.Geometry.{geometry_value}
use Rattle.cache_core.specs.Windows.{window, occurrences_after, distinct, distinct_of_set, counts}
use Rattle.commands.specs.CsimText.{csim_text, csim_lines, lines_after, summary}
use Rattle.commands.specs.DinText.{din_text, din_task}

-- the handout's example
abbrev yi : List ℕ
yi = codes " L 10,1\n M 20,1\n L 22,1\n S 18,1\n L 110,1\n L 210,1\n M 12,1\n"

handout_example : csim_text (geometry_value 4 1 4) true yi
    ≡ codes "L 10,1 miss\nM 20,1 miss hit\nL 22,1 hit\nS 18,1 hit\n"
    ++ codes "L 110,1 miss eviction\nL 210,1 miss eviction\nM 12,1 miss eviction hit\n"
    ++ codes "hits:4 misses:5 evictions:3\n"
unfolding digits counts window occurrences_after distinct distinct_of_set lines_after
handout_example = refl

handout_summary : csim_text (geometry_value 4 1 4) false yi ≡ summary (record {
  hits = 4;
  misses =
      5;
  evictions = 3;
})
unfolding digits counts window occurrences_after distinct distinct_of_set
handout_summary = refl

abbrev bad_third : List ℕ
bad_third = codes " L 10,1\n M 20,1\n X 22,1"

lines_before_a_bad_line : csim_lines (geometry_value 4 1 4) true
    (entries_in (reading Lackey 9 bad_third)) ≡ codes "L 10,1 miss\nM 20,1 miss hit\n"
unfolding digits window occurrences_after distinct distinct_of_set lines_after
lines_before_a_bad_line = refl

greatest_address : csim_text (geometry_value 0 1 0) true (codes " L FFFFFFFFFFFFFFFF,008") ≡ codes
    "L ffffffffffffffff,8 miss\nhits:0 misses:1 evictions:0\n"
unfolding digits counts window occurrences_after distinct distinct_of_set lines_after
greatest_address = refl

longer_address_is_a_fault : (reading Lackey 9 (codes " L FFFFFFFFFFFFFFFFF,008")).fault ≡
    Some (fault.Line 1 Address)
longer_address_is_a_fault = refl

zero_is_one_digit : csim_text (geometry_value 0 1 0) true (codes " S 0,0\n") ≡ codes
    "S 0,0 miss\nhits:0 misses:1 evictions:0\n"
unfolding digits counts window occurrences_after distinct distinct_of_set lines_after
zero_is_one_digit = refl

-- a log of Valgrind's tool lackey, with its messages
abbrev valgrind : List ℕ
valgrind =
    codes "==1234== Lackey, an example Valgrind tool\nI  0023C790,2\n S BE80199C,4\n\n"
    ++ codes "--1234-- note\n M 0025747C,1\n*end\n"

lackey_log : csim_text (geometry_value 0 1 4) true valgrind ≡ codes
    "S be80199c,4 miss\nM 25747c,1 miss eviction hit\nhits:1 misses:2 evictions:1\n"
unfolding digits counts window occurrences_after distinct distinct_of_set lines_after
lackey_log = refl

-- one set of so many lines of 16 bytes, write-back and write-allocate
abbrev level : ℕ → Repl → PlannedCache
level ways policy = record {
  design = record {
    geometry = geometry_value 0 ways 4;
    write =
        Back;
    allocate = Always;
  };
  policy = policy;
}

abbrev unified : PlannedCache → Option PlannedCache → PlannedCaches
unified u second = record { i = None; d = None; u = Some u; second = second }

abbrev one : PlannedCache
one = level 1 Lru

abbrev two : PlannedCache
two = level 2 Lru

written_block_is_copied_back : din_text (unified one None) 42 Din (codes "1 0\n0 10\n")
    ≡ codes "l1-u fetches=0 fetch-misses=0 reads=1 read-misses=1 "
    ++ codes "writes=1 write-misses=1 evictions=1 copybacks=1\n"
    ++ codes "memory reads=2 writes=1\nbypassed=0\n"
unfolding digits
written_block_is_copied_back = refl

second_level_hits : din_text (unified one (Some two)) 42 Din (codes "0 0\n0 10\n0 0\n")
    ≡ codes "l1-u fetches=0 fetch-misses=0 reads=3 read-misses=3 "
    ++ codes "writes=0 write-misses=0 evictions=2 copybacks=0\n"
    ++ codes "l2-u fetches=0 fetch-misses=0 reads=3 read-misses=2 "
    ++ codes "writes=0 write-misses=0 evictions=0 copybacks=0\n"
    ++ codes "memory reads=2 writes=0\nbypassed=0\n"
unfolding digits
second_level_hits = refl

split_first_level : din_text (record { i = Some one; d = Some one; u = None; second = None }) 42 Din
    (codes "2 0\n1 0\n2 4\n")
    ≡ codes "l1-i fetches=2 fetch-misses=1 reads=0 read-misses=0 "
    ++ codes "writes=0 write-misses=0 evictions=0 copybacks=0\n"
    ++ codes "l1-d fetches=0 fetch-misses=0 reads=0 read-misses=0 "
    ++ codes "writes=1 write-misses=1 evictions=0 copybacks=0\n"
    ++ codes "memory reads=2 writes=0\nbypassed=0\n"
unfolding digits
split_first_level = refl

-- six reads of three blocks
abbrev six : List ℕ
six = codes "0 10\n0 20\n0 30\n0 10\n0 20\n0 10\n"

oldest_block_leaves : din_text (unified (level 2 Fifo) None) 42 Din six
    ≡ codes "l1-u fetches=0 fetch-misses=0 reads=6 read-misses=5 "
    ++ codes "writes=0 write-misses=0 evictions=3 copybacks=0\n"
    ++ codes "memory reads=5 writes=0\nbypassed=0\n"
unfolding digits
oldest_block_leaves = refl

-- a report isn't written before the end of its trace, and at a fault nothing is
writes_late : (plan : PlannedCaches) (seed : ℕ) (format : Format) (limit : ℕ) →
    (din_task plan seed format limit).writes_early ≡ false
unfolding din_task
writes_late plan seed format limit = refl
