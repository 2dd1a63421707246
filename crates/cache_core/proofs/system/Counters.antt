-- What one reference adds to the counts of a system.
use Rattle.std.proofs.Common.{◌≡◌, ℕ, ◌+◌, ◌*◌, ◌≤◌, Bool, true, false, get_or, List, [], ◌∷◌, ◌++◌}
use Rattle.std.proofs.Common.{length, Option, Some, None, arith, ap}
use Rattle.std.specs.Prelude.{MatchBool, is_some, is_none}
use Rattle.trace_core.specs.declared.events.Ref.{Ref}
use Rattle.trace_core.specs.Events.{is_fetch, one_if}
use Rattle.cache_core.specs.declared.outcome.Outcome.{Outcome}
use Rattle.cache_core.specs.declared.design.Design.{Design}
use Rattle.cache_core.specs.declared.outcome.Slot.{Slot}
use Rattle.cache_core.specs.declared.design.Repl.{Repl}
use Rattle.cache_core.specs.declared.system.system_cache.SystemCache.{SystemCache}
use Rattle.cache_core.specs.declared.system.below.Memory.{Memory}
use Rattle.cache_core.specs.Geometry.{block_of}
use Rattle.cache_core.specs.cache.Order.{Visits, VisitsAt, Fills, PassesOn, position_of}
use Rattle.cache_core.specs.cache.Outcomes.{is_allocated, on_hit, on_placing, on_passing}
use Rattle.cache_core.specs.cache.Outcomes.{two_options}
use Rattle.cache_core.specs.internal.system.CacheSteps.{Enters}
use Rattle.cache_core.specs.internal.system.SystemSteps.{AccessesFirst, AllDescend, AccessesUnified}
use Rattle.cache_core.specs.internal.system.SystemSteps.{AccessesSplit, AccessesFirstLevel}
use Rattle.cache_core.specs.internal.system.SystemSteps.{present_refs, memory_after_all}
use Rattle.cache_core.specs.internal.system.SystemSteps.{copybacks_of, accesses_of, memory_accesses}

-- one reference at a cache, if it is there
pub record Grows (more : ℕ) (old new : Option SystemCache) : Type 0 where
  pub counts : accesses_of new ≤ accesses_of old + more
  pub copies : copybacks_of old ≤ copybacks_of new

first_grows : (old : Option SystemCache) (ref : Ref) (down : Option (List (Option Ref)))
    (new : Option SystemCache) → AccessesFirst old ref down new →
    Grows (one_if (is_some down)) old new
first_grows old ref down new a = grind arith

-- a visit sends down at most two references, in two places
visit_sends : (d : Design) (policy : Option Repl) (numbers rest : ℕ → ℕ) (ref : Ref)
    (old : List Slot) (o : Outcome) (new : List Slot) →
    Visits d policy numbers ref old o new rest → (xs : List Ref) × (o.down ≡ two_options xs)
visit_sends d policy numbers rest ref old o new v =
    by_place (position_of (block_of d.geometry ref.addr) old) v
  where
    by_miss : (b : Bool) → MatchBool b (Fills d policy numbers ref old o new rest)
        (PassesOn numbers ref old o new rest) →
        (xs : List Ref) × (o.down ≡ two_options xs)
    by_miss true m = (
      (on_placing d.geometry d.write ref (block_of d.geometry ref.addr) o.evicted).down,
      ap (λ (x : Outcome). x.down) m.effect,
    )
    by_miss false m = ((on_passing ref).down, ap (λ (x : Outcome). x.down) m.effect)

    by_place : (at : Option ℕ) → VisitsAt at d policy numbers ref old o new rest → (xs : List Ref) ×
        (o.down ≡ two_options xs)
    by_place None m = by_miss (is_allocated d.allocate ref.access) m
    by_place (Some at) h = ((on_hit d.write ref).down, ap (λ (x : Outcome). x.down) h.effect)

sends : (old : SystemCache) (ref : Ref) (o : Outcome) (new : SystemCache) → Enters old ref o new →
    (xs : List Ref) × (o.down ≡ two_options xs)
sends old ref o new e = grind (arith, visit_sends)

-- how many references are sent down from the first level, none where no cache took the reference
abbrev pub sent_down : Option (List (Option Ref)) → ℕ
sent_down None = 0
sent_down (Some down) = length (present_refs down)

first_sends : (old : Option SystemCache) (ref : Ref) (down : Option (List (Option Ref)))
    (new : Option SystemCache) → AccessesFirst old ref down new →
    sent_down down ≤ 2
first_sends old ref down new a = grind arith

-- one reference at the first level
pub record FirstGrows (down : Option (List (Option Ref)))
    (i d u i' d' u' : Option SystemCache) : Type 0 where
  pub counts : accesses_of i' + accesses_of d' + accesses_of u' + one_if
      (is_none down) ≤ accesses_of i + accesses_of d + accesses_of u + 1
  pub copies : copybacks_of i + copybacks_of d + copybacks_of u ≤ copybacks_of i' + copybacks_of
      d' + copybacks_of u'
  pub sends : sent_down down ≤ 2

one_way : (down : Option (List (Option Ref))) → one_if (is_some down) + one_if (is_none down) ≡ 1
one_way down = grind arith

pub first_level_grows : (i d u : Option SystemCache) (ref : Ref) (down : Option (List (Option Ref)))
    (i' d' u' : Option SystemCache) →
    AccessesFirstLevel i d u ref down i' d' u' → FirstGrows down i d u i' d' u'
first_level_grows i d u ref down i' d' u' f = by_unified (is_some u) f
  where
    by_fetch : (b : Bool) → AccessesSplit b i d u ref down i' d' u' → FirstGrows down i d u i' d' u'
    by_fetch true g =
        rw (g.1, g.2)
        (grind (arith, first_grows i ref down i' g.0, first_sends i ref down i' g.0, one_way down))
    by_fetch false g =
        rw (g.1, g.2)
        (grind (arith, first_grows d ref down d' g.0, first_sends d ref down d' g.0, one_way down))

    by_unified : (b : Bool) → MatchBool b (AccessesUnified i d u ref down i' d' u')
        (AccessesSplit (is_fetch ref.access) i d u ref down i' d' u') →
        FirstGrows down i d u i' d' u'
    by_unified true g =
        rw (g.1, g.2)
        (grind (arith, first_grows u ref down u' g.0, first_sends u ref down u' g.0, one_way down))
    by_unified false g = by_fetch (is_fetch ref.access) g

-- so many references arrive below
pub record LowerGrows (n : ℕ) (second : Option SystemCache) (memory : Memory)
    (next : Option SystemCache) (after : Memory) : Type 0 where
  pub cache : Grows n second next
  pub memory_counts : memory_accesses after ≤ memory_accesses memory + 2 * n

pub all_grow : (refs : List Ref) (second : Option SystemCache) (memory : Memory)
    (next : Option SystemCache) (after : Memory) →
    AllDescend refs second memory next after → LowerGrows (length refs) second memory next after
all_grow [] second memory next after d =
    rw (d.0, d.1) record {
      cache = record {
        counts = omega arith;
        copies =
            omega arith;
      };
      memory_counts = omega arith;
    }
all_grow (ref ∷ refs) second memory next after (mid, half, d, r) =
    grind (arith, all_grow refs mid half next after r)

-- what a cache sends down reaches memory one place after the other
two_reach : (memory : Memory) (xs : List Ref) →
    memory_after_all (memory_after_all memory (present_refs (get_or (two_options xs) 0 None ∷ [])))
    (present_refs (get_or (two_options xs) 1 None ∷ []))
    ≡ memory_after_all memory (present_refs (two_options xs))
two_reach memory xs = grind arith

-- and stands there in order
two_sent : (xs : List Ref) →
    present_refs (get_or (two_options xs) 0 None ∷ []) ++
    present_refs (get_or (two_options xs) 1 None ∷ []) ≡ present_refs (two_options xs)
two_sent xs = grind arith

pub sent_two : (old : SystemCache) (ref : Ref) (o : Outcome) (new : SystemCache) →
    Enters old ref o new →
    present_refs (get_or o.down 0 None ∷ []) ++
    present_refs (get_or o.down 1 None ∷ []) ≡ present_refs o.down
sent_two old ref o new e = let (xs, is) = sends old ref o new e in rw is (two_sent xs)

pub sent_reach : (memory : Memory) (old : SystemCache) (ref : Ref) (o : Outcome)
    (new : SystemCache) → Enters old ref o new →
    memory_after_all (memory_after_all memory (present_refs (get_or o.down 0 None ∷ [])))
    (present_refs (get_or o.down 1 None ∷ [])) ≡ memory_after_all memory (present_refs o.down)
sent_reach memory old ref o new e = let (xs, is) = sends old ref o new e in
    rw is (two_reach memory xs)
