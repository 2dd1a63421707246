-- One access to a cache whose blocks are found by an index, as its set sees it, and as all sets do.
use Rattle.std.proofs.Common.{◌≡◌, ℕ, ◌<◌, true, false, List, [], length, set}
use Rattle.std.proofs.Common.{get_or}
use Rattle.std.proofs.Common.{refl, sym, ◌∙◌, ap, subst, Option, Some, None, length-set}
use Rattle.std.specs.Prelude.{MatchBool}
use Rattle.std.proofs.lemmas.List.{get_or-set_other, get_or-set_same}
use Rattle.trace_core.specs.declared.events.Ref.{Ref}
use Rattle.trace_core.specs.Events.{is_write, one_if}
use Rattle.cache_core.specs.declared.outcome.Slot.{Slot}
use Rattle.cache_core.specs.declared.outcome.Outcome.{Outcome}
use Rattle.cache_core.specs.declared.design.Design.{Design}
use Rattle.cache_core.specs.declared.design.Repl.{Repl}
use Rattle.cache_core.specs.Geometry.{block_of, set_of}
use Rattle.cache_core.specs.cache.Outcomes.{is_allocated, is_dirtied, outcome_of, on_hit}
use Rattle.cache_core.specs.cache.Outcomes.{on_passing, on_placing}
use Rattle.cache_core.specs.cache.Order.{Accesses, Contents, Visits, VisitsAt, Fills, PassesOn}
use Rattle.cache_core.specs.cache.Order.{Touches, TakesIn, position_of, with_dirty_at}
use Rattle.cache_core.specs.cache.Order.{random_numbers_after, is_dirty, DirtiesByWrites}
use Rattle.cache_core.proofs.cache.DirtyLaw.{visit_dirty, sets_dirty}

-- the contents of a cache
abbrev pub contents : Design → Option Repl → (ℕ → ℕ) → List (List Slot) → Contents
contents d policy numbers sets = record {
  design = d;
  policy = policy;
  random_numbers =
      numbers;
  sets = sets;
}

module _ (d : Design) (policy : Option Repl) (numbers rest : ℕ → ℕ) (ref : Ref)
    (outcome : Outcome) where
  -- from what its set sees to all sets
  module _ (later : Option Repl) (kept : later ≡ policy) (sets after : List (List Slot))
      (new : List Slot) (within : set_of d.geometry ref.addr < length sets)
      (is : after ≡ set sets (set_of d.geometry ref.addr) new)
      (visit : Visits d policy numbers ref (get_or sets (set_of d.geometry ref.addr) []) outcome new
      rest) where
    pub set_accesses : Accesses (contents d policy numbers sets) ref outcome
        (contents d later rest after)
    set_accesses = record {
      visit = subst (λ ys. Visits d policy numbers ref
          (get_or sets (set_of d.geometry ref.addr) []) outcome ys rest)
          (sym (ap (λ zs. get_or zs (set_of d.geometry ref.addr) []) is
          ∙ get_or-set_same sets (set_of d.geometry ref.addr) new [] within)) visit;
      others = λ j ne. ap (λ zs. get_or zs j []) is
          ∙ get_or-set_other sets (set_of d.geometry ref.addr) j new [] ne;
      count = ap length is ∙ length-set sets (set_of d.geometry ref.addr) new;
      design = refl;
      policy = kept;
    }

    pub set_dirties : 0 < d.geometry.e → DirtiesByWrites sets ref outcome after
    set_dirties some = subst (λ zs. DirtiesByWrites sets ref outcome zs) (sym is)
        (sets_dirty sets (set_of d.geometry ref.addr) new (one_if (is_write ref.access))
        (one_if (is_dirty outcome.evicted)) within
        (visit_dirty d policy numbers rest ref (get_or sets (set_of d.geometry ref.addr) []) outcome
        new some visit))

  module _ (old new : List Slot) where
    -- a hit
    pub visits_hit : (at : ℕ) → position_of (block_of d.geometry ref.addr) old ≡ Some at →
        Touches policy (with_dirty_at (is_dirtied d.write ref.access) old at) at new →
        rest ≡ numbers → outcome ≡ outcome_of (on_hit d.write ref) →
        Visits d policy numbers ref old outcome new rest
    visits_hit at found order undrawn effect =
        subst (λ o. VisitsAt o d policy numbers ref old outcome new rest) (sym found)
        record { order = order; undrawn = undrawn; effect = effect }

    -- a reference that is passed on
    pub visits_passed : position_of (block_of d.geometry ref.addr) old ≡ None →
        is_allocated d.allocate ref.access ≡ false → new ≡ old → rest ≡ numbers →
        outcome ≡ outcome_of (on_passing ref) → Visits d policy numbers ref old outcome new rest
    visits_passed none not_allocated order undrawn effect =
        subst (λ o. VisitsAt o d policy numbers ref old outcome new rest) (sym none)
        (subst (λ b. MatchBool b (Fills d policy numbers ref old outcome new rest)
        (PassesOn numbers ref old outcome new rest)) (sym not_allocated)
        record { order = order; undrawn = undrawn; effect = effect })

    -- a block that is placed
    pub visits_placed : position_of (block_of d.geometry ref.addr) old ≡ None →
        is_allocated d.allocate ref.access ≡ true →
        TakesIn policy (numbers 0) d.geometry.e old
        (record { block = block_of d.geometry ref.addr; dirty = is_dirtied d.write ref.access })
        outcome.evicted new →
        rest ≡ random_numbers_after policy outcome.evicted numbers →
        outcome ≡ outcome_of (on_placing d.geometry d.write ref (block_of d.geometry ref.addr)
        outcome.evicted) → Visits d policy numbers ref old outcome new rest
    visits_placed none allocated order undrawn effect =
        subst (λ o. VisitsAt o d policy numbers ref old outcome new rest) (sym none)
        (subst (λ b. MatchBool b (Fills d policy numbers ref old outcome new rest)
        (PassesOn numbers ref old outcome new rest)) (sym allocated)
        record { order = order; undrawn = undrawn; effect = effect })
