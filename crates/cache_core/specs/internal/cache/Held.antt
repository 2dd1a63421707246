-- An access whose block the cache holds. Only the proofs need these definitions.
use Rattle.std.specs.Prelude.{◌≡◌, ℕ, Bool, List, Option, None, IfSome, is_some}
use Rattle.trace_core.specs.declared.events.Ref.{Ref}
use Rattle.cache_core.specs.declared.outcome.Slot.{Slot}
use Rattle.cache_core.specs.declared.outcome.Outcome.{Outcome}
use Rattle.cache_core.specs.declared.design.Design.{Design}
use Rattle.cache_core.specs.declared.design.Repl.{Repl}
use Rattle.cache_core.specs.Geometry.{block_of, set_of}
use Rattle.cache_core.specs.cache.Outcomes.{outcome_of, on_hit}
use Rattle.cache_core.specs.cache.Order.{Accesses, DirtiesByWrites, slots_of, position_of}
use Rattle.cache_core.specs.cache.Slab.{CacheValue, contents_of}

-- whether the set of a reference holds its block
abbrev pub holds_block : Design → List (List Slot) → Ref → Bool
holds_block d sets ref = is_some
    (position_of (block_of d.geometry ref.addr) (slots_of sets (set_of d.geometry ref.addr)))

-- an access is made if the set of its reference holds its block; any other access changes nothing
pub record AccessesHeld {P : Type 0} (policy : P → Option Repl) (numbers : P → ℕ → ℕ)
    (old : CacheValue P) (ref : Ref) (result : Option Outcome) (new : CacheValue P) : Type 0 where
  pub step : IfSome result (λ outcome.
      Accesses (contents_of policy numbers old) ref outcome (contents_of policy numbers new))
  pub dirty : IfSome result (λ outcome. DirtiesByWrites old.sets ref outcome new.sets)
  pub answers : is_some result ≡ holds_block old.design old.sets ref
  pub outcome : IfSome result (λ outcome. outcome ≡ outcome_of (on_hit old.design.write ref))
  pub kept : result ≡ None → new ≡ old
