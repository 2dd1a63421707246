-- A cache as its callers see it: its design, its policy and its sets.
use Rattle.std.specs.Prelude.{ℕ, ◌^◌, List, [], Option, replicate}
use Rattle.cache_core.specs.declared.outcome.Slot.{Slot}
use Rattle.cache_core.specs.declared.design.Design.{Design}
use Rattle.cache_core.specs.declared.design.Repl.{Repl}
use Rattle.cache_core.specs.Geometry.{GeometryValue}
use Rattle.cache_core.specs.cache.Order.{Contents}

-- a cache: its design, its policy and its sets
pub record CacheValue (P : Type 0) : Type 0 where
  pub design : Design
  pub policy : P
  pub sets : List (List Slot)

-- the contents of a cache, with the policy and the numbers of its policy's type
abbrev pub contents_of : {P : Type 0} → (P → Option Repl) → (P → ℕ → ℕ) → CacheValue P → Contents
contents_of policy numbers c = record {
  design = c.design;
  policy =
      policy c.policy;
  random_numbers = numbers c.policy;
  sets = c.sets;
}

-- the sets of an empty cache
abbrev pub empty_sets : GeometryValue → List (List Slot)
empty_sets g = replicate (2 ^ g.s) []
