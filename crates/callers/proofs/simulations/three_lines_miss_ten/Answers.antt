-- The counts of the machine, computed.
use Rattle.std.proofs.Common.{◌≡◌, ◌∙◌, ℕ, ◌*◌, List, [], ◌∷◌, map, ap₂}
use Rattle.std.proofs.lemmas.Result.{IfOk-weaker}
use Rattle.trace_core.specs.declared.events.Access.TheVariants.{Read}
use Rattle.trace_core.specs.declared.events.Event.TheVariants as event
use Rattle.trace_core.specs.declared.events.Ref.{Ref}
use Rattle.cache_core.specs.declared.design.WriteMode.TheVariants.{Back}
use Rattle.cache_core.specs.Geometry.{GeometryValue, geometry_value}
use Rattle.cache_core.specs.LruLaws.{lru_machine}
use Rattle.cache_core.specs.cache.Machine.{counts_in, effects}
use Rattle.callers.proofs.simulations.three_lines_miss_ten.Goals as goal

-- a read of a block of 16 bytes
abbrev at : ℕ → Ref
at block = record { access = Read; addr = block * 16 }

-- the trace
abbrev blocks : List ℕ
blocks = 1 ∷ 2 ∷ 3 ∷ 4 ∷ 1 ∷ 2 ∷ 5 ∷ 1 ∷ 2 ∷ 3 ∷ 4 ∷ 5 ∷ []

counted : (g : GeometryValue) (trace : List Ref) → g ≡ geometry_value 0 3 4 →
    trace ≡ map at blocks →
    counts_in (effects (lru_machine g Back) (map event.Reference trace)) ≡ record {
      hits =
          2;
      misses = 10;
      evictions = 7;
    }
counted g trace g_is trace_is =
    ap₂ (λ h t. counts_in (effects (lru_machine h Back) (map event.Reference t))) g_is trace_is

pub returns : goal.returns
returns c =
    let reads : c.read.result ∷ c.read-2.result ∷ c.read-3.result ∷ c.read-4.result ∷
    c.read-5.result ∷ c.read-6.result ∷ c.read-7.result
    ∷ c.read-8.result ∷ c.read-9.result ∷ c.read-10.result ∷ c.read-11.result ∷ c.read-12.result ∷
    [] ≡ map at blocks =
    cc (
      c.read.ensures,
      c.read-2.ensures,
      c.read-3.ensures,
      c.read-4.ensures,
      c.read-5.ensures,
      c.read-6.ensures,
      c.read-7.ensures,
      c.read-8.ensures,
      c.read-9.ensures,
      c.read-10.ensures,
      c.read-11.ensures,
      c.read-12.ensures,
    ) in
    let geometry : c.in-Some.geometry ≡ geometry_value 0 3 4 = cc c.in-Some.ensures in
    IfOk-weaker c.simulate.result _ _ (λ x is. is ∙ counted _ _ geometry reads)
    c.simulate.ensures.machine
