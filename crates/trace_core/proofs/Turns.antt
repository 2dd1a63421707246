-- The loop of a scan.
use Rattle.std.proofs.Common.{◌≡◌, ℕ, ◌+◌, ◌≤◌, List, [], ◌++◌, Option, None, false, refl, sym, ap}
use Rattle.std.proofs.Common.{◌∙◌, subst, arith}
use Rattle.std.specs.Option.{option_to_list}
use Rattle.trace_core.specs.declared.events.Entry.{Entry}
use Rattle.trace_core.proofs.Deliveries.{Delivers-none, Delivers-then}
use Rattle.trace_core.proofs.Advancing.{Advances-stays, Advances-then}
use Rattle.std.specs.Io.KnownBytes.{IsAtEnd}
use Rattle.trace_core.specs.Device.{SourceView, failures_after}
use Rattle.trace_core.specs.declared.scan.Scan.{Scan}
use Rattle.trace_core.specs.declared.state.ReaderState.{ReaderState}
use Rattle.trace_core.specs.declared.state.ReaderState.TheVariants as state
use Rattle.trace_core.specs.internal.Scan.{progress, left_to_limit, Reads, StepsScan}
use Rattle.trace_core.specs.Reader.{Advances, Delivers, device_failed}

-- an open scan has a turn more than is left to its limit, and another none
abbrev pub turns_in : ReaderState → ℕ → ℕ
turns_in state.Open n = n + 1
turns_in state.Ended n = 0
turns_in (state.Failed f) n = 0

abbrev pub turns : Scan → ℕ
turns s = turns_in s.state (left_to_limit s)

-- A scan went from old to new with no entry, over these bytes.
pub record Skips (before after : SourceView) (old new : Scan) : Type 0 where
  pub bytes : List ℕ
  pub delivers : Delivers before.remaining after.remaining (device_failed new.state) bytes
  pub advances : Advances after.remaining (progress old) (progress new) bytes []
  pub at_end : old.state ≡ state.Open → new.state ≡ state.Ended → IsAtEnd after.remaining
  pub counted : old.state ≡ state.Open → after.failures ≡ failures_after (device_failed new.state)
      before.failures
  pub format : new.format ≡ old.format
  pub limit : new.limit ≡ old.limit
  pub lines : old.lines ≤ new.lines

pub Skips-start : (v : SourceView) (s : Scan) → Skips v v s s
Skips-start v s = record {
  bytes = [];
  delivers = Delivers-none v.remaining (device_failed s.state);
  advances = Advances-stays v.remaining (progress s);
  at_end = λ opened ended. absurd (let e : state.Open ≡ state.Ended = sym opened ∙ ended in cc);
  counted = λ opened. rw opened refl;
  format = refl;
  limit = refl;
  lines = omega arith;
}

module _ {a b : SourceView} (now : SourceView) {old mid : Scan} (new : Scan)
    (skips : Skips a b old mid) (opened : mid.state ≡ state.Open) where
  -- what a step of an open scan gives after the turns before it
  pub Skips-advances : (xs : Option (ℕ × Entry)) → Reads b now (progress mid) (progress new) xs →
      Reads a now (progress old) (progress new) xs
  Skips-advances xs step =
      let consumes : Delivers a.remaining b.remaining false skips.bytes =
      subst (λ s. Delivers a.remaining b.remaining (device_failed s) skips.bytes) opened
      skips.delivers in (
        skips.bytes ++ step.0,
        Delivers-then a.remaining b.remaining now.remaining (device_failed new.state) skips.bytes
            step.0 consumes step.1,
        Advances-then now.remaining b.remaining (progress old) (progress mid) (progress new)
            skips.bytes step.0 [] (option_to_list xs) opened
            skips.advances step.2,
      )

  Skips-counted : old.state ≡ state.Open →
      now.failures ≡ failures_after (device_failed new.state) b.failures
      → now.failures ≡ failures_after (device_failed new.state) a.failures
  Skips-counted began counted =
      let same : b.failures ≡ a.failures = skips.counted began ∙
      ap (λ s. failures_after (device_failed s) a.failures) opened in
      counted ∙ ap (failures_after (device_failed new.state)) same

  -- one turn more with no entry
  pub Skips-more : Reads b now (progress mid) (progress new) None →
      StepsScan b now mid new None → Skips a now old new
  Skips-more reads steps =
      let next = Skips-advances None reads in record {
        bytes = next.0;
        delivers = next.1;
        advances = next.2;
        at_end = λ began. steps.at_end;
        counted = λ began. Skips-counted began steps.counted;
        format = steps.on.same.0 ∙ skips.format;
        limit = steps.on.same.1 ∙ skips.limit;
        lines = omega (arith, skips.lines, steps.on.lines);
      }
