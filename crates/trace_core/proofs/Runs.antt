-- A reader's way through a source.
use Rattle.std.proofs.Common.{◌≡◌, ◌≢◌, ℕ, List, [], ◌++◌, Bool, true, false, Option, None, Some}
use Rattle.std.proofs.Common.{◌⊎◌, inl, inr, ⊎_elim, refl, sym, ap, ◌∙◌, subst}
use Rattle.std.proofs.lemmas.List.{append-nil}
use Rattle.std.specs.Io.KnownBytes.{IsAtEnd}
use Rattle.trace_core.specs.Device.{SourceView, failures_after}
use Rattle.trace_core.specs.Reading.{Reading, at_end, at_failure, reading, cut_reading, reading_end}
use Rattle.trace_core.specs.Reader.{Progress, remaining_reading, MayFollow, Advances, Delivers}
use Rattle.trace_core.specs.Reader.{Reached}
use Rattle.trace_core.specs.Reader.{new_progress, device_failed, reading_with_entries}
use Rattle.trace_core.specs.declared.events.Entry.{Entry}
use Rattle.trace_core.specs.declared.line.Format.{Format}
use Rattle.trace_core.specs.declared.fault.TraceFault.{TraceFault}
use Rattle.trace_core.specs.declared.fault.TraceFault.TheVariants as fault
use Rattle.trace_core.specs.declared.state.ReaderState.{ReaderState}
use Rattle.trace_core.specs.declared.state.ReaderState.TheVariants as state
use Rattle.trace_core.proofs.Deliveries.{Delivers-none, Delivers-then}
use Rattle.trace_core.proofs.Advancing.{Advances-stays, Advances-then}

-- after a fault of the trace, what the source still tells of may follow
told_follows : (rest : List ℕ) (x : TraceFault) → device_failed (state.Failed x) ≡ false →
    MayFollow (Some rest) (state.Failed x) at_end rest
told_follows rest (fault.Read n) own = absurd cc
told_follows rest (fault.TooLong n) own = (refl, refl)
told_follows rest (fault.TooManyLines n) own = (refl, refl)
told_follows rest (fault.Line n x) own = (refl, refl)

open_or_not : (s : ReaderState) → (s ≡ state.Open) ⊎ (s ≢ state.Open)
open_or_not state.Open = inl refl
open_or_not state.Ended = inr (λ e. cc)
open_or_not (state.Failed x) = inr (λ e. cc)

module _ (f : Format) (limit : ℕ) where
  -- a reader that began has read nothing
  pub Reached-start : (v : SourceView) → Reached f limit v v [] (new_progress f limit)
  Reached-start v = record {
    bytes = [];
    delivers = Delivers-none v.remaining false;
    reads = Advances-stays v.remaining (new_progress f limit);
    at_end = λ ended. absurd (let e : state.Open ≡ state.Ended = ended in cc);
    counted = refl;
  }

  -- what was delivered of a text that the source reported
  delivered : {text : List ℕ} {start now : SourceView} {xs : List (ℕ × Entry)} {p : Progress}
      {failed : Bool} → start.remaining ≡ Some text
      → device_failed p.state ≡ failed → (run : Reached f limit start now xs p) →
      Delivers (Some text) now.remaining failed run.bytes
  delivered {start = start} {now = now} {failed = failed} reported is run =
      subst (λ t. Delivers t now.remaining failed run.bytes) reported
      (subst (λ b. Delivers start.remaining now.remaining b run.bytes) is run.delivers)

  -- an open reader reads on
  pub Reached-then : (start mid now : SourceView) (xs ys : List (ℕ × Entry)) (p q : Progress) →
      p.state ≡ state.Open → Reached f limit start mid xs p
      → (bytes : List ℕ) × Delivers mid.remaining now.remaining (device_failed q.state) bytes ×
      Advances now.remaining p q bytes ys
      → (q.state ≡ state.Ended → IsAtEnd now.remaining) →
      now.failures ≡ failures_after (device_failed q.state) mid.failures
      → Reached f limit start now (xs ++ ys) q
  Reached-then start mid now xs ys p q opened so_far step over counted =
      let consumes : Delivers start.remaining mid.remaining false so_far.bytes =
      subst (λ s. Delivers start.remaining mid.remaining (device_failed s) so_far.bytes) opened
      so_far.delivers in record {
        bytes = so_far.bytes ++ step.0;
        delivers = Delivers-then start.remaining mid.remaining now.remaining (device_failed q.state)
            so_far.bytes step.0 consumes step.1;
        reads = Advances-then now.remaining mid.remaining (new_progress f limit) p q so_far.bytes
            step.0 xs ys opened so_far.reads step.2;
        at_end = over;
        counted =
            counted ∙ ap (failures_after (device_failed q.state)) (so_far.counted ∙
            ap (λ s. failures_after (device_failed s) start.failures) opened);
      }

  -- any reader reads on, or stays as it is
  pub Reached-next : (start mid now : SourceView) (xs ys : List (ℕ × Entry)) (p q : Progress) →
      Reached f limit start mid xs p
      → (bytes : List ℕ) × Delivers mid.remaining now.remaining (device_failed q.state) bytes ×
      Advances now.remaining p q bytes ys
      → (p.state ≡ state.Open → q.state ≡ state.Ended → IsAtEnd now.remaining)
      → (p.state ≡ state.Open → now.failures ≡ failures_after (device_failed q.state) mid.failures)
      → (p.state ≢ state.Open → (now ≡ mid) × (q ≡ p) × (ys ≡ []))
      → Reached f limit start now (xs ++ ys) q
  Reached-next start mid now xs ys p q run step over counted stays =
      ⊎_elim
      (λ opened. Reached-then start mid now xs ys p q opened run step (over opened)
      (counted opened))
      (λ stopped. let same = stays stopped in rw (same.0, same.1, same.2, append-nil xs) run)
      (open_or_not p.state)

  -- at the end, the entries are those of the whole text, which has no fault
  pub Reached-end : (text : List ℕ) (start now : SourceView) (xs : List (ℕ × Entry))
      (p : Progress) → start.remaining ≡ Some text
      → Reached f limit start now xs p → p.state ≡ state.Ended →
      reading f limit text ≡ record { entries = xs; fault = None }
  Reached-end text start now xs p reported run ended =
      end_of now.remaining (delivered reported (ap device_failed ended) run)
      (run.at_end ended) run.reads
    where
      end_of : (t : Option (List ℕ)) → Delivers (Some text) t false run.bytes → IsAtEnd t →
          Advances t (new_progress f limit) p run.bytes xs
          → reading f limit text ≡ record { entries = xs; fault = None }
      end_of None delivers over reads = absurd delivers
      end_of (Some rest) delivers over reads =
          let may : MayFollow (Some rest) p.state at_end [] =
          subst (λ s. MayFollow (Some rest) s at_end []) (sym ended) (refl, refl) in
          ap (reading f limit) (delivers ∙ ap (λ t. run.bytes ++ t) over) ∙
          reads.gives at_end [] may ∙ (rw (ended, append-nil xs) refl)

  -- at the end nothing is left to read
  pub Reached-left : (text : List ℕ) (start now : SourceView) (xs : List (ℕ × Entry))
      (p : Progress) → start.remaining ≡ Some text
      → Reached f limit start now xs p → p.state ≡ state.Ended → now.remaining ≡ Some []
  Reached-left text start now xs p reported run ended =
      left_of now.remaining (delivered reported (ap device_failed ended) run) (run.at_end ended)
    where
      left_of : (t : Option (List ℕ)) → Delivers (Some text) t false run.bytes →
          IsAtEnd t → t ≡ Some []
      left_of None delivers over = absurd delivers
      left_of (Some rest) delivers over = ap Some over

  -- at a fault of the trace, the entries are those before it, and it is the text's first fault
  pub Reached-fault : (text : List ℕ) (start now : SourceView) (xs : List (ℕ × Entry))
      (p : Progress) (x : TraceFault) → start.remaining ≡ Some text
      → Reached f limit start now xs p → p.state ≡ state.Failed x →
      device_failed (state.Failed x) ≡ false
      → reading f limit text ≡ record { entries = xs; fault = Some x }
  Reached-fault text start now xs p x reported run failed own =
      end_of now.remaining (delivered reported (ap device_failed failed ∙ own) run) run.reads
    where
      end_of : (t : Option (List ℕ)) → Delivers (Some text) t false run.bytes →
          Advances t (new_progress f limit) p run.bytes xs
          → reading f limit text ≡ record { entries = xs; fault = Some x }
      end_of None delivers reads = absurd delivers
      end_of (Some rest) delivers reads =
          let may : MayFollow (Some rest) p.state at_end rest =
          subst (λ s. MayFollow (Some rest) s at_end rest) (sym failed)
          (told_follows rest x own) in
          ap (reading f limit) delivers ∙ reads.gives at_end rest may ∙
          (rw (failed, append-nil xs) refl)

  -- at a failure of the device, they are those of the bytes that it delivered
  pub Reached-cut : (text rest : List ℕ) (start now : SourceView) (xs : List (ℕ × Entry))
      (p : Progress) (n : ℕ) → start.remaining ≡ Some text
      → now.remaining ≡ Some rest → (run : Reached f limit start now xs p) →
      p.state ≡ state.Failed (fault.Read n)
      → (text ≡ run.bytes ++ rest) × (cut_reading f limit run.bytes ≡ record {
        entries = xs;
        fault =
            Some (fault.Read n);
      })
  Reached-cut text rest start now xs p n reported left run failed =
      let whole : text ≡ run.bytes ++ rest =
      subst (λ t. Delivers (Some text) t true run.bytes) left
      (delivered reported (ap device_failed failed) run) in
      let reads : Advances (Some rest) (new_progress f limit) p run.bytes xs =
      subst (λ t. Advances t (new_progress f limit) p run.bytes xs) left run.reads in
      let may : MayFollow (Some rest) p.state at_failure [] =
      subst (λ s. MayFollow (Some rest) s at_failure []) (sym failed) (refl, refl) in (
        whole,
        ap (cut_reading f limit) (sym (append-nil run.bytes)) ∙
            reads.gives at_failure [] may ∙ (rw (failed, append-nil xs) refl),
      )

  -- an open reader has read the first entries of the text
  pub Reached-open : (text : List ℕ) (start now : SourceView) (xs : List (ℕ × Entry))
      (p : Progress) → start.remaining ≡ Some text
      → Reached f limit start now xs p → p.state ≡ state.Open → (r : Reading) ×
      (reading f limit text ≡ reading_with_entries xs r)
  Reached-open text start now xs p reported run opened =
      first_of now.remaining (delivered reported (ap device_failed opened) run) run.reads
    where
      first_of : (t : Option (List ℕ)) → Delivers (Some text) t false run.bytes →
          Advances t (new_progress f limit) p run.bytes xs
          → (r : Reading) × (reading f limit text ≡ reading_with_entries xs r)
      first_of None delivers reads = absurd delivers
      first_of (Some rest) delivers reads =
          let may : MayFollow (Some rest) p.state at_end rest =
          subst (λ s. MayFollow (Some rest) s at_end rest) (sym opened) tt in (
            remaining_reading at_end p rest,
            ap (reading f limit) delivers ∙
                reads.gives at_end rest may,
          )

  -- a reader that met no fault has read the first entries of the text
  pub Reached-prefix : (text : List ℕ) (start now : SourceView) (xs : List (ℕ × Entry))
      (p : Progress) → start.remaining ≡ Some text
      → Reached f limit start now xs p → ((x : TraceFault) → p.state ≢ state.Failed x) →
      (r : Reading) × (reading f limit text ≡ reading_with_entries xs r)
  Reached-prefix text start now xs p reported run well = by_state p.state refl
    where
      by_state : (s : ReaderState) → p.state ≡ s → (r : Reading) ×
          (reading f limit text ≡ reading_with_entries xs r)
      by_state state.Open is = Reached-open text start now xs p reported run is
      by_state state.Ended is = (
        reading_end None,
        Reached-end text start now xs p reported run is ∙
            ap (λ ys. record { entries = ys; fault = None }) (sym (append-nil xs)),
      )
      by_state (state.Failed x) is = absurd (well x is)

-- a reader that was begun with this format and limit
pub Reached-from : {f : Format} {limit : ℕ} {start now : SourceView} {first p : Progress}
    {xs : List (ℕ × Entry)} → first ≡ new_progress f limit
    → Reached first.format first.limit start now xs p → Reached f limit start now xs p
Reached-from {start = start} {now = now} {p = p} {xs = xs} is run =
    subst (λ (q : Progress). Reached q.format q.limit start now xs p) is run
