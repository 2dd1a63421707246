-- The steps of a reader.
use Rattle.std.proofs.Common.{◌≡◌, ℕ, ◌+◌, ◌<◌, ◌≤◌, List, [], ◌∷◌, ◌++◌, length, Option, None}
use Rattle.std.proofs.Common.{Some, Ok, Err, refl, sym, ap, ◌∙◌, subst, append_assoc}
use Rattle.std.proofs.lemmas.List.{append-nil}
use Rattle.std.specs.Io.KnownBytes.{IsAtEnd}
use Rattle.trace_core.specs.Lines.{HoldsNoFeed}
use Rattle.trace_core.specs.Reading.{Reading, reading_end, judgement, reading_with_line, Ending}
use Rattle.trace_core.specs.Reading.{at_end, at_failure, reading_after, longest_line}
use Rattle.trace_core.specs.Reader.{Progress, reading_in_state, remaining_reading, MayFollow}
use Rattle.trace_core.specs.Reader.{reading_with_entries}
use Rattle.trace_core.specs.Reader.{Advances}
use Rattle.trace_core.specs.declared.events.Entry.{Entry}
use Rattle.trace_core.specs.declared.line.Format.{Format}
use Rattle.trace_core.specs.declared.line.LineFault.{LineFault}
use Rattle.trace_core.specs.declared.fault.TraceFault.{TraceFault}
use Rattle.trace_core.specs.declared.fault.TraceFault.TheVariants as fault
use Rattle.trace_core.specs.declared.state.ReaderState.{ReaderState}
use Rattle.trace_core.specs.declared.state.ReaderState.TheVariants as state
use Rattle.trace_core.proofs.Readings.{reading-line, reading-last, reading-failed}

abbrev pub at : Format → ℕ → ℕ → List ℕ → ReaderState → Progress
at f limit n u s = record { format = f; limit = limit; lines = n; unread = u; state = s }

-- what line n gives where it is no fault
abbrev pub numbered : ℕ → Option Entry → List (ℕ × Entry)
numbered n None = []
numbered n (Some entry) = (n, entry) ∷ []

then_reads-ok : (n : ℕ) (o : Option Entry) (later : Reading) →
    reading_with_line n (Ok o) later ≡ reading_with_entries (numbered n o) later
then_reads-ok n None later = refl
then_reads-ok n (Some entry) later = refl

module _ (reported : Option (List ℕ)) where
  -- nothing is given where nothing changed
  pub Advances-stays : (p : Progress) → Advances reported p p [] []
  Advances-stays p = record { gives = λ e later may. refl }

  -- one step after another
  pub Advances-then : (between : Option (List ℕ)) (a b c : Progress) (d₁ d₂ : List ℕ)
      (xs ys : List (ℕ × Entry)) → b.state ≡ state.Open
      → Advances between a b d₁ xs → Advances reported b c d₂ ys →
      Advances reported a c (d₁ ++ d₂) (xs ++ ys)
  Advances-then between a b c d₁ d₂ xs ys goes_on first second = record {
    gives = λ e later may.
        let any : MayFollow between b.state e (d₂ ++ later) =
        subst (λ s. MayFollow between s e (d₂ ++ later)) (sym goes_on) tt in
        ap (remaining_reading e a) (append_assoc d₁ d₂ later) ∙ first.gives e (d₂ ++ later) any ∙
        ap (reading_with_entries xs) (second.gives e later may)
        ∙ ap (λ zs. record { entries = zs; fault = (remaining_reading e c later).fault })
        (sym (append_assoc xs ys (remaining_reading e c later).entries));
  }

  module _ (f : Format) (limit n : ℕ) where
    -- a whole line
    pub Advances-line : (w rest : List ℕ) (o : Option Entry) → HoldsNoFeed w →
        judgement f limit (n + 1) w ≡ Ok o
        → Advances reported (at f limit n (w ++ 10 ∷ rest) state.Open)
        (at f limit (n + 1) rest state.Open) [] (numbered (n + 1) o)
    Advances-line w rest o none judged = record {
      gives = λ e later may.
          ap (reading_after e f limit n) (append_assoc w (10 ∷ rest) later) ∙
          reading-line f limit e n w (rest ++ later) none
          ∙ ap (λ r. reading_with_line (n + 1) r (reading_after e f limit (n + 1) (rest ++ later)))
          judged ∙ then_reads-ok (n + 1) o _;
    }

    -- a fault that the bytes settle
    pub Advances-fault : (p : Progress) (u : List ℕ) (x : TraceFault)
        → ((e : Ending) (later : List ℕ) →
        reading_after e f limit n (u ++ later) ≡ reading_end (Some x))
        → p.state ≡ state.Failed x → Advances reported (at f limit n u state.Open) p [] []
    Advances-fault p u x settled failed = record {
      gives = λ e later may. settled e later ∙
          sym (ap (λ s. reading_in_state s (reading_after e p.format p.limit p.lines
          (p.unread ++ later)))
          failed);
    }

    pub Advances-bad_line : (p : Progress) (w rest : List ℕ) (x : TraceFault) → HoldsNoFeed w →
        judgement f limit (n + 1) w ≡ Err x
        → p.state ≡ state.Failed x
        → Advances reported (at f limit n (w ++ 10 ∷ rest) state.Open) p [] []
    Advances-bad_line p w rest x none judged failed =
        Advances-fault p (w ++ 10 ∷ rest) x
        (λ e later. ap (reading_after e f limit n) (append_assoc w (10 ∷ rest) later) ∙
        reading-line f limit e n w (rest ++ later) none
        ∙ ap (λ r. reading_with_line (n + 1) r (reading_after e f limit (n + 1) (rest ++ later)))
        judged)
        failed

    -- a failure of the device
    pub Advances-failed : (p : Progress) (u : List ℕ) → HoldsNoFeed u → length u ≤ longest_line →
        (0 < length u → n < limit)
        → p.state ≡ state.Failed (fault.Read (n + 1))
        → Advances reported (at f limit n u state.Open) p [] []
    Advances-failed p u none short within failed = record {
      gives = λ e later may.
          let now = subst (λ s. MayFollow reported s e later) failed may in
          rw (now.0, now.1, failed) (ap (reading_after at_failure f limit n) (append-nil u) ∙
          reading-failed f limit n u none short within);
    }

    -- a last line without LF
    pub Advances-last : (p : Progress) (c : ℕ) (u : List ℕ) (o : Option Entry) →
        HoldsNoFeed (c ∷ u) → judgement f limit (n + 1) (c ∷ u) ≡ Ok o
        → p.state ≡ state.Ended
        → Advances reported (at f limit n (c ∷ u) state.Open) p [] (numbered (n + 1) o)
    Advances-last p c u o none judged ended = record {
      gives = λ e later may.
          let now = subst (λ s. MayFollow reported s e later) ended may in
          rw (now.0, now.1, ended) (ap (reading_after at_end f limit n) (append-nil (c ∷ u)) ∙
          reading-last f limit n c u none
          ∙ ap (λ r. reading_with_line (n + 1) r (reading_end None)) judged ∙
          then_reads-ok (n + 1) o _);
    }

    -- and one at fault
    pub Advances-bad_last : (p : Progress) (c : ℕ) (u : List ℕ) (x : LineFault) → IsAtEnd reported →
        HoldsNoFeed (c ∷ u)
        → judgement f limit (n + 1) (c ∷ u) ≡ Err (fault.Line (n + 1) x)
        → p.state ≡ state.Failed (fault.Line (n + 1) x) →
        Advances reported (at f limit n (c ∷ u) state.Open) p [] []
    Advances-bad_last p c u x ended none judged failed = record {
      gives = λ e later may.
          let now = subst (λ s. MayFollow reported s e later) failed may in
          let over : later ≡ [] = subst IsAtEnd now.1 ended in
          rw (now.0, over, failed) (ap (reading_after at_end f limit n) (append-nil (c ∷ u)) ∙
          reading-last f limit n c u none
          ∙ ap (λ r. reading_with_line (n + 1) r (reading_end None)) judged);
    }
