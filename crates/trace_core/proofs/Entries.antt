-- The entries of a text without a fault.
use Rattle.std.proofs.Common.{◌≡◌, ℕ, ◌+◌, Bool, true, false, cond, ltb, length, List, [], ◌∷◌}
use Rattle.std.proofs.Common.{Option, None, Some, Result, Ok, Err, map, refl, sym, ap, ◌∙◌}
use Rattle.std.specs.List.{filter_map, cons_option}
use Rattle.trace_core.specs.Lines.{lines}
use Rattle.trace_core.specs.Line.{meaning}
use Rattle.trace_core.specs.Reading.{reading_end, judgement, with_line, reading_with_line}
use Rattle.trace_core.specs.Reading.{read_lines, reading, entries, entry_in, longest_line}
use Rattle.trace_core.specs.declared.events.Entry.{Entry}
use Rattle.trace_core.specs.declared.line.Format.{Format}
use Rattle.trace_core.specs.declared.line.LineFault.{LineFault}
use Rattle.trace_core.specs.declared.fault.TraceFault.{TraceFault}
use Rattle.trace_core.specs.declared.fault.TraceFault.TheVariants as fault

pub judged-ok : (n : ℕ) (past long : Bool) (x y : TraceFault) (m : Result (Option Entry) LineFault)
    (o : Option Entry)
    → cond past (Err x) (cond long (Err y) (with_line n m)) ≡ Ok o → entry_in m ≡ o
judged-ok n true long x y m o h = cc
judged-ok n false true x y m o h = cc
judged-ok n false false x y (Ok entry) o h = cc
judged-ok n false false x y (Err f) o h = cc

module _ (f : Format) (limit : ℕ) where
  pub read-entries : (n : ℕ) (ls : List (List ℕ)) →
      (read_lines f limit n ls (reading_end None)).fault ≡ None
      → map (λ x. x.1) (read_lines f limit n ls (reading_end None)).entries ≡ filter_map
      (λ line. entry_in (meaning f line)) ls
  read-entries n [] none = refl
  read-entries n (line ∷ more) none =
      by_case (judgement f limit (n + 1) line)
      (λ o h. judged-ok (n + 1) (ltb limit (n + 1)) (ltb longest_line (length line))
      (fault.TooManyLines limit) (fault.TooLong (n + 1)) (meaning f line) o h)
      none (read-entries (n + 1) more)
    where
      by_case : (r : Result (Option Entry) TraceFault) →
          ((o : Option Entry) → r ≡ Ok o → entry_in (meaning f line) ≡ o)
          → (reading_with_line (n + 1) r (read_lines f limit (n + 1) more
          (reading_end None))).fault ≡ None
          → ((read_lines f limit (n + 1) more (reading_end None)).fault ≡ None
          → map (λ x. x.1) (read_lines f limit (n + 1) more (reading_end None)).entries ≡ filter_map
          (λ line. entry_in (meaning f line)) more)
          → map (λ x. x.1) (reading_with_line (n + 1) r (read_lines f limit (n + 1) more
          (reading_end None))).entries
          ≡ cons_option (entry_in (meaning f line))
          (filter_map (λ line. entry_in (meaning f line)) more)
      by_case (Ok None) means none later = rw (means None refl) (later none)
      by_case (Ok (Some entry)) means none later =
          rw (means (Some entry) refl) (ap (λ es. entry ∷ es) (later none))
      by_case (Err x) means none later = cc

  pub entries-reading : (text : List ℕ) (xs : List (ℕ × Entry)) →
      reading f limit text ≡ record { entries = xs; fault = None }
      → map (λ x. x.1) xs ≡ entries f text
  entries-reading text xs is =
      ap (λ r. map (λ x. x.1) r.entries) (sym is) ∙ read-entries 0 (lines text)
      (ap (λ r. r.fault) is)
