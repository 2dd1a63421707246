-- How far `csim` has come, and what stands written then.
use Rattle.std.proofs.Common.{◌≡◌, ◌==◌, ℕ, List, [], ◌∷◌, ◌++◌, Bool, true, false, not}
use Rattle.std.proofs.Common.{cond, refl, sym, ap, ◌∙◌, subst, append-nil, append_assoc}
use Rattle.std.proofs.lemmas.Bool.{eq-eqb, ne_eqb}
use Rattle.std.specs.List.{flat_map}
use Rattle.trace_core.specs.declared.events.Entry.{Entry}
use Rattle.trace_core.specs.declared.events.Entry.TheVariants as entry
use Rattle.trace_core.specs.declared.events.Event.{Event}
use Rattle.trace_core.specs.declared.events.Kind.TheVariants.{DataOnly}
use Rattle.trace_core.specs.declared.line.Format.TheVariants.{Lackey}
use Rattle.trace_core.specs.Device.{SinkView, Wrote}
use Rattle.trace_core.specs.Events.{events_of}
use Rattle.trace_core.specs.Reading.{entries}
use Rattle.trace_core.proofs.EntryEvents.{events_more}
use Rattle.trace_core.proofs.Tasks.{WritesAlong}
use Rattle.trace_core.proofs.Written.{Wrote-more, Wrote-none}
use Rattle.cache_core.specs.declared.simulation.Lookup.{Lookup}
use Rattle.cache_core.specs.declared.simulation.Simulation.{Simulation}
use Rattle.cache_core.specs.Geometry.{GeometryValue}
use Rattle.cache_core.specs.Simulation.{SimulationStandsFor}
use Rattle.cache_core.specs.Windows.{counts}
use Rattle.commands.specs.CsimText.{csim_task, csim_lines, lines_after, line_of, lookups_of}
use Rattle.commands.specs.CsimText.{summary, item_line, letter_of}
use Rattle.commands.proofs.DataSteps.{only_fetch}

-- a `bool` for which a function is compiled: proofs have it as a number
abbrev pub is_verbose : ℕ → Bool
is_verbose n = not (n == 0)

pub is_verbose-if : (n : ℕ) → (n ≡ 0 → ⊥) → is_verbose n ≡ true
is_verbose-if n set = ap not (ne_eqb n 0 set)

pub is_verbose-unless : (n : ℕ) → n ≡ 0 → is_verbose n ≡ false
is_verbose-unless n unset = ap not (eq-eqb n 0 unset)

-- the data references of entries
abbrev pub data_of : List Entry → List Event
data_of es = flat_map (events_of DataOnly) es

lines_after-append : (g : GeometryValue) (before : List Event) (xs ys : List Entry)
    → lines_after g before (xs ++ ys) ≡ lines_after g before xs ++
    lines_after g (before ++ data_of xs) ys
unfolding lines_after
lines_after-append g before [] ys = ap (λ b. lines_after g b ys) (sym (append-nil before))
lines_after-append g before (e ∷ xs) ys =
    let line : List ℕ = line_of e (lookups_of g before e) in
    let later : List Event = before ++ events_of DataOnly e in
    ap (λ l. line ++ l) (lines_after-append g later xs ys)
    ∙ sym (append_assoc line (lines_after g later xs) (lines_after g (later ++ data_of xs) ys))
    ∙ ap (λ b. (line ++ lines_after g later xs) ++ lines_after g b ys)
    (append_assoc before (events_of DataOnly e) (data_of xs))

-- the lines of later entries, where they are wanted
abbrev later_lines : GeometryValue → Bool → List Entry → List Entry → List ℕ
later_lines g verbose xs ys = cond verbose (lines_after g (data_of xs) ys) []

csim_lines-append : (g : GeometryValue) (verbose : Bool) (xs ys : List Entry)
    → csim_lines g verbose (xs ++ ys) ≡ csim_lines g verbose xs ++ later_lines g verbose xs ys
csim_lines-append g true xs ys = lines_after-append g [] xs ys
csim_lines-append g false xs ys = refl

one_line : (g : GeometryValue) (verbose : Bool) (xs : List Entry) (e : Entry)
    → later_lines g verbose xs (e ∷ []) ≡ cond verbose (line_of e (lookups_of g (data_of xs) e)) []
unfolding lines_after
one_line g true xs e = append-nil (line_of e (lookups_of g (data_of xs) e))
one_line g false xs e = refl

-- the lines of one entry more
pub lines-more : (g : GeometryValue) (verbose : Bool) (xs : List Entry) (e : Entry)
    (lookups : List Lookup)
    → lookups ≡ lookups_of g (data_of xs) e
    → csim_lines g verbose (xs ++ e ∷ []) ≡ csim_lines g verbose xs ++
    cond verbose (line_of e lookups) []
lines-more g verbose xs e lookups is =
    csim_lines-append g verbose xs (e ∷ [])
    ∙ ap (λ l. csim_lines g verbose xs ++ l)
    (one_line g verbose xs e ∙ ap (λ l. cond verbose (line_of e l) []) (sym is))

-- An entry that made no reference has no line.
pub no_line : (g : GeometryValue) (before : List Event) (e : Entry) → [] ≡ lookups_of g before e →
    line_of e [] ≡ []
no_line g before (entry.Item item) none =
    ap (λ op. item_line (letter_of op) item []) (only_fetch item.addr g before item.op none)
no_line g before entry.Flush none = refl

-- what is written of some entries comes before what is written of more, and of the whole text
pub along : (g : GeometryValue) (verbose : Bool) (limit : ℕ) →
    WritesAlong (csim_task g verbose limit)
unfolding csim_task
along g verbose limit = record {
  partial = λ xs ys. (later_lines g verbose xs ys, csim_lines-append g verbose xs ys);
  whole = λ text. (summary (counts g (data_of (entries Lackey text))), refl);
}

-- what a simulation stands for once these entries were read, and what stands written
abbrev pub Simulated : GeometryValue → Bool → SinkView → SinkView → Simulation → List Entry → Type 0
Simulated g verbose sink sink' sim es = SimulationStandsFor g (data_of es) sim ×
    Wrote sink sink' (csim_lines g verbose es)

pub simulated-none : (g : GeometryValue) (verbose : Bool) (sink : SinkView) (sim : Simulation) →
    SimulationStandsFor g [] sim
    → Simulated g verbose sink sink sim []
unfolding lines_after
simulated-none g true sink sim stands = (stands, Wrote-none sink)
simulated-none g false sink sim stands = (stands, Wrote-none sink)

pub simulated-more : (g : GeometryValue) (verbose : Bool) (es : List Entry) (e : Entry)
    (lookups : List Lookup)
    {sink between sink' : SinkView} (old new : Simulation) → Simulated g verbose sink between old es
    → SimulationStandsFor g (data_of es ++ events_of DataOnly e) new ×
    (lookups ≡ lookups_of g (data_of es) e)
    → Wrote between sink' (cond verbose (line_of e lookups) []) → Simulated g verbose sink sink' new
    (es ++ e ∷ [])
simulated-more g verbose es e lookups {sink} {sink' = sink'} old new so_far stands wrote = (
  subst (λ xs. SimulationStandsFor g xs new) (sym (events_more DataOnly es e)) stands.0,
  subst (Wrote sink sink') (sym (lines-more g verbose es e lookups stands.1))
      (Wrote-more so_far.1 wrote),
)
