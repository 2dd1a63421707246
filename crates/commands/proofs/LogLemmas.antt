-- How far `log` has come, and what stands written then.
use Rattle.std.proofs.Common.{◌≡◌, ℕ, List, [], ◌∷◌, ◌++◌, sym, ap, ◌∙◌, subst, append-nil}
use Rattle.std.proofs.Common.{append_assoc}
use Rattle.std.proofs.lemmas.Grind.{flat_map-append}
use Rattle.std.specs.List.{flat_map}
use Rattle.trace_core.specs.declared.events.Entry.{Entry}
use Rattle.trace_core.specs.declared.events.Event.{Event}
use Rattle.trace_core.specs.declared.events.Event.TheVariants as event
use Rattle.trace_core.specs.declared.events.Ref.{Ref}
use Rattle.trace_core.specs.declared.events.Kind.TheVariants.{All}
use Rattle.trace_core.specs.declared.line.Format.{Format}
use Rattle.trace_core.specs.Device.{SinkView, Wrote}
use Rattle.trace_core.specs.Events.{events_of}
use Rattle.trace_core.specs.Reading.{entries}
use Rattle.trace_core.proofs.EntryEvents.{events_more}
use Rattle.trace_core.proofs.Tasks.{WritesAlong}
use Rattle.trace_core.proofs.Written.{Wrote-more}
use Rattle.cache_core.specs.declared.system.arrival.Arrival.{Arrival}
use Rattle.cache_core.specs.system.Arrivals.{Saw, arrivals_of, arrivals_from}
use Rattle.cache_core.specs.system.Plans.{PlannedCaches, IsPlan}
use Rattle.cache_core.specs.system.SystemSteps.{SystemValue}
use Rattle.cache_core.specs.system.SystemStands.{SystemStandsFor}
use Rattle.commands.specs.declared.log_text.LogText.{LogText}
use Rattle.commands.specs.internal.DinPass.{AddsEvents}
use Rattle.commands.specs.LogText.{arrival_line, arrival_lines, log_lines, log_task}
use Rattle.commands.proofs.DinLemmas.{adds_both}

-- the lines that a text has
abbrev pub has : LogText → List Arrival → Type 0
has log xs = log.text ≡ arrival_lines xs

-- one entry: a system that stood for some events stands for these with those of the entry, and its
-- arrivals were seen
module _ {O : Type 0} (has_seen : O → List Arrival → Type 0) (plan : PlannedCaches) (seed : ℕ)
    (events : List Event) {more : List Event}
    {old new : SystemValue} {start end : O} (good : IsPlan plan)
    (stands : SystemStandsFor plan seed events old) (none : has_seen start []) where
  pub logged_one : {e : Event} → more ≡ e ∷ [] → SystemStandsFor plan seed (events ++ e ∷ []) new →
      Saw has_seen start (arrivals_of plan seed events e) end →
      SystemStandsFor plan seed (events ++ more) new ×
      has_seen end (arrivals_from plan seed events more)
  logged_one {e} is after saw =
      rw is (
        after,
        subst (has_seen end) (sym (append-nil (arrivals_of plan seed events e)))
            (saw [] none),
      )

  pub logged_both : {mid : SystemValue} {half : O} {first second : Ref} →
      more ≡ event.Reference first ∷ event.Reference second ∷ [] →
      AddsEvents old (event.Reference first ∷ []) mid →
      AddsEvents mid (event.Reference second ∷ []) new →
      Saw has_seen start (arrivals_of plan seed events (event.Reference first)) half →
      (SystemStandsFor plan seed (events ++ event.Reference first ∷ []) mid →
      Saw has_seen half (arrivals_of plan seed (events ++ event.Reference first ∷ [])
      (event.Reference second)) end) →
      SystemStandsFor plan seed (events ++ more) new ×
      has_seen end (arrivals_from plan seed events more)
  logged_both {mid} {first = first} {second} is one two saw then =
      let before = events ++ event.Reference first ∷ [] in
      let middle = one plan seed events good stands in
      let xs = arrivals_of plan seed events (event.Reference first) in
      let ys = arrivals_of plan seed before (event.Reference second) in
      rw is (
        adds_both one two plan seed events good stands,
        subst (λ zs. has_seen end (xs ++ zs)) (sym (append-nil ys)) (then middle xs (saw [] none)),
      )

-- the events of entries
abbrev pub all_of : List Entry → List Event
all_of es = flat_map (events_of All) es

arrivals-append : (plan : PlannedCaches) (seed : ℕ) (earlier xs ys : List Event)
    → arrivals_from plan seed earlier (xs ++ ys) ≡ arrivals_from plan seed earlier xs ++
    arrivals_from plan seed (earlier ++ xs) ys
arrivals-append plan seed earlier [] ys = ap (λ es. arrivals_from plan seed es ys)
    (sym (append-nil earlier))
arrivals-append plan seed earlier (e ∷ xs) ys =
    ap (λ l. arrivals_of plan seed earlier e ++ l)
    (arrivals-append plan seed (earlier ++ e ∷ []) xs ys)
    ∙ sym (append_assoc (arrivals_of plan seed earlier e)
    (arrivals_from plan seed (earlier ++ e ∷ []) xs)
    (arrivals_from plan seed ((earlier ++ e ∷ []) ++ xs) ys))
    ∙ ap (λ es. (arrivals_of plan seed earlier e ++ arrivals_from plan seed (earlier ++ e ∷ [])
    xs) ++ arrivals_from plan seed es ys)
    (append_assoc earlier (e ∷ []) xs)

-- the lines of entries that come after others
abbrev later_lines : PlannedCaches → ℕ → List Entry → List Entry → List ℕ
later_lines plan seed xs ys = arrival_lines (arrivals_from plan seed (all_of xs) (all_of ys))

log_lines-append : (plan : PlannedCaches) (seed : ℕ) (xs ys : List Entry)
    → log_lines plan seed (xs ++ ys) ≡ log_lines plan seed xs ++ later_lines plan seed xs ys
log_lines-append plan seed xs ys =
    ap (λ es. arrival_lines (arrivals_from plan seed [] es)) (flat_map-append (events_of All) xs ys)
    ∙ ap arrival_lines (arrivals-append plan seed [] (all_of xs) (all_of ys))
    ∙ flat_map-append arrival_line (arrivals_from plan seed [] (all_of xs))
    (arrivals_from plan seed (all_of xs) (all_of ys))

-- the lines of one entry more
pub lines-more : (plan : PlannedCaches) (seed : ℕ) (xs : List Entry) (e : Entry) (text : List ℕ)
    → text ≡ arrival_lines (arrivals_from plan seed (all_of xs) (events_of All e))
    → log_lines plan seed (xs ++ e ∷ []) ≡ log_lines plan seed xs ++ text
lines-more plan seed xs e text is =
    log_lines-append plan seed xs (e ∷ [])
    ∙ ap (λ es. log_lines plan seed xs ++ arrival_lines (arrivals_from plan seed (all_of xs) es))
    (append-nil (events_of All e))
    ∙ ap (λ l. log_lines plan seed xs ++ l) (sym is)

-- what is written of some entries comes before what is written of more, and is all of it at the end
pub along : (plan : PlannedCaches) (seed : ℕ) (format : Format) (limit : ℕ) →
    WritesAlong (log_task plan seed format limit)
unfolding log_task
along plan seed format limit = record {
  partial = λ xs ys. (later_lines plan seed xs ys, log_lines-append plan seed xs ys);
  whole = λ text. ([], sym (append-nil (log_lines plan seed (entries format text))));
}

-- what a system stands for once these entries were read, and what stands written
abbrev pub Logged : PlannedCaches → ℕ → SinkView → SinkView → SystemValue → List Entry → Type 0
Logged plan seed sink sink' v es = SystemStandsFor plan seed (all_of es) v ×
    Wrote sink sink' (log_lines plan seed es)

pub logged-more : (plan : PlannedCaches) (seed : ℕ) (es : List Entry) (e : Entry) (text : List ℕ)
    {sink between sink' : SinkView} {old new : SystemValue} → Logged plan seed sink between old es →
    SystemStandsFor plan seed (all_of es ++ events_of All e) new
    → text ≡ arrival_lines (arrivals_from plan seed (all_of es) (events_of All e)) →
    Wrote between sink' text
    → Logged plan seed sink sink' new (es ++ e ∷ [])
logged-more plan seed es e text {sink} {sink' = sink'} {new = new} so_far stands is wrote = (
  subst (λ xs. SystemStandsFor plan seed xs new) (sym (events_more All es e)) stands,
  subst (Wrote sink sink') (sym (lines-more plan seed es e text is)) (Wrote-more so_far.1 wrote),
)
