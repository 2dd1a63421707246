use Rattle.std.proofs.Common.{ℕ, ◌≡◌, ◌∙◌, ◌++◌, ◌∷◌, [], Ok, ap, sym, arith, append-nil}
use Rattle.std.proofs.Common.{fold}
use Rattle.trace_core.specs.Events.{events_of}
use Rattle.trace_core.specs.Reading.{events}
use Rattle.trace_core.specs.declared.events.Entry.{Entry}
use Rattle.trace_core.specs.declared.events.Kind.TheVariants.{All}
use Rattle.trace_core.specs.declared.limits.TheConstants.{MAX_LINES}
use Rattle.cache_core.specs.Geometry.{geometry_value}
use Rattle.cache_core.specs.Windows.{held}
use Rattle.profile_core.specs.profile.State.{empty, after_event, fed_of}
use Rattle.callers.proofs.Touching.{events_in, fed_more, held_at_end, if_known}
use Rattle.callers.proofs.pages.pages_touched.Goals as goal

pub loop-profile-init : goal.loop-profile-init
loop-profile-init g c = (
  [],
  rw c.in_ok-lines.ensures (c.begun_reader_has_read_nothing.ensures c.args.format MAX_LINES
      (g.S.Source.view c.args.source.now)),
  c.in_ok-profile.ensures,
  omega (
    arith,
    ap fed_of c.in_ok-profile.ensures,
    c.new_profile_was_fed_nothing.ensures
        (geometry_value 0 65536 12),
  ),
)

pub loop-profile-preserved : goal.loop-profile-preserved
loop-profile-preserved g c =
    let i = c.loop-profile.invariant in
    let x : ℕ × Entry = (c.in-Some.field-0-0, c.in-Some.entry) in (
      i.0 ++ x ∷ [],
      rw (c.in_ok-entry.was ∙ ap Ok c.in-Some.is) at (c.next.ensures.reached _ _ _ i.0 i.1),
      c.feed_entry.ensures.fed ∙ ap (λ v. fold after_event v (events_of All c.in-Some.entry)) i.2
          ∙ sym (fed_more (empty (geometry_value 0 65536 12)) i.0 x
          (c.events_come_entry_by_entry.ensures All i.0 x)),
      grind arith,
    )

pub returns : goal.returns
returns g c =
    let i = c.loop-profile.invariant in
    let pages = geometry_value 0 65536 12 in
    let start = g.S.Source.view c.args.source.now in
    let ended = c.in_ok-entry.was ∙ ap Ok c.in_default.is in
    let reached = rw (ended, append-nil i.0) at (c.next.ensures.reached _ _ _ i.0 i.1) in
    let reports = rw ended at c.next.ensures.reports in
    if_known start.remaining (λ text. c.held.result ≡ held pages (events c.args.format All text))
    (λ text known.
    let es = events c.args.format All text in
    held_at_end pages es (events_in i.0) c.loop-profile.profile c.held.result
    (c.whole_trace_gives_its_events.ensures.events c.args.format MAX_LINES All text start _ i.0
    c.next.new.self known reached reports)
    (c.stands_after.ensures pages es (grind arith)) (c.events_keep_the_geometry.ensures
    (empty pages) es) i.2 c.held.ensures.trace)
