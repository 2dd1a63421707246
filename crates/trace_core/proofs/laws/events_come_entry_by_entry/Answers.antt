-- The events of one entry more come last.
use Rattle.trace_core.proofs.EntryEvents.{collected-more}
use Rattle.trace_core.proofs.laws.events_come_entry_by_entry.Goals as goal

pub returns : goal.returns
returns c = collected-more
