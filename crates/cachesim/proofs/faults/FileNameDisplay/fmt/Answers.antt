-- All letters are written at the end.
use Rattle.std.proofs.Common.{flat_map, sym, ap, ◌∙◌, map-id}
use Rattle.std.proofs.lemmas.Iterator.{YieldsList-from_chars}
use Rattle.std.proofs.lemmas.Iterator.Consumers.{YieldsList-end}
use Rattle.std.proofs.Output.{has_written_of_eq}
use Rattle.std.specs.Str.{chars}
use Rattle.cachesim.specs.Names.{shown_letter}
use Rattle.cachesim.proofs.faults.FileNameDisplay.fmt.Goals as goal

pub returns-clause-writes : goal.returns-clause-writes
returns-clause-writes g c plain ok =
    let end = YieldsList-end (YieldsList-from_chars c.deref.result.now c.deref.utf8 cc)
    c.loop-letter.yielded _ c.loop-letter.yielded_by _ _ c.in-None.is c.next.ensures.steps in
    has_written_of_eq _ _ _ _ _
    (ap (flat_map shown_letter) (sym (map-id c.loop-letter.yielded) ∙ end.0
    ∙ ap chars c.deref.ensures))
    (c.loop-letter.invariant plain)
