use Rattle.std.proofs.Common.{◌≡◌, ap, sym}
use Rattle.std.proofs.lemmas.Option.{same_Some}
use Rattle.callers.proofs.readers.entries_in_pieces.Goals as goal

pub returns : goal.returns
returns c =
    let text : c.new-source.result.rest ≡ c.args.text.now =
    same_Some _ _ (ap (λ v. v.remaining) c.new-source.ensures.view) in
    rw (sym text) c.all_entries.ensures
