-- Two pages are one sweep.
use Rattle.sweep_core.proofs.Pages.{texts-join}
use Rattle.sweep_core.proofs.laws.pages.Goals as goal

pub returns : goal.returns
returns c = texts-join
