-- All pages are one sweep.
use Rattle.sweep_core.proofs.Pages.{pages-join}
use Rattle.sweep_core.proofs.laws.all_pages.Goals as goal

pub returns : goal.returns
returns c = pages-join
