-- The lines of each cache show what it does.
use Rattle.cache_laws.proofs.LinesLaw.{lines_law}
use Rattle.cache_laws.proofs.lines_show_the_accesses.Goals as goal

pub returns : goal.returns
returns c = lines_law
