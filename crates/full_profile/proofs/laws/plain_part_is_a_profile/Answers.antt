use Rattle.full_profile.proofs.laws.Runs.{plain_part}
use Rattle.full_profile.proofs.laws.plain_part_is_a_profile.Goals as goal

pub returns : goal.returns
returns c = plain_part
