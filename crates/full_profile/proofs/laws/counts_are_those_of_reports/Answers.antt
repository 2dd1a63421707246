use Rattle.full_profile.proofs.laws.Reported.{counts_reported, alone_unified, alone_instructions}
use Rattle.full_profile.proofs.laws.Reported.{alone_data}
use Rattle.full_profile.proofs.laws.counts_are_those_of_reports.Goals as goal

pub returns-clause-counts : goal.returns-clause-counts
returns-clause-counts c = counts_reported

pub returns-clause-unified : goal.returns-clause-unified
returns-clause-unified c = alone_unified

pub returns-clause-instructions : goal.returns-clause-instructions
returns-clause-instructions c = alone_instructions

pub returns-clause-data : goal.returns-clause-data
returns-clause-data c = alone_data
