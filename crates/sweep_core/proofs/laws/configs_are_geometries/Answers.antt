-- The configurations of a space are caches within the limits.
use Rattle.sweep_core.proofs.Validity.{space-limited}
use Rattle.sweep_core.proofs.Depths.{geometry-of, bytes-are, geometry-tested, size-fits}
use Rattle.sweep_core.proofs.laws.configs_are_geometries.Goals as goal

pub returns-clause-limits : goal.returns-clause-limits
returns-clause-limits c space d sound valid = geometry-of space d (space-limited space sound) valid

pub returns-clause-bytes : goal.returns-clause-bytes
returns-clause-bytes c space d sound valid = bytes-are space d valid

pub returns-clause-tested : goal.returns-clause-tested
returns-clause-tested c space d sound valid =
    geometry-tested space d (space-limited space sound) valid

pub returns-clause-fits : goal.returns-clause-fits
returns-clause-fits c space d sound valid = size-fits space d (space-limited space sound) valid
