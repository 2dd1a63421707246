-- What `csim` has found for an entry. Only the proofs need these definitions.
use Rattle.std.specs.Prelude.{List, [], ◌∷◌, Option, None, Some}
use Rattle.std.specs.Option.{option_to_list}
use Rattle.cache_core.specs.declared.simulation.Lookup.{Lookup}

-- the lookups of one reference, or of two in order
abbrev pub lookups_of_pair : Lookup × Option Lookup → List Lookup
lookups_of_pair p = p.0 ∷ option_to_list p.1

-- the lookups of an entry, which may have none
abbrev pub lookups_found : Option (Lookup × Option Lookup) → List Lookup
lookups_found None = []
lookups_found (Some p) = lookups_of_pair p
