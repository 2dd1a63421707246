-- Worked rows of Dinero's spelling, computed from the definitions.
use Rattle.std.proofs.Common.{◌≡◌, refl, [], ◌∷◌, codes}
use Rattle.options.specs.Respell.{respelling_of}

din_is_respelled : respelling_of (codes "cachesim" ∷ codes "din" ∷ codes "-l1-usize" ∷ codes
    "1k" ∷ codes "-informat" ∷ codes "d" ∷ codes "-t" ∷ codes "f" ∷ [])
    ≡ codes "cachesim" ∷ codes "din" ∷ codes "--l1-usize" ∷ codes "1k" ∷ codes "--informat" ∷ codes
    "d" ∷ codes "-t" ∷ codes "f" ∷ []
din_is_respelled = refl

others_stay : respelling_of (codes "cachesim" ∷ codes "csim" ∷ codes "-l1-usize" ∷ []) ≡ codes
    "cachesim" ∷ codes "csim" ∷ codes "-l1-usize" ∷ []
others_stay = refl
