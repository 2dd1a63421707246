-- A sweep in pages.
use Rattle.std.specs.Prelude.{◌≡◌, ℕ, Some, List, [], ◌∷◌, ◌++◌, take, drop}
use Rattle.sweep_core.specs.declared.space.Config.{Config}
use Rattle.sweep_core.specs.declared.request.Request.{Request}
use Rattle.sweep_core.specs.SweepText.{configs_of}

-- pages of n rows: the first, and then those after its last row, until no configuration follows
abbrev pub ArePages : ℕ → Request → List Request → Type 0
ArePages n r [] = ⊥
ArePages n r (page ∷ []) = (page ≡ record r { rows = Some n }) × (drop n (configs_of r) ≡ [])
ArePages n r (page ∷ next ∷ more) =
    (page ≡ record r { rows = Some n })
    × (front : List Config) × (last : Config) × (take n (configs_of r) ≡ front ++ last ∷ [])
    × ArePages n (record r { after = Some last }) (next ∷ more)
