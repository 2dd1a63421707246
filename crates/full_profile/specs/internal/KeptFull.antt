-- A full profile, in whatever way its lists are kept.
use Rattle.full_profile.specs.declared.profile.kept_full.KeptFull.{KeptFull}
use Rattle.full_profile.specs.declared.profile.kept_full.KeptFull.TheVariants.{Rows, Slots, Sparse}
use Rattle.full_profile.specs.declared.profile.kept_full.KeptFull.TheVariants.{Long}
use Rattle.full_profile.specs.State.{FullState}

-- the profile that is kept
abbrev pub full_kept : KeptFull → FullState
full_kept (Rows profile) = profile
full_kept (Slots profile) = profile
full_kept (Sparse profile) = profile
full_kept (Long profile) = profile
