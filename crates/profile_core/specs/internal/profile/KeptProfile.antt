-- A profile, in whatever way its lists are kept.
use Rattle.profile_core.specs.declared.profile.kept_profile.KeptProfile.{KeptProfile}
use Rattle.profile_core.specs.declared.profile.kept_profile.KeptProfile.TheVariants.{InRows}
use Rattle.profile_core.specs.declared.profile.kept_profile.KeptProfile.TheVariants.{InSlots}
use Rattle.profile_core.specs.declared.profile.kept_profile.KeptProfile.TheVariants.{InSparseRows}
use Rattle.profile_core.specs.declared.profile.kept_profile.KeptProfile.TheVariants.{Long}
use Rattle.profile_core.specs.profile.State.{ProfileState}

-- the profile that is kept
abbrev pub profile_kept : KeptProfile → ProfileState
profile_kept (InRows profile) = profile
profile_kept (InSlots profile) = profile
profile_kept (InSparseRows profile) = profile
profile_kept (Long profile) = profile
