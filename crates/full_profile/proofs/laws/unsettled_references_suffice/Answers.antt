use Rattle.full_profile.proofs.laws.Later.{unsettled_suffice}
use Rattle.full_profile.proofs.laws.unsettled_references_suffice.Goals as goal

pub returns : goal.returns
returns c = λ g h n es x y refs one other refined lags lags'.
    unsettled_suffice g h one other refined n es x y refs lags lags'
