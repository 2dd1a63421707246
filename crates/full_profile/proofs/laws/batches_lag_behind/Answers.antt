use Rattle.full_profile.proofs.laws.Later.{lags_new, lags_batch, lags_flush}
use Rattle.full_profile.proofs.laws.batches_lag_behind.Goals as goal

pub returns-clause-new : goal.returns-clause-new
returns-clause-new c = lags_new

pub returns-clause-batch : goal.returns-clause-batch
returns-clause-batch c = λ g n es v refs is lags. lags_batch g is n es v refs lags

pub returns-clause-flush : goal.returns-clause-flush
returns-clause-flush c = lags_flush
