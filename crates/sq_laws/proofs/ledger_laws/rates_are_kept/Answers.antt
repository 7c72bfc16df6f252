use Rattle.sq_laws.proofs.RateLaws.{rate_is_kept, rate_of_history}
use Rattle.sq_laws.proofs.ledger_laws.rates_are_kept.Goals as goal

pub returns-clause-rate : goal.returns-clause-rate
returns-clause-rate c = rate_is_kept

pub returns-clause-of_histories : goal.returns-clause-of_histories
returns-clause-of_histories c = rate_of_history
