-- What contracts see of a session.
use Rattle.std.specs.Prelude.{ℕ}
use Rattle.sq_model.specs.RecordValues.{Journal}
use Rattle.sq_base.specs.StampValue.{StampValue}
use Rattle.sq_steps.specs.Journals.{having_seen, new_journal}

-- What its actor has seen, with its records; and its tallies of the directory and of the ledger.
pub record SessionValue : Type 0 where
  pub journal : Journal
  pub directory_tally : ℕ
  pub ledger_tally : ℕ

-- a session that did nothing yet
abbrev pub new_session : ℕ → SessionValue
new_session actor = record { journal = new_journal actor; directory_tally = 0; ledger_tally = 0 }

-- it has read a part whose last stamp is this
abbrev pub having_read : SessionValue → StampValue → SessionValue
having_read session last = record session { journal = having_seen session.journal last }
