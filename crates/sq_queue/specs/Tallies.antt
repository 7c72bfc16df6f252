-- How many of an actor's records are of the directory, and how many of the ledger: a step that the ledger shares with a home is one of the ledger too.
use Rattle.std.specs.Prelude.{ℕ, Bool, true, false, not, List}
use Rattle.std.specs.List.{count_by}
use Rattle.sq_model.specs.Systems.{is_alone}
use Rattle.sq_model.specs.RecordValues.{RecordValue, OfDirectory, OfLedger, OfHome}

abbrev pub is_of_directory : RecordValue → Bool
is_of_directory (OfDirectory n) = true
is_of_directory (OfLedger n) = false
is_of_directory (OfHome n) = false

abbrev pub is_of_ledger : RecordValue → Bool
is_of_ledger (OfDirectory n) = false
is_of_ledger (OfLedger n) = true
is_of_ledger (OfHome n) = not (is_alone n.call)

abbrev pub directory_records : List RecordValue → ℕ
directory_records ns = count_by is_of_directory ns

abbrev pub ledger_records : List RecordValue → ℕ
ledger_records ns = count_by is_of_ledger ns
