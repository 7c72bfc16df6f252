-- A history of the directory has the event of a record.
use Rattle.std.specs.Prelude.{◌≡◌, ℕ, List, slice_get, Some}
use Rattle.sq_model.specs.Systems.{DirectoryEvent}
use Rattle.sq_model.specs.RecordValues.{DirectoryRecordValue, directory_record_of}

-- a history of the directory has the event of a record of this actor
abbrev pub HasDirectoryEvent : List DirectoryEvent → ℕ → DirectoryRecordValue → Type 0
HasDirectoryEvent events actor n = (e : DirectoryEvent) × (slice_get events n.index ≡ Some e) × (e.actor ≡ actor) × (n ≡ directory_record_of n.index e)
