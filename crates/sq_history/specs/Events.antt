-- Whether a home's history has the event of a record.
use Rattle.std.specs.Prelude.{◌≡◌, ℕ, List, slice_get, Some}
use Rattle.sq_model.specs.Replays.{HomeEvent}
use Rattle.sq_model.specs.RecordValues.{HomeRecordValue, home_record_of}

-- a home's history has the event of a record of this actor
abbrev pub HasHomeEvent : List HomeEvent → ℕ → HomeRecordValue → Type 0
HasHomeEvent events actor n = (e : HomeEvent) × (slice_get events n.index ≡ Some e) × (e.actor ≡ actor) × (n ≡ home_record_of n.home n.index n.name e)
