-- Which events a history has: that of a record, and that of a stamp.
use Rattle.std.specs.Prelude.{◌≡◌, ◌<◌, ◌≤◌, ℕ, Bool, true, false, List, slice_get, Some}
use Rattle.std.specs.Ordering.{is_lt}
use Rattle.sq_base.specs.StampValue.{StampValue}
use Rattle.sq_base.specs.Stamps.{stamp_cmp}
use Rattle.sq_model.specs.declared.event.Event.{Event}

-- an event is before a stamp
abbrev pub is_event_before : {K R : Type 0} → StampValue → Event K R → Bool
is_event_before {K} {R} stamp e = is_lt (stamp_cmp e.stamp stamp)

-- the events below an index are before a stamp, and those from another index on are not
pub record IsParted {K R : Type 0} (stamp : StampValue) (events : List (Event K R)) (low high : ℕ) : Type 0 where
  pub before : (k : ℕ) (e : Event K R) → slice_get events k ≡ Some e → k < low → is_event_before stamp e ≡ true
  pub not_before : (k : ℕ) (e : Event K R) → slice_get events k ≡ Some e → high ≤ k → is_event_before stamp e ≡ false
