-- Which events a history has: that of a record, and that of a stamp.
use Rattle.std.specs.Prelude.{◌≡◌, ℕ, List, slice_get, Some}
use Rattle.sq_base.specs.StampValue.{StampValue}
use Rattle.sq_model.specs.declared.event.Event.{Event}
use Rattle.sq_model.specs.declared.event.StepRecord.{StepRecord}
use Rattle.sq_model.specs.Replays.{StampsRise}

-- by its index, its actor, its place and its stamp an event is that of a record of this actor
abbrev pub IsEventOf : {K R : Type 0} → List (Event K R) → ℕ → StepRecord K R → Event K R → Type 0
IsEventOf {K} {R} events actor n e = (slice_get events n.index ≡ Some e) × (e.actor ≡ actor) × (e.place ≡ n.place) × (e.stamp ≡ n.stamp)

-- the stamps of a history rise strictly
pub record Rises {K R : Type 0} (es : List (Event K R)) : Type 0 where
  pub low : StampValue
  pub last : StampValue
  pub rising : StampsRise low es last

-- an event of a history has this stamp
abbrev pub IsEventAt : {K R : Type 0} → List (Event K R) → StampValue → Event K R → Type 0
IsEventAt {K} {R} events stamp e = (k : ℕ) × (slice_get events k ≡ Some e) × (e.stamp ≡ stamp)
