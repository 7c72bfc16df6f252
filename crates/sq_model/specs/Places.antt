-- Where each message of a run is.
use Rattle.std.specs.Prelude.{ℕ, List, [], ◌∷◌, ◌++◌, nat_lt, if◌then◌else◌, Option, Some, None}
use Rattle.std.specs.List.{sum_by}
use Rattle.sq_base.specs.declared.message_id.MessageId.{MessageId}
use Rattle.sq_model.specs.declared.item.Item.{Item}
use Rattle.sq_model.specs.declared.place.Place.{Place}
use Rattle.sq_model.specs.declared.place.Place.TheVariants as at
use Rattle.sq_model.specs.Lineages.{Cause, Expired, Deleted, Purged, ClosedAway, Dropped, Ending, home_drops, home_ends, home_sends, items_with, rows_of, same_id, rows_with, sends_with}
use Rattle.sq_model.specs.Systems.{HomeAt, System, Tag, OfDirectory, OfLedger, OfHome, IsStep, RunFrom}

-- who leaves the system in a step
abbrev pub step_ends : (before : System) (t : Tag) (after : System) → IsStep before t after → List Ending
step_ends before (OfDirectory e) after h = []
step_ends before (OfLedger e) after h = []
step_ends before (OfHome i e) after h = home_ends h.old.home e.stamp.moment e.call ++ home_drops e.call

-- who leaves the system in a run, the first first
abbrev pub run_ends : (before : System) (ts : List Tag) (after : System) → RunFrom before ts after → List Ending
run_ends before [] after r = []
run_ends before (t ∷ ts) after r = step_ends before t r.0 r.1 ++ run_ends r.0 ts after r.2

abbrev pub tag_sends : Tag → List MessageId
tag_sends (OfDirectory e) = []
tag_sends (OfLedger e) = []
tag_sends (OfHome i e) = home_sends e.reply

-- who is sent in a run
abbrev pub run_sends : List Tag → List MessageId
run_sends [] = []
run_sends (t ∷ ts) = tag_sends t ++ run_sends ts

-- how often a message stands in the homes
abbrev pub homes_with : MessageId → List HomeAt → ℕ
homes_with x homes = sum_by (λ h. rows_with x (rows_of h.home)) homes

abbrev pub place_after : Cause → Place
place_after Expired = at.Expired
place_after Deleted = at.Deleted
place_after Purged = at.Purged
place_after ClosedAway = at.ClosedAway
place_after Dropped = at.Dropped

-- a message that did not leave is in transit, or else in a home
abbrev pub place_within : MessageId → List Item → Place
place_within x items = if nat_lt 0 (items_with x items) then at.InTransit else at.InHome

-- by its first ending, or else where it is within the system
abbrev pub first_end : MessageId → List Ending → List Item → Place
first_end x [] items = place_within x items
first_end x (e ∷ es) items = if same_id x e.line then place_after e.cause else first_end x es items

-- where a message is after a run that leaves these items: some place exactly for those that were sent
abbrev pub place_in : MessageId → List MessageId → List Ending → List Item → Option Place
place_in x sends ends items = if nat_lt 0 (sends_with x sends) then Some (first_end x ends items) else None
