-- The text of an audit: all that was done in the order of the one run, each event by its stamp, and where each message is.
use Rattle.std.specs.Prelude.{◌≡◌, ℕ, List, ◌++◌, map, codes, decimal}
use Rattle.serde_json.specs.Data.{Data, object, array, string, item, no_items, member, no_members}
use Rattle.serde_json.specs.View.{items_of}
use Rattle.serde_json.specs.Written.{compact_text}
use Rattle.sq_base.specs.StampValue.{StampValue}
use Rattle.sq_base.specs.declared.message_id.MessageId.{MessageId}
use Rattle.sq_model.specs.declared.item.Item.{Item}
use Rattle.sq_model.specs.declared.place.Place.{Place}
use Rattle.sq_model.specs.declared.place.Place.TheVariants.{InHome, InTransit, Deleted, Expired, Purged, ClosedAway, Dropped}
use Rattle.sq_model.specs.Lineages.{Ending}
use Rattle.sq_model.specs.Matches.{IsMatched, IsPaired}
use Rattle.sq_model.specs.Merges.{IsMerged}
use Rattle.sq_model.specs.Places.{run_ends, run_sends}
use Rattle.sq_model.specs.Systems.{Tag, stamp_of, opening, IsRun, IsOnePlace}
use Rattle.sq_audit.specs.Actors.{ActorsRise, PartsRise}
use Rattle.sq_audit.specs.SystemNow.{events_of, system_now, opening_now}
use Rattle.sq_merge.specs.WorldValue.{WorldValue}
use Rattle.sq_history.specs.HomeIds.{IsNumbered}
use Rattle.sq_audit.specs.HomeHistories.{histories_of}
use Rattle.sq_places.specs.AllPlaces.{ArePlaces}
use Rattle.sq_replies.specs.Replies.{id_text}

-- the moment in ms and the count, in decimal digits. Own.
abbrev pub stamp_text : StampValue → List ℕ
stamp_text s = decimal s.moment ++ (codes "." ++ decimal s.count)

-- the word for where a message is. Own.
abbrev pub place_name : Place → List ℕ
place_name InHome = codes "home"
place_name InTransit = codes "transit"
place_name Deleted = codes "deleted"
place_name Expired = codes "expired"
place_name Purged = codes "purged"
place_name ClosedAway = codes "closed"
place_name Dropped = codes "dropped"

abbrev pub event_data : Tag → Data
event_data event = string (stamp_text (stamp_of event))

-- the UUID of the message, and where it is
abbrev pub placed_data : MessageId × Place → Data
placed_data listed = array (item (string (id_text listed.0)) (item (string (place_name listed.1)) no_items))

abbrev pub events_data : List Tag → Data
events_data run = array (items_of (map event_data run))

abbrev pub places_data : List (MessageId × Place) → Data
places_data places = array (items_of (map placed_data places))

-- both lists in their order
abbrev pub audit_data : List Tag → List (MessageId × Place) → Data
audit_data run places = object (member (codes "Merged") (events_data run) (member (codes "Places") (places_data places) no_members))

-- the text is that of the stamps of a run in their order, and of some places
abbrev pub ListsPlaces : List Tag → List ℕ → Type 0
ListsPlaces run text = (listed : List (MessageId × Place)) × (text ≡ compact_text (audit_data run listed))

-- the text tells the stamps of a run in their order, and of each message that was sent in it, by these endings of the run and what it leaves in transit, where it is
abbrev pub TellsRun : List Tag → List Ending → List Item → List ℕ → Type 0
TellsRun run ends items text = (listed : List (MessageId × Place)) × ArePlaces (run_sends run) ends items listed × (text ≡ compact_text (audit_data run listed))

-- The text tells one run of the whole system. Its events are those of the directory, of the ledger and of all homes and no others, sorted by
-- stamp, and what a home shares with the ledger once; each is a step of the sequential system, from its opening to what the world is; those of each actor
-- stand in its order, and so do those of each part. Homes stand by queue and number, each once, so that the law of one place is true of the
-- run. Each event has its record, and each record its event. Each message that was sent is listed once, with where it is.
pub record IsAudit (w : WorldValue) (text : List ℕ) : Type 0 where
  pub run : List Tag
  pub matched : IsMatched w.directory.events w.ledger.events (histories_of w.homes) w.journals
  pub paired : IsPaired w.ledger.events (histories_of w.homes)
  pub merged : IsMerged w.directory.events w.ledger.events (events_of w.homes) run
  pub is_run : IsRun (opening_now w.directory w.ledger w.homes) run (system_now w.directory w.ledger w.homes)
  pub actors : ActorsRise run
  pub parts : PartsRise run
  pub numbered : IsNumbered w.per_queue w.homes
  pub one_place : IsOnePlace (map (λ h. h.site) w.homes)
  pub tells : TellsRun run (run_ends (opening (opening_now w.directory w.ledger w.homes)) run (system_now w.directory w.ledger w.homes) is_run.steps) w.ledger.ledger.items text
