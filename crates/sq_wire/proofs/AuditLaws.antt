-- No audit has a float.
use Rattle.std.proofs.Common.{◌≡◌, false, List, [], ◌∷◌, map, refl}
use Rattle.serde_json.specs.View.{items_of}
use Rattle.serde_json.specs.Written.{has_float, items_have_float}
use Rattle.sq_base.specs.declared.message_id.MessageId.{MessageId}
use Rattle.sq_model.specs.declared.place.Place.{Place}
use Rattle.sq_model.specs.Systems.{Tag}
use Rattle.sq_wire.specs.Audits.{event_data, placed_data, audit_data}

events_no_float : (run : List Tag) → items_have_float (items_of (map event_data run)) ≡ false
events_no_float [] = refl
events_no_float (event ∷ run) = events_no_float run

places_no_float : (places : List (MessageId × Place)) → items_have_float (items_of (map placed_data places)) ≡ false
places_no_float [] = refl
places_no_float (listed ∷ places) = places_no_float places

pub audit_no_float : (run : List Tag) (places : List (MessageId × Place)) → has_float (audit_data run places) ≡ false
audit_no_float run places = rw (events_no_float run, places_no_float places) refl
