-- The places of all messages of a run, as a list.
use Rattle.std.specs.Prelude.{◌≡◌, List}
use Rattle.std.specs.List.Sorted.{IsStrictlySortedBy}
use Rattle.std.specs.Map.{lookup, keys_of}
use Rattle.sq_base.specs.declared.message_id.MessageId.{MessageId}
use Rattle.sq_model.specs.declared.item.Item.{Item}
use Rattle.sq_model.specs.declared.place.Place.{Place}
use Rattle.sq_model.specs.Lineages.{Ending, same_id}
use Rattle.sq_model.specs.Places.{place_in}
use Rattle.sq_audit.specs.RunLineages.{id_cmp}

-- each message that was sent stands once, in rising order of id, with its place, where these items are in transit; no other stands there
pub record ArePlaces (sends : List MessageId) (ends : List Ending) (items : List Item) (listed : List (MessageId × Place)) : Type 0 where
  pub rising : IsStrictlySortedBy id_cmp (keys_of listed)
  pub each : (x : MessageId) → lookup (same_id x) listed ≡ place_in x sends ends items
