-- The places of all messages of a run, as a list.
use Rattle.std.specs.Prelude.{◌≡◌, List, if◌then◌else◌, Option, Some, None}
use Rattle.std.specs.List.{fold}
use Rattle.std.specs.List.Sorted.{IsStrictlySortedBy}
use Rattle.std.specs.Map.{lookup, keys_of}
use Rattle.sq_base.specs.declared.message_id.MessageId.{MessageId}
use Rattle.sq_model.specs.declared.place.Place.{Place}
use Rattle.sq_model.specs.declared.place.Place.TheVariants as at
use Rattle.sq_model.specs.Lineages.{same_id}
use Rattle.sq_audit.specs.RunLineages.{id_cmp}

-- what is listed of a message once it is sent
abbrev pub after_send : MessageId → Option Place → MessageId → Option Place
after_send x place id = if same_id x id then Some at.InHome else place

-- and once it goes into transit, comes in or leaves the system
abbrev pub after_move : MessageId → Option Place → MessageId × Place → Option Place
after_move x place e = if same_id x e.0 then Some e.1 else place

abbrev pub sent_place : MessageId → List MessageId → Option Place
sent_place x sends = fold (after_send x) None sends

abbrev pub listed_place : MessageId → List MessageId → List (MessageId × Place) → List (MessageId × Place) → Option Place
listed_place x sends moves ends = fold (after_move x) (fold (after_move x) (sent_place x sends) moves) ends

-- what is listed of each message after these sends, moves and ends
pub record AreListed (sends : List MessageId) (moves ends : List (MessageId × Place)) (listed : List (MessageId × Place)) : Type 0 where
  pub rising : IsStrictlySortedBy id_cmp (keys_of listed)
  pub each : (x : MessageId) → lookup (same_id x) listed ≡ listed_place x sends moves ends
