-- A look, by what it gives: the rows, or none where too many are in flight.
use Rattle.std.specs.Prelude.{◌≡◌, ℕ, ◌+◌, ◌<◌, true, List, length, map, Option, Some, None, unwrap_or}
use Rattle.std.specs.List.{list_any}
use Rattle.sq_base.specs.declared.row.Row.{Row}
use Rattle.sq_model.specs.declared.place.Site.{Site}
use Rattle.sq_model.specs.declared.replies.HomeReply.{HomeReply}
use Rattle.sq_model.specs.declared.replies.HomeReply.TheVariants.{Looked, Over}
use Rattle.sq_model.specs.Rows.{ms, is_live, flights_left, serials_of, received_if}
use Rattle.sq_model.specs.Homes.{Home, Unopened, Serving, Closed, unexpired_rows}
use Rattle.sq_store.specs.Picked.{AreTheirs}

abbrev pub look_reply : Option (List Row) → HomeReply
look_reply None = Over
look_reply (Some picked) = Looked picked

-- what a look leaves
abbrev pub look_after : Home → ℕ → Option ℕ → Option (List Row) → Home
look_after (Serving its) m timeout None = Serving (record its { rows = unexpired_rows its m })
look_after (Serving its) m timeout (Some picked) =
    Serving (record its { rows = map (received_if its.settings (serials_of picked) m (m + ms (unwrap_or timeout its.settings.timeout))) (unexpired_rows its m) })
look_after Unopened m timeout picked = Unopened
look_after Closed m timeout picked = Closed

-- a look gives rows: a live one is there, and fewer are in flight than may be
abbrev pub GivesAny : Site → Home → ℕ → Type 0
GivesAny site (Serving its) m = (list_any (is_live its.settings m) (unexpired_rows its m) ≡ true) × (0 < flights_left site.limits.flights m (unexpired_rows its m))
GivesAny site Unopened m = ⊥
GivesAny site Closed m = ⊥

-- rows are given
abbrev pub GivesRows : Option (List Row) → Type 0
GivesRows None = ⊥
GivesRows (Some picked) = 0 < length picked

-- what was chosen at m is to be given
abbrev pub MayBeGiven : Home → ℕ → Option (List Row) → Type 0
MayBeGiven (Serving its) m (Some picked) = AreTheirs (unexpired_rows its m) picked
MayBeGiven (Serving its) m None = Unit {0}
MayBeGiven Unopened m picked = Unit {0}
MayBeGiven Closed m picked = Unit {0}
