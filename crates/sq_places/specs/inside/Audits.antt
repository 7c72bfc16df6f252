-- What a pass over a run keeps of all messages.
use Rattle.std.proofs.Common.{zero, suc}
use Rattle.std.specs.Prelude.{◌≡◌, ℕ, ◌+◌, Bool, ◌&&◌, ◌==◌, List, [], ◌∷◌, ◌++◌, map, filter, slice_set, get_or, if◌then◌else◌, Option, Some, None}
use Rattle.std.specs.List.{fold}
use Rattle.std.specs.Ordering.{nat_cmp, match_ordering}
use Rattle.sq_base.specs.declared.message_id.MessageId.{MessageId}
use Rattle.sq_model.specs.declared.place.Place.{Place}
use Rattle.sq_model.specs.declared.place.Place.TheVariants as at
use Rattle.sq_base.specs.declared.row.Row.{Row}
use Rattle.sq_model.specs.declared.calls.HomeCall.{HomeCall}
use Rattle.sq_model.specs.declared.replies.HomeReply.{HomeReply}
use Rattle.sq_model.specs.Lineages.{home_ins, home_outs, home_sends}
use Rattle.sq_model.specs.Places.{place_after}
use Rattle.sq_model.specs.Replays.{HomeEvent}
use Rattle.sq_model.specs.Systems.{Tag, OfDirectory, OfLedger, OfHome}
use Rattle.sq_places.specs.declared.state.RowState.{RowState}
use Rattle.sq_places.specs.declared.home_rows.Leaving.{Leaving}
use Rattle.sq_places.specs.declared.home_rows.Leaving.TheVariants.{Past, Named, At}
use Rattle.sq_places.specs.inside.RowStates.{is_past, is_state_named, sent_state, next_policy, Effect, Stays, Arrives, Looks, Leaves, Departs, Enters, Drops, effect_of, kept_states, past_states, states_after}
use Rattle.sq_places.specs.inside.HomeValues.{HomeValue, AuditValue}
use Rattle.sq_places.specs.inside.AllPlaces.{after_move}

abbrev pub no_states : HomeValue
no_states = record { policy = None; rows = [] }

abbrev pub passes : Leaving → RowState → Bool
passes (Past retention m) row = is_past retention m row
passes (Named receipt) row = is_state_named receipt row
passes (At slot serial) row = (row.slot == slot) && (row.serial == serial)

-- what is taken of the row that is there
abbrev pub taken : (RowState → Bool) → Option RowState → Option RowState
taken p None = None
taken p (Some row) = if p row then Some row else None

-- with a row at its place in rising order of serial, for the one of its serial where there is one
abbrev pub put : RowState → List RowState → List RowState
put row [] = row ∷ []
put row (r ∷ rows) = match_ordering (nat_cmp row.serial r.serial) (row ∷ r ∷ rows) (row ∷ rows) (r ∷ put row rows)

-- what an effect makes of rows in rising order of serial
abbrev pub rows_after : ℕ → Effect → List RowState → List RowState
rows_after m (Arrives sent) rows = put (sent_state sent m) rows
rows_after m (Enters row) rows = put row rows
rows_after m effect rows = states_after m effect rows

-- the messages of these rows, each with the place
abbrev pub placed : Place → List RowState → List (MessageId × Place)
placed place rows = map (λ row. (row.lineage, place)) rows

-- who leaves the system by an effect
abbrev pub placed_left : Effect → List RowState → List (MessageId × Place)
placed_left Stays rows = []
placed_left (Arrives sent) rows = []
placed_left (Looks picked) rows = []
placed_left (Leaves p cause) rows = placed (place_after cause) (filter p rows)
placed_left (Departs row) rows = []
placed_left (Enters row) rows = []
placed_left (Drops line) rows = (line, at.Dropped) ∷ []

abbrev pub home_after_event : HomeEvent → HomeValue → HomeValue
home_after_event e h = record { policy = next_policy h.policy e.call; rows = rows_after e.stamp.moment (effect_of e.stamp.moment e.call e.reply) (kept_states h.policy e.stamp.moment h.rows) }

-- who leaves in an event, and for which place
abbrev pub placed_ends : HomeEvent → HomeValue → List (MessageId × Place)
placed_ends e h =
    placed at.Expired (past_states h.policy e.stamp.moment h.rows)
    ++ placed_left (effect_of e.stamp.moment e.call e.reply) (kept_states h.policy e.stamp.moment h.rows)

-- after both the same place is listed of each message
abbrev pub AreSameEnds : List (MessageId × Place) → List (MessageId × Place) → Type 0
AreSameEnds ends others = (x : MessageId) (place : Option Place) → fold (after_move x) place ends ≡ fold (after_move x) place others

abbrev pub placed_rows : Place → List Row → List (MessageId × Place)
placed_rows place rows = map (λ row. (row.lineage, place)) rows

-- who goes into transit in an event, or comes in from there
abbrev pub placed_moves : HomeCall → HomeReply → List (MessageId × Place)
placed_moves call reply = placed_rows at.InTransit (home_outs reply) ++ placed_rows at.InHome (home_ins call)

-- at least so many homes
abbrev pub grown : ℕ → List HomeValue → List HomeValue
grown zero homes = homes
grown (suc n) [] = no_states ∷ grown n []
grown (suc n) (h ∷ homes) = h ∷ grown n homes

abbrev pub no_audit : AuditValue
no_audit = record { homes = []; sends = []; moves = []; ends = [] }

abbrev pub audit_step : AuditValue → Tag → AuditValue
audit_step a (OfDirectory e) = a
audit_step a (OfLedger e) = a
audit_step a (OfHome i e) = record {
  homes = slice_set (grown (i + 1) a.homes) i (home_after_event e (get_or a.homes i no_states));
  sends = a.sends ++ home_sends e.reply;
  moves = a.moves ++ placed_moves e.call e.reply;
  ends = a.ends ++ placed_ends e (get_or a.homes i no_states);
}

-- the same is known after both, whatever the order of those who left at once
pub record IsSameAudit (a b : AuditValue) : Type 0 where
  pub homes : a.homes ≡ b.homes
  pub sends : a.sends ≡ b.sends
  pub moves : a.moves ≡ b.moves
  pub ends : AreSameEnds a.ends b.ends
