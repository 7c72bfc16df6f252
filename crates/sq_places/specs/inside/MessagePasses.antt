-- What a pass over the events of a run keeps of one message.
use Rattle.std.specs.Prelude.{ℕ, Bool, false, ◌&&◌, ◌==◌, List, [], ◌∷◌, ◌++◌, if◌then◌else◌, Option, Some, None}
use Rattle.std.specs.List.{fold}
use Rattle.sq_base.specs.declared.message_id.MessageId.{MessageId}
use Rattle.sq_model.specs.declared.calls.HomeCall.{HomeCall}
use Rattle.sq_model.specs.declared.place.Place.{Place}
use Rattle.sq_model.specs.declared.place.Place.TheVariants as at
use Rattle.sq_model.specs.Lineages.{same_id}
use Rattle.sq_model.specs.Places.{place_after}
use Rattle.sq_model.specs.Replays.{HomeEvent}
use Rattle.sq_model.specs.Systems.{Tag, OfDirectory, OfLedger, OfHome}
use Rattle.sq_places.specs.declared.state.RowState.{RowState}
use Rattle.sq_places.specs.declared.state.Policy.{Policy}
use Rattle.sq_places.specs.declared.message_pass.MessageState.{MessageState}
use Rattle.sq_places.specs.declared.message_pass.MessageState.TheVariants.{Unsent, Here, InTransit, Gone}
use Rattle.sq_places.specs.declared.message_pass.MessagePass.{MessagePass}
use Rattle.sq_places.specs.inside.RowStates.{is_past, looked, sent_state, next_policy, Effect, Stays, Arrives, Looks, Leaves, Departs, Enters, Drops, effect_of}

-- what the home at an index goes by after one event more
abbrev pub policy_step : ℕ → Option Policy → Tag → Option Policy
policy_step i policy (OfDirectory e) = policy
policy_step i policy (OfLedger e) = policy
policy_step i policy (OfHome j e) = if j == i then next_policy policy e.call else policy

-- and after these events
abbrev pub policy_at : ℕ → List Tag → Option Policy
policy_at i ts = fold (policy_step i) None ts

-- a row of the home at an index that passes leaves
abbrev pub leaves : ℕ → (RowState → Bool) → Place → MessageState → MessageState
leaves i p place Unsent = Unsent
leaves i p place (Here j row) = if (j == i) && p row then Gone place else Here j row
leaves i p place InTransit = InTransit
leaves i p place (Gone other) = Gone other

abbrev pub changes : ℕ → (RowState → RowState) → MessageState → MessageState
changes i f Unsent = Unsent
changes i f (Here j row) = if j == i then Here j (f row) else Here j row
changes i f InTransit = InTransit
changes i f (Gone place) = Gone place

abbrev pub unexpired_state : ℕ → Option Policy → ℕ → MessageState → MessageState
unexpired_state i None m state = state
unexpired_state i (Some policy) m state = leaves i (is_past policy.retention m) at.Expired state

-- what happens to a message of this lineage
abbrev pub becomes : MessageId → MessageId → MessageState → MessageState → MessageState
becomes x line next state = if same_id x line then next else state

-- what an event of the home at an index makes of it, if it has not expired
abbrev pub state_after : MessageId → ℕ → ℕ → Effect → MessageState → MessageState
state_after x i m Stays state = state
state_after x i m (Arrives sent) state = becomes x sent.id (Here i (sent_state sent m)) state
state_after x i m (Looks picked) state = changes i (looked picked) state
state_after x i m (Leaves p cause) state = leaves i p (place_after cause) state
state_after x i m (Departs row) state = becomes x row.lineage InTransit state
state_after x i m (Enters row) state = becomes x row.lineage (Here i row) state
state_after x i m (Drops line) state = becomes x line (Gone at.Dropped) state

abbrev pub is_state_in : ℕ → MessageState → Bool
is_state_in i Unsent = false
is_state_in i (Here j row) = j == i
is_state_in i InTransit = false
is_state_in i (Gone place) = false

-- What the home of the message goes by after a call of the home at an index, where the message was, came, or is not.
abbrev pub known_policy : List Tag → ℕ → MessagePass → HomeCall → MessageState → Option Policy
known_policy before i k call state = if is_state_in i k.state then next_policy k.policy call else if is_state_in i state then next_policy (policy_at i before) call else k.policy

abbrev pub next_state : MessageId → ℕ → MessagePass → HomeEvent → MessageState
next_state x i k e = state_after x i e.stamp.moment (effect_of e.stamp.moment e.call e.reply) (unexpired_state i k.policy e.stamp.moment k.state)

abbrev pub next_pass : MessageId → List Tag → ℕ → MessagePass → HomeEvent → MessagePass
next_pass x before i k e = record { policy = known_policy before i k e.call (next_state x i k e); state = next_state x i k e }

-- one event more, after these
abbrev pub pass_step : MessageId → List Tag → MessagePass → Tag → MessagePass
pass_step x before k (OfDirectory e) = k
pass_step x before k (OfLedger e) = k
pass_step x before k (OfHome i e) = next_pass x before i k e

abbrev pub pass_from : MessageId → List Tag → MessagePass → List Tag → MessagePass
pass_from x before k [] = k
pass_from x before k (t ∷ ts) = pass_from x (before ++ t ∷ []) (pass_step x before k t) ts

abbrev pub pass_start : MessagePass
pass_start = record { policy = None; state = Unsent }

abbrev pub answer : MessageState → Option Place
answer Unsent = None
answer (Here i row) = Some at.InHome
answer InTransit = Some at.InTransit
answer (Gone place) = Some place
