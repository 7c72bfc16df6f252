-- What contracts see of a pass over a run.
use Rattle.std.specs.Prelude.{List, Option}
use Rattle.sq_base.specs.declared.message_id.MessageId.{MessageId}
use Rattle.sq_model.specs.declared.place.Place.{Place}
use Rattle.sq_places.specs.declared.state.RowState.{RowState}
use Rattle.sq_places.specs.declared.state.Policy.{Policy}

pub record HomeValue : Type 0 where
  pub policy : Option Policy
  pub rows : List RowState

-- the homes, who was sent, who went into transit or came in from there, and who left the system for which place
pub record AuditValue : Type 0 where
  pub homes : List HomeValue
  pub sends : List MessageId
  pub moves : List (MessageId × Place)
  pub ends : List (MessageId × Place)
