-- What the record of a step of a home has of a step of any part.
use Rattle.std.specs.Prelude.{ℕ, List, Option}
use Rattle.sq_base.specs.declared.ids.HomeId.{HomeId}
use Rattle.sq_model.specs.declared.calls.HomeCall.{HomeCall}
use Rattle.sq_model.specs.declared.replies.HomeReply.{HomeReply}
use Rattle.sq_model.specs.declared.event.StepRecord.{StepRecord}
use Rattle.sq_model.specs.RecordValues.{HomeRecordValue}

-- a step, as one of this home by an actor that used this name
abbrev pub with_home : HomeId → Option (List ℕ) → StepRecord HomeCall HomeReply → HomeRecordValue
with_home home name step =
    record { place = step.place; stamp = step.stamp; home = home; index = step.index; call = step.call; reply = step.reply; name = name }

abbrev pub step_of : HomeRecordValue → StepRecord HomeCall HomeReply
step_of n = record { place = n.place; stamp = n.stamp; index = n.index; call = n.call; reply = n.reply }
