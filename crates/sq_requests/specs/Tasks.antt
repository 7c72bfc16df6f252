-- What the actions on message move tasks ask (SQS API Reference, Actions), with the checks in the order that is told in Actions.
use Rattle.std.specs.Prelude.{ℕ, List, if◌then◌else◌, Option, Some, None, Result, Ok, Err, codes, ok_or, unwrap_or}
use Rattle.serde_json.specs.Data.{Data}
use Rattle.sq_base.specs.declared.refusal.Refusal.{Refusal}
use Rattle.sq_base.specs.declared.refusal.Refusal.TheVariants.{InvalidParameterValue, InvalidAddress}
use Rattle.sq_policy.specs.Reading.{◌>>=◌}
use Rattle.sq_policy.specs.Amounts.{in_range_if}
use Rattle.sq_requests.specs.Members.{arn_at, arn_if_at, amount_if_at}
use Rattle.sq_requests.specs.declared.tasks.MoveMembers.{MoveMembers}
use Rattle.sq_calls.specs.MoveTasks.{is_destination}
use Rattle.sq_calls.specs.declared.calls.Call.{Call}
use Rattle.sq_calls.specs.declared.calls.Call.TheVariants as call

unfoldable pub move_members : Data → Result MoveMembers Refusal
move_members d = do
  source ← arn_at (codes "SourceArn") d
  destination ← arn_if_at (codes "DestinationArn") d
  rate ← amount_if_at (codes "MaxNumberOfMessagesPerSecond") d
  Ok (record { source = source; destination = destination; rate = rate })

-- a destination that is given is an ARN
abbrev pub destination_of : Option (Option (List ℕ)) → Result (Option (List ℕ)) Refusal
destination_of None = Ok None
destination_of (Some None) = Err InvalidAddress
destination_of (Some (Some name)) = Ok (Some name)

unfoldable pub start_move_of : Data → Result Call Refusal
start_move_of d = do
  members ← move_members d
  source ← ok_or members.source InvalidAddress
  destination ← destination_of members.destination
  rate ← in_range_if 1 500 InvalidParameterValue members.rate
  if is_destination source destination then Err InvalidParameterValue else Ok (call.StartMessageMoveTask (record { source = source; destination = destination; rate = rate }))

-- without a number of tasks one is asked for
unfoldable pub list_moves_of : Data → Result Call Refusal
list_moves_of d = do
  arn ← arn_at (codes "SourceArn") d
  amount ← amount_if_at (codes "MaxResults") d
  source ← ok_or arn InvalidAddress
  max ← in_range_if 1 10 InvalidParameterValue amount
  Ok (call.ListMessageMoveTasks (record { source = source; max = unwrap_or max 1 }))
