-- What the actions on messages ask (SQS API Reference, Actions): the checks in their order. First all members are read; then come
-- UnsupportedOperation, InvalidAddress, InvalidAttributeName, InvalidAttributeValue, InvalidParameterValue.
use Rattle.std.specs.Prelude.{ℕ, List, Bool, ◌||◌, if◌then◌else◌, Result, Ok, Err, codes, ok_or, unwrap_or}
use Rattle.serde_json.specs.Data.{Data}
use Rattle.sq_base.specs.declared.refusal.Refusal.{Refusal}
use Rattle.sq_base.specs.declared.refusal.Refusal.TheVariants.{InvalidParameterValue, InvalidAddress, UnsupportedOperation}
use Rattle.sq_policy.specs.Reading.{◌>>=◌}
use Rattle.sq_policy.specs.Amounts.{amount_in_range, in_range_if}
use Rattle.sq_requests.specs.Members.{text_at, url_at, receipt_handle_at, has_members_at, amount_at, amount_if_at}
use Rattle.sq_requests.specs.Asked.{asked_at}
use Rattle.sq_requests.specs.declared.actions.SendMembers.{SendMembers}
use Rattle.sq_requests.specs.declared.actions.ReceiveMembers.{ReceiveMembers}
use Rattle.sq_requests.specs.declared.actions.Addressee.{Addressee}
use Rattle.sq_calls.specs.BodyTexts.{is_too_small_or_large}
use Rattle.sq_calls.specs.declared.calls.Call.{Call}
use Rattle.sq_calls.specs.declared.calls.Call.TheVariants as call

-- message attributes are given, or message system attributes
unfoldable pub has_attributes_at : Data → Result Bool Refusal
has_attributes_at d = do
  attributes ← has_members_at (codes "MessageAttributes") d
  system_attributes ← has_members_at (codes "MessageSystemAttributes") d
  Ok (attributes || system_attributes)

unfoldable pub send_members : Data → Result SendMembers Refusal
send_members d = do
  queue ← url_at d
  delay ← amount_if_at (codes "DelaySeconds") d
  has_attributes ← has_attributes_at d
  Ok (record { queue = queue; delay = delay; has_attributes = has_attributes })

-- a body of 1 to `body_limit` bytes
abbrev pub body_text : List ℕ → Result (List ℕ) Refusal
body_text body = if is_too_small_or_large body then Err InvalidParameterValue else Ok body

unfoldable pub addressed : SendMembers → Result Addressee Refusal
addressed members =
    if members.has_attributes then Err UnsupportedOperation else (do
      queue ← ok_or members.queue InvalidAddress
      delay ← in_range_if 0 900 InvalidParameterValue members.delay
      Ok (record { queue = queue; delay = delay }))

unfoldable pub send_of : Data → Result Call Refusal
send_of d = do
  body ← text_at (codes "MessageBody") d
  members ← send_members d
  to ← addressed members
  text ← body_text body
  Ok (call.SendMessage (record { queue = to.queue; body = text; delay = to.delay }))

unfoldable pub receive_members : Data → Result ReceiveMembers Refusal
receive_members d = do
  queue ← url_at d
  max ← amount_if_at (codes "MaxNumberOfMessages") d
  timeout ← amount_if_at (codes "VisibilityTimeout") d
  wait_time ← amount_if_at (codes "WaitTimeSeconds") d
  attributes ← asked_at d
  Ok (record { queue = queue; max = max; timeout = timeout; wait_time = wait_time; attributes = attributes })

-- without a number of messages one is asked for; the wait time is without effect
unfoldable pub receive_of : Data → Result Call Refusal
receive_of d = do
  members ← receive_members d
  queue ← ok_or members.queue InvalidAddress
  max ← in_range_if 1 10 InvalidParameterValue members.max
  timeout ← in_range_if 0 43200 InvalidParameterValue members.timeout
  wait_time ← in_range_if 0 20 InvalidParameterValue members.wait_time
  Ok (call.ReceiveMessage (record { queue = queue; max = unwrap_or max 1; timeout = timeout; attributes = members.attributes }))

unfoldable pub delete_of : Data → Result Call Refusal
delete_of d = do
  url ← url_at d
  handle ← receipt_handle_at d
  queue ← ok_or url InvalidAddress
  Ok (call.DeleteMessage (record { queue = queue; handle = handle }))

unfoldable pub change_of : Data → Result Call Refusal
change_of d = do
  url ← url_at d
  handle ← receipt_handle_at d
  amount ← amount_at (codes "VisibilityTimeout") d
  queue ← ok_or url InvalidAddress
  timeout ← amount_in_range 0 43200 InvalidParameterValue amount
  Ok (call.ChangeMessageVisibility (record { queue = queue; handle = handle; timeout = timeout }))
