-- What the actions on queues ask (SQS API Reference, Actions), with the checks in the order that is told in Actions.
use Rattle.std.specs.Prelude.{ℕ, List, Bool, ◌==◌, if◌then◌else◌, Option, Some, None, Result, Ok, codes, ok_or, length}
use Rattle.serde_json.specs.Data.{Data}
use Rattle.sq_base.specs.declared.refusal.Refusal.{Refusal}
use Rattle.sq_base.specs.declared.refusal.Refusal.TheVariants.{InvalidParameterValue, InvalidAddress}
use Rattle.sq_model.specs.declared.directory.NamePrefix.{NamePrefix}
use Rattle.sq_model.specs.declared.directory.NamePrefix.TheVariants.{Any, Text, NoName}
use Rattle.sq_policy.specs.Reading.{◌>>=◌}
use Rattle.sq_policy.specs.PolicyTexts.{as_name}
use Rattle.sq_requests.specs.Members.{text_at, text_if_at, url_at}
use Rattle.sq_requests.specs.Attributes.{given_at, given_if_at, attributes_of, attributes_ask}
use Rattle.sq_requests.specs.Asked.{names_at, asked_of_queue}
use Rattle.sq_calls.specs.declared.calls.Call.{Call}
use Rattle.sq_calls.specs.declared.calls.Call.TheVariants as call

-- the name is checked last
unfoldable pub create_of : Data → Result Call Refusal
create_of d = do
  text ← text_at (codes "QueueName") d
  given ← given_if_at d
  attributes ← attributes_of given
  name ← ok_or (as_name text) InvalidParameterValue
  Ok (call.CreateQueue (record { name = name; attributes = attributes }))

unfoldable pub create_asks : Data → Result Bool Refusal
create_asks d = do
  text ← text_at (codes "QueueName") d
  given ← given_if_at d
  attributes_ask given

unfoldable pub set_of : Data → Result Call Refusal
set_of d = do
  url ← url_at d
  given ← given_at d
  queue ← ok_or url InvalidAddress
  attributes ← attributes_of given
  Ok (call.SetQueueAttributes (record { queue = queue; attributes = attributes }))

unfoldable pub set_asks : Data → Result Bool Refusal
set_asks d = do
  url ← url_at d
  given ← given_at d
  queue ← ok_or url InvalidAddress
  attributes_ask given

unfoldable pub get_of : Data → Result Call Refusal
get_of d = do
  url ← url_at d
  names ← names_at (codes "AttributeNames") d
  queue ← ok_or url InvalidAddress
  asked ← asked_of_queue names
  Ok (call.GetQueueAttributes (record { queue = queue; asked = asked }))

unfoldable pub get_url_of : Data → Result Call Refusal
get_url_of d = do
  text ← text_at (codes "QueueName") d
  name ← ok_or (as_name text) InvalidParameterValue
  Ok (call.GetQueueUrl name)

-- an empty text is the beginning of each name, and a text that could be no name is that of none
abbrev pub prefix_by : Option (List ℕ) → NamePrefix
prefix_by None = NoName
prefix_by (Some name) = Text name

unfoldable pub prefix_of : List ℕ → NamePrefix
prefix_of text = if length text == 0 then Any else prefix_by (as_name text)

abbrev pub prefix_if : Option (List ℕ) → NamePrefix
prefix_if None = Any
prefix_if (Some text) = prefix_of text

unfoldable pub list_of : Data → Result Call Refusal
list_of d = do
  text ← text_if_at (codes "QueueNamePrefix") d
  Ok (call.ListQueues (prefix_if text))

-- the queue of a request that asks no more than that
unfoldable pub named_queue : Data → Result (List ℕ) Refusal
named_queue d = do
  url ← url_at d
  ok_or url InvalidAddress
