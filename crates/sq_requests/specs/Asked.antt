-- The names of attributes that a request lists.
use Rattle.std.specs.Prelude.{ℕ, List, Bool, false, ◌||◌, if◌then◌else◌, Option, Some, None, Result, Ok, Err, codes, is_some}
use Rattle.std.specs.Str.{bytes_eq}
use Rattle.serde_json.specs.Data.{Data, Items, no_items}
use Rattle.serde_json.specs.Find.{get, as_str, as_array}
use Rattle.sq_base.specs.declared.refusal.Refusal.{Refusal}
use Rattle.sq_base.specs.declared.refusal.Refusal.TheVariants.{InvalidRequest, InvalidAttributeName}
use Rattle.sq_policy.specs.Reading.{◌>>=◌}
use Rattle.sq_requests.specs.Attributes.{is_settable}
use Rattle.sq_requests.specs.Lists.{any_item, all_items}
use Rattle.sq_calls.specs.declared.calls.AskedAttributes.{AskedAttributes}
use Rattle.sq_calls.specs.declared.calls.AskedOfQueue.{AskedOfQueue}

-- a list of names, all of them texts; no name where there is no list
abbrev pub is_text : Data → Bool
is_text d = is_some (as_str d)

abbrev pub as_names : Option Items → Result Items Refusal
as_names None = Err InvalidRequest
as_names (Some names) = if all_items is_text names then Ok names else Err InvalidRequest

abbrev pub names_in : Option Data → Result Items Refusal
names_in None = Ok no_items
names_in (Some d) = as_names (as_array d)

unfoldable pub names_at : List ℕ → Data → Result Items Refusal
names_at name d = names_in (get name d)

abbrev pub asks_text : List ℕ → Option (List ℕ) → Bool
asks_text name None = false
asks_text name (Some text) = bytes_eq text (codes "All") || bytes_eq text name

-- a name asks for the attribute of this name; All asks for each
unfoldable pub asks : List ℕ → Data → Bool
asks name d = asks_text name (as_str d)

-- ---- of messages (SQS API Reference, ReceiveMessage: MessageSystemAttributeNames)

abbrev pub asked_of : Items → AskedAttributes
asked_of names = record {
  receive_count = any_item (asks (codes "ApproximateReceiveCount")) names;
  sent_timestamp = any_item (asks (codes "SentTimestamp")) names;
}

abbrev pub either : AskedAttributes → AskedAttributes → AskedAttributes
either a b = record { receive_count = a.receive_count || b.receive_count; sent_timestamp = a.sent_timestamp || b.sent_timestamp }

-- what either list asks for (the second is the older name of the first)
unfoldable pub asked_at : Data → Result AskedAttributes Refusal
asked_at d = do
  a ← names_at (codes "MessageSystemAttributeNames") d
  b ← names_at (codes "AttributeNames") d
  Ok (either (asked_of a) (asked_of b))

-- ---- of a queue (SQS API Reference, GetQueueAttributes: AttributeNames)

-- the attributes that cannot be set
unfoldable pub is_only_read : List ℕ → Bool
is_only_read name =
    bytes_eq name (codes "ApproximateNumberOfMessages") || bytes_eq name (codes "ApproximateNumberOfMessagesDelayed")
    || bytes_eq name (codes "ApproximateNumberOfMessagesNotVisible") || bytes_eq name (codes "QueueArn")

abbrev pub is_known_text : Option (List ℕ) → Bool
is_known_text None = false
is_known_text (Some name) = bytes_eq name (codes "All") || is_settable name || is_only_read name

unfoldable pub is_known : Data → Bool
is_known d = is_known_text (as_str d)

unfoldable pub attributes_asked : Items → AskedOfQueue
attributes_asked names = record {
  visible = any_item (asks (codes "ApproximateNumberOfMessages")) names;
  delayed = any_item (asks (codes "ApproximateNumberOfMessagesDelayed")) names;
  in_flight = any_item (asks (codes "ApproximateNumberOfMessagesNotVisible")) names;
  delay = any_item (asks (codes "DelaySeconds")) names;
  retention = any_item (asks (codes "MessageRetentionPeriod")) names;
  arn = any_item (asks (codes "QueueArn")) names;
  wait_time = any_item (asks (codes "ReceiveMessageWaitTimeSeconds")) names;
  allow = any_item (asks (codes "RedriveAllowPolicy")) names;
  redrive = any_item (asks (codes "RedrivePolicy")) names;
  timeout = any_item (asks (codes "VisibilityTimeout")) names;
}

unfoldable pub asked_of_queue : Items → Result AskedOfQueue Refusal
asked_of_queue names = if all_items is_known names then Ok (attributes_asked names) else Err InvalidAttributeName
