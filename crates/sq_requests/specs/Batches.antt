-- What the actions on several messages ask (SQS API Reference, SendMessageBatch, DeleteMessageBatch, ChangeMessageVisibilityBatch): the checks in their order.
-- First all members are read, those of each entry too; then come InvalidAddress, EmptyBatchRequest, TooManyEntriesInBatchRequest, InvalidBatchEntryId, BatchEntryIdsNotDistinct,
-- BatchRequestTooLong. What else is wrong with an entry is its own.
use Rattle.std.specs.Prelude.{ℕ, ◌+◌, ◌==◌, List, [], ◌∷◌, length, Bool, false, not, ◌&&◌, ◌||◌, nat_lt, if◌then◌else◌, Option, Some, None, Result, Ok, Err, codes, is_ok, ok_or}
use Rattle.std.specs.Str.{bytes_eq}
use Rattle.serde_json.specs.Data.{Data, Items, no_items, item}
use Rattle.serde_json.specs.Find.{get, as_array}
use Rattle.sq_base.specs.Names.{is_name}
use Rattle.sq_base.specs.declared.handle.Handle.{Handle}
use Rattle.sq_base.specs.declared.refusal.Refusal.{Refusal}
use Rattle.sq_base.specs.declared.refusal.Refusal.TheVariants.{InvalidRequest, InvalidParameterValue, InvalidAddress, EmptyBatchRequest, TooManyEntriesInBatchRequest, InvalidBatchEntryId, BatchEntryIdsNotDistinct, BatchRequestTooLong, UnsupportedOperation}
use Rattle.sq_policy.specs.Reading.{◌>>=◌}
use Rattle.sq_policy.specs.Amounts.{amount_in_range, in_range_if}
use Rattle.sq_policy.specs.declared.amount.Amount.{Amount}
use Rattle.sq_calls.specs.BodyTexts.{body_limit}
use Rattle.sq_requests.specs.Members.{text_at, url_at, receipt_handle_at, amount_at, amount_if_at}
use Rattle.sq_requests.specs.Lists.{any_item, all_items}
use Rattle.sq_requests.specs.Actions.{body_text, has_attributes_at}
use Rattle.sq_calls.specs.declared.batches.BatchKind.{BatchKind}
use Rattle.sq_calls.specs.declared.batches.BatchKind.TheVariants as kind
use Rattle.sq_calls.specs.declared.batches.Entry.{Entry}
use Rattle.sq_calls.specs.declared.batches.EntryAsk.{EntryAsk}
use Rattle.sq_calls.specs.declared.batches.EntryAsk.TheVariants as ask
use Rattle.sq_calls.specs.declared.calls.Call.{Call}
use Rattle.sq_calls.specs.declared.calls.Call.TheVariants as call

-- ---- what an entry asks

-- a send as an entry: message attributes are not supported; then its delay, and how long its body is
abbrev pub send_ask : Bool → Option Amount → List ℕ → Result EntryAsk Refusal
send_ask has_attributes delay body =
    if has_attributes then Err UnsupportedOperation else (do
      delay ← in_range_if 0 900 InvalidParameterValue delay
      text ← body_text body
      Ok (ask.Send text delay))

abbrev pub change_ask : Option Handle → Amount → Result EntryAsk Refusal
change_ask handle amount = do
  timeout ← amount_in_range 0 43200 InvalidParameterValue amount
  Ok (ask.Change handle timeout)

-- the members of an entry are those of the action on one message, without its URL; what refuses it alone is told of it
unfoldable pub send_of_entry : Data → Result (Result EntryAsk Refusal) Refusal
send_of_entry d = do
  body ← text_at (codes "MessageBody") d
  delay ← amount_if_at (codes "DelaySeconds") d
  has_attributes ← has_attributes_at d
  Ok (send_ask has_attributes delay body)

unfoldable pub delete_of_entry : Data → Result (Result EntryAsk Refusal) Refusal
delete_of_entry d = receipt_handle_at d >>= λ handle. Ok (Ok (ask.Delete handle))

unfoldable pub change_of_entry : Data → Result (Result EntryAsk Refusal) Refusal
change_of_entry d = do
  handle ← receipt_handle_at d
  amount ← amount_at (codes "VisibilityTimeout") d
  Ok (change_ask handle amount)

abbrev pub ask_of : BatchKind → Data → Result (Result EntryAsk Refusal) Refusal
ask_of kind.Send d = send_of_entry d
ask_of kind.Delete d = delete_of_entry d
ask_of kind.Change d = change_of_entry d

-- ---- what is read of all entries

-- the id of an entry, as it is
unfoldable pub entry_id : Data → Result (List ℕ) Refusal
entry_id d = text_at (codes "Id") d

-- its members are there, and have their types
abbrev pub is_entry : BatchKind → Data → Bool
is_entry kind d = is_ok (entry_id d) && is_ok (ask_of kind d)

-- its id has the form of a queue's name: 1 to 80 of letters, digits, `-` and `_`
abbrev pub is_id : Result (List ℕ) Refusal → Bool
is_id (Ok text) = is_name text
is_id (Err e) = false

abbrev pub has_id : Data → Bool
has_id d = is_id (entry_id d)

-- two have the same id; case counts
abbrev pub are_same : Result (List ℕ) Refusal → Result (List ℕ) Refusal → Bool
are_same (Ok a) (Ok b) = bytes_eq a b
are_same a b = false

abbrev pub have_same_id : Data → Data → Bool
have_same_id d e = are_same (entry_id d) (entry_id e)

abbrev pub repeat_an_id : Items → Bool
repeat_an_id no_items = false
repeat_an_id (item d rest) = any_item (have_same_id d) rest || repeat_an_id rest

-- how many bytes a body has; 0 where there is none
abbrev pub length_of : Result (List ℕ) Refusal → ℕ
length_of (Ok text) = length text
length_of (Err e) = 0

unfoldable pub body_length : BatchKind → Data → ℕ
body_length kind.Send d = length_of (text_at (codes "MessageBody") d)
body_length other d = 0

-- how many bytes the bodies have together, also of entries that fail
abbrev pub bodies_length : BatchKind → Items → ℕ
bodies_length kind no_items = 0
bodies_length kind (item d rest) = body_length kind d + bodies_length kind rest

abbrev pub how_many : Items → ℕ
how_many no_items = 0
how_many (item d rest) = 1 + how_many rest

-- ---- a batch

-- the list that must be there
abbrev pub as_items : Option Items → Result Items Refusal
as_items items = ok_or items InvalidRequest

abbrev pub items_in : Option Data → Result Items Refusal
items_in None = Err InvalidRequest
items_in (Some d) = as_items (as_array d)

unfoldable pub items_at : List ℕ → Data → Result Items Refusal
items_at name d = items_in (get name d)

-- the entries, each with its members
unfoldable pub members_of : BatchKind → Items → Result Items Refusal
members_of kind items = if all_items (is_entry kind) items then Ok items else Err InvalidRequest

-- 1 to 10 entries, each with an id, all of them distinct, and bodies of `body_limit` bytes together at most (own)
unfoldable pub batch_check : BatchKind → Items → Result (Unit {0}) Refusal
batch_check kind items =
    if how_many items == 0 then Err EmptyBatchRequest
    else if nat_lt 10 (how_many items) then Err TooManyEntriesInBatchRequest
    else if not (all_items has_id items) then Err InvalidBatchEntryId
    else if repeat_an_id items then Err BatchEntryIdsNotDistinct
    else if nat_lt body_limit (bodies_length kind items) then Err BatchRequestTooLong
    else Ok tt

-- an entry by its id, with what it asks
unfoldable pub entry_of : BatchKind → Data → Result Entry Refusal
entry_of kind d = do
  id ← entry_id d
  asked ← ask_of kind d
  Ok (record { id = id; ask = asked })

abbrev pub entries_of : BatchKind → Items → Result (List Entry) Refusal
entries_of kind no_items = Ok []
entries_of kind (item d rest) = do
  entry ← entry_of kind d
  entries ← entries_of kind rest
  Ok (entry ∷ entries)

unfoldable pub batch_of : BatchKind → Data → Result Call Refusal
batch_of kind d = do
  url ← url_at d
  items ← items_at (codes "Entries") d
  read ← members_of kind items
  queue ← ok_or url InvalidAddress
  checked ← batch_check kind read
  entries ← entries_of kind read
  Ok (call.Batch (record { queue = queue; kind = kind; entries = entries }))
