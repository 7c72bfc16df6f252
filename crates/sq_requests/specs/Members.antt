-- What a member of a request says. One of a wrong type is InvalidRequest, and so is a missing one that must be there.
use Rattle.std.specs.Prelude.{ℕ, List, Bool, false, Option, Some, None, Result, Ok, Err, codes, option_and_then, ok_or}
use Rattle.serde_json.specs.Data.{Data, Members}
use Rattle.serde_json.specs.Find.{get, as_str, as_number, as_object}
use Rattle.sq_base.specs.Handles.{handle_at}
use Rattle.sq_base.specs.declared.handle.Handle.{Handle}
use Rattle.sq_base.specs.declared.refusal.Refusal.{Refusal}
use Rattle.sq_base.specs.declared.refusal.Refusal.TheVariants.{InvalidRequest}
use Rattle.sq_json.specs.View.{has_any}
use Rattle.sq_policy.specs.Reading.{◌>>=◌}
use Rattle.sq_policy.specs.Amounts.{amount_of, some_amount}
use Rattle.sq_policy.specs.PolicyTexts.{name_behind, arn_name}
use Rattle.sq_policy.specs.declared.amount.Amount.{Amount}
use Rattle.sq_calls.specs.TaskHandles.{task_handle_at}

-- the text of a member that must be there
abbrev pub as_text : Option (List ℕ) → Result (List ℕ) Refusal
as_text text = ok_or text InvalidRequest

unfoldable pub text_at : List ℕ → Data → Result (List ℕ) Refusal
text_at name d = as_text (option_and_then as_str (get name d))

-- and of one that may be there
abbrev pub as_text_if : Option (List ℕ) → Result (Option (List ℕ)) Refusal
as_text_if None = Err InvalidRequest
as_text_if (Some text) = Ok (Some text)

abbrev pub text_if_in : Option Data → Result (Option (List ℕ)) Refusal
text_if_in None = Ok None
text_if_in (Some d) = as_text_if (as_str d)

unfoldable pub text_if_at : List ℕ → Data → Result (Option (List ℕ)) Refusal
text_if_at name d = text_if_in (get name d)

-- a queue's URL: a fixed text and the queue's name
unfoldable pub url_name : List ℕ → Option (List ℕ)
url_name url = name_behind (codes "http://localhost/000000000000/") url

-- the queue of the URL (SQS API Reference, QueueUrl), where it is one
unfoldable pub url_at : Data → Result (Option (List ℕ)) Refusal
url_at d = text_at (codes "QueueUrl") d >>= λ url. Ok (url_name url)

-- what the receipt handle names (SQS API Reference, ReceiptHandle), where it is one
unfoldable pub receipt_handle_at : Data → Result (Option Handle) Refusal
receipt_handle_at d = text_at (codes "ReceiptHandle") d >>= λ handle. Ok (handle_at handle)

-- the queue of a member that must be an ARN, where it is one
unfoldable pub arn_at : List ℕ → Data → Result (Option (List ℕ)) Refusal
arn_at name d = text_at name d >>= λ arn. Ok (arn_name arn)

-- and of one that may be there
abbrev pub arn_if : Option (List ℕ) → Option (Option (List ℕ))
arn_if None = None
arn_if (Some arn) = Some (arn_name arn)

unfoldable pub arn_if_at : List ℕ → Data → Result (Option (Option (List ℕ))) Refusal
arn_if_at name d = text_if_at name d >>= λ arn. Ok (arn_if arn)

-- the task that a handle names (SQS API Reference, TaskHandle), where it is one
unfoldable pub named_task : Data → Result (Option ℕ) Refusal
named_task d = text_at (codes "TaskHandle") d >>= λ handle. Ok (task_handle_at handle)

-- whether a member that may be there is an object with members
abbrev pub as_members : Option Members → Result Bool Refusal
as_members None = Err InvalidRequest
as_members (Some members) = Ok (has_any members)

abbrev pub has_members : Option Data → Result Bool Refusal
has_members None = Ok false
has_members (Some d) = as_members (as_object d)

unfoldable pub has_members_at : List ℕ → Data → Result Bool Refusal
has_members_at name d = has_members (get name d)

-- the whole number of a member that must be there
abbrev pub amount_in : Option Data → Result Amount Refusal
amount_in None = Err InvalidRequest
amount_in (Some d) = amount_of (as_number d)

unfoldable pub amount_at : List ℕ → Data → Result Amount Refusal
amount_at name d = amount_in (get name d)

-- and of one that may be there
abbrev pub amount_if_in : Option Data → Result (Option Amount) Refusal
amount_if_in None = Ok None
amount_if_in (Some d) = some_amount (amount_of (as_number d))

unfoldable pub amount_if_at : List ℕ → Data → Result (Option Amount) Refusal
amount_if_at name d = amount_if_in (get name d)
