-- The attributes that a request gives (SQS API Reference, CreateQueue and SetQueueAttributes: Attributes).
use Rattle.std.specs.Prelude.{ℕ, List, Bool, false, not, ◌||◌, nat_lt, if◌then◌else◌, Option, Some, None, option_map, ok_or, Result, Ok, Err, codes, length}
use Rattle.std.specs.List.{list_any}
use Rattle.std.specs.Str.{bytes_eq}
use Rattle.serde_json.specs.Data.{Data, Members}
use Rattle.serde_json.specs.Find.{get, as_object}
use Rattle.sq_base.specs.declared.refusal.Refusal.{Refusal}
use Rattle.sq_base.specs.declared.refusal.Refusal.TheVariants.{InvalidRequest, InvalidAttributeName, InvalidAttributeValue}
use Rattle.sq_json.specs.View.{names_of}
use Rattle.sq_policy.specs.Reading.{◌>>=◌}
use Rattle.sq_policy.specs.Amounts.{attribute_of, some_amount, in_range_if}
use Rattle.sq_policy.specs.PolicyTexts.{redrive_of, allow_of}
use Rattle.sq_policy.specs.declared.amount.Amount.{Amount}
use Rattle.sq_requests.specs.Members.{text_if_at}
use Rattle.sq_requests.specs.declared.attributes.Given.{Given}
use Rattle.sq_model.specs.declared.directory.Attributes.{Attributes}

-- ---- what is given

abbrev pub attribute_in : Option Data → Result (Option Amount) Refusal
attribute_in None = Ok None
attribute_in (Some d) = some_amount (attribute_of d)

-- the numeric attribute of a name, where it is given
unfoldable pub attribute_at : List ℕ → Data → Result (Option Amount) Refusal
attribute_at name d = attribute_in (get name d)

-- the attributes that a queue may be given
unfoldable pub is_settable : List ℕ → Bool
is_settable name =
    bytes_eq name (codes "DelaySeconds") || bytes_eq name (codes "MessageRetentionPeriod")
    || bytes_eq name (codes "ReceiveMessageWaitTimeSeconds") || bytes_eq name (codes "RedriveAllowPolicy")
    || bytes_eq name (codes "RedrivePolicy") || bytes_eq name (codes "VisibilityTimeout")

-- another than these
abbrev pub is_unsettable : List ℕ → Bool
is_unsettable name = not (is_settable name)

-- whether one is among the names
abbrev pub has_other : Members → Bool
has_other members = list_any is_unsettable (names_of members)

-- what is given, a policy as its text
pub record GivenTexts : Type 0 where
  pub delay : Option Amount
  pub retention : Option Amount
  pub wait_time : Option Amount
  pub timeout : Option Amount
  pub redrive : Option (List ℕ)
  pub allow : Option (List ℕ)
  pub has_other : Bool

abbrev pub given_texts : Given → GivenTexts
given_texts given = record {
  delay = given.delay;
  retention = given.retention;
  wait_time = given.wait_time;
  timeout = given.timeout;
  redrive = option_map (λ t. t.now) given.redrive;
  allow = option_map (λ t. t.now) given.allow;
  has_other = given.has_other;
}

unfoldable pub given_in : Data → Result GivenTexts Refusal
given_in d = do
  members ← ok_or (as_object d) InvalidRequest
  delay ← attribute_at (codes "DelaySeconds") d
  retention ← attribute_at (codes "MessageRetentionPeriod") d
  wait_time ← attribute_at (codes "ReceiveMessageWaitTimeSeconds") d
  timeout ← attribute_at (codes "VisibilityTimeout") d
  redrive ← text_if_at (codes "RedrivePolicy") d
  allow ← text_if_at (codes "RedriveAllowPolicy") d
  Ok (record { delay = delay; retention = retention; wait_time = wait_time; timeout = timeout; redrive = redrive; allow = allow; has_other = has_other members })

-- where they must be there
abbrev pub given_of : Option Data → Result GivenTexts Refusal
given_of None = Err InvalidRequest
given_of (Some d) = given_in d

unfoldable pub given_at : Data → Result GivenTexts Refusal
given_at d = given_of (get (codes "Attributes") d)

abbrev pub none_given : GivenTexts
none_given = record {
  delay = None;
  retention = None;
  wait_time = None;
  timeout = None;
  redrive = None;
  allow = None;
  has_other = false;
}

-- where they may be there
abbrev pub given_if_of : Option Data → Result GivenTexts Refusal
given_if_of None = Ok none_given
given_if_of (Some d) = given_in d

unfoldable pub given_if_at : Data → Result GivenTexts Refusal
given_if_at d = given_if_of (get (codes "Attributes") d)

-- ---- what they say: their names first, then the ranges of numbers and the policies

-- the ranges of SQS API Reference, CreateQueue
unfoldable pub numbers_of : GivenTexts → Result Attributes Refusal
numbers_of given = do
  delay ← in_range_if 0 900 InvalidAttributeValue given.delay
  retention ← in_range_if 60 1209600 InvalidAttributeValue given.retention
  wait_time ← in_range_if 0 20 InvalidAttributeValue given.wait_time
  timeout ← in_range_if 0 43200 InvalidAttributeValue given.timeout
  Ok (record { delay = delay; retention = retention; wait_time = wait_time; timeout = timeout; redrive = None; allow = None })

unfoldable pub named_numbers : GivenTexts → Result Attributes Refusal
named_numbers given = if given.has_other then Err InvalidAttributeName else numbers_of given

-- what the text of an attribute means, where it is given
abbrev pub if_given : {A : Type 0} → (List ℕ → Result A Refusal) → Option (List ℕ) → Result (Option A) Refusal
if_given meaning None = Ok None
if_given meaning (Some text) = meaning text >>= λ a. Ok (Some a)

unfoldable pub attributes_of : GivenTexts → Result Attributes Refusal
attributes_of given = do
  numbers ← named_numbers given
  redrive ← if_given redrive_of given.redrive
  allow ← if_given allow_of given.allow
  Ok (record numbers { redrive = redrive; allow = allow })

-- memory is asked for where a policy has a text
abbrev pub has_text : Option (List ℕ) → Bool
has_text None = false
has_text (Some text) = nat_lt 0 (length text)

unfoldable pub attributes_ask : GivenTexts → Result Bool Refusal
attributes_ask given = do
  numbers ← named_numbers given
  Ok (has_text given.redrive || has_text given.allow)
