-- The texts of ARNs (own), and of queue policies (SQS API Reference, CreateQueue: RedrivePolicy, RedriveAllowPolicy).
use Rattle.std.specs.Prelude.{ℕ, List, [], ◌∷◌, ◌++◌, ◌&&◌, ◌==◌, nat_le, nat_lt, if◌then◌else◌, Option, Some, None, option_map, option_and_then, Result, Ok, Err, ok_or, codes, length, take, drop, map}
use Rattle.std.specs.Str.{bytes_eq}
use Rattle.serde_json.specs.Data.{Data, number, unsigned, string, array, object, Items, no_items, item, member, no_members}
use Rattle.serde_json.specs.Find.{get, as_str, as_array}
use Rattle.serde_json.specs.Read.{read}
use Rattle.serde_json.specs.View.{items_of}
use Rattle.sq_base.specs.Names.{is_name}
use Rattle.sq_base.specs.declared.refusal.Refusal.{Refusal}
use Rattle.sq_base.specs.declared.refusal.Refusal.TheVariants.{InvalidAttributeValue}
use Rattle.sq_model.specs.declared.policy.AllowPolicy.{AllowPolicy}
use Rattle.sq_model.specs.declared.policy.AllowPolicy.TheVariants.{AllowAll, DenyAll, ByQueue}
use Rattle.sq_model.specs.declared.policy.RedrivePolicy.{RedrivePolicy}
use Rattle.sq_policy.specs.Reading.{◌>>=◌}
use Rattle.sq_policy.specs.Amounts.{amount_in_range, attribute_of}
use Rattle.sq_policy.specs.declared.amount.Amount.{Amount}

-- ---- ARNs: a fixed text of 31 bytes, and the queue's name

abbrev pub as_name : List ℕ → Option (List ℕ)
as_name text = if is_name text then Some text else None

-- the queue whose name stands behind a fixed text
unfoldable pub name_behind : List ℕ → List ℕ → Option (List ℕ)
name_behind front text =
    if nat_lt (length text) (length front) then None
    else if bytes_eq (take (length front) text) front then as_name (drop (length front) text) else None

-- the queue that an ARN names
unfoldable pub arn_name : List ℕ → Option (List ℕ)
arn_name text = name_behind (codes "arn:aws:sqs:local:000000000000:") text

-- the ARN of a queue
unfoldable pub arn_text : List ℕ → List ℕ
arn_text name = codes "arn:aws:sqs:local:000000000000:" ++ name

-- ---- what is read; all that is no policy is InvalidAttributeValue

abbrev pub valid : {A : Type 0} → Option A → Result A Refusal
valid found = ok_or found InvalidAttributeValue

-- the queue of an ARN
abbrev pub arn_in : Data → Option (List ℕ)
arn_in d = option_and_then arn_name (as_str d)

unfoldable pub target_in : Data → Result (List ℕ) Refusal
target_in d = valid (option_and_then arn_in (get (codes "deadLetterTargetArn") d))

-- a whole number from 1 to 1000
abbrev pub as_receives : Result Amount Refusal → Result ℕ Refusal
as_receives (Ok amount) = amount_in_range 1 1000 InvalidAttributeValue amount
as_receives (Err e) = Err InvalidAttributeValue

unfoldable pub receives_in : Data → Result ℕ Refusal
receives_in d = valid (get (codes "maxReceiveCount") d) >>= λ count. as_receives (attribute_of count)

unfoldable pub redrive_in : Data → Result RedrivePolicy Refusal
redrive_in d = do
  target ← target_in d
  receives ← receives_in d
  Ok (record { target = target; max_receives = receives })

-- the queues of a list of ARNs, in its order
abbrev pub arn_names : Items → Option (List (List ℕ))
arn_names no_items = Some []
arn_names (item d rest) = option_and_then (λ name. option_map (λ names. name ∷ names) (arn_names rest)) (arn_in d)

abbrev pub one_to_ten : List (List ℕ) → Option (List (List ℕ))
one_to_ten names = if nat_le 1 (length names) && nat_le (length names) 10 then Some names else None

unfoldable pub sources_in : Data → Result (List (List ℕ)) Refusal
sources_in d = valid (option_and_then one_to_ten (option_and_then arn_names (as_array d)))

unfoldable pub permission_in : Data → Result (List ℕ) Refusal
permission_in d = valid (option_and_then as_str (get (codes "redrivePermission") d))

-- what a permission allows where no queues are listed
unfoldable pub allow_unlisted : List ℕ → Result AllowPolicy Refusal
allow_unlisted permission =
    if bytes_eq permission (codes "allowAll") then Ok AllowAll
    else if bytes_eq permission (codes "denyAll") then Ok DenyAll
    else Err InvalidAttributeValue

-- and where they are
unfoldable pub allow_listed : List ℕ → Data → Result AllowPolicy Refusal
allow_listed permission d =
    if bytes_eq permission (codes "byQueue") then (sources_in d >>= λ names. Ok (ByQueue names)) else Err InvalidAttributeValue

abbrev pub allow_with : List ℕ → Option Data → Result AllowPolicy Refusal
allow_with permission None = allow_unlisted permission
allow_with permission (Some d) = allow_listed permission d

unfoldable pub allow_in : Data → Result AllowPolicy Refusal
allow_in d = permission_in d >>= λ permission. allow_with permission (get (codes "sourceQueueArns") d)

-- the value of a text that is not empty
unfoldable pub data_of : List ℕ → Result (Option Data) Refusal
data_of text = if length text == 0 then Ok None else valid (option_map Some (read text))

-- an empty text unsets a policy (SQS API Reference, SetQueueAttributes)
abbrev pub set_by : {A : Type 0} → (Data → Result A Refusal) → Option Data → Result (Option A) Refusal
set_by policy_in None = Ok None
set_by policy_in (Some d) = policy_in d >>= λ policy. Ok (Some policy)

abbrev pub policy_of : {A : Type 0} → (Data → Result A Refusal) → List ℕ → Result (Option A) Refusal
policy_of policy_in text = data_of text >>= set_by policy_in

unfoldable pub redrive_of : List ℕ → Result (Option RedrivePolicy) Refusal
redrive_of text = policy_of redrive_in text

unfoldable pub allow_of : List ℕ → Result (Option AllowPolicy) Refusal
allow_of text = policy_of allow_in text

-- ---- what is written

abbrev pub arn_data : List ℕ → Data
arn_data name = string (arn_text name)

abbrev pub redrive_data : RedrivePolicy → Data
redrive_data policy = object
    (member (codes "deadLetterTargetArn") (arn_data policy.target)
    (member (codes "maxReceiveCount") (number (unsigned policy.max_receives)) no_members))

abbrev pub permission_data : List ℕ → Data
permission_data permission = object (member (codes "redrivePermission") (string permission) no_members)

abbrev pub sources_data : List (List ℕ) → Data
sources_data names = object
    (member (codes "redrivePermission") (string (codes "byQueue"))
    (member (codes "sourceQueueArns") (array (items_of (map arn_data names))) no_members))

abbrev pub allow_data : AllowPolicy → Data
allow_data AllowAll = permission_data (codes "allowAll")
allow_data DenyAll = permission_data (codes "denyAll")
allow_data (ByQueue names) = sources_data names
