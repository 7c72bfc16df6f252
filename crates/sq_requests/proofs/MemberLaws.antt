-- What members that were read give together.
use Rattle.std.proofs.Common.{◌≡◌, ℕ, Bool, List, Option, Some, Ok, Err, true, false, refl, ◌⊎◌, inl, inr}
use Rattle.std.specs.Prelude.{◌||◌, codes}
use Rattle.serde_json.specs.Data.{Data}
use Rattle.sq_base.specs.Handles.{handle_at}
use Rattle.sq_base.specs.declared.handle.Handle.{Handle}
use Rattle.sq_base.specs.declared.refusal.Refusal.{Refusal}
use Rattle.sq_base.specs.declared.refusal.Refusal.TheVariants.{InvalidParameterValue, NoMemory}
use Rattle.sq_calls.specs.BodyTexts.{is_too_small_or_large}
use Rattle.sq_calls.specs.declared.calls.Call.TheVariants as call
use Rattle.sq_policy.specs.Amounts.{amount_in_range}
use Rattle.sq_policy.specs.Reading.{◌>>=◌, Reads}
use Rattle.sq_policy.specs.declared.amount.Amount.{Amount}
use Rattle.sq_requests.specs.Actions.{addressed, body_text, change_of, has_attributes_at, send_members, send_of}
use Rattle.sq_requests.specs.Members.{amount_at, amount_if_at, arn_at, arn_if, arn_if_at, has_members_at, receipt_handle_at, text_at, text_if_at, url_at}
use Rattle.sq_requests.specs.Tasks.{move_members}
use Rattle.sq_requests.specs.declared.actions.Addressee.{Addressee}
use Rattle.sq_requests.specs.declared.actions.SendMembers.{SendMembers}

pub names_receipt : (d : Data) (text : List ℕ) (handle : Option Handle) → Ok text ≡ text_at (codes "ReceiptHandle") d → handle ≡ handle_at text → Ok handle ≡ receipt_handle_at d
unfolding receipt_handle_at
names_receipt d text handle read is = rw (← read, is) refl

pub may_name : (name : List ℕ) (d : Data) (text : Option (List ℕ)) (arn : Option (Option (List ℕ))) → Ok text ≡ text_if_at name d → arn ≡ arn_if text → Ok arn ≡ arn_if_at name d
unfolding arn_if_at
may_name name d text arn read is = rw (← read, is) refl

pub moves : (d : Data) (source : Option (List ℕ)) (destination : Option (Option (List ℕ))) (rate : Option Amount)
    → Ok source ≡ arn_at (codes "SourceArn") d → Ok destination ≡ arn_if_at (codes "DestinationArn") d → Ok rate ≡ amount_if_at (codes "MaxNumberOfMessagesPerSecond") d
    → Ok (record { source = source; destination = destination; rate = rate }) ≡ move_members d
unfolding move_members
moves d source destination rate a b c = rw (← a, ← b, ← c) refl

pub either_given : (d : Data) (a b given : Bool) → Ok a ≡ has_members_at (codes "MessageAttributes") d → Ok b ≡ has_members_at (codes "MessageSystemAttributes") d → given ≡ (a || b) → Ok given ≡ has_attributes_at d
unfolding has_attributes_at
either_given d a b given one other is = rw (← one, ← other, is) refl

pub sends : (d : Data) (body : List ℕ) (members : SendMembers) (to : Addressee) → Ok body ≡ text_at (codes "MessageBody") d → Ok members ≡ send_members d → Ok to ≡ addressed members
    → send_of d ≡ (body_text body >>= λ text. Ok (call.SendMessage (record { queue = to.queue; body = text; delay = to.delay })))
unfolding send_of
sends d body members to a b c = rw (← a, ← b, ← c) refl

-- a body that has not the length of one, or for which there is no memory
pub refuses_body : {A : Type 0} (body : List ℕ) (e : Refusal) (f : List ℕ → A)
    → ((e ≡ InvalidParameterValue) × (is_too_small_or_large body ≡ true)) ⊎ ((e ≡ NoMemory) × (is_too_small_or_large body ≡ false)) → Reads (Err e) (body_text body >>= λ text. Ok (f text))
refuses_body body e f (inl h) = rw (h.0, h.1) refl
refuses_body body e f (inr h) = rw (h.0, h.1) tt

pub changes : (d : Data) (queue : List ℕ) (handle : Option Handle) (amount : Amount) (timeout : ℕ)
    → Ok (Some queue) ≡ url_at d → Ok handle ≡ receipt_handle_at d → Ok amount ≡ amount_at (codes "VisibilityTimeout") d → Ok timeout ≡ amount_in_range 0 43200 InvalidParameterValue amount
    → Ok (call.ChangeMessageVisibility (record { queue = queue; handle = handle; timeout = timeout })) ≡ change_of d
unfolding change_of
changes d queue handle amount timeout a b c e = rw (← a, ← b, ← c, ← e) refl
