-- Which entries make a batch (SQS API Reference, SendMessageBatch, DeleteMessageBatch, ChangeMessageVisibilityBatch).
use Rattle.std.specs.Prelude.{ℕ, ◌<◌, ◌≤◌, ◌≡◌, List, [], ◌∷◌, length, Bool, true, false, not, ◌&&◌, Result, Ok, Err}
use Rattle.std.specs.List.{list_all, list_any}
use Rattle.std.specs.Str.{bytes_eq}
use Rattle.sq_base.specs.declared.refusal.Refusal.{Refusal}
use Rattle.sq_base.specs.declared.refusal.Refusal.TheVariants.{InvalidParameterValue, UnsupportedOperation}
use Rattle.sq_calls.specs.declared.batches.BatchKind.{BatchKind}
use Rattle.sq_calls.specs.declared.batches.BatchKind.TheVariants as kind
use Rattle.sq_calls.specs.declared.batches.Entry.{Entry}
use Rattle.sq_calls.specs.declared.batches.EntryAsk.{EntryAsk}
use Rattle.sq_calls.specs.declared.batches.EntryAsk.TheVariants as ask

-- What an entry asks is of this kind, or it is refused as one of this kind may be. Attributes are of a send alone; a delete has nothing that is out of its range.
abbrev pub is_of : BatchKind → Result EntryAsk Refusal → Bool
is_of kind.Send (Ok (ask.Send body delay)) = true
is_of kind.Send (Err UnsupportedOperation) = true
is_of kind.Send (Err InvalidParameterValue) = true
is_of kind.Delete (Ok (ask.Delete handle)) = true
is_of kind.Change (Ok (ask.Change handle timeout)) = true
is_of kind.Change (Err InvalidParameterValue) = true
is_of kind asked = false

abbrev pub are_of : BatchKind → List Entry → Bool
are_of kind entries = list_all (λ e. is_of kind e.ask) entries

-- one of these entries has this id; case counts
abbrev pub have_id : List ℕ → List Entry → Bool
have_id id entries = list_any (λ e. bytes_eq id e.id) entries

abbrev pub have_distinct_ids : List Entry → Bool
have_distinct_ids [] = true
have_distinct_ids (e ∷ es) = not (have_id e.id es) && have_distinct_ids es

-- 1 to 10 entries of one kind, no two with one id
abbrev pub IsBatch : BatchKind → List Entry → Type 0
IsBatch kind entries = (0 < length entries) × (length entries ≤ 10) × (are_of kind entries ≡ true) × (have_distinct_ids entries ≡ true)
