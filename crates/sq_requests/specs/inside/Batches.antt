-- What is read of the entries of a batch.
use Rattle.std.specs.Prelude.{◌≡◌, ℕ, ◌+◌, ◌==◌, List, [], ◌∷◌, ◌++◌, length, map, ◌&&◌, Bool, true, false, not, nat_lt, if◌then◌else◌, Result, Ok, Err}
use Rattle.std.specs.List.{list_all, list_any}
use Rattle.std.specs.Str.{bytes_eq}
use Rattle.serde_json.specs.Data.{Items, no_items}
use Rattle.sq_base.specs.Handles.{handle_at}
use Rattle.sq_base.specs.Names.{is_name}
use Rattle.sq_base.specs.declared.refusal.Refusal.{Refusal}
use Rattle.sq_base.specs.declared.refusal.Refusal.TheVariants.{EmptyBatchRequest, TooManyEntriesInBatchRequest, InvalidBatchEntryId, BatchEntryIdsNotDistinct, BatchRequestTooLong}
use Rattle.sq_policy.specs.Reading.{◌>>=◌}
use Rattle.sq_calls.specs.BodyTexts.{body_limit}
use Rattle.sq_calls.specs.declared.batches.BatchKind.{BatchKind}
use Rattle.sq_calls.specs.declared.batches.Entry.{Entry}
use Rattle.sq_calls.specs.declared.batches.EntryAsk.{EntryAsk}
use Rattle.sq_calls.specs.declared.batches.EntryAsk.TheVariants as ask
use Rattle.sq_requests.specs.Batches.{send_ask, change_ask, is_entry, entries_of, how_many, bodies_length}
use Rattle.sq_requests.specs.Lists.{all_items}
use Rattle.sq_requests.specs.declared.batches.AskMembers.{AskMembers}
use Rattle.sq_requests.specs.declared.batches.AskMembers.TheVariants as members
use Rattle.sq_requests.specs.declared.batches.EntryMembers.{EntryMembers}
use Rattle.sq_requests.specs.declared.batches.ReadEntries.{ReadEntries}

-- memory is asked for the body of a send that nothing refuses
abbrev pub has_body : Result EntryAsk Refusal → Bool
has_body (Ok (ask.Send body delay)) = true
has_body other = false

-- what an entry of these members asks
abbrev pub ask_by : AskMembers → Result EntryAsk Refusal
ask_by (members.Send body delay has_attributes) = send_ask has_attributes delay body.now
ask_by (members.Delete handle) = Ok (ask.Delete (handle_at handle.now))
ask_by (members.Change handle timeout) = change_ask (handle_at handle.now) timeout

abbrev pub entry_by : EntryMembers → Entry
entry_by entry = record { id = entry.id.now; ask = ask_by entry.asked }

-- how many bytes its body has; 0 where there is none
abbrev pub length_by : AskMembers → ℕ
length_by (members.Send body delay has_attributes) = length body.now
length_by other = 0

-- and those of all together
abbrev pub lengths_of : List EntryMembers → ℕ
lengths_of [] = 0
lengths_of (entry ∷ entries) = length_by entry.asked + lengths_of entries

-- no two have one id; case counts
abbrev pub are_distinct : List EntryMembers → Bool
are_distinct [] = true
are_distinct (entry ∷ entries) = not (list_any (λ other. bytes_eq entry.id.now other.id.now) entries) && are_distinct entries

-- what is read once these entries and the rest are
abbrev pub with_rest : List Entry → Result (List Entry) Refusal → Result (List Entry) Refusal
with_rest entries rest = rest >>= λ more. Ok (entries ++ more)

-- these are the members of the first of all items, those before the rest
pub record AreFirst (kind : BatchKind) (all rest : Items) (first : List EntryMembers) : Type 0 where
  pub entries : entries_of kind all ≡ with_rest (map entry_by first) (entries_of kind rest)
  pub count : how_many all ≡ length first + how_many rest
  pub lengths : bodies_length kind all ≡ lengths_of first + bodies_length kind rest

-- what was read of all items: each is an entry, and where there are ten at most, these are the members of all
pub record IsRead (kind : BatchKind) (items : Items) (read : ReadEntries) : Type 0 where
  pub entries : all_items (is_entry kind) items ≡ true
  pub first : read.has_more ≡ false → AreFirst kind items no_items read.first.items
  pub more : read.has_more ≡ nat_lt 10 (how_many items)

-- the checks of a batch, by what is read of it
abbrev pub check_by : ReadEntries → Result (Unit {0}) Refusal
check_by read =
    if read.has_more then Err TooManyEntriesInBatchRequest
    else if length read.first.items == 0 then Err EmptyBatchRequest
    else if not (list_all (λ entry. is_name entry.id.now) read.first.items) then Err InvalidBatchEntryId
    else if not (are_distinct read.first.items) then Err BatchEntryIdsNotDistinct
    else if nat_lt body_limit (lengths_of read.first.items) then Err BatchRequestTooLong
    else Ok tt
