-- What an actor has seen and recorded, and how that goes on.
use Rattle.std.specs.Prelude.{◌≡◌, ◌≢◌, ◌⊎◌, ◌==◌, Bool, not, ℕ, ◌+◌, ◌<◌, nat_le, if◌then◌else◌, List, [], ◌∷◌, ◌++◌, map, filter, slice_get, Option, Some}
use Rattle.std.specs.List.{AllByRecursion, position_or_len}
use Rattle.std.specs.Ordering.{is_lt}
use Rattle.sq_base.specs.StampValue.{StampValue}
use Rattle.sq_base.specs.Stamps.{start, stamp_end, stamp_cmp}
use Rattle.sq_base.specs.declared.refusal.Refusal.{Refusal}
use Rattle.sq_base.specs.declared.refusal.Refusal.TheVariants.{ClockRange, NoMemory, Worn}
use Rattle.sq_model.specs.declared.event.Actor.{Actor}
use Rattle.sq_model.specs.declared.calls.HomeCall.{HomeCall}
use Rattle.sq_model.specs.declared.replies.HomeReply.{HomeReply}
use Rattle.sq_model.specs.declared.directory.DirectoryCall.{DirectoryCall}
use Rattle.sq_model.specs.declared.directory.DirectoryReply.{DirectoryReply}
use Rattle.sq_model.specs.declared.ledger.LedgerCall.{LedgerCall}
use Rattle.sq_model.specs.declared.ledger.LedgerReply.{LedgerReply}
use Rattle.sq_model.specs.RecordValues.{HomeRecordValue, DirectoryRecordValue, LedgerRecordValue, RecordValue, OfDirectory, OfLedger, OfHome, place_of_record, record_stamp, Journal, actor_of, RecordsRise}
use Rattle.sq_log.specs.Spares.{KeepsSpare}
use Rattle.sq_history.specs.HistoryValue.{HistoryValue}
use Rattle.sq_history.specs.Histories as home
use Rattle.sq_directory.specs.DirectoryHistory.{DirectoryHistory}
use Rattle.sq_directory.specs.DirectoryHistories as directory
use Rattle.sq_directory.specs.Makers.{IsSeen}
use Rattle.sq_ledger.specs.LedgerHistory.{LedgerHistory}
use Rattle.sq_ledger.specs.LedgerHistories as ledger

-- the number of no step
abbrev pub last_place : ℕ
last_place = 18446744073709551615

-- an actor that did nothing yet
abbrev pub new_journal : ℕ → Journal
new_journal actor = record { actor = actor; next = 0; seen = start; records = []; spare = 0 }

-- True of each actor: its records rise, their numbers are below its next, and it has seen their stamps.
pub record IsJournal (journal : Journal) : Type 0 where
  pub rise : RecordsRise journal.records
  pub below : AllByRecursion (λ n. place_of_record n < journal.next) journal.records
  pub saw : AllByRecursion (λ n. IsSeen (record_stamp n) journal.seen) journal.records

-- the records of the actor at an index rise
abbrev pub RecordsRiseAt : List Journal → ℕ → Type 0
RecordsRiseAt journals b = (journal : Journal) → slice_get journals b ≡ Some journal → RecordsRise journal.records

-- one step more, with its record, and spare memory for so many more
abbrev pub with_record : Journal → RecordValue → ℕ → Journal
with_record journal n spare = record { actor = journal.actor; next = journal.next + 1; seen = record_stamp n; records = journal.records ++ n ∷ []; spare = spare }

-- the greater of two stamps
abbrev pub later : StampValue → StampValue → StampValue
later a b = if is_lt (stamp_cmp a b) then b else a

-- it has read a part whose last stamp is this
abbrev pub having_seen : Journal → StampValue → Journal
having_seen journal stamp = record journal { seen = later journal.seen stamp }

-- A part goes on by one event of the actor, that has the record of it and gets its reply: for what such a part does, how its record is kept, and what that says was answered.
pub record Moves {Part Call N Reply : Type 0} (Does : Part → Part → Actor → ℕ → Call → N → Type 0) (kept : N → RecordValue) (reply_of : N → Reply)
    (old new : Part) (journal recorded_in : Journal) (now : ℕ) (call : Call) (reply : Reply) : Type 0 where
  pub its_record : N
  pub does : Does old new (actor_of journal) now call its_record
  pub answered : reply_of its_record ≡ reply
  pub recorded_as : recorded_in ≡ with_record journal (kept its_record) recorded_in.spare
  pub spare : KeepsSpare journal.spare recorded_in.spare

-- a home does, for an actor that used this name
abbrev pub HomeMoves : HistoryValue → HistoryValue → Journal → Journal → ℕ → Option (List ℕ) → HomeCall → HomeReply → Type 0
HomeMoves old new journal recorded_in now name call reply =
    Moves (λ before after by at asked n. home.RecordsStep before after by at name asked n) OfHome (λ n. n.reply) old new journal recorded_in now call reply

-- the directory does
abbrev pub DirectoryMoves : DirectoryHistory → DirectoryHistory → Journal → Journal → ℕ → DirectoryCall → DirectoryReply → Type 0
DirectoryMoves old new journal recorded_in now call reply = Moves directory.DirectoryRecords OfDirectory (λ n. n.reply) old new journal recorded_in now call reply

-- the ledger does, alone
abbrev pub LedgerMoves : LedgerHistory → LedgerHistory → Journal → Journal → ℕ → LedgerCall → LedgerReply → Type 0
LedgerMoves old new journal recorded_in now call reply = Moves ledger.LedgerRecords OfLedger (λ n. n.reply) old new journal recorded_in now call reply

-- an actor whose count of steps is at its end does no step
abbrev pub worn_at : ℕ → Refusal
worn_at now = if nat_le stamp_end now then ClockRange else Worn

-- why an actor does no step: the count of its steps is at its end, or no memory was found for a record
abbrev pub IsNotReady : Journal → ℕ → Refusal → Type 0
IsNotReady journal now e = ((journal.next ≡ last_place) × (e ≡ worn_at now)) ⊎ ((journal.next ≢ last_place) × (e ≡ NoMemory) × (journal.spare ≡ 0))

-- why an actor's step of a part is refused: its own causes, or the part's
abbrev pub IsStepRefused : {Part Call : Type 0} → (Part → Actor → ℕ → Call → Refusal → Type 0) → Part → Journal → ℕ → Call → Refusal → Type 0
IsStepRefused {Part} {Call} refused old journal now call e = IsNotReady journal now e ⊎ ((journal.next ≢ last_place) × refused old (actor_of journal) now call e)

abbrev pub IsHomeRefused : HistoryValue → Journal → ℕ → HomeCall → Refusal → Type 0
IsHomeRefused old journal now call e = IsStepRefused home.IsRefused old journal now call e

abbrev pub IsDirectoryStepRefused : DirectoryHistory → Journal → ℕ → DirectoryCall → Refusal → Type 0
IsDirectoryStepRefused old journal now call e = IsStepRefused directory.IsDirectoryRefused old journal now call e

abbrev pub IsLedgerStepRefused : LedgerHistory → Journal → ℕ → LedgerCall → Refusal → Type 0
IsLedgerStepRefused old journal now call e = IsStepRefused ledger.IsLedgerRefused old journal now call e

-- this is the actor's of this number
abbrev pub is_of_actor : ℕ → Journal → Bool
is_of_actor actor journal = journal.actor == actor

-- what the actor of this number has
abbrev pub journal_of : ℕ → List Journal → Journal
journal_of actor [] = new_journal actor
journal_of actor (journal ∷ journals) = if journal.actor == actor then journal else journal_of actor journals

-- where an actor stands among all, or would as the last
abbrev pub index_in : ℕ → List Journal → ℕ
index_in actor journals = position_or_len (is_of_actor actor) journals

-- all actors, with this one, which did nothing yet where it was not there
abbrev pub opened : ℕ → List Journal → List Journal
opened actor [] = new_journal actor ∷ []
opened actor (x ∷ xs) = if x.actor == actor then x ∷ xs else x ∷ opened actor xs

-- in the place of what its actor had, or last where it had nothing
abbrev pub put_journal : Journal → List Journal → List Journal
put_journal journal [] = journal ∷ []
put_journal journal (x ∷ journals) = if x.actor == journal.actor then journal ∷ journals else x ∷ put_journal journal journals

-- what an actor has without the record of this number; it shows no spare memory
abbrev pub without_record : ℕ → Journal → Journal
without_record place journal = record journal { records = filter (λ n. not (place_of_record n == place)) journal.records; spare = 0 }

-- the same actors in the same order, where this one has no record of this number
abbrev pub without_record_of : ℕ → ℕ → List Journal → List Journal
without_record_of actor place journals = map (λ b. if b.actor == actor then without_record place b else b) journals

-- each actor is there once
abbrev pub AreDistinct : List Journal → Type 0
AreDistinct [] = Unit {0}
AreDistinct (x ∷ xs) = AllByRecursion (λ y. y.actor ≢ x.actor) xs × AreDistinct xs
