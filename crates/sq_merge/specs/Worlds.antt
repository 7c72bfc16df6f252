-- Steps of the whole system by actors, and what is true of it at all times.
use Rattle.std.specs.Prelude.{◌≡◌, ◌⊎◌, ◌+◌, ◌<◌, ℕ, true, List, [], ◌∷◌, length, nat_le, if◌then◌else◌, position, slice_get, slice_set, Option, Some, None, option_map, Ok, Err}
use Rattle.sq_base.specs.Stamps.{stamp_end}
use Rattle.sq_base.specs.StampValue.{StampValue}
use Rattle.sq_base.specs.declared.ids.HomeId.{HomeId}
use Rattle.sq_base.specs.declared.refusal.Refusal.{Refusal}
use Rattle.sq_base.specs.declared.refusal.Refusal.TheVariants.{NoMemory, ClockRange, QueueDoesNotExist, ResourceNotFoundException}
use Rattle.sq_model.specs.declared.directory.DirectoryCall.{DirectoryCall}
use Rattle.sq_model.specs.declared.directory.DirectoryReply.{DirectoryReply}
use Rattle.sq_model.specs.declared.calls.HomeCall.{HomeCall}
use Rattle.sq_model.specs.declared.replies.HomeReply.{HomeReply}
use Rattle.sq_model.specs.Directories.{MoveEnds, all_named, can_redrive, number_named}
use Rattle.sq_model.specs.declared.ledger.LedgerReply.{LedgerReply}
use Rattle.sq_model.specs.declared.task.Task.{Task}
use Rattle.sq_model.specs.declared.shared.SharedAct.{SharedAct}
use Rattle.sq_model.specs.Ledgers.{LedgerEvent, is_own, last_task, peek, task_of}
use Rattle.sq_model.specs.Replays.{HomeEvent}
use Rattle.sq_ledger.specs.LedgerHistory.{LedgerHistory}
use Rattle.sq_steps.specs.declared.act.NextItem.{NextItem}
use Rattle.sq_steps.specs.SharedSteps.{SharedMoves, IsUnmoved, IsSharedRefused}
use Rattle.sq_model.specs.Systems.{DirectoryEvent}
use Rattle.sq_model.specs.RecordValues.{RecordValue, place_of_record, Journal}
use Rattle.sq_model.specs.Matches.{HomeHistory, IsRecordAt, IsHomeEvent, HasItsEvent, IsRecorded, IsOfDirectory, IsOfLedger, IsOfHome, IsPaired}
use Rattle.sq_history.specs.HistoryValue.{HistoryValue}
use Rattle.sq_steps.specs.declared.act.Act.{Act}
use Rattle.sq_steps.specs.declared.act.Act.TheVariants as act
use Rattle.sq_steps.specs.declared.act.Outcome.{Outcome}
use Rattle.sq_steps.specs.declared.act.Outcome.TheVariants as answered
use Rattle.sq_steps.specs.declared.act.Step.{Step}
use Rattle.sq_steps.specs.declared.act.TaskAct.{TaskAct}
use Rattle.sq_steps.specs.TaskActs.{task_call}
use Rattle.sq_history.specs.declared.act.HomeAct.{HomeAct}
use Rattle.sq_history.specs.Acts.{call_of, HasBytes}
use Rattle.sq_steps.specs.Journals.{is_of_actor, journal_of, put_journal, having_seen, HomeMoves, DirectoryMoves, LedgerMoves, IsHomeRefused, IsDirectoryStepRefused, IsLedgerStepRefused, AreDistinct}
use Rattle.sq_directory.specs.DirectoryHistory.{DirectoryHistory}
use Rattle.sq_steps.specs.Reads.{next_of}
use Rattle.sq_merge.specs.WorldValue.{WorldValue}
use Rattle.sq_history.specs.HomeIds.{IsNumbered}
use Rattle.sq_audit.specs.HomeHistories.{histories_of}

-- a home of the system
pub record IsHomeOf (w : WorldValue) (id : HomeId) (at : ℕ) (h : HistoryValue) : Type 0 where
  pub in_list : slice_get w.homes at ≡ Some h
  pub has_id : h.site.home ≡ id

-- One step of a home by an actor that used this name, with this reply: the home and what the actor has go on by one, and all else stays.
pub record HomeStepped (old new : WorldValue) (actor now : ℕ) (name : Option (List ℕ)) (id : HomeId) (call : HomeCall) (reply : HomeReply) : Type 0 where
  pub at : ℕ
  pub before : HistoryValue
  pub after : HistoryValue
  pub recorded_in : Journal
  pub home : IsHomeOf old id at before
  pub moves : HomeMoves before after (journal_of actor old.journals) recorded_in now name call reply
  pub changed : new ≡ record old { homes = slice_set old.homes at after; journals = put_journal recorded_in old.journals }

-- why a step of a home is refused
abbrev pub HomeRefused : WorldValue → ℕ → ℕ → HomeId → HomeCall → Refusal → Type 0
HomeRefused w actor now id call e =
    (((at : ℕ) (h : HistoryValue) → IsHomeOf w id at h → ⊥) × (e ≡ (if nat_le stamp_end now then ClockRange else QueueDoesNotExist)))
    ⊎ ((at : ℕ) × (h : HistoryValue) × IsHomeOf w id at h × IsHomeRefused h (journal_of actor w.journals) now call e)

-- One step of the directory by an actor, with this reply: the directory and what the actor has go on by one, and all else stays.
pub record DirectoryStepped (old new : WorldValue) (actor now : ℕ) (call : DirectoryCall) (reply : DirectoryReply) : Type 0 where
  pub after : DirectoryHistory
  pub recorded_in : Journal
  pub moves : DirectoryMoves old.directory after (journal_of actor old.journals) recorded_in now call reply
  pub changed : new ≡ record old { directory = after; journals = put_journal recorded_in old.journals }

-- why a step of the directory is refused
abbrev pub DirectoryRefused : WorldValue → ℕ → ℕ → DirectoryCall → Refusal → Type 0
DirectoryRefused w actor now call e = IsDirectoryStepRefused w.directory (journal_of actor w.journals) now call e

-- One step that a home shares with the ledger, by an actor that used this name, with this reply: the home, the ledger and what the actor has go on by one, and all else stays.
pub record SharedStepped (old new : WorldValue) (actor now : ℕ) (name : Option (List ℕ)) (id : HomeId) (what : SharedAct) (reply : HomeReply) : Type 0 where
  pub at : ℕ
  pub before : HistoryValue
  pub after : HistoryValue
  pub ledger : LedgerHistory
  pub recorded_in : Journal
  pub home : IsHomeOf old id at before
  pub moves : SharedMoves before after old.ledger ledger (journal_of actor old.journals) recorded_in now name what reply
  pub changed : new ≡ record old { ledger = ledger; homes = slice_set old.homes at after; journals = put_journal recorded_in old.journals }

-- nothing is there to leave from a home; nothing is changed
pub record NothingLeaves (old new : WorldValue) (actor now : ℕ) (id : HomeId) (what : SharedAct) : Type 0 where
  pub at : ℕ
  pub before : HistoryValue
  pub home : IsHomeOf old id at before
  pub unmoved : IsUnmoved before old.ledger (journal_of actor old.journals) now what
  pub unchanged : new ≡ old

-- why a step that a home shares with the ledger is refused
abbrev pub SharedRefused : WorldValue → ℕ → ℕ → HomeId → SharedAct → Refusal → Type 0
SharedRefused w actor now id what e =
    (((at : ℕ) (h : HistoryValue) → IsHomeOf w id at h → ⊥) × (e ≡ (if nat_le stamp_end now then ClockRange else QueueDoesNotExist)))
    ⊎ ((at : ℕ) × (h : HistoryValue) × IsHomeOf w id at h × IsSharedRefused h w.ledger (journal_of actor w.journals) now what e)

-- One step of the ledger alone by an actor, with this reply: the ledger and what the actor has go on by one, and all else stays.
pub record LedgerStepped (old new : WorldValue) (actor now : ℕ) (what : TaskAct) (reply : LedgerReply) : Type 0 where
  pub after : LedgerHistory
  pub recorded_in : Journal
  pub moves : LedgerMoves old.ledger after (journal_of actor old.journals) recorded_in now (task_call what) reply
  pub changed : new ≡ record old { ledger = after; journals = put_journal recorded_in old.journals }

-- why a step of the ledger alone is refused
abbrev pub LedgerRefused : WorldValue → ℕ → ℕ → TaskAct → Refusal → Type 0
LedgerRefused w actor now what e = IsLedgerStepRefused w.ledger (journal_of actor w.journals) now (task_call what) e

-- an actor has read a part whose last stamp is this
abbrev pub having_seen_at : WorldValue → ℕ → StampValue → WorldValue
having_seen_at w actor last = record w { journals = put_journal (having_seen (journal_of actor w.journals) last) w.journals }

-- an actor has read the ledger
abbrev pub having_peeked : WorldValue → ℕ → WorldValue
having_peeked w actor = having_seen_at w actor w.ledger.last

-- an actor has read where the item goes that comes after a number
abbrev pub ItemRead : WorldValue → WorldValue → ℕ → ℕ → Option NextItem → Type 0
ItemRead old new actor number next = (next ≡ option_map next_of (peek number old.ledger.ledger)) × (new ≡ having_peeked old actor)

-- an actor has read the directory
abbrev pub having_read_directory : WorldValue → ℕ → WorldValue
having_read_directory w actor = having_seen_at w actor w.directory.last

-- why a part is not read: the actor is new, and no memory was found for it
abbrev pub IsUnread : WorldValue → ℕ → Refusal → Type 0
IsUnread w actor e = (e ≡ NoMemory) × (position (is_of_actor actor) w.journals ≡ None)

-- why the queues are not named: there are some, and no memory was found for their names; or the actor cannot read
abbrev pub NamesUnread : WorldValue → ℕ → Refusal → Type 0
NamesUnread w actor e = ((e ≡ NoMemory) × (0 < length w.directory.directory.queues)) ⊎ IsUnread w actor e

-- an actor has read the task of a number
abbrev pub TaskRead : WorldValue → WorldValue → ℕ → ℕ → Task → Type 0
TaskRead old new actor number task = (task_of number old.ledger.ledger ≡ Some task) × (new ≡ having_peeked old actor)

-- why it is not read: there is no such task; or there is one, and the actor cannot read
abbrev pub TaskUnread : WorldValue → ℕ → ℕ → Refusal → Type 0
TaskUnread w actor number e =
    ((task_of number w.ledger.ledger ≡ None) × (e ≡ ResourceNotFoundException))
    ⊎ (((task : Task) × (task_of number w.ledger.ledger ≡ Some task)) × IsUnread w actor e)

-- an actor has read between which queues messages may be moved
abbrev pub EndsRead : WorldValue → WorldValue → ℕ → List ℕ → Option (List ℕ) → MoveEnds → Type 0
EndsRead old new actor source destination ends = (can_redrive source destination old.directory.directory ≡ Ok ends) × (new ≡ having_read_directory old actor)

-- why it has not: they may not be moved between these; or they may, and the actor cannot read
abbrev pub EndsUnread : WorldValue → ℕ → List ℕ → Option (List ℕ) → Refusal → Type 0
EndsUnread w actor source destination e =
    (can_redrive source destination w.directory.directory ≡ Err e)
    ⊎ (((ends : MoveEnds) × (can_redrive source destination w.directory.directory ≡ Ok ends)) × IsUnread w actor e)

-- One step by an actor, and its outcome.
abbrev pub StepDone : WorldValue → WorldValue → ℕ → ℕ → Act → Outcome → Type 0
StepDone old new actor now (act.Directory call) (answered.Directory reply) = DirectoryStepped old new actor now call reply
StepDone old new actor now (act.Resolve name) (answered.Resolved queue) = (number_named name old.directory.directory.queues ≡ Some queue) × (new ≡ having_read_directory old actor)
StepDone old new actor now act.Names (answered.Named names) = (names ≡ all_named old.directory.directory) × (new ≡ having_read_directory old actor)
StepDone old new actor now (act.Home id what) (answered.Home reply) = HomeStepped old new actor now None id (call_of what) reply
StepDone old new actor now (act.Shared id what) (answered.Home reply) = SharedStepped old new actor now None id what reply
StepDone old new actor now (act.Shared id what) answered.Nothing = NothingLeaves old new actor now id what
StepDone old new actor now (act.Peek number) (answered.Peeked next) = ItemRead old new actor number next
StepDone old new actor now (act.Ledger what) (answered.Ledger reply) = LedgerStepped old new actor now what reply
StepDone old new actor now (act.ReadTask number) (answered.Task task) = TaskRead old new actor number task
StepDone old new actor now (act.LastTask source) (answered.LastTask task) = (task ≡ last_task source old.ledger.ledger) × (new ≡ having_peeked old actor)
StepDone old new actor now (act.CanRedrive source destination) (answered.Redriven queue target) = EndsRead old new actor source destination (record { source = queue; destination = target })
StepDone old new actor now what outcome = ⊥

-- why a name is not read: there is no such queue; or there is one, the actor is new, and no memory was found for it
abbrev pub NameRefused : WorldValue → ℕ → List ℕ → Refusal → Type 0
NameRefused w actor name e =
    ((number_named name w.directory.directory.queues ≡ None) × (e ≡ QueueDoesNotExist))
    ⊎ (((queue : ℕ) × (number_named name w.directory.directory.queues ≡ Some queue)) × (position (is_of_actor actor) w.journals ≡ None) × (e ≡ NoMemory))

-- a home that is there is sent a body; its copy takes memory
abbrev pub IsSentTo : WorldValue → HomeId → HomeAct → Type 0
IsSentTo w id act = HasBytes act × ((at : ℕ) × (h : HistoryValue) × IsHomeOf w id at h)

-- why a step is refused
abbrev pub StepRefused : WorldValue → ℕ → ℕ → Act → Refusal → Type 0
StepRefused w actor now (act.Directory call) e = DirectoryRefused w actor now call e
StepRefused w actor now (act.Resolve name) e = NameRefused w actor name e
StepRefused w actor now act.Names e = NamesUnread w actor e
StepRefused w actor now (act.Home id what) e = ((e ≡ NoMemory) × IsSentTo w id what) ⊎ HomeRefused w actor now id (call_of what) e
StepRefused w actor now (act.Shared id what) e = SharedRefused w actor now id what e
StepRefused w actor now (act.Peek number) e = IsUnread w actor e
StepRefused w actor now (act.Ledger what) e = LedgerRefused w actor now what e
StepRefused w actor now (act.ReadTask number) e = TaskUnread w actor number e
StepRefused w actor now (act.LastTask source) e = IsUnread w actor e
StepRefused w actor now (act.CanRedrive source destination) e = EndsUnread w actor source destination e

-- Of these steps so many were done, one after another, and the others changed nothing.
abbrev pub Schedule : WorldValue → List Step → ℕ → WorldValue → Type 0
Schedule w [] done after = (done ≡ 0) × (after ≡ w)
Schedule w (s ∷ ss) done after =
    (((e : Refusal) × StepRefused w s.actor s.clock s.act e) × Schedule w ss done after)
    ⊎ ((mid : WorldValue) × (outcome : Outcome) × (rest : ℕ) × StepDone w mid s.actor s.clock s.act outcome × Schedule mid ss rest after × (done ≡ rest + 1))

-- True of the system at all times: records and events are of each other, the n-th record of an actor has number n, each actor is there once, and what a home and the ledger share stands in the histories of both.
pub record IsKeptWorld (w : WorldValue) : Type 0 where
  pub numbered : IsNumbered w.per_queue w.homes
  pub has_its_event : (b i : ℕ) (journal : Journal) (n : RecordValue) → IsRecordAt w.journals b i journal n → HasItsEvent w.directory.events w.ledger.events (histories_of w.homes) journal.actor n
  pub directory_recorded : (k : ℕ) (e : DirectoryEvent) → slice_get w.directory.events k ≡ Some e → IsRecorded w.journals e.actor (IsOfDirectory k e)
  pub ledger_recorded : (k : ℕ) (e : LedgerEvent) → slice_get w.ledger.events k ≡ Some e → is_own e.call ≡ true → IsRecorded w.journals e.actor (IsOfLedger k e)
  pub homes_recorded : (j k : ℕ) (h : HomeHistory) (e : HomeEvent) → IsHomeEvent (histories_of w.homes) j k h e → IsRecorded w.journals e.actor (IsOfHome h.home k e)
  pub exact : (b i : ℕ) (journal : Journal) (n : RecordValue) → IsRecordAt w.journals b i journal n → place_of_record n ≡ i
  pub counted : (b : ℕ) (journal : Journal) → slice_get w.journals b ≡ Some journal → journal.next ≡ length journal.records
  pub distinct : AreDistinct w.journals
  pub paired : IsPaired w.ledger.events (histories_of w.homes)
