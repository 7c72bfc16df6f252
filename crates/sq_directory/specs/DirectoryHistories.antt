-- What a recorded step of the directory does, and what is true of the directory at all times.
use Rattle.std.specs.Prelude.{◌≡◌, ◌⊎◌, ◌<◌, ℕ, Bool, true, false, [], ◌∷◌, ◌++◌, length, Some, Ok, Err}
use Rattle.sq_base.specs.StampValue.{StampValue}
use Rattle.sq_base.specs.Stamps.{start, after}
use Rattle.sq_base.specs.declared.refusal.Refusal.{Refusal}
use Rattle.sq_base.specs.declared.refusal.Refusal.TheVariants.{NoMemory}
use Rattle.sq_model.specs.declared.place.Component.TheVariants as part
use Rattle.sq_model.specs.declared.directory.DirectoryCall.{DirectoryCall}
use Rattle.sq_model.specs.declared.directory.DirectoryCall.TheVariants as asks
use Rattle.sq_model.specs.declared.directory.DirectoryReply.{DirectoryReply}
use Rattle.sq_model.specs.declared.directory.Queue.{Queue}
use Rattle.sq_model.specs.declared.event.Actor.{Actor}
use Rattle.sq_model.specs.Directories.{Directory, DirectoryStep, IsThere, directory_refusal, names_with, opening_directory, sources_of}
use Rattle.sq_model.specs.Policies.{has_list, lists_queues}
use Rattle.sq_model.specs.Replays.{Replays, StampsRise}
use Rattle.sq_model.specs.Systems.{DirectoryEvent, AreDirectory}
use Rattle.sq_model.specs.RecordValues.{DirectoryRecordValue, directory_record_of}
use Rattle.sq_log.specs.Spares.{KeepsSpare}
use Rattle.sq_log.specs.Logs.{event_by}
use Rattle.sq_directory.specs.DirectoryHistory.{DirectoryHistory}

abbrev pub directory_event : StampValue → Actor → DirectoryCall → DirectoryReply → DirectoryEvent
directory_event stamp by call reply = event_by stamp by part.Directory call reply

-- Exactly one event was added: a step of the directory at a new stamp, above its last and above what the actor had seen. The record is its own.
pub record DirectoryRecords (old new : DirectoryHistory) (by : Actor) (now : ℕ) (call : DirectoryCall) (its_record : DirectoryRecordValue) : Type 0 where
  pub stamped : after old.last by.seen now ≡ Ok its_record.stamp
  pub step : DirectoryStep old.directory its_record.stamp.moment call its_record.reply new.directory
  pub last : new.last ≡ its_record.stamp
  pub events : new.events ≡ old.events ++ directory_event its_record.stamp by call its_record.reply ∷ []
  pub spare : KeepsSpare old.spare new.spare
  pub record_is : its_record ≡ directory_record_of (length old.events) (directory_event its_record.stamp by call its_record.reply)

-- a call with a list of queues, in the policy that it gives
abbrev pub gives_list : DirectoryCall → Bool
gives_list (asks.Create name given) = has_list given.allow
gives_list (asks.Set name given) = has_list given.allow
gives_list other = false

-- a call that is answered with a list of queues: names, or those of a policy
abbrev pub AnswersList : Directory → DirectoryCall → Type 0
AnswersList d (asks.List prefix) = 0 < length (names_with prefix d.queues)
AnswersList d (asks.Sources name) = (queue : Queue) × IsThere d name queue × (0 < length (sources_of queue.number d.queues))
AnswersList d (asks.Read name) = (queue : Queue) × IsThere d name queue × (lists_queues queue.allow ≡ true)
AnswersList d other = ⊥

-- The first that fails, in order: memory, where it has to be got; the clock, and the counts; and the directory's checks.
abbrev pub IsDirectoryRefused : DirectoryHistory → Actor → ℕ → DirectoryCall → Refusal → Type 0
IsDirectoryRefused old by now call e =
    ((e ≡ NoMemory) × ((old.spare ≡ 0) ⊎ (gives_list call ≡ true) ⊎ AnswersList old.directory call))
    ⊎ (after old.last by.seen now ≡ Err e)
    ⊎ ((stamp : StampValue) × (after old.last by.seen now ≡ Ok stamp) × (directory_refusal old.directory stamp.moment call ≡ Some e))

-- True at all times: the directory is the replay of its events, whose stamps rise, and each event is its own.
pub record IsDirectoryKept (h : DirectoryHistory) : Type 0 where
  pub replays : Replays DirectoryStep (opening_directory h.directory.most) h.events h.directory
  pub rising : StampsRise start h.events h.last
  pub own : AreDirectory h.events
