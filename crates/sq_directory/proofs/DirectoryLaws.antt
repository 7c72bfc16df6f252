-- The directory stays the replay of its events.
use Rattle.std.proofs.Common.{◌≡◌, ℕ, List, [], ◌∷◌, ◌++◌, Option, Some, None, refl, ap, subst, sym}
use Rattle.sq_base.specs.Stamps.{start}
use Rattle.sq_model.specs.declared.place.Component.TheVariants as part
use Rattle.sq_model.specs.declared.directory.Attributes.{Attributes}
use Rattle.sq_model.specs.declared.directory.Queue.{Queue}
use Rattle.sq_model.specs.declared.directory.QueueSettings.{QueueSettings}
use Rattle.sq_model.specs.declared.directory.DirectoryCall.{DirectoryCall}
use Rattle.sq_model.specs.declared.directory.DirectoryCall.TheVariants as asks
use Rattle.sq_model.specs.declared.directory.DirectoryReply.{DirectoryReply}
use Rattle.sq_model.specs.declared.directory.DirectoryReply.TheVariants as answers
use Rattle.sq_model.specs.declared.event.Actor.{Actor}
use Rattle.sq_model.specs.Directories.{Directory, Creates, DirectoryStep, opening_directory, queue_of}
use Rattle.sq_model.specs.Replays.{Replays, StampsRise}
use Rattle.sq_model.specs.Systems.{DirectoryEvent, AreDirectory}
use Rattle.sq_model.proofs.ReplayLaws.{replays_push}
use Rattle.sq_directory.specs.DirectoryHistory.{DirectoryHistory}
use Rattle.sq_model.specs.RecordValues.{DirectoryRecordValue}
use Rattle.sq_directory.specs.DirectoryHistories.{DirectoryRecords, IsDirectoryKept, directory_event}

creates_most : (d : Directory) (m : ℕ) (name : List ℕ) (given : Attributes) (found : Option Queue) (made : QueueSettings) (after : Directory) → Creates d m name given found made after → after.most ≡ d.most
creates_most d m name given None made after h = ap (λ (x : Directory). x.most) h.2
creates_most d m name given (Some queue) made after h = ap (λ (x : Directory). x.most) h.2

-- a step makes no place
step_most : (d : Directory) (m : ℕ) (call : DirectoryCall) (reply : DirectoryReply) (after : Directory) → DirectoryStep d m call reply after → after.most ≡ d.most
unfolding DirectoryStep
step_most d m (asks.Create name given) (answers.Made made) after h = creates_most d m name given (queue_of name d.queues) made after h
step_most d m (asks.Set name given) (answers.Changed changed) after h = ap (λ (x : Directory). x.most) h.5
step_most d m (asks.Remove name) (answers.Removed number) after h = ap (λ (x : Directory). x.most) h.3
step_most d m (asks.PurgeTicket name) (answers.Ticket number) after h = ap (λ (x : Directory). x.most) h.4
step_most d m (asks.Url name) (answers.Found number) after h = ap (λ (x : Directory). x.most) h.1
step_most d m (asks.List prefix) (answers.Listed names) after h = ap (λ (x : Directory). x.most) h.1
step_most d m (asks.Sources name) (answers.Sources names) after h = ap (λ (x : Directory). x.most) h.1
step_most d m (asks.Read name) (answers.Read attributes) after h = ap (λ (x : Directory). x.most) h.1
step_most d m call reply after h = elim h [ ]

own_push : (es : List DirectoryEvent) (e : DirectoryEvent) → AreDirectory es → e.component ≡ part.Directory → AreDirectory (es ++ e ∷ [])
own_push [] e own is = (is, tt)
own_push (x ∷ es) e own is = (own.0, own_push es e own.1 is)

pub directory_kept_more : (old new : DirectoryHistory) (by : Actor) (now : ℕ) (call : DirectoryCall) (its_record : DirectoryRecordValue)
    → IsDirectoryKept old → StampsRise start new.events new.last → DirectoryRecords old new by now call its_record → IsDirectoryKept new
directory_kept_more old new by now call its_record kept rising more =
    let event = directory_event its_record.stamp by call its_record.reply in
    let first : Directory = opening_directory old.directory.most in
    let goes : Replays DirectoryStep first (old.events ++ event ∷ []) new.directory = replays_push DirectoryStep first old.events old.directory event new.directory kept.replays more.step in
    record {
      replays = rw more.events (subst (λ (most : ℕ). Replays DirectoryStep (opening_directory most) (old.events ++ event ∷ []) new.directory)
          (sym (step_most old.directory its_record.stamp.moment call its_record.reply new.directory more.step)) goes);
      rising = rising;
      own = rw more.events (own_push old.events event kept.own refl);
    }
