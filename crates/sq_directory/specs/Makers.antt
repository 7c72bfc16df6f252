-- By which names queues were made.
use Rattle.std.specs.Prelude.{◌≡◌, ◌⊎◌, ℕ, List, slice_get, Option, Some, None}
use Rattle.sq_base.specs.StampValue.{StampValue}
use Rattle.sq_base.specs.Stamps.{Below}
use Rattle.sq_model.specs.declared.directory.DirectoryCall.{DirectoryCall}
use Rattle.sq_model.specs.declared.directory.DirectoryCall.TheVariants as asks
use Rattle.sq_model.specs.declared.directory.DirectoryReply.{DirectoryReply}
use Rattle.sq_model.specs.declared.directory.DirectoryReply.TheVariants as answers
use Rattle.sq_model.specs.Systems.{DirectoryEvent}
use Rattle.sq_model.specs.Matches.{IsCreate}

-- a stamp is not above another
abbrev pub IsSeen : StampValue → StampValue → Type 0
IsSeen a b = (a ≡ b) ⊎ Below a b

-- a queue of this number was made by this name, or found, and not after this stamp
abbrev pub IsMadeBy : List DirectoryEvent → StampValue → List ℕ → ℕ → Type 0
IsMadeBy directory stamp name queue = (k : ℕ) × (e : DirectoryEvent) × (slice_get directory k ≡ Some e) × IsSeen e.stamp stamp × IsCreate e name queue

-- the name that a call of the directory uses
abbrev pub name_asked : DirectoryCall → Option (List ℕ)
name_asked (asks.Create name given) = Some name
name_asked (asks.Set name given) = Some name
name_asked (asks.Remove name) = Some name
name_asked (asks.PurgeTicket name) = Some name
name_asked (asks.Url name) = Some name
name_asked (asks.List prefix) = None
name_asked (asks.Sources name) = Some name
name_asked (asks.Read name) = Some name

-- the number of the queue that a reply is about
abbrev pub queue_answered : DirectoryReply → Option ℕ
queue_answered (answers.Made made) = Some made.queue
queue_answered (answers.Changed changed) = Some changed.queue
queue_answered (answers.Removed number) = Some number
queue_answered (answers.Ticket number) = Some number
queue_answered (answers.Found number) = Some number
queue_answered (answers.Listed names) = None
queue_answered (answers.Sources names) = None
queue_answered (answers.Read attributes) = Some attributes.queue

-- the queue that is answered was made by the name that was asked, and not after this stamp
abbrev pub IsAnsweredByName : List DirectoryEvent → StampValue → DirectoryCall → DirectoryReply → Type 0
IsAnsweredByName events stamp call reply = (name : List ℕ) (queue : ℕ) → name_asked call ≡ Some name → queue_answered reply ≡ Some queue → IsMadeBy events stamp name queue
