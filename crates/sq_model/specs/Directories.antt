-- The directory: which queues there are, what they go by, and which names were deleted.
use Rattle.std.specs.Prelude.{◌≡◌, ◌≢◌, ℕ, suc, ◌+◌, ◌<◌, ◌≤◌, Bool, true, false, not, ◌&&◌, ◌==◌, nat_eq, nat_lt, nat_le, List, [], ◌∷◌, ◌++◌, length, count_by, filter, find, map, if◌then◌else◌, Option, Some, None, unwrap_or, option_map, Result, Ok, Err}
use Rattle.std.specs.List.{AllByRecursion, list_any, starts_with}
use Rattle.std.specs.Str.{bytes_eq}
use Rattle.sq_base.specs.declared.refusal.Refusal.{Refusal}
use Rattle.sq_base.specs.declared.refusal.Refusal.TheVariants.{InvalidAttributeValue, PurgeQueueInProgress, QueueDeletedRecently, QueueDoesNotExist, QueueNameExists, ResourceNotFoundException, TableFull, UnsupportedOperation, Worn}
use Rattle.sq_base.specs.declared.settings.Redrive.{Redrive}
use Rattle.sq_model.specs.declared.directory.Attributes.{Attributes}
use Rattle.sq_model.specs.declared.directory.DeletedName.{DeletedName}
use Rattle.sq_model.specs.declared.directory.DirectoryCall.{DirectoryCall}
use Rattle.sq_model.specs.declared.directory.DirectoryCall.TheVariants as asks
use Rattle.sq_model.specs.declared.directory.DirectoryReply.{DirectoryReply}
use Rattle.sq_model.specs.declared.directory.DirectoryReply.TheVariants as answers
use Rattle.sq_model.specs.declared.directory.NamePrefix.{NamePrefix}
use Rattle.sq_model.specs.declared.directory.NamePrefix.TheVariants.{Any, Text, NoName}
use Rattle.sq_model.specs.declared.directory.Queue.{Queue}
use Rattle.sq_model.specs.declared.directory.QueueAttributes.{QueueAttributes}
use Rattle.sq_model.specs.declared.directory.QueueSettings.{QueueSettings}
use Rattle.sq_model.specs.declared.policy.RedrivePolicy.{RedrivePolicy}
use Rattle.sq_model.specs.declared.task.NamedQueue.{NamedQueue}
use Rattle.sq_model.specs.Homes.{refused_if}
use Rattle.sq_model.specs.Policies.{agrees_allow, agrees_redrive, permits}
use Rattle.sq_model.specs.Rises.{Rise}

-- the queues in order of creation, the deleted names in order of deletion, how many queues were ever made, and how many may be; no number is used again (own)
pub record Directory : Type 0 where
  pub queues : List Queue
  pub deleted : List DeletedName
  pub made : ℕ
  pub most : ℕ

-- no queue was ever made
abbrev pub opening_directory : ℕ → Directory
opening_directory most = record { queues = []; deleted = []; made = 0; most = most }

-- so long after a purge comes the next one, and after a deletion a queue of the same name, in ms (SQS API Reference, PurgeQueue and DeleteQueue)
abbrev pub least_wait : ℕ
least_wait = 60000

-- no version is above this
abbrev pub last_version : ℕ
last_version = 18446744073709551615

-- ---- queues by name

abbrev pub has_name : List ℕ → Queue → Bool
has_name name queue = bytes_eq queue.name name

-- the queue of a name
abbrev pub queue_of : List ℕ → List Queue → Option Queue
queue_of name queues = find (has_name name) queues

abbrev pub number_named : List ℕ → List Queue → Option ℕ
number_named name queues = option_map (λ queue. queue.number) (queue_of name queues)

-- the queues, the one of this name changed
abbrev pub changed_queue : List ℕ → (Queue → Queue) → List Queue → List Queue
changed_queue name change queues = map (λ queue. if has_name name queue then change queue else queue) queues

abbrev pub queues_without : List ℕ → List Queue → List Queue
queues_without name queues = filter (λ queue. not (has_name name queue)) queues

-- ---- policies

-- a queue that is there permits it
abbrev pub is_permitted : Option Queue → List ℕ → Bool
is_permitted None name = false
is_permitted (Some target) name = permits target.allow name

-- the target is there, is another queue, and permits it; looked at when the policy is set, and not later (own)
abbrev pub may_target : List Queue → List ℕ → RedrivePolicy → Bool
may_target queues name policy = not (bytes_eq policy.target name) && is_permitted (queue_of policy.target queues) name

-- a queue of this name may have the redrive policy that is given, if any is
abbrev pub may_have : List Queue → List ℕ → Option (Option RedrivePolicy) → Bool
may_have queues name None = true
may_have queues name (Some None) = true
may_have queues name (Some (Some policy)) = may_target queues name policy

-- what homes go by of a policy: its target by the number that its name has now
abbrev pub redrive_to : List Queue → Option RedrivePolicy → Option Redrive
redrive_to queues None = None
redrive_to queues (Some policy) = option_map (λ number. record { target = number; max_receives = policy.max_receives }) (number_named policy.target queues)

-- ---- attributes

-- what is given, or else what was there
abbrev pub changed_redrive : List Queue → Option (Option RedrivePolicy) → Option Redrive → Option Redrive
changed_redrive queues None old = old
changed_redrive queues (Some policy) old = redrive_to queues policy

-- the queue with the attributes that are given, and with the next version
abbrev pub with_attributes : List Queue → Attributes → Queue → Queue
with_attributes queues given queue = record queue {
  settings = record {
    delay = unwrap_or given.delay queue.settings.delay;
    retention = unwrap_or given.retention queue.settings.retention;
    wait_time = unwrap_or given.wait_time queue.settings.wait_time;
    timeout = unwrap_or given.timeout queue.settings.timeout;
    redrive = changed_redrive queues given.redrive queue.settings.redrive;
  };
  redrive = unwrap_or given.redrive queue.redrive;
  allow = unwrap_or given.allow queue.allow;
  version = suc queue.version;
}

-- a queue with the defaults, before its first attributes are set (SQS API Reference, CreateQueue)
abbrev pub plain_queue : ℕ → List ℕ → Queue
plain_queue number name = record {
  number = number;
  name = name;
  settings = record { delay = 0; retention = 345600; wait_time = 0; timeout = 30; redrive = None };
  redrive = None;
  allow = None;
  version = 0;
  last_purge = None;
}

-- the queue that is made next, with these attributes
abbrev pub new_queue : Directory → List ℕ → Attributes → Queue
new_queue d name given = with_attributes d.queues given (plain_queue (suc d.made) name)

-- a number that is given is this one
abbrev pub is_or_none : Option ℕ → ℕ → Bool
is_or_none None number = true
is_or_none (Some given) number = given == number

-- each attribute that is given is the queue's; policies as they are printed
abbrev pub agrees : Attributes → Queue → Bool
agrees given queue =
    is_or_none given.delay queue.settings.delay
    && is_or_none given.retention queue.settings.retention
    && is_or_none given.wait_time queue.settings.wait_time
    && is_or_none given.timeout queue.settings.timeout
    && agrees_redrive given.redrive queue.redrive
    && agrees_allow given.allow queue.allow

-- ---- what is answered of a queue

abbrev pub settings_at : Queue → QueueSettings
settings_at queue = record { queue = queue.number; settings = queue.settings; version = queue.version }

abbrev pub attributes_at : Queue → QueueAttributes
attributes_at queue = record { queue = queue.number; settings = queue.settings; redrive = queue.redrive; allow = queue.allow }

abbrev pub begins : NamePrefix → List ℕ → Bool
begins Any name = true
begins (Text prefix) name = starts_with nat_eq name prefix
begins NoName name = false

abbrev pub names_with : NamePrefix → List Queue → List (List ℕ)
names_with prefix queues = filter (begins prefix) (map (λ queue. queue.name) queues)

abbrev pub has_target : ℕ → Option Redrive → Bool
has_target number None = false
has_target number (Some redrive) = redrive.target == number

-- the queue sends its dead letters to the one of this number
abbrev pub is_source_of : ℕ → Queue → Bool
is_source_of number queue = has_target number queue.settings.redrive

abbrev pub sources_of : ℕ → List Queue → List (List ℕ)
sources_of number queues = map (λ queue. queue.name) (filter (is_source_of number) queues)

-- ---- steps

-- at m, less than that after an earlier moment
abbrev pub is_recent : ℕ → ℕ → Bool
is_recent m before = nat_lt m (before + least_wait)

abbrev pub purged_recently : ℕ → Option ℕ → Bool
purged_recently m None = false
purged_recently m (Some before) = is_recent m before

-- a queue of this name was deleted recently
abbrev pub deleted_recently : ℕ → List ℕ → List DeletedName → Bool
deleted_recently m name deleted = list_any (λ gone. bytes_eq gone.name name && is_recent m gone.moment) deleted

-- the queue of this name is there
abbrev pub IsThere : Directory → List ℕ → Queue → Type 0
IsThere d name queue = queue_of name d.queues ≡ Some queue

-- a queue may be made, at m
pub record MayMake (d : Directory) (m : ℕ) (name : List ℕ) (given : Attributes) : Type 0 where
  pub name_free : deleted_recently m name d.deleted ≡ false
  pub policy : may_have d.queues name given.redrive ≡ true
  pub not_full : d.made < d.most

-- a queue of this name is made, where there is none, and else found
abbrev pub Creates : Directory → ℕ → List ℕ → Attributes → Option Queue → QueueSettings → Directory → Type 0
Creates d m name given None made after =
    MayMake d m name given
    × (made ≡ settings_at (new_queue d name given))
    × (after ≡ record d { queues = d.queues ++ new_queue d name given ∷ []; made = suc d.made })
Creates d m name given (Some queue) made after = (agrees given queue ≡ true) × (made ≡ settings_at queue) × (after ≡ d)

-- From a directory, at m, it may give this reply to the call and go on to after.
unfoldable pub DirectoryStep : Directory → ℕ → DirectoryCall → DirectoryReply → Directory → Type 0
DirectoryStep d m (asks.Create name given) (answers.Made made) after = Creates d m name given (queue_of name d.queues) made after
DirectoryStep d m (asks.Set name given) (answers.Changed changed) after = (queue : Queue) × IsThere d name queue
    × (queue.version < last_version)
    × (may_have d.queues name given.redrive ≡ true)
    × (changed ≡ settings_at (with_attributes d.queues given queue))
    × (after ≡ record d { queues = changed_queue name (with_attributes d.queues given) d.queues })
DirectoryStep d m (asks.Remove name) (answers.Removed number) after = (queue : Queue) × IsThere d name queue
    × (number ≡ queue.number)
    × (after ≡ record d { queues = queues_without name d.queues; deleted = d.deleted ++ record { name = name; moment = m } ∷ [] })
DirectoryStep d m (asks.PurgeTicket name) (answers.Ticket number) after = (queue : Queue) × IsThere d name queue
    × (purged_recently m queue.last_purge ≡ false)
    × (number ≡ queue.number)
    × (after ≡ record d { queues = changed_queue name (λ q. record q { last_purge = Some m }) d.queues })
DirectoryStep d m (asks.Url name) (answers.Found number) after = ((queue : Queue) × IsThere d name queue × (number ≡ queue.number)) × (after ≡ d)
DirectoryStep d m (asks.List prefix) (answers.Listed names) after = (names ≡ names_with prefix d.queues) × (after ≡ d)
DirectoryStep d m (asks.Sources name) (answers.Sources names) after = ((queue : Queue) × IsThere d name queue × (names ≡ sources_of queue.number d.queues)) × (after ≡ d)
DirectoryStep d m (asks.Read name) (answers.Read attributes) after = ((queue : Queue) × IsThere d name queue × (attributes ≡ attributes_at queue)) × (after ≡ d)
-- no other reply is given
DirectoryStep d m call reply after = ⊥

-- ---- refusals

-- of a queue that is there, what its own checks say; first of all, that it is not there
abbrev pub refused_at : Option Queue → (Queue → Option Refusal) → Option Refusal
refused_at None later = Some QueueDoesNotExist
refused_at (Some queue) later = later queue

abbrev pub create_refusal : Directory → ℕ → List ℕ → Attributes → Option Queue → Option Refusal
create_refusal d m name given None =
    refused_if (deleted_recently m name d.deleted) QueueDeletedRecently
    (refused_if (not (may_have d.queues name given.redrive)) InvalidAttributeValue
    (refused_if (nat_le d.most d.made) TableFull None))
create_refusal d m name given (Some queue) = refused_if (not (agrees given queue)) QueueNameExists None

-- the first check of the directory that fails
unfoldable pub directory_refusal : Directory → ℕ → DirectoryCall → Option Refusal
directory_refusal d m (asks.Create name given) = create_refusal d m name given (queue_of name d.queues)
directory_refusal d m (asks.Set name given) = refused_at (queue_of name d.queues) (λ queue.
    refused_if (nat_le last_version queue.version) Worn
    (refused_if (not (may_have d.queues name given.redrive)) InvalidAttributeValue None))
directory_refusal d m (asks.Remove name) = refused_at (queue_of name d.queues) (λ queue. None)
directory_refusal d m (asks.PurgeTicket name) = refused_at (queue_of name d.queues) (λ queue. refused_if (purged_recently m queue.last_purge) PurgeQueueInProgress None)
directory_refusal d m (asks.Url name) = refused_at (queue_of name d.queues) (λ queue. None)
directory_refusal d m (asks.List prefix) = None
directory_refusal d m (asks.Sources name) = refused_at (queue_of name d.queues) (λ queue. None)
directory_refusal d m (asks.Read name) = refused_at (queue_of name d.queues) (λ queue. None)

-- ---- reads, which are no events

-- the number of a queue, where it is there
abbrev pub found_number : Option ℕ → Result ℕ Refusal
found_number None = Err QueueDoesNotExist
found_number (Some number) = Ok number

abbrev pub resolved : List ℕ → Directory → Result ℕ Refusal
resolved name d = found_number (number_named name d.queues)

abbrev pub as_named : Queue → NamedQueue
as_named queue = record { number = queue.number; name = queue.name }

-- all queues, in order of creation
abbrev pub all_named : Directory → List NamedQueue
all_named d = map as_named d.queues

-- a queue whose messages a task moves, and the one that it moves them to (SQS API Reference, StartMessageMoveTask); that only a queue that takes dead letters is a source is own
pub record MoveEnds : Type 0 where
  pub source : NamedQueue
  pub destination : Option NamedQueue

abbrev pub move_from : Directory → Queue → Option NamedQueue → Result MoveEnds Refusal
move_from d source destination =
    if list_any (is_source_of source.number) d.queues then Ok (record { source = as_named source; destination = destination }) else Err UnsupportedOperation

abbrev pub move_to : Directory → Queue → Option Queue → Result MoveEnds Refusal
move_to d source None = Err ResourceNotFoundException
move_to d source (Some destination) = move_from d source (Some (as_named destination))

abbrev pub move_between : Directory → Option Queue → Option (List ℕ) → Result MoveEnds Refusal
move_between d None destination = Err ResourceNotFoundException
move_between d (Some source) None = move_from d source None
move_between d (Some source) (Some name) = move_to d source (queue_of name d.queues)

-- whether messages may be moved from the queue of a name, to that of another one or back to where they came from
abbrev pub can_redrive : List ℕ → Option (List ℕ) → Directory → Result MoveEnds Refusal
can_redrive source destination d = move_between d (queue_of source d.queues) destination

-- ---- what holds of every directory

-- the target of the policy of a queue: one of all that were made, and another one
pub record IsTarget (made number target : ℕ) : Type 0 where
  pub first : 1 ≤ target
  pub was_made : target ≤ made
  pub other : target ≢ number

-- a policy as it is printed, and what the homes of the queue of this number go by: both are there or none
abbrev pub IsPolicy : ℕ → ℕ → Option RedrivePolicy → Option Redrive → Type 0
IsPolicy made number None None = Unit {0}
IsPolicy made number (Some given) (Some redrive) = IsTarget made number redrive.target × (redrive.max_receives ≡ given.max_receives)
IsPolicy made number None (Some redrive) = ⊥
IsPolicy made number (Some given) None = ⊥

abbrev pub HasPolicy : ℕ → Queue → Type 0
HasPolicy made queue = IsPolicy made queue.number queue.redrive queue.settings.redrive

-- The numbers of all queues differ, and so do their names; each has a whole policy or none. All that were made are there or deleted, and no more were made than may be.
pub record IsDirectory (d : Directory) : Type 0 where
  pub numbers_rise : Rise (λ queue. queue.number) 1 d.queues (suc d.made)
  pub names_once : (name : List ℕ) → count_by (has_name name) d.queues ≤ 1
  pub policies : AllByRecursion (HasPolicy d.made) d.queues
  pub counted : length d.queues + length d.deleted ≡ d.made
  pub within : d.made ≤ d.most

-- a queue of this number was made once, and is no more
pub record IsGone (number : ℕ) (d : Directory) : Type 0 where
  pub first : 1 ≤ number
  pub was_made : number ≤ d.made
  pub is_not_there : AllByRecursion (λ queue. queue.number ≢ number) d.queues
