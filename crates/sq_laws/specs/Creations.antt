-- Queues in the order in which they were made, and lists of their names.
use Rattle.std.specs.Prelude.{◌≡◌, ℕ, suc, ◌≤◌, true, List, [], ◌∷◌, ◌++◌, Option, Some, None}
use Rattle.sq_base.specs.declared.settings.Redrive.{Redrive}
use Rattle.sq_model.specs.declared.directory.DirectoryCall.{DirectoryCall}
use Rattle.sq_model.specs.declared.directory.DirectoryCall.TheVariants.{Create, Set, Remove, PurgeTicket, Url, List as ListNames, Sources, Read}
use Rattle.sq_model.specs.declared.directory.NamePrefix.{NamePrefix}
use Rattle.sq_model.specs.declared.directory.Queue.{Queue}
use Rattle.sq_model.specs.declared.policy.RedrivePolicy.{RedrivePolicy}
use Rattle.sq_model.specs.Directories.{Directory, DirectoryStep, IsThere, begins, queue_of}
use Rattle.sq_model.specs.Replays.{Replays}
use Rattle.sq_model.specs.Systems.{DirectoryEvent}

abbrev pub named_if_new : List ℕ → Option Queue → List (List ℕ)
named_if_new name None = name ∷ []
named_if_new name (Some queue) = []

-- the name of the queue that a step makes, where it makes one: it is asked for one, and none of this name is there
abbrev pub made_by : Directory → DirectoryCall → List (List ℕ)
made_by d (Create name given) = named_if_new name (queue_of name d.queues)
made_by d (Set name given) = []
made_by d (Remove name) = []
made_by d (PurgeTicket name) = []
made_by d (Url name) = []
made_by d (ListNames prefix) = []
made_by d (Sources name) = []
made_by d (Read name) = []

-- the names of all queues that a history makes, those deleted since among them, in the order of its steps
abbrev pub made_in : (d : Directory) (events : List DirectoryEvent) (after : Directory) → Replays DirectoryStep d events after → List (List ℕ)
made_in d [] after r = []
made_in d (e ∷ es) after r = made_by d e.call ++ made_in r.0 es after r.2

-- each is the name of a queue that is there, and the numbers of these queues rise from low on
abbrev pub AreInOrder : List Queue → ℕ → List (List ℕ) → Type 0
AreInOrder queues low [] = Unit {0}
AreInOrder queues low (name ∷ names) = (queue : Queue) × (queue_of name queues ≡ Some queue) × (low ≤ queue.number) × AreInOrder queues (suc queue.number) names

-- a queue of this name is there, and the name begins so
abbrev pub IsBegunBy : NamePrefix → Directory → List ℕ → Type 0
IsBegunBy prefix d name = (queue : Queue) × IsThere d name queue × (begins prefix name ≡ true)

-- a queue of this name is there, and has a policy whose target is the queue of this number
abbrev pub IsSource : ℕ → Directory → List ℕ → Type 0
IsSource number d name = (queue : Queue) × IsThere d name queue × ((redrive : Redrive) × (queue.settings.redrive ≡ Some redrive) × (redrive.target ≡ number))

-- a queue of this name is there, and its policy names another one, as it is printed
abbrev pub NamedByPolicy : List ℕ → Directory → List ℕ → Type 0
NamedByPolicy target d name = (queue : Queue) × IsThere d name queue × ((policy : RedrivePolicy) × (queue.redrive ≡ Some policy) × (policy.target ≡ target))
