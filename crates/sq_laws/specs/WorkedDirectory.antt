-- A directory with a queue or two, as the worked cases meet it.
use Rattle.std.specs.Prelude.{ℕ, List, [], ◌∷◌, Option, Some, None, codes}
use Rattle.sq_model.specs.declared.directory.Attributes.{Attributes}
use Rattle.sq_model.specs.declared.directory.DeletedName.{DeletedName}
use Rattle.sq_model.specs.declared.directory.Queue.{Queue}
use Rattle.sq_model.specs.declared.policy.AllowPolicy.{AllowPolicy}
use Rattle.sq_model.specs.declared.policy.AllowPolicy.TheVariants.{ByQueue, DenyAll}
use Rattle.sq_model.specs.declared.policy.RedrivePolicy.{RedrivePolicy}
use Rattle.sq_model.specs.Directories.{Directory, plain_queue}
use Rattle.sq_model.specs.Policies.{nothing_given}

abbrev pub delay_given : ℕ → Attributes
delay_given delay = record nothing_given { delay = Some delay }

-- dead after one receive, to the queue of this name
abbrev pub dead_to : List ℕ → RedrivePolicy
dead_to target = record { target = target; max_receives = 1 }

abbrev pub redrive_given : Option RedrivePolicy → Attributes
redrive_given policy = record nothing_given { redrive = Some policy }

abbrev pub allow_given : AllowPolicy → Attributes
allow_given policy = record nothing_given { allow = Some (Some policy) }

abbrev pub only_x : AllowPolicy
only_x = ByQueue (codes "x" ∷ [])

-- the queue of this number, with the defaults, as it is made
abbrev pub made_queue : ℕ → List ℕ → Queue
made_queue number name = record (plain_queue number name) { version = 1 }

-- the first queue, for dead letters, and the second one, whose they are
abbrev pub letters_queue : Queue
letters_queue = made_queue 1 (codes "d")

abbrev pub plain_source : Queue
plain_source = made_queue 2 (codes "q")

abbrev pub source_queue : Queue
source_queue = record plain_source {
  settings = record { delay = 0; retention = 345600; wait_time = 0; timeout = 30; redrive = Some (record { target = 1; max_receives = 1 }) };
  redrive = Some (dead_to (codes "d"));
}

-- the second queue, after its policy was unset
abbrev pub unset_source : Queue
unset_source = record plain_source { version = 2 }

-- these queues, of two that were ever made, and two more may be
abbrev pub directory_with : List Queue → List DeletedName → Directory
directory_with queues deleted = record { queues = queues; deleted = deleted; made = 2; most = 4 }

-- both queues, the second with its policy
abbrev pub both : Directory
both = directory_with (letters_queue ∷ source_queue ∷ []) []

-- the first queue with this policy of who may choose it, and the second without policies
abbrev pub letters_for : Option AllowPolicy → Directory
letters_for allow = directory_with (record letters_queue { allow = allow } ∷ plain_source ∷ []) []

-- the first queue was deleted at 61,000
abbrev pub letters_gone : Directory
letters_gone = directory_with (source_queue ∷ []) (record { name = codes "d"; moment = 61000 } ∷ [])

-- it was the second time that a queue of its name was deleted
abbrev pub deleted_twice : ℕ → Directory
deleted_twice m = record letters_gone { deleted = record { name = codes "d"; moment = 0 } ∷ record { name = codes "d"; moment = m } ∷ []; made = 3 }

-- and one of its name was made again
abbrev pub letters_again : Directory
letters_again = record letters_gone { queues = source_queue ∷ made_queue 3 (codes "d") ∷ []; made = 3 }

-- the first queue alone
abbrev pub one_queue : Directory
one_queue = record { queues = letters_queue ∷ []; deleted = []; made = 1; most = 4 }

-- and it was purged at a moment
abbrev pub purged_at : ℕ → Directory
purged_at m = record one_queue { queues = record letters_queue { last_purge = Some m } ∷ [] }

-- the first queue lets none choose it any more, which the second one did before
abbrev pub denying : Directory
denying = directory_with (record letters_queue { allow = Some DenyAll; version = 2 } ∷ source_queue ∷ []) []

-- four numbers that differ
abbrev pub numbers_given : Attributes
numbers_given = record nothing_given { delay = Some 1; retention = Some 62; wait_time = Some 3; timeout = Some 4; allow = Some (Some only_x) }

-- the first queue with them
abbrev pub numbered : Queue
numbered = record letters_queue { settings = record { delay = 1; retention = 62; wait_time = 3; timeout = 4; redrive = None }; allow = Some only_x; version = 2 }

-- the second queue after a change, with this delay, and with its dead letters for the queue of this number
abbrev pub redrawn : ℕ → ℕ → Queue
redrawn delay target = record source_queue {
  settings = record { delay = delay; retention = 345600; wait_time = 0; timeout = 30; redrive = Some (record { target = target; max_receives = 1 }) };
  version = 2;
}
