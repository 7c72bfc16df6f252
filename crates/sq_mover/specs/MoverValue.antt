-- What contracts see of a mover, and what becomes of it.
use Rattle.std.specs.Prelude.{ℕ, ◌+◌, ◌-◌, ◌^◌, ◌==◌, min, Bool, true, false, List, [], ◌∷◌, ◌++◌, if◌then◌else◌, Option, Some, None, Result, Ok, Err, vec_capacity}
use Rattle.std.specs.Global.{Vec}
use Rattle.sq_base.specs.declared.refusal.Refusal.{Refusal}
use Rattle.sq_model.specs.declared.task.NamedQueue.{NamedQueue}
use Rattle.sq_model.specs.declared.task.Task.{Task}
use Rattle.sq_model.specs.Tasks.{is_active}
use Rattle.sq_calls.specs.declared.turns.Turned.{Turned}
use Rattle.sq_calls.specs.declared.turns.Turned.TheVariants as word
use Rattle.sq_actions.specs.declared.walk.Walk.{Walk}
use Rattle.sq_actions.specs.Walks.{new_walk, task_walked}
use Rattle.sq_mover.specs.declared.mover.Stage.{Stage}
use Rattle.sq_mover.specs.declared.mover.Stage.TheVariants.{Leave}

-- The walks of a sweep, and how many there is memory for.
pub record WalksValue : Type 0 where
  pub walks : List Walk
  pub spare : ℕ

-- as a list of them shows both
abbrev pub walks_of : Vec Walk → WalksValue
walks_of walks = record { walks = walks.items; spare = vec_capacity walks }

-- none, and no memory for one
abbrev pub no_walks : WalksValue
no_walks = record { walks = []; spare = 0 }

-- The queues of its sweep, the place of the one that it is at, what it does next there, the item that it tried last, the walks of the last sweep and of this one, and how many turns of its last run moved a message or ended a task.
pub record MoverValue : Type 0 where
  pub queues : List NamedQueue
  pub at : ℕ
  pub stage : Stage
  pub tried : ℕ
  pub last : WalksValue
  pub this : WalksValue
  pub moved : ℕ

-- a mover that has done nothing yet
abbrev pub new_mover : MoverValue
new_mover = record { queues = []; at = 0; stage = Leave; tried = 0; last = no_walks; this = no_walks; moved = 0 }

-- at the beginning of a run, of which no turn is made
abbrev pub begun : MoverValue → MoverValue
begun m = record m { moved = 0 }

-- a new sweep, over these queues: the walks of this one are those of the last one then, and those of the last one are forgotten
abbrev pub sweeping : List NamedQueue → MoverValue → MoverValue
sweeping queues m = record m { queues = queues; at = 0; last = m.this; this = record { walks = []; spare = m.last.spare } }

-- with something else to do next at this queue
abbrev pub staged : Stage → MoverValue → MoverValue
staged stage m = record m { stage = stage }

-- one more; the last number that there can be is followed by itself
abbrev pub one_more : ℕ → ℕ
one_more n = min (n + 1) (2 ^ 64 - 1)

-- with this item tried last, at the beginning with the next queue
abbrev pub brought : ℕ → MoverValue → MoverValue
brought tried m = record m { at = one_more m.at; stage = Leave; tried = tried }

-- with one walk more of this sweep, and memory for so many
abbrev pub after_walk : Walk → ℕ → MoverValue → MoverValue
after_walk walk spare m = record m { this = record { walks = m.this.walks ++ walk ∷ []; spare = spare } }

-- the first of these walks that is for a task; a new one where none is
abbrev pub walk_kept : ℕ → List Walk → Walk
walk_kept task [] = new_walk task
walk_kept task (walk ∷ walks) = if task_walked walk == task then walk else walk_kept task walks

-- whether a turn that told this word moved a message or ended a task
abbrev pub has_moved : Turned → Bool
has_moved word.Left = true
has_moved word.Nothing = false
has_moved word.Entered = true
has_moved word.Turned = true
has_moved word.Back = true
has_moved word.Dropped = true
has_moved word.Full = false
has_moved word.Throttled = false
has_moved word.Failed = true
has_moved word.Finished = true
has_moved word.Waiting = false
has_moved word.Ended = false

-- after a turn that told this: one more, where it moved a message or ended a task
abbrev pub counted : Result Turned Refusal → MoverValue → MoverValue
counted (Ok told) m = if has_moved told then record m { moved = one_more m.moved } else m
counted (Err e) m = m

-- the number of a task that is not over
abbrev pub active_of : Option Task → Option ℕ
active_of None = None
active_of (Some task) = if is_active task.status then Some task.number else None
