-- Which turns a mover makes, one after another. Here m and s are the mover and its session before, n and t after.
use Rattle.std.specs.Prelude.{ℕ, ◌≡◌, ◌⊎◌, ◌<◌, ◌≤◌, zero, suc, List, length, Option, Some, None, IfErr, Result, Ok, Err, slice_get}
use Rattle.sq_base.specs.declared.refusal.Refusal.{Refusal}
use Rattle.sq_base.specs.declared.refusal.Refusal.TheVariants.{NoMemory}
use Rattle.sq_model.specs.declared.task.NamedQueue.{NamedQueue}
use Rattle.sq_model.specs.declared.task.Task.{Task}
use Rattle.sq_calls.specs.declared.turns.Turned.{Turned}
use Rattle.sq_calls.specs.declared.turns.Turned.TheVariants as word
use Rattle.sq_actions.specs.declared.walk.Walk.{Walk}
use Rattle.sq_actions.specs.Asks.{Done, IsOfAnyStep}
use Rattle.sq_actions.specs.Performs.{BringFits, LeaveFits, LeavesRecords, Performs, ServeFits}
use Rattle.sq_directory.specs.DirectoryHistory.{DirectoryHistory}
use Rattle.sq_queue.specs.LockedParts.{LockedPart, TheDirectory}
use Rattle.sq_queue.specs.Sections.{IsSection, Surroundings}
use Rattle.sq_queue.specs.SessionValue.{SessionValue}
use Rattle.sq_queue.specs.Services.{LastTaskRead, NamesRead}
use Rattle.sq_mover.specs.declared.mover.Stage.TheVariants.{Leave, Serve, Bring}
use Rattle.sq_mover.specs.MoverValue.{MoverValue, WalksValue, active_of, sweeping, staged, brought, after_walk, counted, walk_kept}

-- A turn was made whose steps fit so. Each is one of a part that the gate saw, where a refusal has its cause; and what it leaves with its session fits what it told.
pub record MakesTurn (at : Surroundings) (Fits : List Done → Result Turned Refusal → Type 0) (s : SessionValue) (told : Result Turned Refusal) (t : SessionValue) : Type 0 where
  pub sections : Performs (IsSection at) Fits s told t
  pub leaves_records : LeavesRecords Fits s.journal told t.journal

-- it was refused for want of memory, and nothing changed
abbrev pub RunsOut : MoverValue → SessionValue → Result Turned Refusal → MoverValue → SessionValue → Type 0
RunsOut m s told n t = (told ≡ Err NoMemory) × (n ≡ m) × (t ≡ s)

-- a dead letter leaves the queue of this name; a task is served there next
abbrev pub DeadLeaves : Surroundings → List ℕ → MoverValue → SessionValue → Result Turned Refusal → MoverValue → SessionValue → Type 0
DeadLeaves at name m s told n t = (n ≡ staged Serve m) × MakesTurn at (LeaveFits at.counts.homes name) s told t

-- the item after the one that was tried last comes in, and the sweep goes on to the next queue
abbrev pub BringsNext : Surroundings → MoverValue → SessionValue → Result Turned Refusal → MoverValue → SessionValue → Type 0
BringsNext at m s told n t = (n ≡ brought n.tried m) × MakesTurn at (BringFits at.counts.homes m.tried n.tried) s told t

-- there is memory for no walk more of this sweep; or for one more, and for as many as before
abbrev pub HasNoSpare : WalksValue → Type 0
HasNoSpare walks = walks.spare ≤ length walks.walks

abbrev pub GetsSpare : WalksValue → ℕ → Type 0
GetsSpare walks spare = (length walks.walks < spare) × (walks.spare ≤ spare)

-- A task is served by the walk that was kept for it in the last sweep, or by a new one, which is kept as the turn leaves it. Where there is no memory for a walk more, there may be no memory for it. Without a task the next item comes in.
abbrev pub ServesFor : Surroundings → Option ℕ → MoverValue → SessionValue → Result Turned Refusal → MoverValue → SessionValue → Type 0
ServesFor at None m s told n t = BringsNext at m s told n t
ServesFor at (Some task) m s told n t =
    (HasNoSpare m.this × RunsOut m s told n t)
    ⊎ ((walk : Walk) × (spare : ℕ) × GetsSpare m.this spare × (n ≡ after_walk walk spare m) × MakesTurn at (ServeFits at.counts.homes (walk_kept task m.last.walks) walk) s told t)

-- the last task of a source is read, as the gate saw the ledger, and served where it is not over
abbrev pub ServesSource : Surroundings → ℕ → MoverValue → SessionValue → Result Turned Refusal → MoverValue → SessionValue → Type 0
ServesSource at source m s told n t =
    (last : Option Task) × (read : SessionValue) × LastTaskRead at.Saw s source last read × ServesFor at (active_of last) m read told n t

-- The turn at a queue: a dead letter leaves, then the task is served, and then an item comes in. What is next is settled first: where memory for a walk is out, the next turn brings an item.
pub record TurnsAt (at : Surroundings) (queue : NamedQueue) (m : MoverValue) (s : SessionValue) (told : Result Turned Refusal) (n : MoverValue) (t : SessionValue) : Type 0 where
  pub leave : m.stage ≡ Leave → DeadLeaves at queue.name m s told n t
  pub serve : m.stage ≡ Serve → ServesSource at queue.number (staged Bring m) s told n t
  pub bring : m.stage ≡ Bring → BringsNext at m s told n t

-- the turn at the queue that the sweep is at; a sweep that found no queue has nothing to do
abbrev pub TurnsAtAny : Surroundings → Option NamedQueue → MoverValue → SessionValue → Result Turned Refusal → MoverValue → SessionValue → Type 0
TurnsAtAny at None m s told n t = (told ≡ Ok word.Nothing) × (n ≡ m) × (t ≡ s)
TurnsAtAny at (Some queue) m s told n t = TurnsAt at queue m s told n t

-- the sweep goes on; or it is over, and a new one begins with the queues that the directory names, as the gate saw it
abbrev pub SweepsOn : (LockedPart → Type 0) → MoverValue → SessionValue → MoverValue → SessionValue → Type 0
SweepsOn Saw m s n t =
    ((m.at < length m.queues) × (n ≡ m) × (t ≡ s))
    ⊎ ((queues : List NamedQueue) × (length m.queues ≤ m.at) × (n ≡ sweeping queues m) × NamesRead Saw s queues t)

-- the gate saw a directory that has queues
abbrev pub HasQueues : (LockedPart → Type 0) → Type 0
HasQueues Saw = (part : DirectoryHistory) × Saw (TheDirectory part) × (0 < length part.directory.queues)

-- A turn: at the queue that the sweep is at, which may be a new sweep. It counts where it moved a message or ended a task. Where there are queues, there may be no memory for the names of a new sweep.
abbrev pub TakesTurn : Surroundings → MoverValue → SessionValue → Result Turned Refusal → MoverValue → SessionValue → Type 0
TakesTurn at m s told n t =
    ((length m.queues ≤ m.at) × HasQueues at.Saw × RunsOut m s told n t)
    ⊎ ((mid : MoverValue) × (read : SessionValue) × (left : MoverValue) × SweepsOn at.Saw m s mid read × TurnsAtAny at (slice_get mid.queues mid.at) mid read told left t × (n ≡ counted told left))

-- it told a word, or a refusal that no step may be refused as: such a one is passed over
abbrev pub IsPassedOver : Result Turned Refusal → Type 0
IsPassedOver told = IfErr told (λ e. ¬ IsOfAnyStep e)

-- so many turns, one after another, and after each the run goes on
abbrev pub TakesTurns : Surroundings → ℕ → MoverValue → SessionValue → MoverValue → SessionValue → Type 0
TakesTurns at zero m s n t = (n ≡ m) × (t ≡ s)
TakesTurns at (suc made) m s n t =
    (mid : MoverValue) × (read : SessionValue) × (told : Result Turned Refusal) × TakesTurns at made m s mid read × TakesTurn at mid read told n t × IsPassedOver told

-- fewer turns than these, and then one that is refused so, which ends the run
abbrev pub EndsEarly : Surroundings → ℕ → MoverValue → SessionValue → Refusal → MoverValue → SessionValue → Type 0
EndsEarly at turns m s e n t =
    (made : ℕ) × (mid : MoverValue) × (read : SessionValue) × (made < turns) × TakesTurns at made m s mid read × TakesTurn at mid read (Err e) n t × IsOfAnyStep e
