-- How far the turns of each actor are. Own.
use Rattle.std.specs.Prelude.{ℕ, Bool, ◌==◌, List, [], ◌∷◌, ◌++◌, if◌then◌else◌, find, Option, Some, None, position, Result, Err, slice_set, unwrap_or}
use Rattle.sq_base.specs.declared.refusal.Refusal.{Refusal}
use Rattle.sq_base.specs.declared.refusal.Refusal.TheVariants.{ResourceNotFoundException}
use Rattle.sq_calls.specs.declared.turns.Turned.{Turned}
use Rattle.sq_actions.specs.declared.walk.Walk.{Walk}
use Rattle.sq_actions.specs.Walks.{new_walk, task_walked}
use Rattle.sq_merge.specs.declared.progress.ActorProgress.{ActorProgress}
use Rattle.sq_merge.specs.declared.progress.Progress.{Progress}

-- an actor that tried no item and named no task
abbrev pub no_progress : Progress
no_progress = record { item = 0; walk = None }

-- the walk for this task: a new one where another task was named last, or none
abbrev pub walk_for : ℕ → Option Walk → Walk
walk_for task None = new_walk task
walk_for task (Some walk) = if task_walked walk == task then walk else new_walk task

-- after a turn for a task that told this: with this walk, but where the task is not there
abbrev pub having_walked : Result Turned Refusal → Walk → Progress → Progress
having_walked (Err ResourceNotFoundException) walk p = p
having_walked told walk p = record p { walk = Some walk }

abbrev pub is_progress_of : ℕ → ActorProgress → Bool
is_progress_of actor p = p.actor == actor

abbrev pub at_progress : ℕ → Progress → ActorProgress
at_progress actor progress = record { actor = actor; progress = progress }

-- what stands at the actor's index, if it has one
abbrev pub progress_of : ℕ → List ActorProgress → Progress
progress_of actor ps = (unwrap_or (find (is_progress_of actor) ps) (at_progress actor no_progress)).progress

-- in place of what stands there, or last
abbrev pub put_where : Option ℕ → ActorProgress → List ActorProgress → List ActorProgress
put_where None p ps = ps ++ p ∷ []
put_where (Some at) p ps = slice_set ps at p

-- the actor is so far now
abbrev pub put_progress : ℕ → Progress → List ActorProgress → List ActorProgress
put_progress actor now ps = put_where (position (is_progress_of actor) ps) (at_progress actor now) ps

-- the actor has an index, the last one where it had none
abbrev pub added_where : Option ℕ → ℕ → List ActorProgress → List ActorProgress
added_where None actor ps = ps ++ at_progress actor no_progress ∷ []
added_where (Some at) actor ps = ps

abbrev pub with_progress : ℕ → List ActorProgress → List ActorProgress
with_progress actor ps = added_where (position (is_progress_of actor) ps) actor ps
