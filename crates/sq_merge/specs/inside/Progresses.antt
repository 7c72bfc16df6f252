-- How far the turns of each actor are. Own.
use Rattle.std.specs.Prelude.{ℕ, List, length, position, unwrap_or}
use Rattle.sq_merge.specs.declared.progress.ActorProgress.{ActorProgress}
use Rattle.sq_merge.specs.Progresses.{is_progress_of}

-- that index
abbrev pub progress_place : ℕ → List ActorProgress → ℕ
progress_place actor ps = unwrap_or (position (is_progress_of actor) ps) (length ps)
