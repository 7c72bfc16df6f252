-- What a recorded call does, and what is true of every recorded home.
use Rattle.std.specs.Prelude.{◌≡◌, ◌⊎◌, ℕ}
use Rattle.sq_base.specs.declared.refusal.Refusal.{Refusal}
use Rattle.sq_base.specs.declared.refusal.Refusal.TheVariants.{NoMemory}
use Rattle.sq_model.specs.declared.calls.HomeCall.{HomeCall}
use Rattle.sq_model.specs.declared.replies.HomeReply.{HomeReply}
use Rattle.sq_model.specs.declared.event.Actor.{Actor}
use Rattle.sq_history.specs.Acts.{HoldsAny}
use Rattle.sq_log.specs.Logs.{IsUnready}
use Rattle.sq_log.specs.LogValue.{LogValue}

-- No step of this call is begun: its event cannot be, or no memory was found for what it holds.
abbrev pub IsUnbegun : LogValue HomeCall HomeReply → Actor → ℕ → HomeCall → Refusal → Type 0
IsUnbegun old by now call e = IsUnready old by now e ⊎ ((e ≡ NoMemory) × HoldsAny call)
