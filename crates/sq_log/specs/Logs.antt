-- What is done to a log, of whatever calls and replies.
use Rattle.std.specs.Prelude.{◌≡◌, ◌⊎◌, ◌<◌, ◌++◌, ◌∷◌, [], ℕ, Err}
use Rattle.sq_base.specs.StampValue.{StampValue}
use Rattle.sq_base.specs.Stamps.{after}
use Rattle.sq_base.specs.declared.refusal.Refusal.{Refusal}
use Rattle.sq_base.specs.declared.refusal.Refusal.TheVariants.{NoMemory}
use Rattle.sq_model.specs.declared.place.Component.{Component}
use Rattle.sq_model.specs.declared.event.Actor.{Actor}
use Rattle.sq_model.specs.declared.event.Event.{Event}
use Rattle.sq_log.specs.LogValue.{LogValue}
use Rattle.sq_log.specs.Spares.{KeepsSpare}

-- the event of a step of a component
abbrev pub event_by : {K R : Type 0} → StampValue → Actor → Component → K → R → Event K R
event_by {K} {R} stamp by component call reply =
    record { stamp = stamp; actor = by.number; place = by.place; component = component; call = call; reply = reply }

-- an actor's event of a component was put last, with the call and reply that are kept
pub record HasNoted {K R : Type 0} (stamp : StampValue) (by : Actor) (component : Component) (kept : K × R) (old new : LogValue K R) : Type 0 where
  pub last : new.last ≡ stamp
  pub events : new.events ≡ old.events ++ event_by stamp by component kept.0 kept.1 ∷ []
  pub shown : new.spare ≡ new.reserved
  pub spare : KeepsSpare old.spare new.spare

-- The log shows no spare memory, it has memory for fewer than four, and no more was found.
abbrev pub IsFull : {K R : Type 0} → LogValue K R → Refusal → Type 0
IsFull {K} {R} old e = (e ≡ NoMemory) × (old.spare ≡ 0) × (old.reserved < 4)

-- No event can be begun: no memory was found, or the first check that fails is the clock's, and then the counts'.
abbrev pub IsUnready : {K R : Type 0} → LogValue K R → Actor → ℕ → Refusal → Type 0
IsUnready {K} {R} old by now e = IsFull old e ⊎ (after old.last by.seen now ≡ Err e)
