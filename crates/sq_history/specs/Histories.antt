-- What a recorded call does, and what is true of every recorded home.
use Rattle.std.specs.Prelude.{◌≡◌, ◌⊎◌, ℕ, false, List, [], ◌∷◌, ◌++◌, length, Option, Some, Ok, Err}
use Rattle.std.specs.List.{All}
use Rattle.sq_base.specs.StampValue.{StampValue}
use Rattle.sq_base.specs.Stamps.{Below, start, after}
use Rattle.sq_base.specs.declared.refusal.Refusal.{Refusal}
use Rattle.sq_base.specs.declared.refusal.Refusal.TheVariants.{NoMemory}
use Rattle.sq_base.specs.declared.ids.HomeId.{HomeId}
use Rattle.sq_model.specs.declared.place.Component.TheVariants as part
use Rattle.sq_model.specs.declared.calls.HomeCall.{HomeCall}
use Rattle.sq_model.specs.declared.replies.HomeReply.{HomeReply}
use Rattle.sq_model.specs.declared.event.Actor.{Actor}
use Rattle.sq_model.specs.Homes.{Unopened, HomeStep, home_refusal}
use Rattle.sq_model.specs.Replays.{HomeEvent, Replays, StampsRise}
use Rattle.sq_model.specs.Systems.{is_alone}
use Rattle.sq_model.specs.RecordValues.{HomeRecordValue}
use Rattle.sq_shard.specs.Moves.{KeepsSpareRows}
use Rattle.sq_history.specs.Acts.{CopiesBytes, HoldsAny}
use Rattle.sq_log.specs.Logs.{event_by}
use Rattle.sq_log.specs.Spares.{KeepsSpare}
use Rattle.sq_history.specs.HistoryValue.{HistoryValue}

abbrev pub new_event : StampValue → Actor → HomeId → HomeCall → HomeReply → HomeEvent
new_event stamp by home call reply = event_by stamp by (part.Home home) call reply

abbrev pub new_record : StampValue → Actor → HomeId → ℕ → HomeCall → HomeReply → Option (List ℕ) → HomeRecordValue
new_record stamp by home index call reply name =
    record { place = by.place; stamp = stamp; home = home; index = index; call = call; reply = reply; name = name }

-- Exactly one event was added: a step of the home at a new stamp, above the home's last and above what the actor had seen. The record is its own.
pub record RecordsStep (old new : HistoryValue) (by : Actor) (now : ℕ) (name : Option (List ℕ)) (call : HomeCall) (its_record : HomeRecordValue) : Type 0 where
  pub stamped : after old.last by.seen now ≡ Ok its_record.stamp
  pub step : HomeStep old.site old.home its_record.stamp.moment call its_record.reply new.home
  pub site : new.site ≡ old.site
  pub last : new.last ≡ its_record.stamp
  pub events : new.events ≡ old.events ++ new_event its_record.stamp by old.site.home call its_record.reply ∷ []
  pub spare : KeepsSpare old.spare new.spare
  pub spare_rows : KeepsSpareRows call old.spare_rows new.spare_rows
  pub record_is : its_record ≡ new_record its_record.stamp by old.site.home (length old.events) call its_record.reply name

-- Exactly one event was added: a step that the home shares with the ledger, at a stamp that was drawn before, above the home's last and above what the actor had seen. The record is its own.
pub record RecordsShared (old new : HistoryValue) (by : Actor) (stamp : StampValue) (name : Option (List ℕ)) (call : HomeCall) (its_record : HomeRecordValue) : Type 0 where
  pub shared : is_alone call ≡ false
  pub above_last : Below old.last stamp
  pub above_seen : Below by.seen stamp
  pub step : HomeStep old.site old.home stamp.moment call its_record.reply new.home
  pub site : new.site ≡ old.site
  pub last : new.last ≡ stamp
  pub events : new.events ≡ old.events ++ new_event stamp by old.site.home call its_record.reply ∷ []
  pub spare : KeepsSpare old.spare new.spare
  pub spare_rows : KeepsSpareRows call old.spare_rows new.spare_rows
  pub record_is : its_record ≡ new_record stamp by old.site.home (length old.events) call its_record.reply name

-- No memory was found for the event or for what it holds, or the clock's or the counts' check fails; then no memory was found for copies, or the home's first check that fails.
abbrev pub IsRefused : HistoryValue → Actor → ℕ → HomeCall → Refusal → Type 0
IsRefused old by now call e =
    ((e ≡ NoMemory) × ((old.spare ≡ 0) ⊎ HoldsAny call))
    ⊎ (after old.last by.seen now ≡ Err e)
    ⊎ ((stamp : StampValue) × (after old.last by.seen now ≡ Ok stamp)
    × (((e ≡ NoMemory) × CopiesBytes old.site old.home old.spare_rows stamp.moment call) ⊎ (home_refusal old.site old.home stamp.moment call ≡ Some e)))

-- True of every recorded home: it is the replay of its events, whose stamps rise, and each event is one of it.
pub record IsKept (h : HistoryValue) : Type 0 where
  pub replays : Replays (HomeStep h.site) Unopened h.events h.home
  pub rising : StampsRise start h.events h.last
  pub own : All (λ e. e.component ≡ part.Home h.site.home) h.events
