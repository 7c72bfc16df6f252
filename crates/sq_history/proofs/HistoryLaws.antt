-- A recorded home stays the replay of its events.
use Rattle.std.proofs.Common.{◌≡◌, ℕ, List, [], ◌∷◌, ◌++◌, Option, refl}
use Rattle.std.proofs.lemmas.List.Elements.{All-push}
use Rattle.sq_base.specs.Stamps.{start}
use Rattle.sq_model.specs.declared.place.Component.TheVariants as part
use Rattle.sq_model.specs.declared.event.Actor.{Actor}
use Rattle.sq_model.specs.Homes.{Unopened, HomeStep}
use Rattle.sq_model.specs.RecordValues.{HomeRecordValue}
use Rattle.sq_model.specs.Replays.{HomeEvent, StampsRise}
use Rattle.sq_base.specs.StampValue.{StampValue}
use Rattle.sq_model.specs.declared.calls.HomeCall.{HomeCall}
use Rattle.sq_model.proofs.ReplayLaws.{replays_push}
use Rattle.sq_history.specs.HistoryValue.{HistoryValue}
use Rattle.sq_history.specs.Histories.{RecordsStep, RecordsShared, IsKept, new_event}

-- with one event more that is its own step
kept_event : (old new : HistoryValue) (event : HomeEvent) → IsKept old → StampsRise start new.events new.last → event.component ≡ part.Home old.site.home
    → HomeStep old.site old.home event.stamp.moment event.call event.reply new.home → new.site ≡ old.site → new.events ≡ old.events ++ event ∷ [] → IsKept new
kept_event old new event kept rising its_own step site events =
    record {
      replays = rw (site, events) (replays_push (HomeStep old.site) Unopened old.events old.home event new.home kept.replays step);
      rising = rising;
      own = rw (events, site) (All-push (λ e. e.component ≡ part.Home old.site.home) old.events event kept.own its_own);
    }

pub kept_more : (old new : HistoryValue) (by : Actor) (now : ℕ) (name : Option (List ℕ)) (call : HomeCall) (its_record : HomeRecordValue)
    → IsKept old → StampsRise start new.events new.last → RecordsStep old new by now name call its_record → IsKept new
kept_more old new by now name call its_record kept rising more =
    kept_event old new (new_event its_record.stamp by old.site.home call its_record.reply) kept rising refl more.step more.site more.events

pub kept_shared : (old new : HistoryValue) (by : Actor) (stamp : StampValue) (name : Option (List ℕ)) (call : HomeCall) (its_record : HomeRecordValue)
    → IsKept old → StampsRise start new.events new.last → RecordsShared old new by stamp name call its_record → IsKept new
kept_shared old new by stamp name call its_record kept rising more =
    kept_event old new (new_event stamp by old.site.home call its_record.reply) kept rising refl more.step more.site more.events
