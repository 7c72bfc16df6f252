-- A message that leaves its home, and what a home's half of a step gives.
use Rattle.std.proofs.Common.{◌≡◌, ℕ, Bool, true, false, List, [], ◌∷◌, ◌++◌, length, refl, sym, ap, subst, ◌∙◌, Option, Some, None, Result, Ok}
use Rattle.std.specs.Prelude.{◌&&◌, IfOk, unwrap_or}
use Rattle.std.specs.List.{list_any}
use Rattle.sq_base.specs.declared.settings.Redrive.{Redrive}
use Rattle.std.proofs.lemmas.List.Folds.{list_any_at}
use Rattle.sq_base.specs.StampValue.{StampValue}
use Rattle.sq_base.specs.Stamps.{Below}
use Rattle.sq_base.specs.declared.refusal.Refusal.{Refusal}
use Rattle.sq_base.specs.declared.row.Row.{Row}
use Rattle.sq_model.specs.declared.event.Actor.{Actor}
use Rattle.sq_model.specs.declared.replies.HomeReply.{HomeReply}
use Rattle.sq_model.specs.declared.shared.HomeLeave.{HomeLeave}
use Rattle.sq_model.specs.declared.shared.HomeLeave.TheVariants.{Dead, Drain}
use Rattle.sq_model.specs.declared.shared.ItemAct.{ItemAct}
use Rattle.sq_model.specs.declared.shared.ItemAct.TheVariants.{Enter, TurnBack, GiveBack, Drop}
use Rattle.sq_model.specs.declared.calls.HomeCall.{HomeCall}
use Rattle.sq_model.specs.declared.item.Item.{Item}
use Rattle.sq_model.specs.declared.place.Site.{Site}
use Rattle.sq_model.specs.declared.replies.HomeReply.TheVariants.{Left}
use Rattle.sq_model.specs.Homes.{Home, Unopened, Serving, Closed, Contents, HomeStep, IsFrom, dead_target, unexpired_rows}
use Rattle.sq_model.specs.HomeLeaves.{leave_call, leave_reason}
use Rattle.sq_model.specs.ItemActs.{call_with}
use Rattle.sq_model.specs.Passages.{is_alone}
use Rattle.sq_model.specs.RecordValues.{HomeRecordValue}
use Rattle.sq_model.specs.Rows.{is_at_rest, is_dead, is_spent, is_visible}
use Rattle.sq_log.specs.Spares.{KeepsSpare}
use Rattle.sq_shard.specs.Moves.{GoesWithout, HasRow, KeepsSpareRows, MayLeaveAt, leave_target}
use Rattle.sq_store.specs.Picked.{IsOneOf}
use Rattle.sq_history.specs.Halves.{DoesHalf, MayOneLeave}
use Rattle.sq_history.specs.Histories.{RecordsShared, new_event, new_record}
use Rattle.sq_history.specs.HistoryValue.{HistoryValue}
use Rattle.sq_history.specs.declared.shared.HomeHalf.{HomeHalf}

-- where one is found, one is there
one_there : (p : Row → Bool) (rows : List Row) (row : Row) → IsOneOf p rows row → list_any p rows ≡ true
one_there p rows row one = list_any_at p rows one.there.0 row one.there.1 (rw one.there.2 one.passes)

pub may_one_leave : (what : HomeLeave) (home : Home) (m : ℕ) (row : Row) → MayLeaveAt what home m row → MayOneLeave what home m
may_one_leave Dead Unopened m row may = absurd may
may_one_leave Dead Closed m row may = absurd may
may_one_leave Dead (Serving its) m row may = one_there (is_dead its.settings m) (unexpired_rows its m) row may
may_one_leave Drain Unopened m row may = absurd may
may_one_leave Drain Closed m row may = absurd may
may_one_leave Drain (Serving its) m row may = (may.0, one_there (is_at_rest m) (unexpired_rows its m) row may.1)

-- it is a row of the home
pub has_row : (what : HomeLeave) (home : Home) (m : ℕ) (row : Row) → MayLeaveAt what home m row → HasRow home m row
has_row Dead Unopened m row may = absurd may
has_row Dead Closed m row may = absurd may
has_row Dead (Serving its) m row may = may.there
has_row Drain Unopened m row may = absurd may
has_row Drain Closed m row may = absurd may
has_row Drain (Serving its) m row may = may.1.there

-- where none is set for dead messages, none is dead
no_policy : (its : Contents) (m : ℕ) (row : Row) (redrive : Option Redrive) → dead_target redrive ≡ None → (is_visible m row && is_spent redrive row) ≡ true → ⊥
no_policy its m row None none dead = elim (is_visible m row) as (λ v. (v && false) ≡ true → ⊥) [ true ↦ (λ k. absurd cc) | false ↦ (λ k. absurd cc) ] dead
no_policy its m row (Some redrive) none dead = absurd cc

-- and there is a queue that it goes to
pub has_target : (what : HomeLeave) (site : Site) (home : Home) (m : ℕ) (row : Row) → MayLeaveAt what home m row → leave_target what site home ≡ None → ⊥
has_target Dead site Unopened m row may none = may
has_target Dead site Closed m row may none = may
has_target Dead site (Serving its) m row may none = no_policy its m row its.settings.redrive none may.passes
has_target Drain site home m row may none = absurd cc

-- one that goes out has left
pub left_at : (what : HomeLeave) (site : Site) (home : Home) (m : ℕ) (item : Item) (after : Home) → IsFrom site.home (leave_reason what) item → MayLeaveAt what home m item.row → leave_target what site home ≡ Some item.target → GoesWithout home m item.row after
    → HomeStep site home m (leave_call what) (Left item) after
unfolding HomeStep
left_at Dead site Unopened m item after from may target going = absurd may
left_at Dead site Closed m item after from may target going = absurd may
left_at Dead site (Serving its) m item after from may target going = (from, sym target, may.passes, going)
left_at Drain site Unopened m item after from may target going = absurd may
left_at Drain site Closed m item after from may target going = absurd may
left_at Drain site (Serving its) m item after from may target going = (from, sym (ap (λ (t : Option ℕ). unwrap_or t 0) target), may.0, may.1.passes, going)

pub leave_shared : (what : HomeLeave) → is_alone (leave_call what) ≡ false
leave_shared Dead = refl
leave_shared Drain = refl

-- it takes no memory for a row
pub leave_keeps_spare : (what : HomeLeave) (old new : ℕ) → new ≡ old → KeepsSpareRows (leave_call what) old new
leave_keeps_spare Dead old new same = same
leave_keeps_spare Drain old new same = same

-- ---- a half that is shared

pub shared_act : (act : ItemAct) (item : Item) → is_alone (call_with act item) ≡ false
shared_act act item = elim act as (λ a. is_alone (call_with a item) ≡ false) [ Enter ↦ refl | TurnBack ↦ refl | GiveBack ↦ refl | Drop ↦ refl ]

-- at the stamp that was given, it is one event that is shared
pub half_shared : (old new : HistoryValue) (by : Actor) (given : Result StampValue Refusal) (stamp : StampValue) (name : Option (List ℕ)) (call : HomeCall) (reply : HomeReply) (its_record : HomeRecordValue)
    → is_alone call ≡ false → IfOk given (Below old.last) → IfOk given (Below by.seen) → given ≡ Ok stamp → HomeStep old.site old.home stamp.moment call reply new.home → new.site ≡ old.site → new.last ≡ stamp
    → new.events ≡ old.events ++ new_event stamp by old.site.home call reply ∷ [] → KeepsSpare old.spare new.spare → KeepsSpareRows call old.spare_rows new.spare_rows
    → its_record ≡ new_record stamp by old.site.home (length old.events) call reply name → RecordsShared old new by stamp name call its_record
half_shared old new by given stamp name call reply its_record shared last seen at step site new_last events spare spare_rows is =
    let same : reply ≡ its_record.reply = sym (ap (λ (r : HomeRecordValue). r.reply) is) in
    record {
      shared = shared;
      above_last = subst (λ (r : Result StampValue Refusal). IfOk r (Below old.last)) at last;
      above_seen = subst (λ (r : Result StampValue Refusal). IfOk r (Below by.seen)) at seen;
      step = subst (λ (r : HomeReply). HomeStep old.site old.home stamp.moment call r new.home) same step;
      site = site;
      last = new_last;
      events = subst (λ (r : HomeReply). new.events ≡ old.events ++ new_event stamp by old.site.home call r ∷ []) same events;
      spare = spare;
      spare_rows = spare_rows;
      record_is = subst (λ (r : HomeReply). its_record ≡ new_record stamp by old.site.home (length old.events) call r name) same is;
    }

-- and what that half gives
pub half_does : (old new : HistoryValue) (by : Actor) (given : Result StampValue Refusal) (stamp : StampValue) (name : Option (List ℕ)) (call : HomeCall) (reply : HomeReply) (half : HomeHalf)
    → given ≡ Ok stamp → RecordsShared old new by stamp name call half.its_record → half.its_record.stamp ≡ stamp → half.its_record.reply ≡ reply → half.answered ≡ reply
    → half.for_ledger.0 ≡ call → half.for_ledger.1 ≡ reply → DoesHalf old new by given name call half
half_does old new by given stamp name call reply half at shared is_stamp is_reply answered call_is reply_is = record {
  stamped = at ∙ ap (λ (s : StampValue). Ok s) (sym is_stamp);
  does = subst (λ (s : StampValue). RecordsShared old new by s name call half.its_record) (sym is_stamp) shared;
  answered = answered ∙ sym is_reply;
  ledger_call = call_is;
  ledger_reply = reply_is ∙ sym is_reply;
}
