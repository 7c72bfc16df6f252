-- The halves of a step that a home and the ledger do together, and why neither is done.
use Rattle.std.proofs.Common.{◌≡◌, ◌⊎◌, ℕ, true, false, List, Option, Some, None, Result, Ok, Err, refl, sym, ◌∙◌, ap, subst, inl, inr}
use Rattle.std.specs.Prelude.{if◌then◌else◌, not, unwrap_or}
use Rattle.std.specs.List.{list_any}
use Rattle.sq_base.specs.declared.refusal.Refusal.{Refusal}
use Rattle.sq_base.specs.declared.refusal.Refusal.TheVariants.{NoMemory, UnsupportedOperation}
use Rattle.sq_base.specs.StampValue.{StampValue}
use Rattle.sq_base.specs.declared.ids.HomeId.{HomeId}
use Rattle.sq_model.specs.declared.calls.HomeCall.{HomeCall}
use Rattle.sq_model.specs.declared.event.Actor.{Actor}
use Rattle.sq_model.specs.declared.item.Item.{Item}
use Rattle.sq_model.specs.declared.place.Site.{Site}
use Rattle.sq_model.specs.declared.replies.HomeReply.{HomeReply}
use Rattle.sq_model.specs.declared.replies.HomeReply.TheVariants.{Done, Entered}
use Rattle.sq_model.specs.declared.shared.HomeLeave.{HomeLeave}
use Rattle.sq_model.specs.declared.shared.HomeLeave.TheVariants.{Dead, Drain}
use Rattle.sq_model.specs.declared.shared.ItemAct.{ItemAct}
use Rattle.sq_model.specs.declared.shared.ItemAct.TheVariants.{Enter, TurnBack, GiveBack, Drop}
use Rattle.sq_model.specs.Homes.{Home, Unopened, Serving, Closed, HomeStep, IsFrom, IsIdle, home_refusal, is_draining, refused_if, unexpired_rows}
use Rattle.sq_model.specs.HomeLeaves.{leave_asked, leave_call, leave_reason}
use Rattle.sq_model.specs.Rows.{is_at_rest}
use Rattle.sq_model.specs.ItemActs.{asked_with, call_with}
use Rattle.sq_model.specs.Ledgers.{Ledger, item_of, transit_refusal}
use Rattle.sq_model.specs.RecordValues.{HomeRecordValue}
use Rattle.sq_model.specs.Shared.{IsCallOf, IsUnrecorded, shared_refusal}
use Rattle.sq_history.specs.Halves.{item_refusal, leave_target, DoesHalf, HasItem, IsActRefused, IsHalfRefused, IsLeaveRefused, MayOneLeave, PutsRow}
use Rattle.sq_history.specs.declared.shared.HomeHalf.{HomeHalf}
use Rattle.sq_history.specs.HistoryValue.{HistoryValue}
use Rattle.sq_ledger.specs.LedgerHistories.{DoesItem, IsLeaving}
use Rattle.sq_steps.specs.SharedSteps.{CopiesItem, GrowsLast, IsPairRefused}

-- ---- what the reply of a home says

-- a home that did this with an item is the one for it, and answers so
pub answers_so : (act : ItemAct) (site : Site) (home : Home) (m : ℕ) (item : Item) (reply : HomeReply) (after : Home) → HomeStep site home m (call_with act item) reply after → DoesItem act site.home (call_with act item) reply item
unfolding HomeStep
answers_so Enter site (Serving its) m item (Entered entered) after h = record { is_call = refl; may = h.0; replies = (entered, refl) }
answers_so GiveBack site (Serving its) m item (Entered entered) after h = record { is_call = refl; may = h.0; replies = (entered, refl) }
answers_so TurnBack site Closed m item Done after h = record { is_call = refl; may = h.0; replies = refl }
answers_so Drop site Closed m item Done after h = record { is_call = refl; may = h.0; replies = refl }
answers_so act site home m item reply after h = elim h [ ]

-- ---- a home's first check is that of both

item_first : (act : ItemAct) (site : Site) (home : Home) (l : Ledger) (m number : ℕ) → item_refusal act site home m (item_of number l) ≡ shared_refusal site home l m (asked_with act number)
unfolding shared_refusal
item_first act site Unopened l m number = elim act as (λ a. item_refusal a site Unopened m (item_of number l) ≡ shared_refusal site Unopened l m (asked_with a number)) [ Enter ↦ refl | TurnBack ↦ refl | GiveBack ↦ refl | Drop ↦ refl ]
item_first act site (Serving its) l m number = elim act as (λ a. item_refusal a site (Serving its) m (item_of number l) ≡ shared_refusal site (Serving its) l m (asked_with a number)) [ Enter ↦ refl | TurnBack ↦ refl | GiveBack ↦ refl | Drop ↦ refl ]
item_first act site Closed l m number = elim act as (λ a. item_refusal a site Closed m (item_of number l) ≡ shared_refusal site Closed l m (asked_with a number)) [ Enter ↦ refl | TurnBack ↦ refl | GiveBack ↦ refl | Drop ↦ refl ]

-- what is done with an item is recorded
recorded : (act : ItemAct) (site : Site) (home : Home) (l : Ledger) (m number : ℕ) → IsUnrecorded site home l m (asked_with act number) → ⊥
recorded act site Unopened l m number h = h
recorded act site Closed l m number h = h
recorded act site (Serving its) l m number h =
    elim act as (λ a. IsUnrecorded site (Serving its) l m (asked_with a number) → ⊥) [ Enter ↦ (λ k. k) | TurnBack ↦ (λ k. k) | GiveBack ↦ (λ k. k) | Drop ↦ (λ k. k) ] h

grows_last : (act : ItemAct) (old : HistoryValue) (m number : ℕ) → PutsRow act → old.spare_rows ≡ 0 → GrowsLast old m (asked_with act number)
grows_last act old m number puts spare =
    elim act as (λ a. PutsRow a → GrowsLast old m (asked_with a number)) [ Enter ↦ (λ k. spare) | TurnBack ↦ (λ k. k) | GiveBack ↦ (λ k. spare) | Drop ↦ (λ k. k) ] puts

-- an item that is there is copied
copies_item : (act : ItemAct) (l : Ledger) (number : ℕ) → HasItem (item_of number l) → CopiesItem l (asked_with act number)
copies_item act l number there = elim act as (λ a. CopiesItem l (asked_with a number)) [ Enter ↦ there | TurnBack ↦ there | GiveBack ↦ there | Drop ↦ there ]

-- why a half is not done, told as why neither is
pub half_out : {A B : Type 0} (old : HistoryValue) (given : Result StampValue Refusal) (P Q : ℕ → Refusal → Type 0) (e : Refusal) → (A → B)
    → ((stamp : StampValue) → given ≡ Ok stamp → P stamp.moment e → Q stamp.moment e) → IsHalfRefused old A given P e → IsHalfRefused old B given Q e
half_out {A} {B} old given P Q e copies at h = elim h [
  | inl out ↦ inl (out.0, elim out.1 [ inl full ↦ inl full | inr copied ↦ inr (copies copied) ])
  | inr rest ↦ elim rest [ inl clock ↦ inr (inl clock) | inr not ↦ inr (inr (not.0, not.1, at not.0 not.1 not.2)) ]
]

-- why a home's rows do not do it is why neither half is done
act_out : (act : ItemAct) (old : HistoryValue) (l : Ledger) (m number : ℕ) (item : Option Item) (e : Refusal) → item ≡ item_of number l
    → IsActRefused act old.spare_rows (item_refusal act old.site old.home m item) e → IsPairRefused old l m (asked_with act number) e
act_out act old l m number item e is h =
    let same = ap (λ (it : Option Item). item_refusal act old.site old.home m it) is ∙ item_first act old.site old.home l m number in
    elim h [
      | inl out ↦ inl (out.0, (sym same ∙ out.1, recorded act old.site old.home l m number, grows_last act old m number out.2 out.3))
      | inr first ↦ inr (sym same ∙ first)
    ]

pub item_out : (act : ItemAct) (old : HistoryValue) (l : Ledger) (given : Result StampValue Refusal) (number : ℕ) (item : Option Item) (e : Refusal) → item ≡ item_of number l
    → IsHalfRefused old (HasItem item) given (λ m x. IsActRefused act old.spare_rows (item_refusal act old.site old.home m item) x) e
    → IsHalfRefused old (CopiesItem l (asked_with act number)) given (λ m x. IsPairRefused old l m (asked_with act number) x) e
item_out act old l given number item e is h =
    half_out old given (λ m x. IsActRefused act old.spare_rows (item_refusal act old.site old.home m item) x) (λ m x. IsPairRefused old l m (asked_with act number) x) e
    (λ there. copies_item act l number (subst HasItem is there)) (λ stamp _ not. act_out act old l stamp.moment number item e is not) h

-- ---- what the ledger is told

-- what a home did with an item is what its half says to the ledger
pub half_does : (act : ItemAct) (old new : HistoryValue) (by : Actor) (given : Result StampValue Refusal) (name : Option (List ℕ)) (item : Item) (half : HomeHalf) → DoesHalf old new by given name (call_with act item) half
    → DoesItem act half.its_record.home half.for_ledger.0 half.for_ledger.1 item
half_does act old new by given name item half does =
    let its_home : half.its_record.home ≡ old.site.home = ap (λ (r : HomeRecordValue). r.home) does.does.record_is in
    subst (λ (h : HomeId). DoesItem act h half.for_ledger.0 half.for_ledger.1 item) (sym its_home)
    (subst (λ (k : HomeCall). DoesItem act old.site.home k half.for_ledger.1 item) (sym does.ledger_call)
    (subst (λ (r : HomeReply). DoesItem act old.site.home (call_with act item) r item) (sym does.ledger_reply)
    (answers_so act old.site old.home half.its_record.stamp.moment item half.its_record.reply new.home does.does.step)))

-- ---- a message that does not leave

leave_passes : (what : HomeLeave) (site : Site) (home : Home) (l : Ledger) (m : ℕ) → MayOneLeave what home m → shared_refusal site home l m (leave_asked what) ≡ transit_refusal l
unfolding shared_refusal
leave_passes Dead site Unopened l m may = absurd may
leave_passes Dead site Closed l m may = absurd may
leave_passes Dead site (Serving its) l m may = rw may refl
leave_passes Drain site Unopened l m may = absurd may
leave_passes Drain site Closed l m may = absurd may
leave_passes Drain site (Serving its) l m may = rw (may.0, may.1) refl

leaves_recorded : (what : HomeLeave) (site : Site) (home : Home) (l : Ledger) (m : ℕ) → MayOneLeave what home m → IsUnrecorded site home l m (leave_asked what) → ⊥
leaves_recorded Dead site Unopened l m may h = h
leaves_recorded Dead site Closed l m may h = h
leaves_recorded Dead site (Serving its) l m may h = let k : true ≡ false = sym may ∙ h in cc
leaves_recorded Drain site Unopened l m may h = h
leaves_recorded Drain site Closed l m may h = h
leaves_recorded Drain site (Serving its) l m may h = let k : true ≡ false = sym may.1 ∙ h.1 in cc

home_first : (what : HomeLeave) (site : Site) (home : Home) (l : Ledger) (m : ℕ) (e : Refusal) → home_refusal site home m (leave_call what) ≡ Some e → shared_refusal site home l m (leave_asked what) ≡ Some e
unfolding shared_refusal home_refusal
home_first Dead site Unopened l m e h = h
home_first Dead site Closed l m e h = h
home_first Dead site (Serving its) l m e h = absurd cc
home_first Drain site Unopened l m e h = h
home_first Drain site Closed l m e h = h
home_first Drain site (Serving its) l m e h =
    elim (is_draining its.mode) as (λ v. refused_if (not v) UnsupportedOperation None ≡ Some e → refused_if (not v) UnsupportedOperation (if list_any (is_at_rest m) (unexpired_rows its m) then transit_refusal l else None) ≡ Some e) [ true ↦ (λ k. absurd cc) | false ↦ (λ k. k) ] h

grows_leave : (what : HomeLeave) (old : HistoryValue) (m : ℕ) → GrowsLast old m (leave_asked what)
grows_leave Dead old m = tt
grows_leave Drain old m = tt

leave_out : (what : HomeLeave) (old : HistoryValue) (l : Ledger) (m reserved : ℕ) (number : Result ℕ Refusal) (e : Refusal) → ((n : ℕ) → number ≡ Ok n → transit_refusal l ≡ None)
    → ((r : Refusal) → number ≡ Err r → (transit_refusal l ≡ Some r) ⊎ ((transit_refusal l ≡ None) × (r ≡ NoMemory) × (reserved ≡ 0)))
    → IsLeaveRefused what old.site old.home m number e → IsPairRefused old l m (leave_asked what) e
leave_out what old l m reserved number e passes refuses (inl (out, may, ok)) =
    inl (out, (leave_passes what old.site old.home l m may ∙ passes ok.0 ok.1, leaves_recorded what old.site old.home l m may, grows_leave what old m))
leave_out what old l m reserved number e passes refuses (inr (inl h)) = inr (home_first what old.site old.home l m e h)
leave_out what old l m reserved number e passes refuses (inr (inr (may, is))) =
    elim (refuses e is) [
      | inl full ↦ inr (leave_passes what old.site old.home l m may ∙ full)
      | inr out ↦ inl (out.1, (leave_passes what old.site old.home l m may ∙ out.0, leaves_recorded what old.site old.home l m may, grows_leave what old m))
    ]

pub leave_refused : (what : HomeLeave) (old : HistoryValue) (l : Ledger) (given : Result StampValue Refusal) (reserved : ℕ) (number : Result ℕ Refusal) (e : Refusal) → ((n : ℕ) → number ≡ Ok n → transit_refusal l ≡ None)
    → ((r : Refusal) → number ≡ Err r → (transit_refusal l ≡ Some r) ⊎ ((transit_refusal l ≡ None) × (r ≡ NoMemory) × (reserved ≡ 0)))
    → IsHalfRefused old ⊥ given (λ m x. IsLeaveRefused what old.site old.home m number x) e → IsHalfRefused old (CopiesItem l (leave_asked what)) given (λ m x. IsPairRefused old l m (leave_asked what) x) e
leave_refused what old l given reserved number e passes refuses h =
    half_out old given (λ m x. IsLeaveRefused what old.site old.home m number x) (λ m x. IsPairRefused old l m (leave_asked what) x) e
    (λ k. absurd k) (λ stamp _ not. leave_out what old l stamp.moment reserved number e passes refuses not) h

-- where none may leave, that is no event of both
pub idle_is_unrecorded : (what : HomeLeave) (site : Site) (home : Home) (l : Ledger) (m : ℕ) → IsIdle home m (leave_call what) → IsUnrecorded site home l m (leave_asked what)
idle_is_unrecorded Dead site Unopened l m idle = idle
idle_is_unrecorded Dead site Closed l m idle = idle
idle_is_unrecorded Dead site (Serving its) l m idle = idle
idle_is_unrecorded Drain site Unopened l m idle = idle
idle_is_unrecorded Drain site Closed l m idle = idle
idle_is_unrecorded Drain site (Serving its) l m idle = idle

-- ---- a message that leaves

pub leave_is_asked : (l : Ledger) (what : HomeLeave) (c : HomeCall) → c ≡ leave_call what → IsCallOf l (leave_asked what) c
leave_is_asked l Dead c is = is
leave_is_asked l Drain c is = is

-- what the ledger is told
pub leaving : (what : HomeLeave) (l : Ledger) (m : ℕ) (site : Site) (at : Home) (home : HomeId) (c : HomeCall) (item : Item)
    → c ≡ leave_call what → IsFrom home (leave_reason what) item → site.home ≡ home → leave_target what site at ≡ Some item.target → IsLeaving l m home c item
leaving Dead l m site at home c item is from here target = rw is from
leaving Drain l m site at home c item is from here target = rw is (from, sym (ap (λ (t : Option ℕ). unwrap_or t 0) target) ∙ ap (λ (h : HomeId). h.queue) here)
