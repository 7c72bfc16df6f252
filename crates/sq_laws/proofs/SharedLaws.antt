-- A step of a home and the ledger is given only where no check fails, and where none does it can be done.
use Rattle.std.proofs.Common.{◌++◌, ◌∷◌, [], ◌≡◌, ℕ, Bool, true, false, not, List, refl, sym, ap, ◌∙◌, subst, ◌⊎◌, inl, inr, Option, Some, None, ◌≤◌, arith}
use Rattle.std.specs.Prelude.{◌||◌, ◌&&◌, if◌then◌else◌, Result, Ok, Err}
use Rattle.std.specs.List.{list_any}
use Rattle.sq_base.specs.StampValue.{StampValue}
use Rattle.sq_base.specs.Stamps.{Below, after}
use Rattle.sq_base.specs.declared.refusal.Refusal.{Refusal}
use Rattle.sq_base.specs.declared.row.Row.{Row}
use Rattle.sq_model.specs.declared.calls.HomeCall.{HomeCall}
use Rattle.sq_model.specs.declared.calls.HomeCall.TheVariants as asks
use Rattle.sq_model.specs.declared.item.Item.{Item}
use Rattle.sq_model.specs.declared.item.Reason.TheVariants.{DeadLetter, Task as ForTask, Drain}
use Rattle.sq_model.specs.declared.ledger.LedgerCall.TheVariants.{AtHome as CallAtHome}
use Rattle.sq_model.specs.declared.ledger.LedgerReply.TheVariants.{AtHome as ReplyAtHome}
use Rattle.sq_model.specs.declared.place.Site.{Site}
use Rattle.sq_model.specs.declared.replies.HomeReply.{HomeReply}
use Rattle.sq_model.specs.declared.replies.HomeReply.TheVariants.{Done, Left, NoLiveRow, NoOrigin, SourceClosed, Entered}
use Rattle.sq_model.specs.declared.shared.SharedAct.{SharedAct}
use Rattle.sq_model.specs.declared.shared.SharedAct.TheVariants.{LeaveDead, LeaveDrain, LeaveTask, Enter, TurnBack, GiveBack, Drop}
use Rattle.sq_model.specs.declared.task.NamedQueue.{NamedQueue}
use Rattle.sq_model.specs.declared.task.Task.{Task}
use Rattle.sq_model.specs.Rows.{Takes, is_at_rest, is_dead, is_live}
use Rattle.sq_model.specs.Homes.{Contents, Home, Unopened, Serving, Closed, HasSlot, HomeStep, IsFrom, home_refusal, is_draining, may_enter, may_return, unexpired_rows}
use Rattle.sq_model.specs.Tasks.{destination_or, is_running, may_leave, target_of}
use Rattle.sq_model.specs.Ledgers.{TakesOneMore, Ledger, LedgerStep, MayTake, is_of_source, item_of, transit_refusal, task_of}
use Rattle.sq_model.specs.Shared.{IsCallOf, HasSharedStep, IsUnrecorded, SharedStep, after_given, is_entering, is_returning, is_throttled, shared_refusal, shared_stamp, task_refusal}
use Rattle.sq_base.proofs.StampLaws.{after_above, after_moment, below_trans}
use Rattle.sq_laws.proofs.LedgerLists.{found_number, some_same}
use Rattle.sq_laws.proofs.Progress.{above, has_target, passed, one_more_left, takes_one}
use Rattle.sq_laws.proofs.Refusals.{below, step_allowed}
use Rattle.sq_model.proofs.SlotLaws.{not_false}

-- ---- only where no check fails

one_more_passes : (l : Ledger) → TakesOneMore l → transit_refusal l ≡ None
one_more_passes l h = rw (below _ _ h.not_worn, below _ _ h.within) refl

either : (b : Bool) (refusal : Option Refusal) → refusal ≡ None → (if b then refusal else None) ≡ None
either true refusal e = e
either false refusal e = refl

not_asked : (b : Bool) (refusal : Option Refusal) → b ≡ false → (if b then refusal else None) ≡ None
not_asked b refusal e = rw e refl

and_not : (a b : Bool) → b ≡ false → (a && b) ≡ false
and_not true b e = e
and_not false b e = refl

takes_from : (site : Site) (l : Ledger) (number : ℕ) (task : Task) (later : Option Refusal) → MayTake l site.home.queue number task → later ≡ None → task_refusal site.home (task_of number l) later ≡ None
takes_from site l number task later h e = rw (h.found, h.running, h.of_source, e) refl

-- a leave, by both halves
allowed_leave_dead : (site : Site) (home : Home) (l : Ledger) (m : ℕ) (reply : HomeReply) (after : Home) (later : Ledger) → HomeStep site home m asks.LeaveDead reply after
    → LedgerStep l m (CallAtHome site.home asks.LeaveDead) (ReplyAtHome reply) later → shared_refusal site home l m LeaveDead ≡ None
unfolding HomeStep LedgerStep shared_refusal
allowed_leave_dead site (Serving its) l m (Left item) after later h k = either _ _ (one_more_passes l k.1.0)
allowed_leave_dead site home l m reply after later h k = elim h [ ]

allowed_leave_drain : (site : Site) (home : Home) (l : Ledger) (m : ℕ) (reply : HomeReply) (after : Home) (later : Ledger) → HomeStep site home m asks.LeaveDrain reply after
    → LedgerStep l m (CallAtHome site.home asks.LeaveDrain) (ReplyAtHome reply) later → shared_refusal site home l m LeaveDrain ≡ None
unfolding HomeStep LedgerStep shared_refusal
allowed_leave_drain site (Serving its) l m (Left item) after later h k = rw h.2 (either _ _ (one_more_passes l k.2.0))
allowed_leave_drain site home l m reply after later h k = elim h [ ]

allowed_leave_task : (site : Site) (home : Home) (l : Ledger) (m number : ℕ) (reply : HomeReply) (after : Home) (later : Ledger) → HomeStep site home m (asks.LeaveTask number) reply after
    → LedgerStep l m (CallAtHome site.home (asks.LeaveTask number)) (ReplyAtHome reply) later → shared_refusal site home l m (LeaveTask number) ≡ None
unfolding HomeStep LedgerStep shared_refusal
allowed_leave_task site (Serving its) l m number (Left item) after later h k = takes_from site l number k.1.0 _ k.1.1 (either _ _ (one_more_passes l k.2.0))
allowed_leave_task site (Serving its) l m number NoLiveRow after later h k = takes_from site l number k.0.0 _ k.0.1 (not_asked _ _ (and_not _ _ h.0))
allowed_leave_task site (Serving its) l m number (NoOrigin serial) after later h k = takes_from site l number k.0.0 _ k.0.1 (either _ _ (one_more_passes l k.1))
allowed_leave_task site Closed l m number SourceClosed after later h k = takes_from site l number k.0.0 _ k.0.1 refl
allowed_leave_task site home l m number reply after later h k = elim h [ ]

-- the act is not a leave
abbrev IsOfItem : SharedAct → Type 0
IsOfItem LeaveDead = ⊥
IsOfItem LeaveDrain = ⊥
IsOfItem (LeaveTask number) = ⊥
IsOfItem act = Unit {0}

-- an item that is there is refused as the home refuses it
item_alike : (site : Site) (home : Home) (l : Ledger) (m : ℕ) (act : SharedAct) (call : HomeCall) → IsCallOf l act call → IsOfItem act → shared_refusal site home l m act ≡ home_refusal site home m call
unfolding home_refusal shared_refusal
item_alike site home l m LeaveDead call is of = absurd of
item_alike site home l m LeaveDrain call is of = absurd of
item_alike site home l m (LeaveTask number) call is of = absurd of
item_alike site Unopened l m (Enter number) call is of = rw is.2 refl
item_alike site Unopened l m (TurnBack number) call is of = rw is.2 refl
item_alike site Unopened l m (GiveBack number) call is of = rw is.2 refl
item_alike site Unopened l m (Drop number) call is of = rw is.2 refl
item_alike site (Serving its) l m (Enter number) call is of = rw (is.2, is.1) refl
item_alike site (Serving its) l m (TurnBack number) call is of = rw is.2 refl
item_alike site (Serving its) l m (GiveBack number) call is of = rw (is.2, is.1) refl
item_alike site (Serving its) l m (Drop number) call is of = rw is.2 refl
item_alike site Closed l m (Enter number) call is of = rw is.2 refl
item_alike site Closed l m (TurnBack number) call is of = rw (is.2, is.1) refl
item_alike site Closed l m (GiveBack number) call is of = rw is.2 refl
item_alike site Closed l m (Drop number) call is of = rw (is.2, is.1) refl

-- the home's half, of the call that is asked
half : (site : Site) (home : Home) (m : ℕ) (call asked : HomeCall) (reply : HomeReply) (after : Home) → call ≡ asked → HomeStep site home m call reply after → HomeStep site home m asked reply after
half site home m call asked reply after e h = subst (λ (c : HomeCall). HomeStep site home m c reply after) e h

other_half : (site : Site) (l : Ledger) (m : ℕ) (call asked : HomeCall) (reply : HomeReply) (later : Ledger) → call ≡ asked → LedgerStep l m (CallAtHome site.home call) (ReplyAtHome reply) later
    → LedgerStep l m (CallAtHome site.home asked) (ReplyAtHome reply) later
other_half site l m call asked reply later e h = subst (λ (c : HomeCall). LedgerStep l m (CallAtHome site.home c) (ReplyAtHome reply) later) e h

pub shared_allowed : (site : Site) (home : Home) (l : Ledger) (m : ℕ) (act : SharedAct) (call : HomeCall) (reply : HomeReply) (after : Home) (later : Ledger) → IsCallOf l act call
    → SharedStep site home l m call reply after later → shared_refusal site home l m act ≡ None
shared_allowed site home l m LeaveDead call reply after later is s =
    allowed_leave_dead site home l m reply after later (half site home m call _ reply after is s.at_home) (other_half site l m call _ reply later is s.in_ledger)
shared_allowed site home l m LeaveDrain call reply after later is s =
    allowed_leave_drain site home l m reply after later (half site home m call _ reply after is s.at_home) (other_half site l m call _ reply later is s.in_ledger)
shared_allowed site home l m (LeaveTask number) call reply after later is s =
    allowed_leave_task site home l m number reply after later (half site home m call _ reply after is s.at_home) (other_half site l m call _ reply later is s.in_ledger)
shared_allowed site home l m (Enter number) call reply after later is s = item_alike site home l m (Enter number) call is tt ∙ step_allowed site home m call reply after s.at_home
shared_allowed site home l m (TurnBack number) call reply after later is s = item_alike site home l m (TurnBack number) call is tt ∙ step_allowed site home m call reply after s.at_home
shared_allowed site home l m (GiveBack number) call reply after later is s = item_alike site home l m (GiveBack number) call is tt ∙ step_allowed site home m call reply after s.at_home
shared_allowed site home l m (Drop number) call reply after later is s = item_alike site home l m (Drop number) call is tt ∙ step_allowed site home m call reply after s.at_home

-- ---- and where none does it can be done

one_more_fits : (l : Ledger) → transit_refusal l ≡ None → TakesOneMore l
one_more_fits l h = let worn = passed _ _ _ h in record { not_worn = above _ _ worn.0; within = above _ _ (passed _ _ _ worn.1).0 }

-- an item that is found is found by its own number too
pub by_its_number : (number : ℕ) (l : Ledger) (item : Item) → item_of number l ≡ Some item → item_of item.number l ≡ Some item
by_its_number number l item e = subst (λ (n : ℕ). item_of n l ≡ Some item) (sym (found_number (λ i. i.number) number l.items item e)) e

-- a step with these halves
goes_on : (site : Site) (home : Home) (l : Ledger) (m : ℕ) (act : SharedAct) (call : HomeCall) (reply : HomeReply) (after : Home) (l_after : Ledger) → IsCallOf l act call → HasSlot reply
    → HomeStep site home m call reply after → LedgerStep l m (CallAtHome site.home call) (ReplyAtHome reply) l_after → IsUnrecorded site home l m act ⊎ HasSharedStep site home l m act
goes_on site home l m act call reply after l_after is slot at_home in_ledger =
    inr (record { call = call; reply = reply; after = after; l_after = l_after; is_asked = is; slot = slot; step = record { at_home = at_home; in_ledger = in_ledger } })

dead_goes : (site : Site) (its : Contents) (l : Ledger) (m : ℕ) (b : Bool) → list_any (is_dead its.settings m) (unexpired_rows its m) ≡ b → (if b then transit_refusal l else None) ≡ None
    → IsUnrecorded site (Serving its) l m LeaveDead ⊎ HasSharedStep site (Serving its) l m LeaveDead
unfolding HomeStep LedgerStep
dead_goes site its l m false e h = inl e
dead_goes site its l m true e h =
    let t = takes_one (is_dead its.settings m) (unexpired_rows its m) e in
    let target = has_target its.settings.redrive _ t.0 t.3 in
    let item : Item = record { number = l.next_item; row = t.0; source = site.home.queue; target = target.0; reason = DeadLetter; homeward = false } in
    let from : IsFrom site.home DeadLetter item = record { from = refl; because = refl; forward = refl } in
    goes_on site (Serving its) l m LeaveDead asks.LeaveDead (Left item) _ _ refl tt (from, target.1, t.3, (t.1, t.2, refl)) (from, (one_more_fits l h, refl, refl))

drain_goes : (site : Site) (its : Contents) (l : Ledger) (m : ℕ) (b : Bool) → is_draining its.mode ≡ true → list_any (is_at_rest m) (unexpired_rows its m) ≡ b → (if b then transit_refusal l else None) ≡ None
    → IsUnrecorded site (Serving its) l m LeaveDrain ⊎ HasSharedStep site (Serving its) l m LeaveDrain
unfolding HomeStep LedgerStep
drain_goes site its l m false draining e h = inl (draining, e)
drain_goes site its l m true draining e h =
    let t = takes_one (is_at_rest m) (unexpired_rows its m) e in
    let item : Item = record { number = l.next_item; row = t.0; source = site.home.queue; target = site.home.queue; reason = Drain; homeward = false } in
    let from : IsFrom site.home Drain item = record { from = refl; because = refl; forward = refl } in
    goes_on site (Serving its) l m LeaveDrain asks.LeaveDrain (Left item) _ _ refl tt (from, refl, draining, t.3, (t.1, t.2, refl)) (from, refl, (one_more_fits l h, refl, refl))

-- a live row leaves for a task, where it has somewhere to go, and else the task fails
leaves_to : (site : Site) (its : Contents) (l : Ledger) (m number : ℕ) (task : Task) → MayTake l site.home.queue number task → may_leave m task ≡ true → TakesOneMore l
    → (row : Row) (rest : List Row) → Takes row (unexpired_rows its m) rest → is_live its.settings m row ≡ true → (target : ℕ) → Some target ≡ target_of task row → HasSharedStep site (Serving its) l m (LeaveTask number)
unfolding HomeStep LedgerStep
leaves_to site its l m number task may pace fits row rest t live target e =
    let item : Item = record { number = l.next_item; row = row; source = site.home.queue; target = target; reason = ForTask number; homeward = false } in
    record {
      call = asks.LeaveTask number;
      reply = Left item;
      after = _;
      l_after = _;
      is_asked = refl;
      slot = tt;
      step = record {
        at_home = (record { from = refl; because = refl; forward = refl }, live, (rest, t, refl));
        in_ledger = (record { from = refl; because = refl; forward = refl }, (task, may, pace, e), (fits, refl, refl));
      };
    }

row_goes : (site : Site) (its : Contents) (l : Ledger) (m number : ℕ) (task : Task) → MayTake l site.home.queue number task → may_leave m task ≡ true → TakesOneMore l
    → (row : Row) (rest : List Row) → Takes row (unexpired_rows its m) rest → is_live its.settings m row ≡ true → (destination : Option NamedQueue) (origin : Option ℕ) → task.destination ≡ destination → row.origin ≡ origin
    → HasSharedStep site (Serving its) l m (LeaveTask number)
unfolding HomeStep LedgerStep
row_goes site its l m number task may pace fits row rest t live None None d o = record {
  call = asks.LeaveTask number;
  reply = NoOrigin row.serial;
  after = _;
  l_after = _;
  is_asked = refl;
  slot = tt;
  step = record { at_home = ((row, rest, t, live, refl, o), refl); in_ledger = ((task, may, pace, d), fits, refl) };
}
row_goes site its l m number task may pace fits row rest t live None (Some queue) d o = leaves_to site its l m number task may pace fits row rest t live queue (sym (ap (λ (x : Option NamedQueue). destination_or x row.origin) d ∙ o))
row_goes site its l m number task may pace fits row rest t live (Some queue) origin d o = leaves_to site its l m number task may pace fits row rest t live queue.number (sym (ap (λ (x : Option NamedQueue). destination_or x row.origin) d))

pub and_both : (a b : Bool) → (a && b) ≡ true → (a ≡ true) × (b ≡ true)
and_both true b h = (refl, h)
and_both false b h = absurd cc

-- a task of this home that takes messages is there
found_task : (site : Site) (l : Ledger) (number : ℕ) (found : Option Task) (later : Option Refusal) → task_of number l ≡ found → task_refusal site.home found later ≡ None
    → ((task : Task) × (found ≡ Some task) × MayTake l site.home.queue number task) × (later ≡ None)
found_task site l number None later e h = absurd cc
found_task site l number (Some task) later e h =
    let p = passed (not (is_running task.status && is_of_source site.home.queue task)) _ _ h in
    let both = and_both _ _ (not_false _ p.0) in
    ((task, refl, record { found = e; running = both.0; of_source = both.1 }), p.1)

pub is_false : (b : Bool) → not b ≡ true → b ≡ false
is_false true e = absurd cc
is_false false e = refl

task_goes : (site : Site) (its : Contents) (l : Ledger) (m number : ℕ) (task : Task) → MayTake l site.home.queue number task → (throttled live : Bool) → is_throttled m (task_of number l) ≡ throttled
    → list_any (is_live its.settings m) (unexpired_rows its m) ≡ live → (if not throttled && live then transit_refusal l else None) ≡ None → IsUnrecorded site (Serving its) l m (LeaveTask number) ⊎ HasSharedStep site (Serving its) l m (LeaveTask number)
unfolding HomeStep LedgerStep
task_goes site its l m number task may true live e f h = inl (task, may, is_false (may_leave m task) (ap (is_throttled m) (sym may.found) ∙ e))
task_goes site its l m number task may false false e f h =
    let pace : may_leave m task ≡ true = not_false _ (ap (is_throttled m) (sym may.found) ∙ e) in
    goes_on site (Serving its) l m (LeaveTask number) (asks.LeaveTask number) NoLiveRow _ _ refl tt (f, refl) ((task, may, pace), refl)
task_goes site its l m number task may false true e f h =
    let pace : may_leave m task ≡ true = not_false _ (ap (is_throttled m) (sym may.found) ∙ e) in
    let t = takes_one (is_live its.settings m) (unexpired_rows its m) f in
    inr (row_goes site its l m number task may pace (one_more_fits l h) t.0 t.1 t.2 t.3 task.destination t.0.origin refl refl)

-- an item that may enter is there
entering_item : (site : Site) (l : Ledger) (number : ℕ) (found : Option Item) → item_of number l ≡ found → is_entering site.home found ≡ true → (item : Item) × (item_of number l ≡ Some item) × (may_enter site.home item ≡ true)
entering_item site l number None e h = absurd cc
entering_item site l number (Some item) e h = (item, e, h)

returning_item : (site : Site) (l : Ledger) (number : ℕ) (found : Option Item) → item_of number l ≡ found → is_returning site.home found ≡ true → (item : Item) × (item_of number l ≡ Some item) × (may_return site.home item ≡ true)
returning_item site l number None e h = absurd cc
returning_item site l number (Some item) e h = (item, e, h)

pub shared_possible : (site : Site) (home : Home) (l : Ledger) (m : ℕ) (act : SharedAct) → shared_refusal site home l m act ≡ None → IsUnrecorded site home l m act ⊎ HasSharedStep site home l m act
unfolding HomeStep LedgerStep shared_refusal
shared_possible site Unopened l m act h = absurd cc
shared_possible site (Serving its) l m LeaveDead h = dead_goes site its l m (list_any (is_dead its.settings m) (unexpired_rows its m)) refl h
shared_possible site (Serving its) l m LeaveDrain h =
    let p = passed (not (is_draining its.mode)) _ _ h in
    drain_goes site its l m (list_any (is_at_rest m) (unexpired_rows its m)) (not_false _ p.0) refl p.1
shared_possible site (Serving its) l m (LeaveTask number) h =
    let f = found_task site l number (task_of number l) _ refl h in
    task_goes site its l m number f.0.0 f.0.2 (is_throttled m (task_of number l)) (list_any (is_live its.settings m) (unexpired_rows its m)) refl refl f.1
shared_possible site (Serving its) l m (Enter number) h =
    let p = one_more_left _ _ _ _ _ h in
    let i = entering_item site l number (item_of number l) refl (not_false _ (passed _ _ _ p.1).0) in
    goes_on site (Serving its) l m (Enter number) (asks.Enter i.0) (Entered (record { serial = its.next; slot = p.0.0 })) _ _ (i.0, i.1, refl) p.0.1 (i.2, p.0.2, refl, refl) (i.2, (by_its_number number l i.0 i.1, refl))
shared_possible site (Serving its) l m (TurnBack number) h = absurd cc
shared_possible site (Serving its) l m (GiveBack number) h =
    let p = one_more_left _ _ _ _ _ h in
    let i = returning_item site l number (item_of number l) refl (not_false _ (passed _ _ _ p.1).0) in
    goes_on site (Serving its) l m (GiveBack number) (asks.GiveBack i.0) (Entered (record { serial = its.next; slot = p.0.0 })) _ _ (i.0, i.1, refl) p.0.1 (i.2, p.0.2, refl, refl) (i.2, (by_its_number number l i.0 i.1, refl))
shared_possible site (Serving its) l m (Drop number) h = absurd cc
shared_possible site Closed l m LeaveDead h = absurd cc
shared_possible site Closed l m LeaveDrain h = absurd cc
shared_possible site Closed l m (LeaveTask number) h =
    let f = found_task site l number (task_of number l) None refl h in
    goes_on site Closed l m (LeaveTask number) (asks.LeaveTask number) SourceClosed _ _ refl tt refl ((f.0.0, f.0.2), refl)
shared_possible site Closed l m (Enter number) h = absurd cc
shared_possible site Closed l m (TurnBack number) h =
    let i = entering_item site l number (item_of number l) refl (not_false _ (passed _ _ _ h).0) in
    goes_on site Closed l m (TurnBack number) (asks.TurnBack i.0) Done _ _ (i.0, i.1, refl) tt (i.2, refl) (i.2, by_its_number number l i.0 i.1, refl)
shared_possible site Closed l m (GiveBack number) h = absurd cc
shared_possible site Closed l m (Drop number) h =
    let i = returning_item site l number (item_of number l) refl (not_false _ (passed _ _ _ h).0) in
    goes_on site Closed l m (Drop number) (asks.Drop i.0) Done _ _ (i.0, i.1, refl) tt (i.2, refl) (i.2, (by_its_number number l i.0 i.1, refl))

-- ---- what is no step is none

or_right : (a b : Bool) → b ≡ true → (a || b) ≡ true
or_right true b e = refl
or_right false b e = e

not_both : (a b : Bool) → a ≡ b → a ≡ true → b ≡ false → ⊥
not_both true b e t f = let same : true ≡ false = e ∙ f in absurd cc
not_both false b e t f = absurd cc

-- a row of a kind is there
one_there : (p : Row → Bool) (row : Row) (before after : List Row) → p row ≡ true → list_any p (before ++ row ∷ after) ≡ true
one_there p row [] after e = rw e refl
one_there p row (x ∷ before) after e = or_right (p x) _ (one_there p row before after e)

-- what is taken out of rows of which none is of a kind is not of it
none_taken : (p : Row → Bool) (row : Row) (rows rest : List Row) → Takes row rows rest → p row ≡ true → list_any p rows ≡ false → ⊥
none_taken p row rows rest t is none = not_both (list_any p rows) (list_any p rows) refl (ap (list_any p) t.at ∙ one_there p row t.before t.after is) none

no_dead_leave : (site : Site) (its : Contents) (m : ℕ) (reply : HomeReply) (after : Home) → HomeStep site (Serving its) m asks.LeaveDead reply after → list_any (is_dead its.settings m) (unexpired_rows its m) ≡ false → ⊥
unfolding HomeStep
no_dead_leave site its m (Left item) after h none = none_taken (is_dead its.settings m) item.row (unexpired_rows its m) h.3.0 h.3.1 h.2 none
no_dead_leave site its m reply after h none = elim h [ ]

no_drain_leave : (site : Site) (its : Contents) (m : ℕ) (reply : HomeReply) (after : Home) → HomeStep site (Serving its) m asks.LeaveDrain reply after → list_any (is_at_rest m) (unexpired_rows its m) ≡ false → ⊥
unfolding HomeStep
no_drain_leave site its m (Left item) after h none = none_taken (is_at_rest m) item.row (unexpired_rows its m) h.4.0 h.4.1 h.3 none
no_drain_leave site its m reply after h none = elim h [ ]

one_pace : (l : Ledger) (number m : ℕ) (task other : Task) → task_of number l ≡ Some task → task_of number l ≡ Some other → may_leave m task ≡ true → may_leave m other ≡ false → ⊥
one_pace l number m task other e f may none = not_both (may_leave m task) (may_leave m other) (ap (may_leave m) (some_same task other (sym e ∙ f))) may none

no_late_leave : (site : Site) (its : Contents) (l : Ledger) (m number : ℕ) (reply : HomeReply) (after : Home) (later : Ledger) (task : Task) → HomeStep site (Serving its) m (asks.LeaveTask number) reply after
    → LedgerStep l m (CallAtHome site.home (asks.LeaveTask number)) (ReplyAtHome reply) later → task_of number l ≡ Some task → may_leave m task ≡ false → ⊥
unfolding HomeStep LedgerStep
no_late_leave site its l m number (Left item) after later task h k e none = one_pace l number m k.1.0 task k.1.1.found e k.1.2 none
no_late_leave site its l m number NoLiveRow after later task h k e none = one_pace l number m k.0.0 task k.0.1.found e k.0.2 none
no_late_leave site its l m number (NoOrigin serial) after later task h k e none = one_pace l number m k.0.0 task k.0.1.found e k.0.2 none
no_late_leave site its l m number reply after later task h k e none = elim h [ ]

pub unrecorded_is_none : (site : Site) (home : Home) (l : Ledger) (m : ℕ) (act : SharedAct) (call : HomeCall) (reply : HomeReply) (after : Home) (later : Ledger) → IsCallOf l act call → SharedStep site home l m call reply after later
    → IsUnrecorded site home l m act → ⊥
unrecorded_is_none site (Serving its) l m LeaveDead call reply after later is step none =
    no_dead_leave site its m reply after (half site (Serving its) m call _ reply after is step.at_home) none
unrecorded_is_none site (Serving its) l m LeaveDrain call reply after later is step none =
    no_drain_leave site its m reply after (half site (Serving its) m call _ reply after is step.at_home) none.1
unrecorded_is_none site (Serving its) l m (LeaveTask number) call reply after later is step none =
    no_late_leave site its l m number reply after later none.0 (half site (Serving its) m call _ reply after is step.at_home) (other_half site l m call _ reply later is step.in_ledger) none.1.found none.2
unrecorded_is_none site home l m act call reply after later is step none = elim none [ ]

-- ---- the stamp of both

given_above : (home ledger seen : StampValue) (m : ℕ) (given : Result StampValue Refusal) (stamp : StampValue) → after home ledger m ≡ given → after_given given seen m ≡ Ok stamp
    → Below home stamp × Below ledger stamp × Below seen stamp × (m ≤ stamp.moment)
given_above home ledger seen m (Ok first) stamp e f =
    let both = after_above home ledger m first e in
    let next = after_above first seen m stamp f in
    (below_trans home first stamp both.0 next.0, below_trans ledger first stamp both.1 next.0, next.1, let k = after_moment first seen m stamp f in omega (arith, k))
given_above home ledger seen m (Err refusal) stamp e f = absurd cc

pub stamp_above : (home ledger seen : StampValue) (m : ℕ) (stamp : StampValue) → shared_stamp home ledger seen m ≡ Ok stamp → Below home stamp × Below ledger stamp × Below seen stamp × (m ≤ stamp.moment)
stamp_above home ledger seen m stamp e = given_above home ledger seen m (after home ledger m) stamp refl e
