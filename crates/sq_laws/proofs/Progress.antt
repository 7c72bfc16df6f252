-- Where no check fails, a step can be done.
use Rattle.std.proofs.Common.{◌≡◌, ℕ, zero, suc, ◌+◌, ◌<◌, Bool, true, false, not, refl, List, [], ◌∷◌, length, None, Some, Option, arith, inl, inr, ◌⊎◌, ap}
use Rattle.std.specs.Prelude.{nat_le, nat_lt, ◌||◌, ◌&&◌, min, map, filter, take, unwrap_or}
use Rattle.std.specs.List.{list_any}
use Rattle.std.proofs.lemmas.Grind.{common_steps}
use Rattle.sq_base.specs.declared.refusal.Refusal.{Refusal}
use Rattle.sq_base.specs.declared.row.Row.{Row}
use Rattle.sq_base.specs.declared.settings.Redrive.{Redrive}
use Rattle.sq_model.specs.declared.home_mode.HomeMode.{HomeMode}
use Rattle.sq_model.specs.declared.place.Limits.{Limits}
use Rattle.sq_model.specs.declared.place.Site.{Site}
use Rattle.sq_model.specs.declared.item.Reason.TheVariants.{DeadLetter, Task, Drain}
use Rattle.sq_model.specs.declared.calls.HomeCall.{HomeCall}
use Rattle.sq_model.specs.declared.calls.HomeCall.TheVariants.{Configure, Close, Send, Look, Delete, Change, Purge, Count, StartDrain, FinishDrain, LeaveDead, LeaveDrain, LeaveTask, Enter, TurnBack, GiveBack, Drop}
use Rattle.sq_model.specs.declared.replies.HomeReply.{HomeReply}
use Rattle.sq_model.specs.declared.replies.HomeReply.TheVariants.{Done, Sent, Looked, Over, Counted, Left, NoLiveRow, SourceClosed, Entered}
use Rattle.sq_model.specs.Rows.{ms, RisesFrom, is_at_rest, is_dead, is_live, is_spent, flights_left, received, Takes}
use Rattle.sq_model.specs.Homes.{Contents, Home, Unopened, Serving, Closed, HomeStep, home_refusal, full_refusal, refused_if, MayHoldOneMore, HasSlot, IsRising, IsIdle, accepts, is_draining, last_serial, slots, fresh_id, counts_of, dead_target, unexpired_rows}
use Rattle.sq_model.proofs.RowLaws.{first_is_look, rises_unexpired}
use Rattle.sq_model.proofs.SlotLaws.{free_slot, not_false}

abbrev Possible : Site → Home → ℕ → HomeCall → Type 0
Possible site home m call = (reply : HomeReply) × (after : Home) × HasSlot reply × HomeStep site home m call reply after

pub passed : (test : Bool) (refusal : Refusal) (later : Option Refusal) → refused_if test refusal later ≡ None → (test ≡ false) × (later ≡ None)
passed true refusal later h = absurd cc
passed false refusal later h = (refl, h)

pub neither : (a b : Bool) → (a || b) ≡ false → (a ≡ false) × (b ≡ false)
neither true b h = absurd cc
neither false b h = (refl, h)

pub above : (a b : ℕ) → nat_le b a ≡ false → a < b
above a b h = grind (arith, common_steps)

-- one row more may be held, and that no later check fails
pub one_more_left : (l : Limits) (mode : HomeMode) (next : ℕ) (rows : List Row) (later : Option Refusal) → full_refusal l mode next rows later ≡ None
    → ((slot : ℕ) × (slot < slots) × MayHoldOneMore l mode next slot rows) × (later ≡ None)
one_more_left l mode next rows later h =
    let accepting = passed (not (accepts mode)) _ _ h in
    let worn = passed (nat_le last_serial next || nat_le slots (length rows)) _ _ accepting.1 in
    let counts = neither _ _ worn.0 in
    let full = passed (nat_le l.rows (length rows)) _ _ worn.1 in
    let left = above (length rows) slots counts.1 in
    let found = free_slot rows in
    ((found.0, omega (arith, left, found.1), record { accepting = not_false _ accepting.0; not_worn = above _ _ counts.0; slot_left = left; within = above _ _ full.0; free = found.2 }), full.1)

-- a row of a kind that is there can be taken out
pub takes_one : (p : Row → Bool) (rows : List Row) → list_any p rows ≡ true → (row : Row) × (rest : List Row) × Takes row rows rest × (p row ≡ true)
takes_one p [] h = absurd cc
takes_one p (row ∷ rows) h =
    elim (p row) as (λ b. p row ≡ b → (b || list_any p rows) ≡ true → (r : Row) × (rest : List Row) × Takes r (row ∷ rows) rest × (p r ≡ true)) [
      | true ↦ (λ e k. (row, rows, record { before = []; after = rows; at = refl; left = refl }, e))
      | false ↦ (λ e k. let t = takes_one p rows k in
          (t.0, row ∷ t.1, record { before = row ∷ t.2.before; after = t.2.after; at = ap (λ xs. row ∷ xs) t.2.at; left = ap (λ xs. row ∷ xs) t.2.left }, t.3))
    ] refl h

pub has_target : (policy : Option Redrive) (visible : Bool) (row : Row) → (visible && is_spent policy row) ≡ true → (target : ℕ) × (Some target ≡ dead_target policy)
has_target None true row h = absurd cc
has_target None false row h = absurd cc
has_target (Some redrive) visible row h = (redrive.target, refl)

looked : (site : Site) (its : Contents) (m max : ℕ) (timeout : Option ℕ) → RisesFrom 0 its.rows its.next
    → (list_any (is_live its.settings m) (unexpired_rows its m) ≡ true → 0 < flights_left site.limits.flights m (unexpired_rows its m)) → Possible site (Serving its) m (Look max timeout)
unfolding HomeStep
looked site its m max timeout r some =
    let until = m + ms (unwrap_or timeout its.settings.timeout) in
    let most = min max (flights_left site.limits.flights m (unexpired_rows its m)) in
    (Looked (take most (map (received m until) (filter (is_live its.settings m) (unexpired_rows its m)))), _, tt, (some, first_is_look its.settings m until most (unexpired_rows its m) its.next (rises_unexpired its.settings m 0 its.rows its.next r), refl))

look_possible : (site : Site) (its : Contents) (m max : ℕ) (timeout : Option ℕ) → RisesFrom 0 its.rows its.next → Possible site (Serving its) m (Look max timeout)
unfolding HomeStep
look_possible site its m max timeout r =
    let left = flights_left site.limits.flights m (unexpired_rows its m) in
    let live = list_any (is_live its.settings m) (unexpired_rows its m) in
    elim left as (λ k. left ≡ k → Possible site (Serving its) m (Look max timeout)) [
      | zero ↦ (λ e. elim live as (λ b. live ≡ b → Possible site (Serving its) m (Look max timeout))
          [ true ↦ (λ l. (Over, _, tt, (l, e, refl))) | false ↦ (λ l. looked site its m max timeout r (λ t. absurd cc)) ] refl)
      | suc k ↦ (λ e. looked site its m max timeout r (λ t. rw e (omega arith)))
    ] refl

leave_dead_possible : (site : Site) (its : Contents) (m : ℕ) → IsIdle (Serving its) m LeaveDead ⊎ Possible site (Serving its) m LeaveDead
unfolding HomeStep
leave_dead_possible site its m =
    let dead = list_any (is_dead its.settings m) (unexpired_rows its m) in
    elim dead as (λ b. dead ≡ b → IsIdle (Serving its) m LeaveDead ⊎ Possible site (Serving its) m LeaveDead) [
      | true ↦ (λ e. let t = takes_one (is_dead its.settings m) (unexpired_rows its m) e in
          let target = has_target its.settings.redrive _ t.0 t.3 in
          inr (
            Left (record { number = 1; row = t.0; source = site.home.queue; target = target.0; reason = DeadLetter; homeward = false }),
            _,
            tt,
            (record { from = refl; because = refl; forward = refl }, target.1, t.3, (t.1, t.2, refl)),
          ))
      | false ↦ (λ e. inl e)
    ] refl

-- a home that drains has a row at rest, or none of them may leave
leave_drain_possible : (site : Site) (its : Contents) (m : ℕ) → is_draining its.mode ≡ true → IsIdle (Serving its) m LeaveDrain ⊎ Possible site (Serving its) m LeaveDrain
unfolding HomeStep
leave_drain_possible site its m draining =
    let rests = list_any (is_at_rest m) (unexpired_rows its m) in
    elim rests as (λ b. rests ≡ b → IsIdle (Serving its) m LeaveDrain ⊎ Possible site (Serving its) m LeaveDrain) [
      | true ↦ (λ e. let t = takes_one (is_at_rest m) (unexpired_rows its m) e in
          inr (
            Left (record { number = 1; row = t.0; source = site.home.queue; target = site.home.queue; reason = Drain; homeward = false }),
            _,
            tt,
            (record { from = refl; because = refl; forward = refl }, refl, draining, t.3, (t.1, t.2, refl)),
          ))
      | false ↦ (λ e. inl (draining, e))
    ] refl

pub no_more : (n : ℕ) → nat_lt 0 n ≡ false → n ≡ 0
no_more n h = grind (arith, common_steps)

none_held : (rows : List Row) → nat_lt 0 (length rows) ≡ false → rows ≡ []
none_held [] h = refl
none_held (row ∷ rows) h = let none = no_more (length (row ∷ rows)) h in absurd (omega (arith, none))

leave_task_possible : (site : Site) (its : Contents) (m task : ℕ) → Possible site (Serving its) m (LeaveTask task)
unfolding HomeStep
leave_task_possible site its m task =
    let live = list_any (is_live its.settings m) (unexpired_rows its m) in
    elim live as (λ b. live ≡ b → Possible site (Serving its) m (LeaveTask task)) [
      | true ↦ (λ e. let t = takes_one (is_live its.settings m) (unexpired_rows its m) e in (
        Left (record { number = 1; row = t.0; source = site.home.queue; target = 1; reason = Task task; homeward = false }),
        _,
        tt,
        (record { from = refl; because = refl; forward = refl }, t.3, (t.1, t.2, refl)),
      ))
      | false ↦ (λ e. (NoLiveRow, _, tt, (e, refl)))
    ] refl

pub step_possible : (site : Site) (home : Home) (m : ℕ) (call : HomeCall) → IsRising home → home_refusal site home m call ≡ None → IsIdle home m call ⊎ Possible site home m call
unfolding HomeStep home_refusal
step_possible site Unopened m (Configure t w) r h = inr (Done, _, tt, refl)
step_possible site (Serving its) m (Configure t w) r h = inr (Done, _, tt, refl)
step_possible site Unopened m Close r h = inr (Done, _, tt, refl)
step_possible site (Serving its) m Close r h = inr (Done, _, tt, refl)
step_possible site (Serving its) m (Send body delay) r h =
    let p = one_more_left _ _ _ _ _ h in
    inr (Sent (record { id = fresh_id site.home its.next; slot = p.0.0 }), _, p.0.1, (p.0.2, refl, refl))
step_possible site (Serving its) m (Look max timeout) r h = inr (look_possible site its m max timeout r)
step_possible site (Serving its) m (Delete receipt) r h = inr (Done, _, tt, (above _ _ (passed _ _ _ h).0, refl))
step_possible site (Serving its) m (Change receipt timeout) r h =
    let picked = passed _ _ _ h in
    let held = passed _ _ _ picked.1 in
    let late = passed _ _ _ held.1 in
    inr (Done, _, tt, (above _ _ picked.0, not_false _ held.0, late.0, refl))
step_possible site (Serving its) m Purge r h = inr (Done, _, tt, refl)
step_possible site (Serving its) m Count r h = inr (Counted (counts_of m (unexpired_rows its m)), _, tt, (refl, refl))
step_possible site (Serving its) m StartDrain r h = inr (Done, _, tt, refl)
step_possible site (Serving its) m FinishDrain r h =
    let may = neither (not (is_draining its.mode)) _ (passed _ _ _ h).0 in
    inr (Done, _, tt, (not_false _ may.0, none_held _ may.1, refl))
step_possible site (Serving its) m LeaveDead r h = leave_dead_possible site its m
step_possible site (Serving its) m LeaveDrain r h = leave_drain_possible site its m (not_false _ (passed _ _ _ h).0)
step_possible site (Serving its) m (LeaveTask task) r h = inr (leave_task_possible site its m task)
step_possible site Closed m (LeaveTask task) r h = inr (SourceClosed, _, tt, refl)
step_possible site (Serving its) m (Enter item) r h =
    let p = one_more_left _ _ _ _ _ h in
    inr (Entered (record { serial = its.next; slot = p.0.0 }), _, p.0.1, (not_false _ (passed _ _ _ p.1).0, p.0.2, refl, refl))
step_possible site Closed m (TurnBack item) r h = inr (Done, _, tt, (not_false _ (passed _ _ _ h).0, refl))
step_possible site (Serving its) m (GiveBack item) r h =
    let p = one_more_left _ _ _ _ _ h in
    inr (Entered (record { serial = its.next; slot = p.0.0 }), _, p.0.1, (not_false _ (passed _ _ _ p.1).0, p.0.2, refl, refl))
step_possible site Closed m (Drop item) r h = inr (Done, _, tt, (not_false _ (passed _ _ _ h).0, refl))
step_possible site home m call r h = absurd cc
