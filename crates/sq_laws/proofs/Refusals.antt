-- A step is given only where no check fails.
use Rattle.std.proofs.Common.{◌≡◌, ℕ, ◌<◌, Bool, true, false, not, refl, List, None, Option, arith}
use Rattle.std.specs.Prelude.{nat_le}
use Rattle.std.proofs.lemmas.Grind.{common_steps}
use Rattle.sq_base.specs.declared.refusal.Refusal.{Refusal}
use Rattle.sq_base.specs.declared.row.Row.{Row}
use Rattle.sq_model.specs.declared.home_mode.HomeMode.{HomeMode}
use Rattle.sq_model.specs.declared.place.Limits.{Limits}
use Rattle.sq_model.specs.declared.place.Site.{Site}
use Rattle.sq_model.specs.declared.calls.HomeCall.{HomeCall}
use Rattle.sq_model.specs.declared.calls.HomeCall.TheVariants.{Configure, Close, Send, Look, Delete, Change, Purge, Count, StartDrain, FinishDrain, LeaveDead, LeaveDrain, LeaveTask, Enter, TurnBack, GiveBack, Drop}
use Rattle.sq_model.specs.declared.replies.HomeReply.{HomeReply}
use Rattle.sq_model.specs.declared.replies.HomeReply.TheVariants.{Done, Sent, Looked, Over, Counted, Left, NoLiveRow, NoOrigin, SourceClosed, Entered}
use Rattle.sq_model.specs.Homes.{Home, Unopened, Serving, Closed, HomeStep, home_refusal, full_refusal, refused_if, MayHoldOneMore}

pub below : (a b : ℕ) → a < b → nat_le b a ≡ false
below a b h = grind (arith, common_steps)

pub may_hold_one_more : (l : Limits) (mode : HomeMode) (next slot : ℕ) (rows : List Row) (later : Option Refusal) → MayHoldOneMore l mode next slot rows → later ≡ None → full_refusal l mode next rows later ≡ None
may_hold_one_more l mode next slot rows later h e = rw (h.accepting, below _ _ h.not_worn, below _ _ h.slot_left, below _ _ h.within, e) refl

pub passes : (test : Bool) (refusal : Refusal) → test ≡ true → refused_if (not test) refusal None ≡ None
passes test refusal e = rw e refl

pub step_allowed : (site : Site) (home : Home) (m : ℕ) (call : HomeCall) (reply : HomeReply) (after : Home) → HomeStep site home m call reply after → home_refusal site home m call ≡ None
unfolding HomeStep home_refusal
step_allowed site Unopened m (Configure t w) Done after h = refl
step_allowed site (Serving its) m (Configure t w) Done after h = refl
step_allowed site Unopened m Close Done after h = refl
step_allowed site (Serving its) m Close Done after h = refl
step_allowed site (Serving its) m (Send body delay) (Sent sent) after h = may_hold_one_more _ _ _ _ _ None h.0 refl
step_allowed site (Serving its) m (Look max timeout) (Looked picked) after h = refl
step_allowed site (Serving its) m (Look max timeout) Over after h = refl
step_allowed site (Serving its) m (Delete receipt) Done after h = rw (below _ _ h.0) refl
step_allowed site (Serving its) m (Change receipt timeout) Done after h = rw (below _ _ h.0, h.1, h.2) refl
step_allowed site (Serving its) m Purge Done after h = refl
step_allowed site (Serving its) m Count (Counted counts) after h = refl
step_allowed site (Serving its) m StartDrain Done after h = refl
step_allowed site (Serving its) m FinishDrain Done after h = rw (h.0, h.1) refl
step_allowed site (Serving its) m LeaveDead (Left item) after h = refl
step_allowed site (Serving its) m LeaveDrain (Left item) after h = passes _ _ h.2
step_allowed site (Serving its) m (LeaveTask task) (Left item) after h = refl
step_allowed site (Serving its) m (LeaveTask task) NoLiveRow after h = refl
step_allowed site (Serving its) m (LeaveTask task) (NoOrigin serial) after h = refl
step_allowed site Closed m (LeaveTask task) SourceClosed after h = refl
step_allowed site (Serving its) m (Enter item) (Entered entered) after h = may_hold_one_more _ _ _ _ _ _ h.1 (passes _ _ h.0)
step_allowed site Closed m (TurnBack item) Done after h = passes _ _ h.0
step_allowed site (Serving its) m (GiveBack item) (Entered entered) after h = may_hold_one_more _ _ _ _ _ _ h.1 (passes _ _ h.0)
step_allowed site Closed m (Drop item) Done after h = passes _ _ h.0
step_allowed site home m call reply after h = elim h [ ]
