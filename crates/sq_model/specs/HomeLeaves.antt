-- The leaves that no task asks for, as a home, the ledger and both are asked.
use Rattle.sq_model.specs.declared.calls.HomeCall.{HomeCall}
use Rattle.sq_model.specs.declared.calls.HomeCall.TheVariants as call
use Rattle.sq_model.specs.declared.item.Reason.{Reason}
use Rattle.sq_model.specs.declared.item.Reason.TheVariants as because
use Rattle.sq_model.specs.declared.shared.HomeLeave.{HomeLeave}
use Rattle.sq_model.specs.declared.shared.HomeLeave.TheVariants.{Dead, Drain}
use Rattle.sq_model.specs.declared.shared.SharedAct.{SharedAct}
use Rattle.sq_model.specs.declared.shared.SharedAct.TheVariants as asks

-- the call of a home
abbrev pub leave_call : HomeLeave → HomeCall
leave_call Dead = call.LeaveDead
leave_call Drain = call.LeaveDrain

-- what a home and the ledger are asked together
abbrev pub leave_asked : HomeLeave → SharedAct
leave_asked Dead = asks.LeaveDead
leave_asked Drain = asks.LeaveDrain

-- why the message is moved
abbrev pub leave_reason : HomeLeave → Reason
leave_reason Dead = because.DeadLetter
leave_reason Drain = because.Drain
