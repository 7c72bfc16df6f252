-- What an audit of the parts that a service leaves says of the service.
use Rattle.std.proofs.Common.{ℕ, List, Result, Ok, Err, refl, inl, inr}
use Rattle.std.specs.Prelude.{◌≡◌, IfOk, IfErr, OnOk}
use Rattle.sq_audit.specs.Matched.{HasFault}
use Rattle.sq_audit.specs.declared.check.AuditFault.{AuditFault}
use Rattle.sq_audit.specs.declared.check.AuditFault.TheVariants.{NoMemory, RecordMissing, RecordTwice, LeaveUnmatched, EnterUnmatched}
use Rattle.sq_audit.specs.declared.parts.Parts.{Parts}
use Rattle.sq_queue.specs.SessionValue.{SessionValue}
use Rattle.sq_server.specs.Verdicts.{AreLeftBy, IsFaultLeft, IsFaultOf, IsOneRun, IsRunLeft}

-- parts that are left, and are judged to be one run
pub run_left : (homes : ℕ) (sessions : List SessionValue) (p : Parts) (told : Result Parts AuditFault) → AreLeftBy homes sessions p → IfOk told (λ run. run ≡ p) → OnOk told (IsOneRun p) → IfOk told (IsRunLeft homes sessions)
run_left homes sessions p (Ok run) left same is = rw same (left, is)
run_left homes sessions p (Err fault) left same is = is

-- parts that are left, and the fault that an audit found in them
pub fault_left : {A : Type 0} (homes : ℕ) (sessions : List SessionValue) (p : Parts) (told : Result A AuditFault) → AreLeftBy homes sessions p
    → IfErr told (HasFault p) → IfErr told (IsFaultLeft homes sessions)
fault_left homes sessions p (Ok run) left holds = holds
fault_left homes sessions p (Err NoMemory) left holds = inl refl
fault_left homes sessions p (Err (RecordMissing actor place)) left holds = inr (p, left, holds)
fault_left homes sessions p (Err (RecordTwice actor place)) left holds = inr (p, left, holds)
fault_left homes sessions p (Err (LeaveUnmatched stamp)) left holds = inr (p, left, holds)
fault_left homes sessions p (Err (EnterUnmatched stamp)) left holds = inr (p, left, holds)

-- so it is of some sessions
pub has_fault : {A : Type 0} (homes : ℕ) (sessions : List SessionValue) (told : Result A AuditFault) → IfErr told (IsFaultLeft homes sessions) → IfErr told (IsFaultOf homes)
has_fault homes sessions (Ok run) holds = holds
has_fault homes sessions (Err fault) holds = (sessions, holds)
