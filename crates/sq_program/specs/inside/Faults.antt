-- What the program says of a fault on its standard error: what it was, and after how many answers.
use Rattle.std.specs.Prelude.{ℕ, List, codes}
use Rattle.sq_wire.specs.declared.run.ServeFault.{ServeFault}
use Rattle.sq_wire.specs.declared.run.ServeFault.TheVariants.{Read, Write, NoMemory, TooLong}
use Rattle.sq_program.specs.declared.reports.Failure.{Failure}
use Rattle.sq_program.specs.declared.reports.Failure.TheVariants.{BadOptions, CannotListen, AcceptFailed}

abbrev pub fault_name : ServeFault → List ℕ
fault_name (Read n) = codes "read failed"
fault_name (Write n) = codes "write failed"
fault_name (NoMemory n) = codes "no memory"
fault_name (TooLong n) = codes "line too long"

abbrev pub fault_count : ServeFault → ℕ
fault_count (Read n) = n
fault_count (Write n) = n
fault_count (NoMemory n) = n
fault_count (TooLong n) = n

-- what it says of a failure, and the status that goes with it
abbrev pub failure_text : Failure → List ℕ
failure_text BadOptions = codes "bad options"
failure_text CannotListen = codes "cannot listen"
failure_text AcceptFailed = codes "accept failed"
