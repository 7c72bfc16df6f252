-- What the program says of a fault on its standard error: what it was, and after how many answers.
use Rattle.std.specs.Prelude.{ℕ}
use Rattle.sq_program.specs.declared.reports.Failure.{Failure}
use Rattle.sq_program.specs.declared.reports.Failure.TheVariants.{BadOptions, CannotListen, AcceptFailed}

abbrev pub failure_status : Failure → ℕ
failure_status BadOptions = 2
failure_status CannotListen = 1
failure_status AcceptFailed = 1
