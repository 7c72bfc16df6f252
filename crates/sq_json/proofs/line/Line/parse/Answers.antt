use Rattle.std.proofs.Common.{arith}
use Rattle.sq_json.proofs.Readings.{nothing_left}
use Rattle.sq_json.proofs.line.Line.parse.Goals as goal

pub returns-then-is_empty-clause-invalid : goal.returns-then-is_empty-clause-invalid
returns-then-is_empty-clause-invalid c invalid utf8 = nothing_left c.args.line.now (grind arith)
