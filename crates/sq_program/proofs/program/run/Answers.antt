use Rattle.sq_program.proofs.EndingLaws.{status_within}
use Rattle.sq_program.proofs.program.run.Goals as goal

pub returns : goal.returns
returns g c = record {
  ends = record { parsed = c.flags-parsed.result; parses = c.flags-parsed.ensures; ends = c.carry_out.ensures };
  within = status_within _ _ _ c.carry_out.result c.carry_out.ensures;
}
