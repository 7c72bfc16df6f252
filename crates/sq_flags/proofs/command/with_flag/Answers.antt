use Rattle.std.proofs.Common.{ap₂, ◌∙◌}
use Rattle.std.specs.Prelude.{◌||◌}
use Rattle.std.proofs.lemmas.Result.{IfOk-weaker}
use Rattle.sq_flags.proofs.command.with_flag.Goals as goal

pub returns-clause-local : goal.returns-clause-local
returns-clause-local c = IfOk-weaker c.arg.result _ _ (λ r h. h.globals ∙ ap₂ ◌||◌ c.requires.none c.requires.local) c.arg.ensures
