use Rattle.std.proofs.Common.{◌∙◌, ap, ap₂}
use Rattle.std.proofs.lemmas.Result.{IfOk-weaker}
use Rattle.clap.specs.Words.{app_of, rule_of, with_rule}
use Rattle.sq_flags.specs.CommandLine.{needed}
use Rattle.sq_flags.proofs.command.with_connections.Goals as goal

pub returns-clause-app : goal.returns-clause-app
returns-clause-app c =
    let connections = c.in_ok-command.ensures.app ∙ ap (with_rule (app_of c.args.command)) (ap rule_of c.required.ensures ∙ ap needed c.number_flag-connections.ensures.rule) in
    IfOk-weaker c.with_flag-2.result _ _ (λ r h. h ∙ ap₂ with_rule connections c.number_flag-idle.ensures.rule) c.with_flag-2.ensures.app
