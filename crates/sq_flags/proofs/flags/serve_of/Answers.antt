use Rattle.clap.specs.Words.{first_value, found_of}
use Rattle.sq_flags.specs.Flags.{IsServeOf}
use Rattle.sq_flags.proofs.FlagLaws.{nothing}
use Rattle.sq_flags.proofs.flags.serve_of.Goals as goal

pub returns-in_err-given_number-clause-err : goal.returns-in_err-given_number-clause-err
returns-in_err-given_number-clause-err c = nothing (IsServeOf (first_value (found_of c.args.found.now))) (λ mode h. c.in_err-given_number.ensures.err.1 mode.connections h.connections) _

pub returns-in_err-idle_of-clause-err : goal.returns-in_err-idle_of-clause-err
returns-in_err-idle_of-clause-err c = nothing (IsServeOf (first_value (found_of c.args.found.now))) (λ mode h. c.in_err-idle_of.ensures.err mode.idle h.idle) _

pub returns-in_err-movers_of-clause-err : goal.returns-in_err-movers_of-clause-err
returns-in_err-movers_of-clause-err c = nothing (IsServeOf (first_value (found_of c.args.found.now))) (λ mode h. c.in_err-movers_of.ensures.err mode.movers h.movers) _
