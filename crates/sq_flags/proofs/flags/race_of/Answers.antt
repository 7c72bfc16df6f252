use Rattle.clap.specs.Words.{first_value, found_of}
use Rattle.sq_flags.specs.Flags.{IsRaceOf}
use Rattle.sq_flags.proofs.FlagLaws.{nothing}
use Rattle.sq_flags.proofs.flags.race_of.Goals as goal

pub returns-in_err-given_number-clause-err : goal.returns-in_err-given_number-clause-err
returns-in_err-given_number-clause-err c = nothing (IsRaceOf (first_value (found_of c.args.found.now))) (λ mode h. c.in_err-given_number.ensures.err.1 mode.clients h.clients) _

pub returns-in_err-given_number-2-clause-err : goal.returns-in_err-given_number-2-clause-err
returns-in_err-given_number-2-clause-err c = nothing (IsRaceOf (first_value (found_of c.args.found.now))) (λ mode h. c.in_err-given_number-2.ensures.err.1 mode.calls h.calls) _

pub returns-in_err-movers_of-clause-err : goal.returns-in_err-movers_of-clause-err
returns-in_err-movers_of-clause-err c = nothing (IsRaceOf (first_value (found_of c.args.found.now))) (λ mode h. c.in_err-movers_of.ensures.err mode.movers h.movers) _
