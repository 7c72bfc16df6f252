use Rattle.std.proofs.Common.{rules}
use Rattle.clap.specs.Words.{first_value, found_of}
use Rattle.sq_flags.proofs.FlagLaws.{no_options, no_sample}
use Rattle.sq_flags.proofs.values.options_of.Goals as goal

pub returns-in_err-homes-clause-err : goal.returns-in_err-homes-clause-err
returns-in_err-homes-clause-err c = no_options (first_value (found_of c.args.matches.now)) (λ o h. c.in_err-homes.ensures.refused.1 o.homes h.homes) _

pub returns-in_err-sample-clause-err : goal.returns-in_err-sample-clause-err
returns-in_err-sample-clause-err c = no_options (first_value (found_of c.args.matches.now)) (no_sample _ _ _ c.in_ok-homes.ensures.when_found (search rules) c.in_err-sample.ensures.refused.1) _

pub returns-in_err-number-clause-err : goal.returns-in_err-number-clause-err
returns-in_err-number-clause-err c = no_options (first_value (found_of c.args.matches.now)) (λ o h. c.in_err-number.ensures.refused.1 o.queues h.queues) _

pub returns-in_err-number-2-clause-err : goal.returns-in_err-number-2-clause-err
returns-in_err-number-2-clause-err c = no_options (first_value (found_of c.args.matches.now)) (λ o h. c.in_err-number-2.ensures.refused.1 o.rows h.rows) _

pub returns-in_err-number-3-clause-err : goal.returns-in_err-number-3-clause-err
returns-in_err-number-3-clause-err c = no_options (first_value (found_of c.args.matches.now)) (λ o h. c.in_err-number-3.ensures.refused.1 o.flights h.flights) _

pub returns-in_err-number-4-clause-err : goal.returns-in_err-number-4-clause-err
returns-in_err-number-4-clause-err c = no_options (first_value (found_of c.args.matches.now)) (λ o h. c.in_err-number-4.ensures.refused.1 o.transit h.transit) _

pub returns-in_err-number-5-clause-err : goal.returns-in_err-number-5-clause-err
returns-in_err-number-5-clause-err c = no_options (first_value (found_of c.args.matches.now)) (λ o h. c.in_err-number-5.ensures.refused.1 o.seed h.seed) _
