use Rattle.std.proofs.Common.{refl}
use Rattle.clap.specs.Words.{subcommand_rows_of}
use Rattle.sq_flags.specs.Flags.{IsModeAt}
use Rattle.sq_flags.proofs.FlagLaws.{nothing}
use Rattle.sq_flags.proofs.ModeLaws.{is_script, is_serve, is_race, no_script, no_serve, no_race}
use Rattle.sq_flags.proofs.flags.mode_of.Goals as goal

pub returns-in_err-script_of-clause-err : goal.returns-in_err-script_of-clause-err
returns-in_err-script_of-clause-err c =
    let some = c.in-Some in
    nothing (IsModeAt (subcommand_rows_of c.args.matches.now)) (no_script c.args.matches.now some.found.now (some.ensures.found.0 refl) some.ensures.rows c.in_err-script_of.ensures.err) _

pub returns-in-Some-clause-ok : goal.returns-in-Some-clause-ok
returns-in-Some-clause-ok c =
    let some = c.in-Some in
    is_script c.args.matches.now some.found.now c.in_ok-script_of.field-0 (some.ensures.found.0 refl) some.ensures.rows c.in_ok-script_of.ensures.ok

pub returns-in_err-serve_of-clause-err : goal.returns-in_err-serve_of-clause-err
returns-in_err-serve_of-clause-err c =
    let some = c.in-Some-subcommand_matches in
    nothing (IsModeAt (subcommand_rows_of c.args.matches.now)) (no_serve c.args.matches.now some.found.now (some.ensures.found.0 refl) some.ensures.rows c.in_err-serve_of.ensures.err) _

pub returns-in-Some-subcommand_matches-clause-ok : goal.returns-in-Some-subcommand_matches-clause-ok
returns-in-Some-subcommand_matches-clause-ok c =
    let some = c.in-Some-subcommand_matches in
    is_serve c.args.matches.now some.found.now c.in_ok-serve_of.field-0 (some.ensures.found.0 refl) some.ensures.rows c.in_ok-serve_of.ensures.ok

pub returns-in_err-race_of-clause-err : goal.returns-in_err-race_of-clause-err
returns-in_err-race_of-clause-err c =
    let some = c.in-Some-subcommand_matches-2 in
    nothing (IsModeAt (subcommand_rows_of c.args.matches.now)) (no_race c.args.matches.now some.found.now (some.ensures.found.0 refl) some.ensures.rows c.in_err-race_of.ensures.err) _

pub returns-in-Some-subcommand_matches-2-clause-ok : goal.returns-in-Some-subcommand_matches-2-clause-ok
returns-in-Some-subcommand_matches-2-clause-ok c =
    let some = c.in-Some-subcommand_matches-2 in
    is_race c.args.matches.now some.found.now c.in_ok-race_of.field-0 (some.ensures.found.0 refl) some.ensures.rows c.in_ok-race_of.ensures.ok
