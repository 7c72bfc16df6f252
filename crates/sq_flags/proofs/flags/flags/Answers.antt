use Rattle.std.proofs.Common.{◌≡◌, map, []}
use Rattle.clap.specs.Words.{HasKind, fault_of}
use Rattle.sq_flags.specs.CommandLine.{program_app}
use Rattle.sq_flags.proofs.ModeLaws.{parses, asks_for_nothing, a_fault, entered, no_fault, passed_up_for_clap, refuses_for_own}
use Rattle.sq_flags.proofs.flags.flags.Goals as goal

pub returns-in_err-matches : goal.returns-in_err-matches
returns-in_err-matches c =
    let words = map (λ word. word.now) c.args.words.now in
    let error = c.in_err-matches.field-0.0 in
    let fails : HasKind (fault_of program_app words) error = a_fault c.in_ok-command.command words error c.in_ok-command.ensures.app c.in_err-matches.ensures.kinds in
    passed_up_for_clap words error c.from_residual-in_err-matches.result fails c.from_residual-in_err-matches.ensures.1

pub returns-in-Ok : goal.returns-in-Ok
returns-in-Ok c =
    let words = map (λ word. word.now) c.args.words.now in
    let m = c.in_ok-matches.matches in
    let command = c.in_ok-command.command in
    let taken : fault_of program_app words ≡ [] = no_fault command words c.in_ok-command.ensures.app c.in_ok-matches.ensures.kinds in
    let walked = entered command words m c.in_ok-command.ensures.app c.in_ok-matches.ensures.ok.2 in
    parses words m c.in-Ok.mode taken walked c.in-Ok.ensures.ok

pub returns : goal.returns
returns c =
    let words = map (λ word. word.now) c.args.words.now in
    let m = c.in_ok-matches.matches in
    let command = c.in_ok-command.command in
    let taken : fault_of program_app words ≡ [] = no_fault command words c.in_ok-command.ensures.app c.in_ok-matches.ensures.kinds in
    let walked = entered command words m c.in_ok-command.ensures.app c.in_ok-matches.ensures.ok.2 in
    refuses_for_own words c.in_ok-usage-in-Err.field-0 c.from.result taken (λ e. let k = c.in_ok-usage-in-Err.ensures.kind in cc, λ e. let k = c.in_ok-usage-in-Err.ensures.kind in cc) (asks_for_nothing words m walked c.in-Err.ensures.err) c.from.ensures
