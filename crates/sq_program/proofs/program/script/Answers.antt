use Rattle.std.proofs.Common.{◌≡◌, rules, true, false}
use Rattle.sq_merge.specs.Openings.{new_world}
use Rattle.sq_program.specs.Streams.{stream}
use Rattle.sq_program.proofs.EndingLaws.{ends_answered, ends_audited, ends_stopped, replies_to_all}
use Rattle.sq_program.proofs.program.script.Goals as goal

pub returns-in-Ok-run_script : goal.returns-in-Ok-run_script
returns-in-Ok-run_script g c =
    let opened : c.deref_mut.result.now ≡ new_world c.args.mode.options = search rules in
    let none : c.args.mode.audit ≡ false = search rules in
    let input = stream g.R.Read.remaining c.args.input.now c.run_script.new.reader in
    let output = stream g.W.Write.contents c.args.output.now c.run_script.new.writer in
    let all = c.in-Ok-run_script.ensures in
    ends_answered c.args.mode input output c.run_script.new.world none c.in-Ok.ensures.served all.no_failure.0 all.no_failure.1 (replies_to_all _ _ _ _ _ _ (rw opened at all.ok))

pub returns-in-Ok-2 : goal.returns-in-Ok-2
returns-in-Ok-2 g c =
    let opened : c.deref_mut.result.now ≡ new_world c.args.mode.options = search rules in
    let parsed : c.args.mode.audit ≡ true = search rules in
    let input = stream g.R.Read.remaining c.args.input.now c.run_script.new.reader in
    let output = stream g.W.Write.contents c.args.output.now c.write_audit.new.output in
    let all = c.in-Ok-2.ensures in
    ends_audited c.args.mode input output c.run_script.new.world c.run_script.new.writer c.write_audit.result parsed c.in-Ok.ensures.served all.no_failure.0 all.no_failure.1 (replies_to_all _ _ _ _ _ _ (rw opened at all.ok)) c.write_audit.ensures

pub returns-in-Err-run_script : goal.returns-in-Err-run_script
returns-in-Err-run_script g c =
    let opened : c.deref_mut.result.now ≡ new_world c.args.mode.options = search rules in
    let input = stream g.R.Read.remaining c.args.input.now c.run_script.new.reader in
    let output = stream g.W.Write.contents c.args.output.now c.run_script.new.writer in
    let all = c.in-Err-run_script.ensures in
    rw c.report.ensures (ends_stopped c.args.mode input output c.in-Err-run_script.fault c.run_script.new.world _ c.in-Ok.ensures.served (rw opened at all.err) all.count)
