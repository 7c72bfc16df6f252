use Rattle.std.proofs.Common.{◌≡◌, refl, rules, subst}
use Rattle.sq_program.specs.Results.{line_of, listening_text}
use Rattle.sq_program.specs.Streams.{stream, EndsWritten}
use Rattle.sq_server.proofs.OutcomeLaws.{ends_told, unlistened, unserved}
use Rattle.sq_server.proofs.serve.serve_named.Goals as goal

pub returns-in_default : goal.returns-in_default
returns-in_default g c = rw c.no_memory.ensures (unserved g.W.Write.contents c.args.output.now c.args.output.now c.args.mode.now c.args.address refl)

pub returns-in_default-bound : goal.returns-in_default-bound
returns-in_default-bound g c = rw c.fail.ensures (unserved g.W.Write.contents c.args.output.now c.args.output.now c.args.mode.now c.args.address refl)

pub returns-then-told-ne0 : goal.returns-then-told-ne0
returns-then-told-ne0 g c = unlistened g.W.Write.contents _ _ c.args.mode.now c.in-Some-bound.here c.print_listening-told.result (search rules) c.print_listening-told.ensures.line

pub returns : goal.returns
returns g c =
    let none : c.print_listening-told.result ≡ 0 = search rules in
    let here = c.in-Some-bound.here in
    let told = subst (EndsWritten (λ line. line ≡ line_of (listening_text here)) (stream g.W.Write.contents c.args.output.now c.print_listening-told.new.output)) none c.print_listening-told.ensures.line in
    ends_told g.W.Write.contents _ _ _ c.args.mode.now here c.serve_at-ended.result c.tell_end.result (search rules) (search rules) told c.tell_end.ensures
