use Rattle.std.proofs.lemmas.Result.{IfOk-weaker}
use Rattle.sq_queue.specs.Around.{around}
use Rattle.sq_queue.specs.Sections.{Surroundings}
use Rattle.sq_wire.specs.Serves.{ServedReplies}
use Rattle.sq_wire.proofs.ServedLaws.{line_served, served_unanswered}
use Rattle.sq_wire.proofs.serve.answer.Goals as goal

pub returns-clause-ok : goal.returns-clause-ok
unfolding ServedReplies
returns-clause-ok g c =
    let at : Surroundings = around g.C.Clock.tells g.G.Gate.saw c.args.service.now in
    let served = line_served at _ c.args.line.now c.read-read.result c.do_read-answered.result _ c.read-read.ensures.reads c.do_read-answered.ensures.ok c.do_read-answered.ensures.err in
    IfOk-weaker c.reply_text.result _ _ (λ text is. (c.do_read-answered.result, served, is)) c.reply_text.ensures.text

pub returns-clause-err : goal.returns-clause-err
returns-clause-err g c =
    let at : Surroundings = around g.C.Clock.tells g.G.Gate.saw c.args.service.now in
    let served = line_served at _ c.args.line.now c.read-read.result c.do_read-answered.result _ c.read-read.ensures.reads c.do_read-answered.ensures.ok c.do_read-answered.ensures.err in
    served_unanswered at _ _ c.do_read-answered.result _ c.reply_text.result served c.reply_text.ensures.refused c.reply_text.ensures.turned
