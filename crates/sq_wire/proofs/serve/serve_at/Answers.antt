use Rattle.std.proofs.Common.{ap, inl, inr}
use Rattle.std.proofs.lemmas.Result.{IfOk-weaker, IfErr-weaker}
use Rattle.sq_queue.specs.Around.{around}
use Rattle.sq_wire.specs.Serves.{ServedReplies, ServedUnanswered}
use Rattle.sq_wire.proofs.ServedLaws.{served_done, served_stops}
use Rattle.sq_wire.proofs.serve.serve_at.Goals as goal

pub returns-clause-same_reference : goal.returns-clause-same_reference
returns-clause-same_reference g c = c.answer_lines.ensures.kept

pub returns-clause-ok : goal.returns-clause-ok
returns-clause-ok g c = IfOk-weaker c.answer_lines.result _ _ (λ n h. served_done (λ s. s.service) (λ s. s.session.now)
    (λ v. ServedReplies (around g.C.Clock.tells g.G.Gate.saw v.now))
    (λ v. ServedUnanswered (around g.C.Clock.tells g.G.Gate.saw v.now))
    _ n _ _ c.args.served.now c.answer_lines.new.answering h) c.answer_lines.ensures.ok

pub returns-clause-err : goal.returns-clause-err
returns-clause-err g c = IfErr-weaker c.answer_lines.result _ _ (λ f h. elim h [
  | inl same ↦ inl (same.0, same.1, same.2, ap (λ s. s.session.now) same.3)
  | inr stops ↦ inr (served_stops (λ s. s.service) (λ s. s.session.now)
      (λ v. ServedReplies (around g.C.Clock.tells g.G.Gate.saw v.now))
      (λ v. ServedUnanswered (around g.C.Clock.tells g.G.Gate.saw v.now))
      _ f _ _ _ c.args.served.now c.answer_lines.new.answering stops)
]) c.answer_lines.ensures.err
