use Rattle.std.proofs.Common.{ap, inl, inr}
use Rattle.std.proofs.lemmas.Result.{IfOk-weaker, IfErr-weaker}
use Rattle.sq_wire.proofs.ScriptLaws.{script_done, script_stops}
use Rattle.sq_wire.proofs.run.run_at.Goals as goal

pub returns-clause-same_reference : goal.returns-clause-same_reference
returns-clause-same_reference g c = c.answer_lines.ensures.kept

pub returns-clause-ok : goal.returns-clause-ok
returns-clause-ok g c = IfOk-weaker c.answer_lines.result _ _ (λ n h. script_done _ n _ _ c.args.scripted.now c.answer_lines.new.answering h) c.answer_lines.ensures.ok

pub returns-clause-err : goal.returns-clause-err
returns-clause-err g c = IfErr-weaker c.answer_lines.result _ _ (λ f h. elim h [
  | inl same ↦ inl (same.0, same.1, same.2, ap (λ s. s.world.now) same.3)
  | inr stops ↦ inr (script_stops _ f _ _ _ c.args.scripted.now c.answer_lines.new.answering stops)
]) c.answer_lines.ensures.err
