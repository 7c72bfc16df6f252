use Rattle.std.proofs.Common.{rules}
use Rattle.sq_lines.proofs.WriteLaws.{appends_on, rest_whole}
use Rattle.sq_lines.proofs.put.put.Goals as goal

pub loop-at-preserved : goal.loop-at-preserved
loop-at-preserved g c = record {
  within = search rules;
  appends = appends_on (g.W.Write.contents c.args.writer.now.inner) (g.W.Write.contents c.loop-at.writer.inner) (g.W.Write.contents c.write.new.self.inner) c.args.text.now c.loop-at.at c.in-Ok.n c.loop-at.invariant.appends (rw rest_whole at c.in-Ok.ensures.bytes);
  no_failure = search rules;
}
