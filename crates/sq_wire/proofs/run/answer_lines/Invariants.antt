use Rattle.std.proofs.Common.{◌≡◌, ◌≤◌, [], length}
use Rattle.sq_lines.specs.Lines.{lines_left, read_of}
use Rattle.sq_wire.proofs.RunLaws.{IsSoFar}
use Rattle.sq_wire.proofs.run.answer_lines.Given as goal

abbrev pub invariant-loop-answered : goal.invariant-loop-answered
invariant-loop-answered g l = record {
  so_far : IsSoFar g.A.Answering.replies (lines_left [] (g.R.Read.remaining l.fn.reader.inner)) (lines_left (read_of l.lines) (g.R.Read.remaining l.reader.inner))
      (g.W.Write.contents l.fn.writer.inner) (g.W.Write.contents l.writer.inner) l.replies l.fn.answering l.answering l.answered;
  few : length l.replies ≤ l.answered;
  kept : g.A.Answering.keeps l.fn.answering l.answering;
  reads : l.reader.failed ≡ l.fn.reader.failed;
  writes : l.writer.failed ≡ l.fn.writer.failed;
}
