use Rattle.sq_lines.proofs.WriteLaws.{part_of_end, part_unflushed}
use Rattle.sq_lines.proofs.put.put_out.Goals as goal

pub returns-in-Err-put-clause-err : goal.returns-in-Err-put-clause-err
returns-in-Err-put-clause-err g c =
    let held = g.W.Write.contents in
    part_of_end (held c.args.writer.now.inner) (held c.put.new.writer.inner) (held c.put-2.new.writer.inner) c.args.text.now c.args.end.now c.in-Err-put._count c.in_default.ensures.ok c.in-Err-put.ensures.err

pub returns-in-Err-flush-clause-err : goal.returns-in-Err-flush-clause-err
returns-in-Err-flush-clause-err g c =
    let held = g.W.Write.contents in
    part_unflushed (held c.args.writer.now.inner) (held c.put.new.writer.inner) (held c.put-2.new.writer.inner) (held c.flush.new.self.inner) c.args.text.now c.args.end.now c.in_default.ensures.ok c.in_default-put.ensures.ok c.flush.ensures.bytes
