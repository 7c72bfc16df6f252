use Rattle.std.proofs.Common.{◌≡◌, ◌+◌, drop}
use Rattle.sq_lines.specs.inside.Replies.{whole_in}
use Rattle.sq_lines.proofs.replies.whole.Given as goal

abbrev pub invariant-loop-index : goal.invariant-loop-index
invariant-loop-index l = whole_in l.lengths l.written ≡ l.index + whole_in (drop l.index l.lengths) l.left
