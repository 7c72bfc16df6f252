use Rattle.std.proofs.Common.{◌≡◌, ◌++◌, ◌+◌, ◌-◌, ◌≤◌, IfSome, Some, length, true, false}
use Rattle.sq_lines.specs.Lines.{lines_left, has_feed, read_of}
use Rattle.sq_lines.specs.declared.buffer.TheConstants.{CHUNK}
use Rattle.sq_lines.specs.declared.lines.TheConstants.{LIMIT}
use Rattle.sq_lines.proofs.lines.Lines.next_line.Given as goal

abbrev pub invariant-loop-at : goal.invariant-loop-at
invariant-loop-at g l = record {
  lines : IfSome (lines_left (read_of l.fn.self) (g.R.Read.remaining l.fn.reader.inner)) (λ ls. lines_left (l.self-inside.begun.items ++ l.self-inside.ahead) (g.R.Read.remaining l.reader.inner) ≡ Some ls);
  plain : has_feed l.self-inside.begun.items ≡ false;
  within : length l.self-inside.begun.items ≤ LIMIT;
  failed : l.reader.failed ≡ l.fn.reader.failed;
  unread : has_feed l.fn.self.ahead ≡ true → (l.self-inside.ahead ≡ l.fn.self.ahead) × (l.reader ≡ l.fn.reader);
}

-- what is begun and what is ahead grow with each turn, to at most the limit and a chunk
abbrev pub decreases-loop-at : goal.decreases-loop-at
decreases-loop-at g l = LIMIT + CHUNK + 1 - (length l.self-inside.begun.items + length l.self-inside.ahead)
