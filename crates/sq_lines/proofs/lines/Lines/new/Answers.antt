use Rattle.std.proofs.Common.{arith, ◌≡◌, false, subst, sym, List, ℕ}
use Rattle.sq_lines.specs.Lines.{has_feed}
use Rattle.sq_lines.proofs.LineLaws.{no_feed_none}
use Rattle.sq_lines.proofs.lines.Lines.new.Goals as goal

pub invariant_of-result : goal.invariant_of-result
invariant_of-result c = (subst (λ (x : List ℕ). has_feed x ≡ false) (sym c.new.ensures.items) no_feed_none, omega (arith, c.new.ensures.len))
