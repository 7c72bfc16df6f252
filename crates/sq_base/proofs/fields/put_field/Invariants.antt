use Rattle.std.proofs.Common.{◌≡◌, ◌≤◌, ◌++◌, length, drop}
use Rattle.sq_base.specs.Fields.{field}
use Rattle.sq_base.proofs.fields.put_field.Given as goal

abbrev pub invariant-loop-left : goal.invariant-loop-left
invariant-loop-left l = record {
  within : l.left ≤ length l.out;
  text : field (length l.out) l.number ≡ field l.left l.rest ++ drop l.left l.out;
}

abbrev pub decreases-loop-left : goal.decreases-loop-left
decreases-loop-left l = l.left
