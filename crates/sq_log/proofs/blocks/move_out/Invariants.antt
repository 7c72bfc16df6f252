use Rattle.std.proofs.Common.{◌≡◌, ◌<◌, length}
use Rattle.std.specs.List.{AllByRecursion}
use Rattle.sq_log.specs.BlocksValue.{IsWhole}
use Rattle.sq_log.proofs.BlockLaws.{Moves}
use Rattle.sq_log.proofs.blocks.move_out.Given as goal

abbrev pub invariant-loop-left : goal.invariant-loop-left
invariant-loop-left g l =
    record {
      whole : AllByRecursion IsWhole l.blocks;
      len : length l.blocks ≡ length l.fn.blocks;
      after : l.at < l.left;
      moves : Moves l.left l.fn.blocks l.blocks l.fn.item l.carried;
    }
