use Rattle.std.proofs.Common.{◌≡◌, drop}
use Rattle.std.specs.Prelude.{◌&&◌}
use Rattle.std.specs.List.{list_all}
use Rattle.sq_base.specs.inside.Bodies.{is_short}
use Rattle.sq_base.proofs.body.are_short.Given as goal

abbrev pub invariant-loop-b : goal.invariant-loop-b
invariant-loop-b l = list_all is_short l.bytes ≡ (l.all && list_all is_short (drop l.b-index l.bytes))
