use Rattle.std.proofs.Common.{◌≤◌, take}
use Rattle.sq_merge.specs.Worlds.{Schedule}
use Rattle.sq_merge.proofs.world.World.run.Given as goal

abbrev pub invariant-loop-step : goal.invariant-loop-step
invariant-loop-step l = record { schedule : Schedule l.initial.self (take l.step-index l.steps) l.done l.self; bound : l.done ≤ l.step-index }
