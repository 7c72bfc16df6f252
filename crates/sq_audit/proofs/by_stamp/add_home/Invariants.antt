use Rattle.std.proofs.Common.{◌≡◌, ◌++◌, take}
use Rattle.std.specs.Prelude.{map}
use Rattle.sq_model.specs.Systems.{OfHome}
use Rattle.sq_audit.specs.Tags.{tags_of}
use Rattle.sq_audit.proofs.by_stamp.add_home.Given as goal

abbrev pub invariant-loop-at : goal.invariant-loop-at
invariant-loop-at l = tags_of l.all.items ≡ tags_of l.initial.all.items ++ map (λ e. OfHome l.index e) (take l.at l.events.items)
