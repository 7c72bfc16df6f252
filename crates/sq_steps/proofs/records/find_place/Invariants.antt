use Rattle.std.proofs.Common.{◌≡◌, false, take}
use Rattle.std.specs.Prelude.{◌==◌}
use Rattle.std.specs.List.{list_any}
use Rattle.sq_steps.specs.inside.Records.{place_of_kept}
use Rattle.sq_steps.proofs.records.find_place.Given as goal

abbrev pub invariant-loop-at : goal.invariant-loop-at
invariant-loop-at l = list_any (λ n. place_of_kept l.others.items n == l.place) (take l.at l.kept.items) ≡ false
