use Rattle.std.proofs.Common.{◌≡◌, length}
use Rattle.std.specs.List.{list_any}
use Rattle.sq_json.specs.View.{names_view}
use Rattle.sq_requests.specs.Attributes.{is_unsettable}
use Rattle.sq_requests.proofs.attributes.has_other.Given as goal

abbrev pub invariant-names : goal.invariant-names
invariant-names l = list_any is_unsettable (names_view l.fn.names) ≡ list_any is_unsettable (names_view l.names)

abbrev pub decreases-names : goal.decreases-names
decreases-names l = length l.names
