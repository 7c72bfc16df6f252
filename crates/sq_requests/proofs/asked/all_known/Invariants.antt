use Rattle.std.proofs.Common.{◌≡◌, length}
use Rattle.sq_json.specs.View.{items_view}
use Rattle.sq_requests.specs.Lists.{all_items}
use Rattle.sq_requests.specs.Asked.{is_known}
use Rattle.sq_requests.proofs.asked.all_known.Given as goal

abbrev pub invariant-names : goal.invariant-names
invariant-names l = all_items is_known (items_view l.fn.names) ≡ all_items is_known (items_view l.names)

abbrev pub decreases-names : goal.decreases-names
decreases-names l = length l.names
