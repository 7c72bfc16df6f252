use Rattle.std.proofs.Common.{◌≡◌, length}
use Rattle.sq_json.specs.View.{items_view}
use Rattle.sq_requests.specs.Lists.{any_item}
use Rattle.sq_requests.specs.Asked.{asks}
use Rattle.sq_requests.proofs.asked.any_asks.Given as goal

abbrev pub invariant-names : goal.invariant-names
invariant-names l = any_item (asks l.name) (items_view l.fn.names) ≡ any_item (asks l.name) (items_view l.names)

abbrev pub decreases-names : goal.decreases-names
decreases-names l = length l.names
