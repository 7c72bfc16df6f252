use Rattle.std.proofs.Common.{◌≡◌, length}
use Rattle.sq_json.specs.View.{items_view}
use Rattle.sq_requests.specs.Batches.{is_entry}
use Rattle.sq_requests.specs.Lists.{all_items}
use Rattle.sq_requests.proofs.BatchLaws.{AreKept}
use Rattle.sq_requests.proofs.batches.read_entries.Given as goal

abbrev pub invariant-items : goal.invariant-items
invariant-items l = record {
  entries : all_items (is_entry l.kind) (items_view l.fn.items) ≡ all_items (is_entry l.kind) (items_view l.items);
  kept : AreKept l.kind (items_view l.fn.items) (items_view l.items) l.first.items l.has_more;
}

abbrev pub decreases-items : goal.decreases-items
decreases-items l = length l.items
