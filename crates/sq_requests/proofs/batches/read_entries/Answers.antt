use Rattle.std.proofs.Common.{◌≡◌, ◌∙◌, refl, rules, sym}
use Rattle.std.specs.Prelude.{is_err}
use Rattle.sq_json.specs.View.{items_view, view}
use Rattle.sq_requests.proofs.BatchLaws.{keeps_none, keeps_one, reads_all}
use Rattle.sq_requests.proofs.batches.read_entries.Goals as goal

pub items-init : goal.items-init
items-init c = record { entries = refl; kept = rw c.new-first.ensures (keeps_none c.args.kind (items_view c.args.items)) }

pub items-preserved : goal.items-preserved
items-preserved c =
    let is_more : c.is_err-has_more.result ≡ is_err c.try_push.result = search rules in
    record {
      entries = c.items.invariant.entries ∙ rw (c.in-Some.ensures.value, ← c.in-Ok.ensures.is_entry) refl;
      kept = rw is_more
          (keeps_one c.args.kind (items_view c.args.items) (items_view c.items.items) (items_view c.next.new.self) (view c.in-Some.entry) c.items.first c.try_push.new.self c.items.has_more c.in-Ok.members c.try_push.result
          c.in-Some.ensures.value (sym c.in-Ok.ensures.entry) c.in-Ok.ensures.length c.try_push.ensures.variant c.try_push.ensures.ok c.try_push.ensures.err c.try_push.ensures.full c.items.invariant.kept);
    }

pub returns-clause-ok : goal.returns-clause-ok
returns-clause-ok c = reads_all c.args.kind (items_view c.args.items) (items_view c.items.items) _ (search rules) c.items.invariant.entries c.items.invariant.kept
