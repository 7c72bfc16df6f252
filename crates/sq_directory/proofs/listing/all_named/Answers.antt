use Rattle.std.proofs.Common.{◌∙◌, ap, sym}
use Rattle.std.specs.Prelude.{option_map}
use Rattle.sq_directory.proofs.ListingLaws.{named_more, named_end}
use Rattle.sq_directory.proofs.listing.all_named.Goals as goal
use Rattle.sq_directory.proofs.listing.all_named.Goals.{in-Some+in_ok-push, in_default}

pub loop-index-preserved : goal.loop-index-preserved
loop-index-preserved c = elim c.match-at.branch [
  | in-Some+in_ok-push w ↦
      let found = sym c.at.ensures ∙ ap (option_map (λ queue. queue.now)) w.in-Some.is in
      w.names-is ∙ w.in_ok-push.ensures.ok ∙ (rw w.as_named.ensures (named_more c.loop-index.names c.args.queues.now.queues c.loop-index.index w.in-Some.queue.now c.loop-index.invariant found))
  | in_default w ↦
      let none = sym c.at.ensures ∙ ap (option_map (λ queue. queue.now)) w.in_default.is in
      w.names-is ∙ named_end c.loop-index.names c.args.queues.now.queues c.loop-index.index c.loop-index.invariant none
]
