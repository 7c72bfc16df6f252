use Rattle.std.proofs.Common.{rules, ◌≡◌, ◌∙◌, Err, ap, sym, refl}
use Rattle.std.specs.Prelude.{option_map}
use Rattle.sq_directory.proofs.ListingLaws.{listed_more, listed_over, listed_end, listed_some}
use Rattle.sq_base.specs.declared.refusal.Refusal.TheVariants.{NoMemory}
use Rattle.sq_directory.proofs.listing.listed_names.Goals as goal
use Rattle.sq_directory.proofs.listing.listed_names.Goals.{in-Some+then-has+in_ok-push, in-Some+else-has, in_default}

pub loop-index-preserved : goal.loop-index-preserved
loop-index-preserved c = elim c.match-at.branch [
  | in-Some+then-has+in_ok-push w ↦
      let found = sym c.at.ensures ∙ ap (option_map (λ queue. queue.now)) w.in-Some.is in
      w.names-is ∙ w.in_ok-push.ensures.ok
      ∙ listed_more c.args.listing.now c.loop-index.names c.args.queues.now.queues c.loop-index.index w.in-Some.queue.now c.loop-index.invariant found (sym w.has.ensures ∙ w.if-has.true)
  | in-Some+else-has w ↦
      let found = sym c.at.ensures ∙ ap (option_map (λ queue. queue.now)) w.in-Some.is in
      w.names-is ∙ listed_over c.args.listing.now c.loop-index.names c.args.queues.now.queues c.loop-index.index w.in-Some.queue.now c.loop-index.invariant found (sym w.has.ensures ∙ w.if-has.false)
  | in_default w ↦
      let none = sym c.at.ensures ∙ ap (option_map (λ queue. queue.now)) w.in_default.is in
      w.names-is ∙ listed_end c.args.listing.now c.loop-index.names c.args.queues.now.queues c.loop-index.index c.loop-index.invariant none
]

pub returns-in_err-push-clause-refused : goal.returns-in_err-push-clause-refused
returns-in_err-push-clause-refused c =
    let refused : c.from_residual.result ≡ Err NoMemory = search rules in
    let found = sym c.at.ensures ∙ ap (option_map (λ queue. queue.now)) c.in-Some.is in
    rw refused (refl, listed_some c.args.listing.now c.args.queues.now.queues c.loop-index.index c.in-Some.queue.now found (sym c.has.ensures ∙ c.if-has.true))
