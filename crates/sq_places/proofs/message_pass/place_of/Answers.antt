use Rattle.std.proofs.Common.{rules, ◌≡◌, take, sym, ap, ◌∙◌, []}
use Rattle.std.proofs.lemmas.List.{take_all}
use Rattle.sq_audit.specs.Tags.{tag_of, tags_of}
use Rattle.sq_places.specs.inside.MessagePasses.{pass_step, pass_from, pass_start, answer}
use Rattle.sq_places.proofs.FollowLaws.{pass_next, place_law}
use Rattle.sq_places.proofs.message_pass.place_of.Goals as goal

pub loop-index-preserved : goal.loop-index-preserved
loop-index-preserved c =
    let events = c.events-events.result.now in
    c.next-message_pass.ensures
    ∙ ap (λ k. pass_step c.args.x.now (tags_of (take c.loop-index.index events)) k (tag_of c.index-events-index.result)) c.loop-index.invariant
    ∙ sym (pass_next c.args.x.now events c.loop-index.index c.index-events-index.result c.loop-index-test.true c.index-events-index.is)

pub returns : goal.returns
returns c = record {
  place = λ o after r one.
      let events = c.events-events.result.now in
      let all : take c.loop-index.index events ≡ events = take_all c.loop-index.index events (search rules) in
      let pass : c.loop-index.message_pass ≡ pass_from c.args.x.now [] pass_start (tags_of events) = rw all at c.loop-index.invariant in
      c.answer.ensures ∙ ap (λ k. answer k.state) pass ∙ sym (place_law c.args.x.now o events c.args.run.now c.events-events.ensures after r one);
}
