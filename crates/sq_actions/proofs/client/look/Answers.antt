use Rattle.std.proofs.Common.{rules, ◌≡◌, ◌∙◌, ◌<◌, length, Ok, Err, arith, inr, refl}
use Rattle.std.proofs.lemmas.Option.{slice_get_read}
use Rattle.sq_model.specs.declared.replies.HomeReply.TheVariants.{Looked, Over}
use Rattle.sq_actions.specs.Fits.{HasNoMessage}
use Rattle.sq_actions.proofs.ClientLaws.{more_asked, receive_ended, ends_giving, none_given}
use Rattle.sq_actions.proofs.client.look.Goals as goal
use Rattle.sq_actions.proofs.client.look.Goals.{in-Looked+else-len-gt0+in-None-1, in-Looked+else-len-gt0+in-Some-1, in-Over}

pub returns-in_err-rows : goal.returns-in_err-rows
returns-in_err-rows g c =
    let is : c.from_residual-in_err-rows.result ≡ Err c.in_err-rows.field-0.0 = search rules in
    let within : c.loop-index.index < length c.in_ok-homes.homes.items = search rules in
    let in_list = slice_get_read c.in_ok-homes.homes.items (length c.in_ok-homes.homes.items) c.loop-index.index c.index-home.result.now refl within c.index-home.ensures in
    receive_ended _ _ _ _ _ c.args.call.now _ _ c.loop-index.index c.index-home.result.now (Err c.in_err-rows.field-0.0) c.loop-index.over _ c.draw.ensures.some c.in_ok-homes.ensures.sample c.loop-index.invariant.asked in_list (rw (c.found.ensures, c.requires.named) at c.in_err-rows.ensures.did)
    (inr (c.in_err-rows.field-0.0, c.in_err-rows.ensures.refusal, refl, is))

pub returns-then-len-gt0 : goal.returns-then-len-gt0
returns-then-len-gt0 g c =
    let within : c.loop-index.index < length c.in_ok-homes.homes.items = search rules in
    let in_list = slice_get_read c.in_ok-homes.homes.items (length c.in_ok-homes.homes.items) c.loop-index.index c.index-home.result.now refl within c.index-home.ensures in
    let some : 0 < length c.in-Looked.rows = rw (← c.len.ensures) c.if-len-gt0.true in
    receive_ended _ _ _ _ _ c.args.call.now _ _ c.loop-index.index c.index-home.result.now (Ok (Looked c.in-Looked.rows)) c.loop-index.over _ c.draw.ensures.some c.in_ok-homes.ensures.sample c.loop-index.invariant.asked in_list (rw (← c.in-Looked.is) (rw (c.found.ensures, c.requires.named) at c.in_ok-rows.ensures.did))
    (rw c.received_answer.ensures (ends_giving c.args.call.now c.args.of.now.number c.index-home.result.now c.in-Looked.rows some))

pub loop-index-preserved : goal.loop-index-preserved
loop-index-preserved g c =
    let within : c.loop-index.index < length c.in_ok-homes.homes.items = search rules in
    let in_list = slice_get_read c.in_ok-homes.homes.items (length c.in_ok-homes.homes.items) c.loop-index.index c.index-home.result.now refl within c.index-home.ensures in
    let none : HasNoMessage c.in_ok-rows.field-0 c.loop-index.over c.match-branch-3.over = elim c.match-branch-3.branch [
      | in-Looked+else-len-gt0+in-None-1 w ↦ none_given _ _ _ _ w.in-Looked.is (omega (arith, w.len.ensures, w.if-len-gt0.false)) w.over-is
      | in-Looked+else-len-gt0+in-Some-1 w ↦ none_given _ _ _ _ w.in-Looked.is (omega (arith, w.len.ensures, w.if-len-gt0.false)) w.over-is
      | in-Over w ↦ (let by : c.in_ok-rows.field-0 ≡ Over = cc in inr (by, w.over-is))
    ] in
    record {
      known = rw c.found.ensures at c.in_ok-rows.ensures.known;
      same = c.in_ok-rows.ensures.same_counts ∙ c.loop-index.invariant.same;
      asked = more_asked _ _ _ _ c.args.call.now _ _ c.loop-index.index c.index-home.result.now c.in_ok-rows.field-0 c.loop-index.over _ c.loop-index.invariant.asked in_list (rw (c.found.ensures, c.requires.named) at c.in_ok-rows.ensures.did) none;
    }
