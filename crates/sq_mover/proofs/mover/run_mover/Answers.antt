use Rattle.std.proofs.Common.{rules, ◌≡◌, ◌+◌, ◌≤◌, refl, subst, Result, Err}
use Rattle.sq_base.specs.declared.refusal.Refusal.{Refusal}
use Rattle.sq_calls.specs.declared.turns.Turned.{Turned}
use Rattle.sq_queue.specs.Around.{around}
use Rattle.sq_mover.specs.MoverTurns.{TakesTurn}
use Rattle.sq_mover.specs.MoverValue.{begun}
use Rattle.sq_mover.proofs.MoverLaws.{gains_both, gains_fewer, gains_none, turns_more}
use Rattle.sq_mover.proofs.mover.run_mover.Goals as goal

pub loop-init : goal.loop-init
loop-init g c = record {
  gains = gains_none 0 c.args.session.now c.args.session.now refl;
  turns = (c.begin_run.ensures, refl);
}

pub loop-preserved : goal.loop-preserved
loop-preserved g c = record {
  gains = gains_both c.loop.counter 1 c.args.session.now.journal c.loop.session.journal c.turn-told.new.session.journal c.loop.invariant.gains c.turn-told.ensures.gains;
  turns = turns_more (around g.C.Clock.tells g.G.Gate.saw c.args.service.now) c.loop.counter (begun c.args.mover.now) c.loop.mover c.turn-told.new.self c.args.session.now c.loop.session c.turn-told.new.session c.turn-told.result
      c.loop.invariant.turns c.turn-told.ensures.takes c.in_ok-ends.ensures.goes_on;
}

pub returns-in_err-ends-clause-gains : goal.returns-in_err-ends-clause-gains
returns-in_err-ends-clause-gains g c =
    let most : c.loop.counter + 1 ≤ c.args.turns = search rules in
    gains_fewer (c.loop.counter + 1) c.args.turns c.args.session.now.journal c.turn-told.new.session.journal most
    (gains_both c.loop.counter 1 c.args.session.now.journal c.loop.session.journal c.turn-told.new.session.journal c.loop.invariant.gains c.turn-told.ensures.gains)

pub returns-in_err-ends-clause-ended : goal.returns-in_err-ends-clause-ended
returns-in_err-ends-clause-ended g c =
    let refused : c.from_residual.result ≡ Err c.in_err-ends.field-0.0 = search rules in
    let why = c.in_err-ends.ensures.ends in
    rw refused (
      c.loop.counter,
      c.loop.mover,
      c.loop.session,
      search rules,
      c.loop.invariant.turns,
      subst (λ (told : Result Turned Refusal). TakesTurn (around g.C.Clock.tells g.G.Gate.saw c.args.service.now) c.loop.mover c.loop.session told c.turn-told.new.self c.turn-told.new.session) why.1 c.turn-told.ensures.takes,
      why.0,
    )
