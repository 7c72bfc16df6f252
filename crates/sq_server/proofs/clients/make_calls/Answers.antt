use Rattle.std.proofs.Common.{◌≡◌, ◌+◌, ◌*◌, ◌≤◌, ℕ, arith, refl, sym, subst}
use Rattle.std.proofs.Math.Numerals.{add-one}
use Rattle.std.specs.Prelude.{if◌then◌else◌}
use Rattle.sq_queue.specs.Around.{service_counts}
use Rattle.sq_server.specs.inside.Races.{HasCalledAll}
use Rattle.sq_server.proofs.clients.make_calls.Goals as goal
use Rattle.sq_server.proofs.clients.make_calls.Goals.{then-make_call, else-make_call}

pub loop-number-preserved : goal.loop-number-preserved
loop-number-preserved g c =
    let counts = service_counts c.args.service.now.service.value in
    let n = c.loop-number.number in
    let sent : c.if-make_call.sent ≡ (if c.make_call.result then c.loop-number.sent + 1 else c.loop-number.sent) = elim c.if-make_call.branch [
      | then-make_call w ↦ rw (w.sent-is, w.if-make_call.true) refl
      | else-make_call w ↦ rw (w.sent-is, w.if-make_call.false) refl
    ] in
    let third : 3 * c.if-make_call.sent ≤ n + 1 + 2 = elim c.if-make_call.branch [
      | then-make_call w ↦ let zero = c.make_call.ensures.a_third w.if-make_call.true in let before = c.loop-number.invariant.a_third in rw w.sent-is (omega (arith, zero, before))
      | else-make_call w ↦ let before = c.loop-number.invariant.a_third in rw w.sent-is (omega (arith, before))
    ] in
    record {
      a_third = third;
      called = subst (λ (k : ℕ). HasCalledAll counts k c.args.client.now.journal c.if-make_call.sent c.make_call.new.given c.make_call.new.client.journal) (sym (add-one n))
          (c.loop-number.client.journal, c.loop-number.sent, c.loop-number.given, c.make_call.result, c.loop-number.invariant.called, c.make_call.ensures.called, sent);
    }
