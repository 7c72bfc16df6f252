use Rattle.std.proofs.Common.{rules, ◌≡◌, inr, Ok, refl, subst}
use Rattle.std.specs.Prelude.{ℕ, unwrap_or}
use Rattle.sq_requests.specs.Requests.{line_request}
use Rattle.sq_wire.specs.Scripts.{IsDoneAt}
use Rattle.sq_wire.proofs.script.tell.Goals as goal
use Rattle.sq_wire.proofs.script.tell.Goals.{in-Some, in_default}

pub returns : goal.returns
returns c =
    let request = c.in_ok-request.request in
    let read : line_request c.args.line.now ≡ Ok request = search rules in
    let at : c.match-request.clock ≡ unwrap_or request.clock c.args.clock.now = elim c.match-request.branch [
      | in-Some w ↦ rw (w.in-Some.is, w.clock-is) refl
      | in_default w ↦ rw (w.in_default.is, w.clock-is) refl
    ] in
    inr (request, read, at, subst (λ (now : ℕ). IsDoneAt request.actor now c.args.world.now request.asked c.do_at.result c.do_at.new.world) at c.do_at.ensures)
