use Rattle.std.proofs.Common.{sym, arith}
use Rattle.sq_ledger.proofs.TaskCallLaws.{ends, may_end, not_yet, waits}
use Rattle.sq_ledger.proofs.ledger.TransitLedger.may_finish.Goals as goal
use Rattle.sq_ledger.proofs.ledger.TransitLedger.may_finish.Goals.{then-not-is_active-via-then-not-is_active, then-not-is_active-via-else-not-is_active+then-waiting-gt0}

pub returns-then-not-is_active-clause-refused : goal.returns-then-not-is_active-clause-refused
returns-then-not-is_active-clause-refused c =
    let task = c.in-Some.task.now in
    let found = sym c.in-Some.ensures in
    elim c.then-not-is_active.branch [
      | then-not-is_active-via-then-not-is_active w ↦ rw (← c.self.view_is) (ends _ _ task found (sym w.if-not-is_active.ensures))
      | then-not-is_active-via-else-not-is_active+then-waiting-gt0 w ↦
          let waiting = waits _ c.self.invariant c.args.number c.in_transit-waiting.result task found c.in_transit-waiting.ensures in
          rw (← c.self.view_is) (not_yet _ _ task found (omega (arith, waiting, w.if-waiting-gt0.true)))
    ]

pub returns-clause-may : goal.returns-clause-may
returns-clause-may c =
    let task = c.in-Some.task.now in
    let found = sym c.in-Some.ensures in
    let waiting = waits _ c.self.invariant c.args.number c.in_transit-waiting.result task found c.in_transit-waiting.ensures in
    rw (← c.self.view_is) (may_end _ _ task found (sym c.if-not-is_active.ensures) (omega (arith, waiting, c.if-waiting-gt0.false)))
