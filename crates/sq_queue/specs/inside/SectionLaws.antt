-- A section under a lock leaves its record with its session, and no others.
use Rattle.std.specs.Prelude.{Result, Ok, Err}
use Rattle.std.proofs.Common.{ap}
use Rattle.sq_base.specs.declared.refusal.Refusal.{Refusal}
use Rattle.sq_actions.proofs.LeaveLaws.{home_leaves, shared_leaves, directory_leaves, ledger_leaves}
use Rattle.sq_actions.specs.Asks.{Ask, Resolve, AskDirectory, AskHome, AskShared, Peek, Redriven, AskLedger, ReadTask, Gave, Found, Answered, Replied, Nothing, Peeked, Ends, Told, TaskFound, LeavesOf}
use Rattle.sq_actions.specs.StopLaws.{refused_leaves}
use Rattle.sq_queue.specs.Sections.{Surroundings, SectionDone, IsSection}
use Rattle.sq_queue.specs.SessionValue.{SessionValue}

done_leaves : (at : Surroundings) (ask : Ask) (gave : Gave) (before after : SessionValue) → SectionDone at ask gave before after → LeavesOf ask (Ok gave) before.journal after.journal
done_leaves at (Resolve name) (Found queue) before after h = (h.0.last, ap (λ (s : SessionValue). s.journal) h.4)
done_leaves at (AskDirectory call) (Answered reply) before after h = directory_leaves h.1 h.2 before.journal after.journal h.0 call reply h.5
done_leaves at (AskHome name id act) (Replied reply) before after h = home_leaves h.1 h.2 before.journal after.journal h.0 name id act reply h.5 h.6
done_leaves at (AskShared name id what) (Replied reply) before after h = shared_leaves h.1 h.2 h.3 h.4 before.journal after.journal h.0 name id what reply h.8 h.9
done_leaves at (AskShared name id what) Nothing before after h = ap (λ (s : SessionValue). s.journal) h.8
done_leaves at (Peek number) (Peeked next) before after h = (h.0.last, ap (λ (s : SessionValue). s.journal) h.3)
done_leaves at (Redriven source destination) (Ends ends) before after h = (h.0.last, ap (λ (s : SessionValue). s.journal) h.3)
done_leaves at (AskLedger what) (Told reply) before after h = ledger_leaves h.1 h.2 before.journal after.journal h.0 what reply h.5
done_leaves at (ReadTask number) (TaskFound task) before after h = (h.0.last, ap (λ (s : SessionValue). s.journal) h.3)
done_leaves at ask gave before after h = elim h [ ]

pub section_leaves : (at : Surroundings) (before after : SessionValue) (ask : Ask) (answered : Result Gave Refusal) → IsSection at before ask answered after → LeavesOf ask answered before.journal after.journal
section_leaves at before after ask (Ok gave) h = done_leaves at ask gave before after h
section_leaves at before after ask (Err e) h = refused_leaves ask e before.journal after.journal (ap (λ (s : SessionValue). s.journal) h.1)
