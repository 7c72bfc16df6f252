-- What the steps of a turn come to.
use Rattle.std.proofs.Common.{◌≡◌, ◌⊎◌, ℕ, true, false, ◌<◌, List, [], ◌∷◌, refl, subst, inl, inr, None, Some, Result, Ok, Err}
use Rattle.sq_model.specs.declared.ledger.LedgerReply.{LedgerReply}
use Rattle.sq_model.specs.declared.task.Task.{Task}
use Rattle.sq_steps.specs.declared.act.TaskAct.TheVariants.{Finish}
use Rattle.sq_actions.specs.declared.walk.Walk.{Walk}
use Rattle.sq_base.specs.declared.ids.HomeId.{HomeId}
use Rattle.sq_base.specs.declared.refusal.Refusal.{Refusal}
use Rattle.sq_calls.specs.declared.turns.Turned.{Turned}
use Rattle.sq_calls.specs.declared.turns.Turned.TheVariants as word
use Rattle.sq_model.specs.declared.shared.SharedAct.TheVariants.{LeaveDead, LeaveTask}
use Rattle.sq_model.specs.declared.task.NamedQueue.{NamedQueue}
use Rattle.sq_steps.specs.declared.act.NextItem.{NextItem}
use Rattle.sq_actions.specs.Asks.{Ask, Resolve, AskShared, Peek, AskLedger, ReadTask, Gave, Found, Peeked, TaskFound, HomeCounts, gave_as, Told}
use Rattle.sq_actions.specs.Calls.{home_numbered}
use Rattle.sq_actions.specs.Steps.{ledger_step, named}
use Rattle.sq_actions.specs.Performs.{Performs}
use Rattle.sq_actions.specs.Turns.{shared_step, peeking, task_read, WordFor, LeaveFits, home_ahead, comes_in, goes_back, Brings, BringFits, walk_after, LeavesFor, walk_waiting, finish_word, is_closed, Finishes, ServesTask, ServeFits}
use Rattle.sq_actions.proofs.PathLaws.{answered_one, answered_more}

-- a queue was found, and one of its homes was asked for a dead letter
pub left_from : {S : Type 0} (stepped : S → Ask → Result Gave Refusal → S → Type 0) (counts : S → HomeCounts) (old found picked new : S) (name said : List ℕ) (queue : NamedQueue) (home : ℕ) (by : Result Gave Refusal) (answered : Result Turned Refusal)
    → stepped old (Resolve name) (Ok (Found queue)) found → counts found ≡ counts old → picked ≡ found → home < (counts found).homes → said ≡ name → stepped picked (AskShared (Some said) (home_numbered queue.number home) LeaveDead) by new
    → WordFor LeaveDead by answered → Performs stepped (LeaveFits (counts old).homes name) old answered new
left_from {S} stepped counts old found picked new name said queue home by answered h same unchanged below is k words = record {
  trace = named name (Ok (Found queue)) ∷ shared_step (Some name) (home_numbered queue.number home) LeaveDead by ∷ [];
  path = (found, h, (new, subst (λ (s : S). stepped s (AskShared (Some name) (home_numbered queue.number home) LeaveDead) by new) unchanged (subst (λ (n : List ℕ). stepped picked (AskShared (Some n) (home_numbered queue.number home) LeaveDead) by new) is k), refl));
  fits = inr (queue, home, by, subst (λ (n : HomeCounts). home < n.homes) same below, refl, words);
}

-- the next item was brought to one of the homes of the queue that it goes to
pub brought : {S : Type 0} (stepped : S → Ask → Result Gave Refusal → S → Type 0) (counts : S → HomeCounts) (old found picked new : S) (before after : ℕ) (next : NextItem) (home : ℕ) (answered : Result Turned Refusal)
    → stepped old (Peek before) (Ok (Peeked (Some next))) found → counts found ≡ counts old → picked ≡ found → home < (counts found).homes → Performs stepped (Brings next (home_ahead next home)) picked answered new
    → after ≡ next.number → Performs stepped (BringFits (counts old).homes before after) old answered new
brought {S} stepped counts old found picked new before after next home answered h same unchanged below rest tried =
    answered_more stepped (BringFits (counts old).homes before after) (Brings next (home_ahead next home)) old found new answered (peeking before (Ok (Peeked (Some next)))) h
    (subst (λ (s : S). Performs stepped (Brings next (home_ahead next home)) s answered new) unchanged rest)
    (λ ds fits. inr (inr (next, home, ds, subst (λ (n : HomeCounts). home < n.homes) same below, refl, fits, tried)))

-- an item came in, or was refused otherwise than by a home that does not serve
pub came : {S : Type 0} (stepped : S → Ask → Result Gave Refusal → S → Type 0) (old new : S) (next : NextItem) (home : HomeId) (by : Result Gave Refusal) (answered : Result Turned Refusal)
    → stepped old (AskShared None home (comes_in next)) by new → is_closed by ≡ false → WordFor (comes_in next) by answered → Performs stepped (Brings next home) old answered new
came stepped old new next home by answered h serves words = answered_one stepped (Brings next home) old old new answered (shared_step None home (comes_in next) by) refl h (inl (by, refl, serves, words))

-- a home that does not serve was asked to send it back, or to drop it
pub went_back : {S : Type 0} (stepped : S → Ask → Result Gave Refusal → S → Type 0) (old mid new : S) (next : NextItem) (home : HomeId) (closed by : Result Gave Refusal) (answered : Result Turned Refusal)
    → stepped old (AskShared None home (comes_in next)) closed mid → is_closed closed ≡ true → stepped mid (AskShared None home (goes_back next)) by new
    → ((is_closed by ≡ false) × WordFor (goes_back next) by answered) ⊎ ((is_closed by ≡ true) × (answered ≡ Ok word.Full)) → Performs stepped (Brings next home) old answered new
went_back stepped old mid new next home closed by answered h is k words = record {
  trace = shared_step None home (comes_in next) closed ∷ shared_step None home (goes_back next) by ∷ [];
  path = (mid, h, (new, k, refl));
  fits = inr (closed, by, refl, is, words);
}

-- a task was read, and then served by the walk for it
pub served : {S : Type 0} (stepped : S → Ask → Result Gave Refusal → S → Type 0) (counts : S → HomeCounts) (old mid new : S) (task : Task) (before after : Walk) (answered : Result Turned Refusal)
    → stepped old (ReadTask before.task) (Ok (TaskFound task)) mid → counts mid ≡ counts old → Performs stepped (ServesTask (counts mid).homes task before after) mid answered new
    → Performs stepped (ServeFits (counts old).homes before after) old answered new
served stepped counts old mid new task before after answered h same rest =
    answered_more stepped (ServeFits (counts old).homes before after) (ServesTask (counts mid).homes task before after) old mid new answered (task_read before.task (Ok (TaskFound task))) h rest
    (λ ds fits. inr (task, ds, refl, subst (λ (n : HomeCounts). ServesTask n.homes task before after ds answered) same fits))

-- a home was asked for a message of a task's source, and the walk went on
pub left_for : {S : Type 0} (stepped : S → Ask → Result Gave Refusal → S → Type 0) (homes : ℕ) (task : Task) (before after : Walk) (old new : S) (by : Result Gave Refusal) (answered : Result Turned Refusal)
    → stepped old (AskShared None (home_numbered task.source.number before.home) (LeaveTask before.task)) by new → after ≡ walk_after homes before by
    → WordFor (LeaveTask before.task) by answered → Performs stepped (LeavesFor homes task before after) old answered new
left_for stepped homes task before after old new by answered h goes words =
    answered_one stepped (LeavesFor homes task before after) old old new answered (shared_step None (home_numbered task.source.number before.home) (LeaveTask before.task) by) refl h (by, refl, goes, words)

-- a task was to finish, and the walk waits or stays
pub finished_by : {S : Type 0} (stepped : S → Ask → Result Gave Refusal → S → Type 0) (before after : Walk) (old new : S) (by : Result LedgerReply Refusal) (answered : Result Turned Refusal)
    → stepped old (AskLedger (Finish before.task)) (gave_as Told by) new → after ≡ walk_waiting before by → answered ≡ finish_word by → Performs stepped (Finishes before after) old answered new
finished_by stepped before after old new by answered h waits said =
    answered_one stepped (Finishes before after) old old new answered (ledger_step (Finish before.task) by) refl h (by, refl, waits, said)
