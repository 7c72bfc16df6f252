-- What each call answers where it is not refused.
use Rattle.std.proofs.Common.{◌≡◌, ℕ, List, Option, Some, None, Result, Ok, Err, IfOk, true, false, Bool, inl, inr, refl, sym, subst}
use Rattle.sq_base.specs.declared.handle.Handle.{Handle}
use Rattle.sq_base.specs.declared.refusal.Refusal.{Refusal}
use Rattle.sq_model.specs.declared.calls.Receipt.{Receipt}
use Rattle.sq_model.specs.RecordValues.{Journal}
use Rattle.sq_model.specs.declared.directory.Attributes.{Attributes}
use Rattle.sq_model.specs.declared.directory.DirectoryCall.{DirectoryCall}
use Rattle.sq_model.specs.declared.directory.DirectoryCall.TheVariants.{Create, PurgeTicket, Read, Remove, Set, Sources, Url}
use Rattle.sq_model.specs.declared.directory.DirectoryCall.TheVariants.{List as ListNames}
use Rattle.sq_model.specs.declared.directory.DirectoryReply.{DirectoryReply}
use Rattle.sq_model.specs.declared.directory.DirectoryReply.TheVariants as reply
use Rattle.sq_model.specs.declared.directory.NamePrefix.{NamePrefix}
use Rattle.sq_model.specs.declared.ledger.LedgerReply.{LedgerReply}
use Rattle.sq_model.specs.declared.replies.HomeReply.{HomeReply}
use Rattle.sq_history.specs.declared.act.HomeAct.{HomeAct}
use Rattle.sq_history.specs.declared.act.HomeAct.TheVariants.{Change, Close, Configure, Delete, Purge}
use Rattle.sq_calls.specs.BatchValue.{BatchValue}
use Rattle.sq_calls.specs.declared.batches.EntryAnswer.{EntryAnswer}
use Rattle.sq_calls.specs.declared.batches.EntryAsk.TheVariants as ask
use Rattle.sq_calls.specs.declared.calls.Answer.{Answer}
use Rattle.sq_calls.specs.declared.calls.Answer.TheVariants as answer
use Rattle.sq_calls.specs.declared.calls.Call.TheVariants as call
use Rattle.sq_calls.specs.declared.calls.ChangeMessageVisibility.{ChangeMessageVisibility}
use Rattle.sq_calls.specs.declared.calls.CreateQueue.{CreateQueue}
use Rattle.sq_calls.specs.declared.calls.DeleteMessage.{DeleteMessage}
use Rattle.sq_calls.specs.declared.calls.GetQueueAttributes.{GetQueueAttributes}
use Rattle.sq_calls.specs.declared.calls.ListMessageMoveTasks.{ListMessageMoveTasks}
use Rattle.sq_calls.specs.declared.calls.ReceiveMessage.{ReceiveMessage}
use Rattle.sq_calls.specs.declared.calls.SendMessage.{SendMessage}
use Rattle.sq_calls.specs.declared.calls.SetQueueAttributes.{SetQueueAttributes}
use Rattle.sq_calls.specs.declared.calls.StartMessageMoveTask.{StartMessageMoveTask}
use Rattle.sq_steps.specs.declared.act.TaskAct.{TaskAct}
use Rattle.sq_actions.specs.Asks.{Ask, Done, Gave, HomeCounts}
use Rattle.sq_actions.specs.Calls.{home_numbered}
use Rattle.sq_actions.specs.Entries.{BatchAt, HandleAt, MakesDone, MakesSent, OneFits, OneStep, SendAt, one_answered}
use Rattle.sq_actions.specs.Fits.{AtAll, ByDirectory, ByLedger, ByName, CallFits, Copied, CountsAt, EndsReceive, ListTasksFits, MakesCancelled, MakesStarted, MakesTasks, ReceiveAt, Shows, StartFits, TellsQueues, TellsSources, TellsUrl, ThenAll, none_answered, shown_of}
use Rattle.sq_actions.specs.Performs.{LeavesRecords, Performs}
use Rattle.sq_queue.specs.Named.{IsOfKind, done_answer, sent_answer}

is_refused : (P : Answer → Type 0) (told : Result Answer Refusal) (e : Refusal) → told ≡ Err e → IfOk told P
is_refused P told e is = subst (λ (r : Result Answer Refusal). IfOk r P) (sym is) tt

is_answered : (P : Answer → Type 0) (told : Result Answer Refusal) (a : Answer) → told ≡ Ok a → P a → IfOk told P
is_answered P told a is holds = subst (λ (r : Result Answer Refusal). IfOk r P) (sym is) holds

by_name : (P : Answer → Type 0) (name : List ℕ) (At : ℕ → List Done → Result Answer Refusal → Type 0) (trace : List Done) (told : Result Answer Refusal) → ByName name At trace told
    → ((queue : ℕ) (rest : List Done) → At queue rest told → IfOk told P) → IfOk told P
by_name P name At trace told fits after = elim fits [ inl failed ↦ is_refused P told failed.0 failed.3 | inr found ↦ after found.0.number found.1 found.3 ]

by_directory : (P : Answer → Type 0) (asked : DirectoryCall) (After : DirectoryReply → List Done → Result Answer Refusal → Type 0) (trace : List Done) (told : Result Answer Refusal) → ByDirectory asked After trace told
    → ((by : DirectoryReply) (rest : List Done) → After by rest told → IfOk told P) → IfOk told P
by_directory P asked After trace told fits after = elim fits [ inl failed ↦ is_refused P told failed.0 failed.3 | inr did ↦ after did.0 did.1 did.4 ]

by_ledger : (P : Answer → Type 0) (what : TaskAct) (Makes : LedgerReply → Answer → Type 0) (trace : List Done) (told : Result Answer Refusal) → ByLedger what Makes trace told
    → ((by : LedgerReply) (a : Answer) → Makes by a → P a) → IfOk told P
by_ledger P what Makes trace told fits makes = elim fits [ inl did ↦ is_answered P told did.1 did.4 (makes did.0 did.1 did.3) | inr failed ↦ is_refused P told failed.0 failed.3 ]

-- ---- calls that ask all homes

at_all : (P : Answer → Type 0) (homes : ℕ) (name : List ℕ) (queue : ℕ) (act : HomeAct) (a : Answer) (trace : List Done) (told : Result Answer Refusal) → AtAll homes name queue act a trace told → P a → IfOk told P
at_all P homes name queue act a trace told fits holds = elim fits [ inl did ↦ is_answered P told a did.1 holds | inr failed ↦ is_refused P told failed.2 failed.7 ]

then_all : (P : Answer → Type 0) (homes : ℕ) (name : List ℕ) (a : Answer) (by : DirectoryReply) (trace : List Done) (told : Result Answer Refusal) → ThenAll homes name a by trace told → P a → IfOk told P
then_all P homes name a (reply.Made made) trace answered fits holds = at_all P homes name made.queue (Configure made.settings made.version) a trace answered fits holds
then_all P homes name a (reply.Changed changed) trace answered fits holds = at_all P homes name changed.queue (Configure changed.settings changed.version) a trace answered fits holds
then_all P homes name a (reply.Removed number) trace answered fits holds = at_all P homes name number Close a trace answered fits holds
then_all P homes name a (reply.Ticket number) trace answered fits holds = at_all P homes name number Purge a trace answered fits holds
then_all P homes name a other trace answered fits holds = elim fits [ ]

copied : (P : Answer → Type 0) (given : Attributes) (Fits : List Done → Result Answer Refusal → Type 0) (trace : List Done) (told : Result Answer Refusal) → Copied given Fits trace told → (Fits trace told → IfOk told P) → IfOk told P
copied P given Fits trace told fits rest = elim fits [ inl failed ↦ is_refused P told _ failed.2 | inr did ↦ rest did ]

pub create_tells : (counts : HomeCounts) (c : CreateQueue) (trace : List Done) (told : Result Answer Refusal) → CallFits counts (call.CreateQueue c) trace told → IfOk told (IsOfKind answer.Queue)
create_tells counts c trace told fits =
    copied (IsOfKind answer.Queue) c.attributes (ByDirectory (Create c.name c.attributes) (ThenAll counts.homes c.name (answer.Queue c.name))) trace told fits (λ did. by_directory (IsOfKind answer.Queue) (Create c.name c.attributes) (ThenAll counts.homes c.name (answer.Queue c.name)) trace told did (λ by rest h. then_all (IsOfKind answer.Queue) counts.homes c.name (answer.Queue c.name) by rest told h (c.name, refl)))

pub set_tells : (counts : HomeCounts) (c : SetQueueAttributes) (trace : List Done) (told : Result Answer Refusal) → CallFits counts (call.SetQueueAttributes c) trace told → IfOk told (IsOfKind done_answer)
set_tells counts c trace told fits =
    copied (IsOfKind done_answer) c.attributes (ByDirectory (Set c.queue c.attributes) (ThenAll counts.homes c.queue answer.Done)) trace told fits (λ did. by_directory (IsOfKind done_answer) (Set c.queue c.attributes) (ThenAll counts.homes c.queue answer.Done) trace told did (λ by rest h. then_all (IsOfKind done_answer) counts.homes c.queue answer.Done by rest told h (tt, refl)))

pub purge_tells : (counts : HomeCounts) (name : List ℕ) (trace : List Done) (told : Result Answer Refusal) → CallFits counts (call.PurgeQueue name) trace told → IfOk told (IsOfKind done_answer)
purge_tells counts name trace told fits = by_directory (IsOfKind done_answer) (PurgeTicket name) (ThenAll counts.homes name answer.Done) trace told fits (λ by rest h. then_all (IsOfKind done_answer) counts.homes name answer.Done by rest told h (tt, refl))

pub remove_tells : (counts : HomeCounts) (name : List ℕ) (trace : List Done) (told : Result Answer Refusal) → CallFits counts (call.DeleteQueue name) trace told → IfOk told (IsOfKind done_answer)
remove_tells counts name trace told fits = by_directory (IsOfKind done_answer) (Remove name) (ThenAll counts.homes name answer.Done) trace told fits (λ by rest h. then_all (IsOfKind done_answer) counts.homes name answer.Done by rest told h (tt, refl))

-- ---- calls that the directory answers

url_of : (name : List ℕ) (by : DirectoryReply) (rest : List Done) (answered : Result Answer Refusal) → TellsUrl name by rest answered → IfOk answered (IsOfKind answer.Queue)
url_of name (reply.Found number) rest answered h = is_answered (IsOfKind answer.Queue) answered (answer.Queue name) h.1 (name, refl)
url_of name other rest answered h = elim h [ ]

pub url_tells : (counts : HomeCounts) (name : List ℕ) (trace : List Done) (told : Result Answer Refusal) → CallFits counts (call.GetQueueUrl name) trace told → IfOk told (IsOfKind answer.Queue)
url_tells counts name trace told fits = by_directory (IsOfKind answer.Queue) (Url name) (TellsUrl name) trace told fits (λ by rest h. url_of name by rest told h)

names_of : (by : DirectoryReply) (rest : List Done) (answered : Result Answer Refusal) → TellsQueues by rest answered → IfOk answered (IsOfKind answer.Queues)
names_of (reply.Listed names) rest answered h = is_answered (IsOfKind answer.Queues) answered (answer.Queues names) h.1 (names, refl)
names_of other rest answered h = elim h [ ]

pub list_tells : (counts : HomeCounts) (prefix : NamePrefix) (trace : List Done) (told : Result Answer Refusal) → CallFits counts (call.ListQueues prefix) trace told → IfOk told (IsOfKind answer.Queues)
list_tells counts prefix trace told fits = by_directory (IsOfKind answer.Queues) (ListNames prefix) TellsQueues trace told fits (λ by rest h. names_of by rest told h)

sources_of : (by : DirectoryReply) (rest : List Done) (answered : Result Answer Refusal) → TellsSources by rest answered → IfOk answered (IsOfKind answer.Sources)
sources_of (reply.Sources names) rest answered h = is_answered (IsOfKind answer.Sources) answered (answer.Sources names) h.1 (names, refl)
sources_of other rest answered h = elim h [ ]

pub sources_tell : (counts : HomeCounts) (name : List ℕ) (trace : List Done) (told : Result Answer Refusal) → CallFits counts (call.ListDeadLetterSourceQueues name) trace told → IfOk told (IsOfKind answer.Sources)
sources_tell counts name trace told fits = by_directory (IsOfKind answer.Sources) (Sources name) TellsSources trace told fits (λ by rest h. sources_of by rest told h)

shown : (homes : ℕ) (c : GetQueueAttributes) (by : DirectoryReply) (rest : List Done) (answered : Result Answer Refusal) → Shows homes c by rest answered → IfOk answered (IsOfKind answer.Attributes)
shown homes c (reply.Read attributes) rest answered h = elim h [
  | inl did ↦ is_answered (IsOfKind answer.Attributes) answered (shown_of c attributes did.0) did.2 (_, refl)
  | inr failed ↦ is_refused (IsOfKind answer.Attributes) answered failed.3 failed.8
]
shown homes c other rest answered h = elim h [ ]

pub get_tells : (counts : HomeCounts) (c : GetQueueAttributes) (trace : List Done) (told : Result Answer Refusal) → CallFits counts (call.GetQueueAttributes c) trace told → IfOk told (IsOfKind answer.Attributes)
get_tells counts c trace told fits = by_directory (IsOfKind answer.Attributes) (Read c.queue) (Shows counts.homes c) trace told fits (λ by rest h. shown counts.homes c by rest told h)

-- ---- calls on messages

one_step : (Q : EntryAnswer → Type 0) (name : List ℕ) (queue home : ℕ) (act : HomeAct) (Makes : HomeReply → EntryAnswer → Type 0) (trace : List Done) (told : Result EntryAnswer Refusal) → OneStep name queue home act Makes trace told
    → ((by : HomeReply) (one : EntryAnswer) → Makes by one → Q one) → IfOk told Q
one_step Q name queue home act Makes trace told fits makes = elim fits [
  | inl did ↦ subst (λ (r : Result EntryAnswer Refusal). IfOk r Q) (sym did.4) (makes did.0 did.1 did.3)
  | inr failed ↦ subst (λ (r : Result EntryAnswer Refusal). IfOk r Q) (sym failed.3) tt
]

no_entry : (Q : EntryAnswer → Type 0) (told : Result EntryAnswer Refusal) (e : Refusal) → told ≡ Err e → IfOk told Q
no_entry Q told e is = subst (λ (r : Result EntryAnswer Refusal). IfOk r Q) (sym is) tt

as_entry : (P : Answer → Type 0) (told : Result EntryAnswer Refusal) → IfOk told (λ one. IfOk (one_answered (Ok one)) P) → IfOk (one_answered told) P
as_entry P (Ok one) h = h
as_entry P (Err e) h = tt

one_tells : (P : Answer → Type 0) (entry : Result EntryAnswer Refusal) (told : Result Answer Refusal) → told ≡ one_answered entry → IfOk entry (λ one. IfOk (one_answered (Ok one)) P) → IfOk told P
one_tells P entry told is h = subst (λ (r : Result Answer Refusal). IfOk r P) (sym is) (as_entry P entry h)

sent_entry : (homes : ℕ) (name : List ℕ) (queue : ℕ) (body : List ℕ) (delay : Option ℕ) (trace : List Done) (told : Result EntryAnswer Refusal) → SendAt homes name queue body delay trace told
    → IfOk told (λ one. IfOk (one_answered (Ok one)) (IsOfKind sent_answer))
sent_entry homes name queue body delay trace told fits = elim fits.1 [
  | inl failed ↦ no_entry _ told _ failed.2
  | inr good ↦ elim good.1 [
    | inl failed ↦ no_entry _ told _ failed.1
    | inr put ↦ one_step (λ one. IfOk (one_answered (Ok one)) (IsOfKind sent_answer)) name queue put.0 _ (MakesSent body) trace told put.2
        (λ by one made. subst (λ (o : EntryAnswer). IfOk (one_answered (Ok o)) (IsOfKind sent_answer)) (sym made.2) (_, refl))
  ]
]

done_entry : (homes : ℕ) (name : List ℕ) (queue : ℕ) (handle : Option Handle) (act : Receipt → HomeAct) (trace : List Done) (told : Result EntryAnswer Refusal) → HandleAt homes name queue handle act trace told
    → IfOk told (λ one. IfOk (one_answered (Ok one)) (IsOfKind done_answer))
done_entry homes name queue handle act trace told fits = elim fits [
  | inl failed ↦ no_entry _ told _ failed.2
  | inr good ↦ one_step (λ one. IfOk (one_answered (Ok one)) (IsOfKind done_answer)) name queue good.0.home _ MakesDone trace told good.2
      (λ by one made. subst (λ (o : EntryAnswer). IfOk (one_answered (Ok o)) (IsOfKind done_answer)) (sym made.1) (tt, refl))
]

pub send_tells : (counts : HomeCounts) (c : SendMessage) (trace : List Done) (told : Result Answer Refusal) → CallFits counts (call.SendMessage c) trace told → IfOk told (IsOfKind sent_answer)
send_tells counts c trace told fits = by_name (IsOfKind sent_answer) c.queue (OneFits counts.homes c.queue (ask.Send c.body c.delay)) trace told fits (λ queue rest h. one_tells (IsOfKind sent_answer) h.0 told h.2 (sent_entry counts.homes c.queue queue c.body c.delay rest h.0 h.1))

pub delete_tells : (counts : HomeCounts) (c : DeleteMessage) (trace : List Done) (told : Result Answer Refusal) → CallFits counts (call.DeleteMessage c) trace told → IfOk told (IsOfKind done_answer)
delete_tells counts c trace told fits = by_name (IsOfKind done_answer) c.queue (OneFits counts.homes c.queue (ask.Delete c.handle)) trace told fits (λ queue rest h. one_tells (IsOfKind done_answer) h.0 told h.2 (done_entry counts.homes c.queue queue c.handle (λ receipt. Delete receipt) rest h.0 h.1))

pub change_tells : (counts : HomeCounts) (c : ChangeMessageVisibility) (trace : List Done) (told : Result Answer Refusal) → CallFits counts (call.ChangeMessageVisibility c) trace told → IfOk told (IsOfKind done_answer)
change_tells counts c trace told fits = by_name (IsOfKind done_answer) c.queue (OneFits counts.homes c.queue (ask.Change c.handle c.timeout)) trace told fits (λ queue rest h. one_tells (IsOfKind done_answer) h.0 told h.2 (done_entry counts.homes c.queue queue c.handle (λ receipt. Change receipt c.timeout) rest h.0 h.1))

ends_receive : (c : ReceiveMessage) (queue home : ℕ) (by : Result HomeReply Refusal) (told : Result Answer Refusal) → EndsReceive c queue home by told → IfOk told (IsOfKind answer.Received)
ends_receive c queue home by told ends = elim ends [
  | inl gave ↦ is_answered (IsOfKind answer.Received) told _ gave.3 (_, refl)
  | inr failed ↦ is_refused (IsOfKind answer.Received) told failed.0 failed.3
]

none_received : (c : ReceiveMessage) (queue : ℕ) (over : Bool) → IfOk (none_answered c queue over) (IsOfKind answer.Received)
none_received c queue true = tt
none_received c queue false = (_, refl)

received_at : (counts : HomeCounts) (c : ReceiveMessage) (queue : ℕ) (trace : List Done) (told : Result Answer Refusal) → ReceiveAt counts c queue trace told → IfOk told (IsOfKind answer.Received)
received_at counts c queue trace told fits = elim fits [
  | inl failed ↦ is_refused (IsOfKind answer.Received) told _ failed.1
  | inr drew ↦ elim drew.4 [
    | inl one ↦ ends_receive c queue one.2 one.3 told one.7
    | inr none ↦ subst (λ (r : Result Answer Refusal). IfOk r (IsOfKind answer.Received)) (sym none.1) (none_received c queue drew.1)
  ]
]

pub receive_tells : (counts : HomeCounts) (c : ReceiveMessage) (trace : List Done) (told : Result Answer Refusal) → CallFits counts (call.ReceiveMessage c) trace told → IfOk told (IsOfKind answer.Received)
receive_tells counts c trace told fits = by_name (IsOfKind answer.Received) c.queue (ReceiveAt counts c) trace told fits (λ queue rest h. received_at counts c queue rest told h)

batch_at : (homes : ℕ) (b : BatchValue) (queue : ℕ) (trace : List Done) (told : Result Answer Refusal) → BatchAt homes b queue trace told → IfOk told (IsOfKind answer.Batch)
batch_at homes b queue trace told fits = elim fits [
  | inl failed ↦ is_refused (IsOfKind answer.Batch) told _ failed.2
  | inr did ↦ is_answered (IsOfKind answer.Batch) told _ did.2 (did.0, refl)
]

pub batch_tells : (counts : HomeCounts) (b : BatchValue) (trace : List Done) (told : Result Answer Refusal) → CallFits counts (call.Batch b) trace told → IfOk told (IsOfKind answer.Batch)
batch_tells counts b trace told fits = by_name (IsOfKind answer.Batch) b.queue (BatchAt counts.homes b) trace told fits (λ queue rest h. batch_at counts.homes b queue rest told h)

-- ---- calls on tasks

pub start_tells : (counts : HomeCounts) (c : StartMessageMoveTask) (trace : List Done) (told : Result Answer Refusal) → CallFits counts (call.StartMessageMoveTask c) trace told → IfOk told (IsOfKind answer.Started)
start_tells counts c trace told fits = elim fits [
  | inl failed ↦ is_refused (IsOfKind answer.Started) told _ failed.2
  | inr other ↦ elim other.1 [
    | inl failed ↦ is_refused (IsOfKind answer.Started) told failed.0 failed.3
    | inr did ↦ by_ledger (IsOfKind answer.Started) _ MakesStarted did.1 told did.3 (λ by a made. (made.0, made.2))
  ]
]

pub cancel_tells : (counts : HomeCounts) (task : Option ℕ) (trace : List Done) (told : Result Answer Refusal) → CallFits counts (call.CancelMessageMoveTask task) trace told → IfOk told (IsOfKind answer.Cancelled)
cancel_tells counts None trace told fits = is_refused (IsOfKind answer.Cancelled) told _ fits.1
cancel_tells counts (Some number) trace told fits = by_ledger (IsOfKind answer.Cancelled) _ MakesCancelled trace told fits (λ by a made. (made.0, made.2))

pub tasks_tell : (counts : HomeCounts) (c : ListMessageMoveTasks) (trace : List Done) (told : Result Answer Refusal) → CallFits counts (call.ListMessageMoveTasks c) trace told → IfOk told (IsOfKind answer.Tasks)
tasks_tell counts c trace told fits = elim fits [
  | inl failed ↦ is_refused (IsOfKind answer.Tasks) told _ failed.3
  | inr found ↦ by_ledger (IsOfKind answer.Tasks) _ MakesTasks found.1 told found.3 (λ by a made. (made.0, made.2))
]

-- ---- the same that is told, in other words

pub performs_as : {S A : Type 0} {stepped : S → Ask → Result Gave Refusal → S → Type 0} {Fits : List Done → Result A Refusal → Type 0} {old new : S} (a b : Result A Refusal) → a ≡ b → Performs stepped Fits old b new → Performs stepped Fits old a new
performs_as {S} {A} {stepped} {Fits} {old} {new} a b same done = subst (λ (r : Result A Refusal). Performs stepped Fits old r new) (sym same) done

pub leaves_as : {A : Type 0} {Fits : List Done → Result A Refusal → Type 0} {old new : Journal} (a b : Result A Refusal) → a ≡ b → LeavesRecords Fits old b new → LeavesRecords Fits old a new
leaves_as {A} {Fits} {old} {new} a b same left = subst (λ (r : Result A Refusal). LeavesRecords Fits old r new) (sym same) left
