-- What the steps of a client's call come to.
use Rattle.std.proofs.Common.{◌≡◌, ◌∙◌, ◌⊎◌, ℕ, suc, ◌+◌, ◌<◌, ◌≤◌, Bool, true, List, [], ◌∷◌, ◌++◌, length, refl, ap, subst, inl, inr, arith, Some, Result, Ok, Err, IfOk, slice_get}
use Rattle.rand.specs.Sample.{IsSampleOf}
use Rattle.sq_base.specs.declared.refusal.Refusal.{Refusal}
use Rattle.sq_base.specs.declared.refusal.Refusal.TheVariants.{NoMemory, QueueDoesNotExist}
use Rattle.sq_base.specs.declared.row.Row.{Row}
use Rattle.sq_model.specs.declared.calls.Receipt.{Receipt}
use Rattle.sq_model.specs.Policies.{has_list}
use Rattle.sq_model.specs.declared.directory.Attributes.{Attributes}
use Rattle.sq_model.specs.declared.directory.DirectoryCall.{DirectoryCall}
use Rattle.sq_model.specs.declared.directory.DirectoryCall.TheVariants as asks
use Rattle.sq_model.specs.declared.directory.DirectoryReply.{DirectoryReply}
use Rattle.sq_model.specs.declared.directory.DirectoryReply.TheVariants as told
use Rattle.sq_model.specs.declared.directory.QueueAttributes.{QueueAttributes}
use Rattle.sq_model.specs.declared.replies.HomeReply.{HomeReply}
use Rattle.sq_model.specs.declared.replies.HomeReply.TheVariants as reply
use Rattle.sq_model.specs.declared.replies.Counts.{Counts}
use Rattle.sq_history.specs.declared.act.HomeAct.{HomeAct}
use Rattle.sq_history.specs.declared.act.HomeAct.TheVariants as act
use Rattle.sq_calls.specs.declared.calls.Answer.{Answer}
use Rattle.sq_calls.specs.declared.calls.GetQueueAttributes.{GetQueueAttributes}
use Rattle.sq_calls.specs.declared.calls.QueueCounts.{QueueCounts}
use Rattle.sq_model.specs.declared.ledger.LedgerReply.{LedgerReply}
use Rattle.sq_model.specs.declared.task.NamedQueue.{NamedQueue}
use Rattle.sq_steps.specs.declared.act.TaskAct.{TaskAct}
use Rattle.sq_steps.specs.declared.act.TaskAct.TheVariants as task
use Rattle.sq_calls.specs.declared.calls.ReceiveMessage.{ReceiveMessage}
use Rattle.sq_actions.specs.declared.client.AtEach.{AtEach}
use Rattle.sq_actions.specs.declared.client.AtEach.TheVariants as at
use Rattle.sq_actions.specs.declared.message.OnMessage.{OnMessage}
use Rattle.sq_actions.specs.declared.message.OnMessage.TheVariants.{Delete, Change}
use Rattle.sq_actions.specs.inside.Messages.{act_of, act_at_each}
use Rattle.sq_actions.specs.Asks.{Ask, Resolve, AskDirectory, AskHome, AskLedger, Gave, Found, Answered, Done, HomeCounts, IsAnswerTo, IsReplyTo, IsOfAnyStep, MayRefuse, gave_as, Replied, Told}
use Rattle.sq_actions.specs.Calls.{home_numbered, counted_homes, counts_with, received_from}
use Rattle.sq_actions.specs.Steps.{named, directory_step, home_step, ledger_step}
use Rattle.sq_actions.specs.Fits.{ByLedger, ByDirectory, ByName, Copied, CountedAll, CountsAt, shown_of, IsPassed, AskedAll, AtAll, HasNoMessage, InVain, EndsReceive, none_answered, ReceiveAt}
use Rattle.sq_actions.specs.Performs.{Path, Performs}
use Rattle.sq_actions.proofs.PathLaws.{path_more, answered_one, answered_more}

-- a call on a queue that was found
pub answered_found : {S : Type 0} (stepped : S → Ask → Result Gave Refusal → S → Type 0) (counts : S → HomeCounts) (At : HomeCounts → ℕ → List Done → Result Answer Refusal → Type 0) (F : List Done → Result Answer Refusal → Type 0) (old mid new : S) (name : List ℕ) (queue : NamedQueue) (answered : Result Answer Refusal)
    → stepped old (Resolve name) (Ok (Found queue)) mid → counts mid ≡ counts old → Performs stepped F mid answered new → ((ds : List Done) → F ds answered → At (counts mid) queue.number ds answered) → Performs stepped (ByName name (At (counts old))) old answered new
answered_found stepped counts At F old mid new name queue answered h same rest as_at =
    answered_more stepped (ByName name (At (counts old))) F old mid new answered (named name (Ok (Found queue))) h rest
    (λ ds fits. inr (queue, ds, refl, subst (λ (n : HomeCounts). At n queue.number ds answered) same (as_at ds fits)))

-- and on one that was not
pub answered_lost : {S : Type 0} (stepped : S → Ask → Result Gave Refusal → S → Type 0) (At : ℕ → List Done → Result Answer Refusal → Type 0) (old new : S) (name : List ℕ) (answered : Result Answer Refusal) (e : Refusal)
    → MayRefuse (Resolve name) e → stepped old (Resolve name) (Err e) new → answered ≡ Err e → Performs stepped (ByName name At) old answered new
answered_lost stepped At old new name answered e may h is = answered_one stepped (ByName name At) old old new answered (named name (Err e)) refl h (inl (e, may, refl, is))

-- a call whose first step the directory answered
pub answered_by_directory : {S : Type 0} (stepped : S → Ask → Result Gave Refusal → S → Type 0) (counts : S → HomeCounts) (call : DirectoryCall) (After : HomeCounts → DirectoryReply → List Done → Result Answer Refusal → Type 0) (F : List Done → Result Answer Refusal → Type 0) (old mid new : S) (by : DirectoryReply) (answered : Result Answer Refusal)
    → stepped old (AskDirectory call) (Ok (Answered by)) mid → counts mid ≡ counts old → IsAnswerTo call by → Performs stepped F mid answered new → ((ds : List Done) → F ds answered → After (counts mid) by ds answered)
    → Performs stepped (ByDirectory call (After (counts old))) old answered new
answered_by_directory stepped counts call After F old mid new by answered h same answers rest as_after =
    answered_more stepped (ByDirectory call (After (counts old))) F old mid new answered (directory_step call (Ok by)) h rest
    (λ ds fits. inr (by, ds, answers, refl, subst (λ (n : HomeCounts). After n by ds answered) same (as_after ds fits)))

-- and that ends there
pub answered_told : {S : Type 0} (stepped : S → Ask → Result Gave Refusal → S → Type 0) (call : DirectoryCall) (After : DirectoryReply → List Done → Result Answer Refusal → Type 0) (old new : S) (by : DirectoryReply) (answered : Result Answer Refusal)
    → stepped old (AskDirectory call) (Ok (Answered by)) new → IsAnswerTo call by → After by [] answered → Performs stepped (ByDirectory call After) old answered new
answered_told stepped call After old new by answered h answers fits =
    answered_one stepped (ByDirectory call After) old old new answered (directory_step call (Ok by)) refl h (inr (by, [], answers, refl, fits))

-- and one whose first step it refused
pub answered_refused : {S : Type 0} (stepped : S → Ask → Result Gave Refusal → S → Type 0) (call : DirectoryCall) (After : DirectoryReply → List Done → Result Answer Refusal → Type 0) (old new : S) (answered : Result Answer Refusal) (e : Refusal)
    → answered ≡ Err e → MayRefuse (AskDirectory call) e → stepped old (AskDirectory call) (Err e) new → Performs stepped (ByDirectory call After) old answered new
answered_refused stepped call After old new answered e is may h = answered_one stepped (ByDirectory call After) old old new answered (directory_step call (Err e)) refl h (inl (e, may, refl, is))

-- attributes of which no copy was made
pub answered_uncopied : {S : Type 0} (stepped : S → Ask → Result Gave Refusal → S → Type 0) (given : Attributes) (F : List Done → Result Answer Refusal → Type 0) (old : S) (answered : Result Answer Refusal) (e : Refusal)
    → answered ≡ Err e → e ≡ NoMemory → has_list given.allow ≡ true → Performs stepped (Copied given F) old answered old
answered_uncopied stepped given F old answered e is memory listed = record { trace = []; path = refl; fits = inl (listed, refl, is ∙ ap Err memory) }

-- and those that were copied
pub answered_copied : {S : Type 0} (stepped : S → Ask → Result Gave Refusal → S → Type 0) (given : Attributes) (F : List Done → Result Answer Refusal → Type 0) (old new : S) (answered : Result Answer Refusal)
    → Performs stepped F old answered new → Performs stepped (Copied given F) old answered new
answered_copied stepped given F old new answered h = record { trace = h.trace; path = h.path; fits = inr h.fits }

-- one home more was asked, or passed over
pub more_passed : {S : Type 0} (stepped : S → Ask → Result Gave Refusal → S → Type 0) (old mid new : S) (name : List ℕ) (queue : ℕ) (a : HomeAct) (n : ℕ) (answered : Result HomeReply Refusal)
    → (trace : List Done) × Path stepped old trace mid × AskedAll name queue a n trace → stepped mid (AskHome (Some name) (home_numbered queue n) a) (gave_as Replied answered) new → IsPassed answered
    → (trace : List Done) × Path stepped old trace new × AskedAll name queue a (n + 1) trace
more_passed stepped old mid new name queue a n answered asked h passed =
    let next : n + 1 ≡ suc n = omega arith in
    let d : Done = home_step name queue n a answered in
    rw next (asked.0 ++ d ∷ [], path_more stepped old mid new asked.0 d asked.1 h, (asked.0, answered, asked.2, passed, refl))

-- a home ends the call
pub all_ended : {S : Type 0} (stepped : S → Ask → Result Gave Refusal → S → Type 0) (old mid new : S) (homes : ℕ) (name : List ℕ) (queue : ℕ) (a : HomeAct) (answer : Answer) (n : ℕ) (e : Refusal) (answered : Result Answer Refusal)
    → (trace : List Done) × Path stepped old trace mid × AskedAll name queue a n trace → n < homes → stepped mid (AskHome (Some name) (home_numbered queue n) a) (Err e) new → IsOfAnyStep e → answered ≡ Err e
    → Performs stepped (AtAll homes name queue a answer) old answered new
all_ended stepped old mid new homes name queue a answer n e answered asked below h may is =
    let d : Done = home_step name queue n a (Err e) in
    record {
      trace = asked.0 ++ d ∷ [];
      path = path_more stepped old mid new asked.0 d asked.1 h;
      fits = inr (n, asked.0, e, below, asked.2, may, refl, is);
    }

-- no home ends it
pub all_passed : {S : Type 0} (stepped : S → Ask → Result Gave Refusal → S → Type 0) (old new : S) (homes : ℕ) (name : List ℕ) (queue : ℕ) (a : HomeAct) (answer : Answer) (n : ℕ)
    → (trace : List Done) × Path stepped old trace new × AskedAll name queue a n trace → n ≡ homes → Performs stepped (AtAll homes name queue a answer) old (Ok answer) new
all_passed stepped old new homes name queue a answer n asked all = record {
  trace = asked.0;
  path = asked.1;
  fits = inl (subst (λ (k : ℕ). AskedAll name queue a k asked.0) all asked.2, refl);
}

-- what is no closed home's refusal is one that each step may have
not_closed : (e : Refusal) → IsOfAnyStep e ⊎ (e ≡ QueueDoesNotExist) ⊎ ⊥ → (e ≡ QueueDoesNotExist → ⊥) → IsOfAnyStep e
not_closed e may other = elim may [ inl any ↦ any | inr rest ↦ elim rest [ inl closed ↦ absurd (other closed) | inr none ↦ absurd none ] ]

-- a home that is changed as its queue was has nothing to tell
each_done : (each : AtEach) (by : HomeReply) → IsReplyTo (act_at_each each) by → by ≡ reply.Done
each_done (at.Configure settings version) reply.Done h = refl
each_done at.Close reply.Done h = refl
each_done at.Purge reply.Done h = refl
each_done (at.Configure settings version) by h = elim h [ ]
each_done at.Close by h = elim h [ ]
each_done at.Purge by h = elim h [ ]

pub passed_done : (each : AtEach) (answered : Result HomeReply Refusal) → IfOk answered (IsReplyTo (act_at_each each)) → ((by : HomeReply) × (answered ≡ Ok by)) ⊎ (answered ≡ Err QueueDoesNotExist) → IsPassed answered
passed_done each answered replied passed = elim passed [
  | inl did ↦ (let done : did.0 ≡ reply.Done = each_done each did.0 (rw did.1 at replied) in inl (did.1 ∙ ap (λ (by : HomeReply). Ok by) done))
  | inr closed ↦ inr closed
]

-- what ends the call at one of them is what each step may have
pub each_ends : (name : List ℕ) (queue home : ℕ) (each : AtEach) (e : Refusal) → MayRefuse (AskHome (Some name) (home_numbered queue home) (act_at_each each)) e → (e ≡ QueueDoesNotExist → ⊥) → IsOfAnyStep e
each_ends name queue home (at.Configure settings version) e may other = not_closed e may other
each_ends name queue home at.Close e may other = not_closed e may other
each_ends name queue home at.Purge e may other = not_closed e may other

-- nor one that deletes or changes a message
pub message_done : (what : OnMessage) (receipt : Receipt) (by : HomeReply) → IsReplyTo (act_of what receipt) by → by ≡ reply.Done
message_done Delete receipt reply.Done h = refl
message_done (Change timeout) receipt reply.Done h = refl
message_done Delete receipt by h = elim h [ ]
message_done (Change timeout) receipt by h = elim h [ ]

-- one home more is asked in vain
pub more_asked : {S : Type 0} (stepped : S → Ask → Result Gave Refusal → S → Type 0) (old mid new : S) (c : ReceiveMessage) (queue : ℕ) (drawn : List ℕ) (n home : ℕ) (by : HomeReply) (was over : Bool)
    → (trace : List Done) × Path stepped old trace mid × InVain c queue drawn n was trace → slice_get drawn n ≡ Some home
    → stepped mid (AskHome (Some c.queue) (home_numbered queue home) (act.Look c.max c.timeout)) (gave_as Replied (Ok by)) new → HasNoMessage by was over
    → (trace : List Done) × Path stepped old trace new × InVain c queue drawn (n + 1) over trace
more_asked stepped old mid new c queue drawn n home by was over asked in_list h none =
    let next : n + 1 ≡ suc n = omega arith in
    let d : Done = home_step c.queue queue home (act.Look c.max c.timeout) (Ok by) in
    rw next (asked.0 ++ d ∷ [], path_more stepped old mid new asked.0 d asked.1 h, (asked.0, was, home, by, asked.2, in_list, none, refl))

-- a home ends a receive
pub receive_ended : {S : Type 0} (stepped : S → Ask → Result Gave Refusal → S → Type 0) (old mid new : S) (counts : HomeCounts) (c : ReceiveMessage) (queue : ℕ) (drawn : List ℕ) (n home : ℕ) (by : Result HomeReply Refusal) (over : Bool) (answered : Result Answer Refusal)
    → 1 ≤ counts.sample → IsSampleOf counts.homes counts.sample drawn → (trace : List Done) × Path stepped old trace mid × InVain c queue drawn n over trace → slice_get drawn n ≡ Some home
    → stepped mid (AskHome (Some c.queue) (home_numbered queue home) (act.Look c.max c.timeout)) (gave_as Replied by) new → EndsReceive c queue home by answered → Performs stepped (ReceiveAt counts c queue) old answered new
receive_ended stepped old mid new counts c queue drawn n home by over answered some sample asked in_list h ends =
    let d : Done = home_step c.queue queue home (act.Look c.max c.timeout) by in
    record {
      trace = asked.0 ++ d ∷ [];
      path = path_more stepped old mid new asked.0 d asked.1 h;
      fits = inr (drawn, over, some, sample, inl (n, asked.0, home, by, asked.2, in_list, refl, ends));
    }

-- a home that gives messages ends it
pub ends_giving : (c : ReceiveMessage) (queue home : ℕ) (rows : List Row) → 0 < length rows → EndsReceive c queue home (Ok (reply.Looked rows)) (Ok (received_from c (home_numbered queue home) rows))
ends_giving c queue home [] some = absurd (omega (arith, some))
ends_giving c queue home (row ∷ rows) some = inl (row, rows, refl, refl)

-- a home gave no message
pub none_given : (by : HomeReply) (rows : List Row) (was over : Bool) → by ≡ reply.Looked rows → length rows ≡ 0 → over ≡ was → HasNoMessage by was over
none_given by [] was over is e same = inl (is, same)
none_given by (row ∷ rows) was over is e same = absurd (omega (arith, e))

-- no home ends it
pub receive_asked : {S : Type 0} (stepped : S → Ask → Result Gave Refusal → S → Type 0) (old new : S) (counts : HomeCounts) (c : ReceiveMessage) (queue : ℕ) (drawn : List ℕ) (n : ℕ) (over : Bool) (answered : Result Answer Refusal)
    → 1 ≤ counts.sample → IsSampleOf counts.homes counts.sample drawn → (trace : List Done) × Path stepped old trace new × InVain c queue drawn n over trace → n ≡ length drawn → answered ≡ none_answered c queue over
    → Performs stepped (ReceiveAt counts c queue) old answered new
receive_asked stepped old new counts c queue drawn n over answered some sample asked all is = record {
  trace = asked.0;
  path = asked.1;
  fits = inr (drawn, over, some, sample, inr (subst (λ (k : ℕ). InVain c queue drawn k over asked.0) all asked.2, is));
}

-- one home more has counted
pub more_counted : {S : Type 0} (stepped : S → Ask → Result Gave Refusal → S → Type 0) (old mid new : S) (name : List ℕ) (queue n : ℕ) (before sum : QueueCounts) (counts : Counts)
    → (trace : List Done) × Path stepped old trace mid × CountedAll name queue n before trace → stepped mid (AskHome (Some name) (home_numbered queue n) act.Count) (gave_as Replied (Ok (reply.Counted counts))) new → sum ≡ counts_with before counts
    → (trace : List Done) × Path stepped old trace new × CountedAll name queue (n + 1) sum trace
more_counted stepped old mid new name queue n before sum counts asked h is =
    let next : n + 1 ≡ suc n = omega arith in
    let d : Done = home_step name queue n act.Count (Ok (reply.Counted counts)) in
    rw next (asked.0 ++ d ∷ [], path_more stepped old mid new asked.0 d asked.1 h, (asked.0, before, counts, asked.2, is, refl))

-- a home ends the count
pub count_ended : {S : Type 0} (stepped : S → Ask → Result Gave Refusal → S → Type 0) (old mid new : S) (homes : ℕ) (c : GetQueueAttributes) (attributes : QueueAttributes) (n : ℕ) (before : QueueCounts) (e : Refusal) (answered : Result Answer Refusal)
    → (trace : List Done) × Path stepped old trace mid × CountedAll c.queue attributes.queue n before trace → n < counted_homes homes c.asked → stepped mid (AskHome (Some c.queue) (home_numbered attributes.queue n) act.Count) (Err e) new
    → MayRefuse (AskHome (Some c.queue) (home_numbered attributes.queue n) act.Count) e → answered ≡ Err e → Performs stepped (CountsAt homes c attributes) old answered new
count_ended stepped old mid new homes c attributes n before e answered asked below h may is =
    let d : Done = home_step c.queue attributes.queue n act.Count (Err e) in
    record {
      trace = asked.0 ++ d ∷ [];
      path = path_more stepped old mid new asked.0 d asked.1 h;
      fits = inr (n, asked.0, before, e, below, asked.2, may, refl, is);
    }

-- no home ends it
pub all_counted : {S : Type 0} (stepped : S → Ask → Result Gave Refusal → S → Type 0) (old new : S) (homes : ℕ) (c : GetQueueAttributes) (attributes : QueueAttributes) (n : ℕ) (sum : QueueCounts)
    → (trace : List Done) × Path stepped old trace new × CountedAll c.queue attributes.queue n sum trace → n ≡ counted_homes homes c.asked → Performs stepped (CountsAt homes c attributes) old (Ok (shown_of c attributes sum)) new
all_counted stepped old new homes c attributes n sum asked all = record {
  trace = asked.0;
  path = asked.1;
  fits = inl (sum, subst (λ (k : ℕ). CountedAll c.queue attributes.queue k sum asked.0) all asked.2, refl);
}

-- ---- what the directory answers to the calls of queues

pub found_is : (name : List ℕ) (by : DirectoryReply) → IsAnswerTo (asks.Url name) by → ((number : ℕ) → by ≡ told.Found number → ⊥) → ⊥
found_is name (told.Found number) h other = other number refl
found_is name by h other = elim h [ ]

pub read_is : (name : List ℕ) (by : DirectoryReply) → IsAnswerTo (asks.Read name) by → ((attributes : QueueAttributes) → by ≡ told.Read attributes → ⊥) → ⊥
read_is name (told.Read attributes) h other = other attributes refl
read_is name by h other = elim h [ ]

-- ---- move tasks

-- a step of the ledger alone was refused, or its reply makes the answer
pub ledger_refused : {S : Type 0} (stepped : S → Ask → Result Gave Refusal → S → Type 0) (old new : S) (what : TaskAct) (Makes : LedgerReply → Answer → Type 0) (e : Refusal) (answered : Result Answer Refusal)
    → stepped old (AskLedger what) (gave_as Told (Err e)) new → MayRefuse (AskLedger what) e → answered ≡ Err e → Performs stepped (ByLedger what Makes) old answered new
ledger_refused stepped old new what Makes e answered h may is = answered_one stepped (ByLedger what Makes) old old new answered (ledger_step what (Err e)) refl h (inr (e, may, refl, is))

pub ledger_told : {S : Type 0} (stepped : S → Ask → Result Gave Refusal → S → Type 0) (old new : S) (what : TaskAct) (Makes : LedgerReply → Answer → Type 0) (by : LedgerReply) (answer : Answer)
    → stepped old (AskLedger what) (gave_as Told (Ok by)) new → Makes by answer → Performs stepped (ByLedger what Makes) old (Ok answer) new
ledger_told stepped old new what Makes by answer h makes = answered_one stepped (ByLedger what Makes) old old new (Ok answer) (ledger_step what (Ok by)) refl h (inl (by, answer, refl, makes, refl))
