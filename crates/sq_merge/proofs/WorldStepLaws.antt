-- What the steps of a call get for a reply, why they are refused, and what their actor knows after them.
use Rattle.std.proofs.Common.{◌≡◌, ◌⊎◌, ℕ, List, Option, None, Some, Result, Ok, Err, IfOk, IfErr, IfSome, OnErr, sym, subst, inl, inr}
use Rattle.std.proofs.lemmas.Result.{IfOk-weaker, IfErr-weaker}
use Rattle.sq_base.specs.declared.ids.HomeId.{HomeId}
use Rattle.sq_base.specs.declared.refusal.Refusal.{Refusal}
use Rattle.sq_base.specs.declared.refusal.Refusal.TheVariants.{QueueDoesNotExist}
use Rattle.sq_model.specs.declared.ledger.LedgerReply.{LedgerReply}
use Rattle.sq_steps.specs.declared.act.TaskAct.{TaskAct}
use Rattle.sq_model.specs.declared.directory.DirectoryCall.{DirectoryCall}
use Rattle.sq_model.specs.declared.directory.DirectoryReply.{DirectoryReply}
use Rattle.sq_model.specs.declared.shared.SharedAct.{SharedAct}
use Rattle.sq_model.specs.declared.replies.HomeReply.{HomeReply}
use Rattle.sq_history.specs.declared.act.HomeAct.{HomeAct}
use Rattle.sq_history.specs.Acts.{call_of}
use Rattle.sq_history.specs.HistoryValue.{HistoryValue}
use Rattle.sq_actions.specs.Asks.{AskDirectory, AskHome, AskShared, Redriven, AskLedger, IsAnswerTo, IsReplyTo, IsToldTo, IsOfAnyStep, IsOfAct, IsOfMove, MayRefuse}
use Rattle.sq_steps.specs.Journals.{journal_of}
use Rattle.sq_model.specs.RecordValues.{Journal}
use Rattle.sq_steps.specs.Journals.{IsHomeRefused}
use Rattle.sq_steps.specs.SharedSteps.{IsSharedRefused}
use Rattle.sq_merge.specs.WorldValue.{WorldValue}
use Rattle.sq_merge.specs.Worlds.{HomeStepped, HomeRefused, DirectoryStepped, DirectoryRefused, SharedRefused, LedgerStepped, LedgerRefused, EndsUnread}
use Rattle.sq_merge.specs.inside.Worlds.{IsKnown}
use Rattle.sq_directory.specs.Makers.{IsAnsweredByName, name_asked, queue_answered}
use Rattle.sq_actions.proofs.AskLaws as ask
use Rattle.sq_merge.proofs.KnownLaws.{known_by_directory, known_stepped}
use Rattle.sq_merge.proofs.StepLaws.{IsRefusedAt}

-- why a step at a home is refused: the home is not there, or what is said of this step at it
at_home_may : {P : Type 0} (w : WorldValue) (actor now : ℕ) (id : HomeId) (e : Refusal) (Why : HistoryValue → Journal → Type 0) → IsRefusedAt w actor now id e Why
    → ((h : HistoryValue) → Why h (journal_of actor w.journals) → IsOfAnyStep e ⊎ (e ≡ QueueDoesNotExist) ⊎ P) → IsOfAnyStep e ⊎ (e ≡ QueueDoesNotExist) ⊎ P
at_home_may {P} w actor now id e Why h own = elim h [ inl no_such_home ↦ ask.nowhere_may {P = P} now e no_such_home.1 | inr in_list ↦ own in_list.1 in_list.3 ]

pub shared_may : (w : WorldValue) (actor now : ℕ) (name : Option (List ℕ)) (id : HomeId) (what : SharedAct) (e : Refusal) → SharedRefused w actor now id what e → MayRefuse (AskShared name id what) e
shared_may w actor now name id what e h =
    at_home_may {P = IsOfMove what e} w actor now id e (λ home mine. IsSharedRefused home w.ledger mine now what e) h (λ home refused. ask.shared_may home w.ledger (journal_of actor w.journals) now name id what e refused)

-- the same of an answer
pub answered_shared : (w : WorldValue) (actor now : ℕ) (name : Option (List ℕ)) (id : HomeId) (what : SharedAct) (answered : Result (Option HomeReply) Refusal) → IfErr answered (SharedRefused w actor now id what) → IfErr answered (MayRefuse (AskShared name id what))
answered_shared w actor now name id what answered h = IfErr-weaker answered (SharedRefused w actor now id what) (MayRefuse (AskShared name id what)) (shared_may w actor now name id what) h

-- why a step of a home is refused
pub home_may : (w : WorldValue) (actor now : ℕ) (name : Option (List ℕ)) (id : HomeId) (a : HomeAct) (e : Refusal) → HomeRefused w actor now id (call_of a) e → MayRefuse (AskHome name id a) e
home_may w actor now name id a e h =
    at_home_may {P = IsOfAct a e} w actor now id e (λ home mine. IsHomeRefused home mine now (call_of a) e) h (λ home refused. ask.home_may home (journal_of actor w.journals) now name id a e refused)

-- after a step an actor knows what it knew
pub still_known : (old new : WorldValue) (actor now : ℕ) (used : Option (List ℕ)) (queue : ℕ) (id : HomeId) (a : HomeAct) (answered : Result HomeReply Refusal)
    → IfOk answered (λ by. HomeStepped old new actor now used id (call_of a) by) → OnErr answered (new ≡ old) → IfSome used (λ name. IsKnown old.directory.events (journal_of actor old.journals) (Some name) queue)
    → IfSome used (λ name. IsKnown new.directory.events (journal_of actor new.journals) (Some name) queue)
still_known old new actor now None queue id a answered stepped same known = tt
still_known old new actor now (Some name) queue id a (Ok by) stepped same known = known_stepped old new actor now (Some name) id (call_of a) by name queue stepped known
still_known old new actor now (Some name) queue id a (Err e) stepped same known = subst (λ (w : WorldValue). IsKnown w.directory.events (journal_of actor w.journals) (Some name) queue) (sym same) known

-- the same of an answer
pub answered_reply : (old new : WorldValue) (actor now : ℕ) (name : Option (List ℕ)) (id : HomeId) (a : HomeAct) (answered : Result HomeReply Refusal) → IfOk answered (HomeStepped old new actor now name id (call_of a)) → IfOk answered (IsReplyTo a)
answered_reply old new actor now name id a answered s =
    IfOk-weaker answered (HomeStepped old new actor now name id (call_of a)) (IsReplyTo a) (λ by s. ask.home_reply s.before s.after (journal_of actor old.journals) s.recorded_in now name a by s.moves) s

pub answered_home : (w : WorldValue) (actor now : ℕ) (name : Option (List ℕ)) (id : HomeId) (a : HomeAct) (answered : Result HomeReply Refusal) → IfErr answered (HomeRefused w actor now id (call_of a)) → IfErr answered (MayRefuse (AskHome name id a))
answered_home w actor now name id a answered h = IfErr-weaker answered (HomeRefused w actor now id (call_of a)) (MayRefuse (AskHome name id a)) (home_may w actor now name id a) h

pub answered_directory : (w : WorldValue) (actor now : ℕ) (call : DirectoryCall) (answered : Result DirectoryReply Refusal) → IfErr answered (DirectoryRefused w actor now call) → IfErr answered (MayRefuse (AskDirectory call))
answered_directory w actor now call answered h = IfErr-weaker answered (DirectoryRefused w actor now call) (MayRefuse (AskDirectory call)) (ask.directory_may w.directory (journal_of actor w.journals) now call) h

pub answered_call : (old new : WorldValue) (actor now : ℕ) (call : DirectoryCall) (answered : Result DirectoryReply Refusal) → IfOk answered (DirectoryStepped old new actor now call) → IfOk answered (IsAnswerTo call)
answered_call old new actor now call answered s =
    IfOk-weaker answered (DirectoryStepped old new actor now call) (IsAnswerTo call) (λ by s. ask.directory_told old.directory s.after (journal_of actor old.journals) s.recorded_in now call by s.moves) s

pub answered_known : (old new : WorldValue) (actor now : ℕ) (call : DirectoryCall) (answered : Result DirectoryReply Refusal) → IfOk answered (DirectoryStepped old new actor now call)
    → IfOk answered (IsAnsweredByName new.directory.events new.directory.last call)
    → IfOk answered (λ by. (name : List ℕ) (queue : ℕ) → name_asked call ≡ Some name → queue_answered by ≡ Some queue → IsKnown new.directory.events (journal_of actor new.journals) (Some name) queue)
answered_known old new actor now call (Ok by) s made = λ name queue asked of. known_by_directory old new actor now call by name queue s (made name queue asked of)
answered_known old new actor now call (Err e) s made = tt

-- ---- move tasks

pub answered_by_ledger : (w : WorldValue) (actor now : ℕ) (what : TaskAct) (answered : Result LedgerReply Refusal) → IfErr answered (LedgerRefused w actor now what) → IfErr answered (MayRefuse (AskLedger what))
answered_by_ledger w actor now what answered h = IfErr-weaker answered (LedgerRefused w actor now what) (MayRefuse (AskLedger what)) (ask.ledger_may w.ledger (journal_of actor w.journals) now what) h

pub answered_told : (old new : WorldValue) (actor now : ℕ) (what : TaskAct) (answered : Result LedgerReply Refusal) → IfOk answered (LedgerStepped old new actor now what) → IfOk answered (IsToldTo what)
answered_told old new actor now what answered s =
    IfOk-weaker answered (LedgerStepped old new actor now what) (IsToldTo what) (λ by s. ask.ledger_told old.ledger s.after (journal_of actor old.journals) s.recorded_in now what by s.moves) s

-- between which queues messages may not be moved
pub redriven_may : (w : WorldValue) (actor : ℕ) (source : List ℕ) (destination : Option (List ℕ)) (e : Refusal) → EndsUnread w actor source destination e → MayRefuse (Redriven source destination) e
redriven_may w actor source destination e h = elim h [ inl refused ↦ ask.redriven_may w.directory.directory source destination e refused | inr unread ↦ inr (inr unread.1.0) ]
