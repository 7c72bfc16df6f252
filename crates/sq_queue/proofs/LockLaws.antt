-- What the sections under locks answer, why they refuse, and what they leave with their session.
use Rattle.std.proofs.Common.{◌≡◌, ◌≢◌, ◌⊎◌, ◌∙◌, ℕ, List, Option, Some, None, Result, Ok, Err, IfOk, IfErr, OnOk, OnErr, IfSome, IfNone, inl, inr, sym}
use Rattle.sq_base.specs.declared.ids.HomeId.{HomeId}
use Rattle.sq_base.specs.declared.refusal.Refusal.{Refusal}
use Rattle.sq_base.specs.declared.refusal.Refusal.TheVariants.{QueueDoesNotExist}
use Rattle.sq_model.specs.RecordValues.{Journal}
use Rattle.sq_model.specs.declared.directory.DirectoryCall.{DirectoryCall}
use Rattle.sq_model.specs.declared.directory.DirectoryReply.{DirectoryReply}
use Rattle.sq_model.specs.declared.ledger.LedgerReply.{LedgerReply}
use Rattle.sq_model.specs.declared.replies.HomeReply.{HomeReply}
use Rattle.sq_model.specs.declared.shared.SharedAct.{SharedAct}
use Rattle.sq_history.specs.declared.act.HomeAct.{HomeAct}
use Rattle.sq_history.specs.Acts.{call_of}
use Rattle.sq_history.specs.HistoryValue.{HistoryValue}
use Rattle.sq_directory.specs.DirectoryHistory.{DirectoryHistory}
use Rattle.sq_ledger.specs.LedgerHistory.{LedgerHistory}
use Rattle.sq_steps.specs.Journals.{HomeMoves, DirectoryMoves, LedgerMoves, IsHomeRefused, IsDirectoryStepRefused, IsLedgerStepRefused}
use Rattle.sq_steps.specs.SharedSteps.{SharedMoves, IsUnmoved, IsSharedRefused}
use Rattle.sq_steps.specs.declared.act.TaskAct.{TaskAct}
use Rattle.sq_steps.specs.TaskActs.{task_call}
use Rattle.sq_actions.specs.Asks.{AskDirectory, AskHome, AskShared, AskLedger, moved_of, IsAnswerTo, IsReplyTo, IsToldTo, MayRefuse, gave_as, Replied}
use Rattle.sq_actions.specs.Asks.{Ask, Done, Gave}
use Rattle.sq_actions.specs.Performs.{Performs}
use Rattle.sq_actions.proofs.AskLaws as ask
use Rattle.sq_actions.proofs.PathLaws.{path_inside}
use Rattle.sq_queue.specs.LockedParts.{AHome, TheLedger}
use Rattle.sq_queue.specs.Sections.{Surroundings, IsSection}
use Rattle.sq_queue.specs.SessionValue.{SessionValue}

pub answered_home : (old new : HistoryValue) (a b : Journal) (now : ℕ) (name : Option (List ℕ)) (what : HomeAct) (answered : Result HomeReply Refusal) → IfOk answered (λ by. HomeMoves old new a b now name (call_of what) by) → IfOk answered (IsReplyTo what)
answered_home old new a b now name what (Ok by) moves = ask.home_reply old new a b now name what by moves
answered_home old new a b now name what (Err e) moves = tt

pub refused_home : (its_id : HomeId) (h : HistoryValue) (b : Journal) (now : ℕ) (name : Option (List ℕ)) (id : HomeId) (a : HomeAct) (answered : Result HomeReply Refusal) → IfErr answered (λ e. ((its_id ≡ id) × IsHomeRefused h b now (call_of a) e) ⊎ ((its_id ≢ id) × (e ≡ QueueDoesNotExist))) → IfErr answered (MayRefuse (AskHome name id a))
refused_home its_id h b now name id a (Ok by) refused = tt
refused_home its_id h b now name id a (Err e) refused = elim refused [ inl own ↦ ask.home_may h b now name id a e own.1 | inr other ↦ inr (inl other.1) ]

pub refused_shared : (its_id : HomeId) (h : HistoryValue) (l : LedgerHistory) (b : Journal) (now : ℕ) (name : Option (List ℕ)) (id : HomeId) (what : SharedAct) (answered : Result (Option HomeReply) Refusal) → IfErr answered (λ e. ((its_id ≡ id) × IsSharedRefused h l b now what e) ⊎ ((its_id ≢ id) × (e ≡ QueueDoesNotExist))) → IfErr answered (MayRefuse (AskShared name id what))
refused_shared its_id h l b now name id what (Ok told) refused = tt
refused_shared its_id h l b now name id what (Err e) refused = elim refused [ inl own ↦ ask.shared_may h l b now name id what e own.1 | inr other ↦ inr (inl other.1) ]

pub answered_directory : (old new : DirectoryHistory) (a b : Journal) (now : ℕ) (call : DirectoryCall) (answered : Result DirectoryReply Refusal) → IfOk answered (λ by. DirectoryMoves old new a b now call by) → IfOk answered (IsAnswerTo call)
answered_directory old new a b now call (Ok by) moves = ask.directory_told old new a b now call by moves
answered_directory old new a b now call (Err e) moves = tt

pub refused_directory : (d : DirectoryHistory) (b : Journal) (now : ℕ) (call : DirectoryCall) (answered : Result DirectoryReply Refusal) → IfErr answered (IsDirectoryStepRefused d b now call) → IfErr answered (MayRefuse (AskDirectory call))
refused_directory d b now call (Ok by) refused = tt
refused_directory d b now call (Err e) refused = ask.directory_may d b now call e refused

pub answered_ledger : (old new : LedgerHistory) (a b : Journal) (now : ℕ) (what : TaskAct) (answered : Result LedgerReply Refusal) → IfOk answered (λ by. LedgerMoves old new a b now (task_call what) by) → IfOk answered (IsToldTo what)
answered_ledger old new a b now what (Ok by) moves = ask.ledger_told old new a b now what by moves
answered_ledger old new a b now what (Err e) moves = tt

pub refused_ledger : (l : LedgerHistory) (b : Journal) (now : ℕ) (what : TaskAct) (answered : Result LedgerReply Refusal) → IfErr answered (IsLedgerStepRefused l b now (task_call what)) → IfErr answered (MayRefuse (AskLedger what))
refused_ledger l b now what (Ok by) refused = tt
refused_ledger l b now what (Err e) refused = ask.ledger_may l b now what e refused

pub home_section : (at : Surroundings) (now : ℕ) (old new : HistoryValue) (s t : SessionValue) (name : Option (List ℕ)) (its_id id : HomeId) (what : HomeAct) (answered : Result HomeReply Refusal)
    → at.IsReading now → at.Saw (AHome id old) → old.site.home ≡ its_id
    → IfOk answered (λ by. HomeMoves old new s.journal t.journal now name (call_of what) by) → OnOk answered (its_id ≡ id)
    → IfErr answered (λ e. ((its_id ≡ id) × IsHomeRefused old s.journal now (call_of what) e) ⊎ ((its_id ≢ id) × (e ≡ QueueDoesNotExist)))
    → OnErr answered (t ≡ s) → IsSection at s (AskHome name id what) (gave_as Replied answered) t
home_section at now old new s t name its_id id what (Ok by) told saw own moves here refused err = (now, old, new, told, saw, own ∙ here, moves)
home_section at now old new s t name its_id id what (Err e) told saw own moves here refused err =
    ((now, told, elim refused [ inl cause ↦ inr (inr (old, saw, own ∙ cause.0, cause.1)) | inr other ↦ inr (inl (old, saw, (λ same. other.0 (sym own ∙ same)), other.1)) ]), err)

pub moving_section : (at : Surroundings) (now : ℕ) (old new : HistoryValue) (l m : LedgerHistory) (s t : SessionValue) (name : Option (List ℕ)) (its_id id : HomeId) (what : SharedAct) (answered : Result (Option HomeReply) Refusal)
    → at.IsReading now → at.Saw (AHome id old) → at.Saw (TheLedger l) → old.site.home ≡ its_id
    → IfOk answered (λ told. IfSome told (SharedMoves old new l m s.journal t.journal now name what)) → OnOk answered (its_id ≡ id)
    → IfOk answered (λ told. IfNone told (IsUnmoved old l s.journal now what)) → IfOk answered (λ told. IfNone told (t ≡ s))
    → IfErr answered (λ e. ((its_id ≡ id) × IsSharedRefused old l s.journal now what e) ⊎ ((its_id ≢ id) × (e ≡ QueueDoesNotExist)))
    → OnErr answered (t ≡ s) → IsSection at s (AskShared name id what) (moved_of answered) t
moving_section at now old new l m s t name its_id id what (Ok (Some by)) told saw held own moves here unmoved none refused err = (now, old, new, l, m, told, saw, held, own ∙ here, moves)
moving_section at now old new l m s t name its_id id what (Ok None) told saw held own moves here unmoved none refused err = (now, old, l, told, saw, held, own ∙ here, unmoved, none)
moving_section at now old new l m s t name its_id id what (Err e) told saw held own moves here unmoved none refused err =
    ((now, told, elim refused [ inl cause ↦ inr (inr (old, l, saw, held, own ∙ cause.0, cause.1)) | inr other ↦ inr (inl (old, saw, (λ same. other.0 (sym own ∙ same)), other.1)) ]), err)

-- What was done at what borrows a session was done at the session: each step is a section of the service that stays the same, and the reference does.
pub at_session : {U V A : Type 0} (section : V → SessionValue → Ask → Result Gave Refusal → SessionValue → Type 0) (service : U → V) (session : U → SessionValue) (name : U → ℕ) (Fits : List Done → Result A Refusal → Type 0) (old new : U) (answered : Result A Refusal)
    → Performs (λ s ask gave t. section (service s) (session s) ask gave (session t) × (service t ≡ service s) × (name t ≡ name s)) Fits old answered new
    → Performs (section (service old)) Fits (session old) answered (session new) × (name new ≡ name old)
at_session section service session name Fits old new answered told =
    let same = path_inside _ (λ n a ask gave b. Unit {0}) session name (λ s t ask gave h. (tt, h.2)) old new told.trace told.path in
    let inside = path_inside _ section session service (λ s t ask gave h. (h.0, h.1)) old new told.trace told.path in
    (record { trace = told.trace; path = inside.0; fits = told.fits }, same.1)
