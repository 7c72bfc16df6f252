-- A line that a session answers, whose answer has no text; and the lines of a client as a run over what is seen of the session.
use Rattle.std.proofs.Common.{◌≡◌, ◌∙◌, ℕ, List, Option, Result, Ok, Err, length, refl, subst, inl, inr}
use Rattle.std.specs.Prelude.{IsOk, OnErr, IfOk, IfErr, IfSome}
use Rattle.sq_base.specs.declared.refusal.Refusal.{Refusal}
use Rattle.sq_base.specs.declared.refusal.Refusal.TheVariants.{NoMemory}
use Rattle.sq_calls.specs.declared.calls.Answered.{Answered}
use Rattle.sq_calls.specs.declared.calls.Answered.TheVariants.{Call, Turn}
use Rattle.sq_queue.specs.Sections.{Surroundings}
use Rattle.sq_queue.specs.SessionValue.{SessionValue}
use Rattle.sq_replies.specs.Replies.{OnTurned}
use Rattle.sq_requests.specs.Requests.{ReadsLine}
use Rattle.sq_requests.specs.declared.request.Request.{Request}
use Rattle.sq_wire.specs.Runs.{Writes, StopsAt}
use Rattle.sq_wire.specs.Serves.{CallServed, LineServed, ServedUnanswered}
use Rattle.sq_wire.specs.declared.run.ServeFault.{ServeFault}
use Rattle.sq_wire.proofs.InsideLaws.{Inside, done_inside, stops_inside}

-- a line's call by what was read of it
pub line_served : (at : Surroundings) (old : SessionValue) (line : List ℕ) (read : Result Request Refusal) (by : Result Answered Refusal) (new : SessionValue)
    → ReadsLine read line → IfOk read (λ request. CallServed at old request.asked by new) → IfErr read (λ e. (by ≡ Err e) × (new ≡ old)) → LineServed at old line by new
line_served at old line (Ok request) by new reads ok err = inr (request, reads, ok)
line_served at old line (Err NoMemory) by new reads ok err = inl (err.1, inl (err.0, reads))
line_served at old line (Err e) by new reads ok err = inl (err.1, inr (e, reads, err.0))

pub served_unanswered : {X E : Type 0} (at : Surroundings) (old : SessionValue) (line : List ℕ) (by : Result Answered Refusal) (new : SessionValue) (text : Result X E)
    → LineServed at old line by new → OnErr by (IsOk text) → OnTurned by (IsOk text) → OnErr text (ServedUnanswered at old line new)
unfolding ServedUnanswered
served_unanswered at old line by new (Ok text) h made turned = tt
served_unanswered at old line (Ok (Call answer)) new (Err e) h made turned = (answer, h)
served_unanswered at old line (Ok (Turn word)) new (Err e) h made turned = absurd cc
served_unanswered at old line (Err refusal) new (Err e) h made turned = absurd cc

-- What a session at a service replies, and leaves of itself; the service stays. S is who answers, V the service, and T the session.
abbrev RepliesBy : {S V T : Type 0} → (S → V) → (S → T) → (V → T → List ℕ → List ℕ → T → Type 0) → S → List ℕ → List ℕ → S → Type 0
RepliesBy service session Replies s line text t = Replies (service s) (session s) line text (session t) × (service t ≡ service s)

abbrev UnansweredBy : {S V T : Type 0} → (S → V) → (S → T) → (V → T → List ℕ → T → Type 0) → S → List ℕ → S → Type 0
UnansweredBy service session Unanswered s line t = Unanswered (service s) (session s) line (session t) × (service t ≡ service s)

served_inside : {S V T : Type 0} (service : S → V) (session : S → T) (Replies : V → T → List ℕ → List ℕ → T → Type 0) (Unanswered : V → T → List ℕ → T → Type 0) (of : V)
    → Inside (λ s. service s ≡ of) session (RepliesBy service session Replies) (UnansweredBy service session Unanswered) (Replies of) (Unanswered of)
served_inside {S} {V} service session Replies Unanswered of = record {
  replies = λ s t line text k h. (h.1 ∙ k, subst (λ (v : V). Replies v (session s) line text (session t)) k h.0);
  unanswered = λ s t line k h. (h.1 ∙ k, subst (λ (v : V). Unanswered v (session s) line (session t)) k h.0);
}

pub served_done : {S V T : Type 0} (service : S → V) (session : S → T) (Replies : V → T → List ℕ → List ℕ → T → Type 0) (Unanswered : V → T → List ℕ → T → Type 0) (all : Option (List (List ℕ))) (n : ℕ) (old new : Option (List ℕ)) (s t : S)
    → IfSome all (λ lines. (n ≡ length lines) × Writes (RepliesBy service session Replies) old new s lines t) → IfSome all (λ lines. (n ≡ length lines) × Writes (Replies (service s)) old new (session s) lines (session t))
served_done service session Replies Unanswered all n old new s t h =
    done_inside (λ u. service u ≡ service s) session (RepliesBy service session Replies) (UnansweredBy service session Unanswered) (Replies (service s)) (Unanswered (service s)) (served_inside service session Replies Unanswered (service s)) all n old new s t refl h

pub served_stops : {S V T : Type 0} (service : S → V) (session : S → T) (Replies : V → T → List ℕ → List ℕ → T → Type 0) (Unanswered : V → T → List ℕ → T → Type 0) (all : Option (List (List ℕ))) (f : ServeFault) (coming old new : Option (List ℕ)) (s t : S)
    → IfSome all (λ lines. StopsAt (RepliesBy service session Replies) (UnansweredBy service session Unanswered) f lines coming old new s t)
    → IfSome all (λ lines. StopsAt (Replies (service s)) (Unanswered (service s)) f lines coming old new (session s) (session t))
served_stops service session Replies Unanswered all f coming old new s t h =
    stops_inside (λ u. service u ≡ service s) session (RepliesBy service session Replies) (UnansweredBy service session Unanswered) (Replies (service s)) (Unanswered (service s)) (served_inside service session Replies Unanswered (service s)) all f coming old new s t refl h
