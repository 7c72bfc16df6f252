-- What has gone out when serving ends, from what its parts wrote.
use Rattle.std.proofs.Common.{◌≡◌, ◌≢◌, ◌∙◌, ℕ, zero, suc, List, [], ◌∷◌, ◌++◌, Option, Some, None, Result, Ok, Err, refl, ap, sym, inl, inr}
use Rattle.std.specs.Prelude.{take, IfOk, IfErr, IfSome}
use Rattle.std.specs.declared.net.socket_addr.SocketAddr.{SocketAddr}
use Rattle.sq_audit.specs.declared.check.AuditFault.{AuditFault}
use Rattle.sq_audit.specs.declared.parts.Parts.{Parts}
use Rattle.sq_flags.specs.declared.flags.RaceMode.{RaceMode}
use Rattle.sq_flags.specs.declared.flags.ServeMode.{ServeMode}
use Rattle.sq_lines.specs.declared.counted.Counted.{Counted}
use Rattle.sq_lines.proofs.WriteLaws.{appends_none, appends_more, part_of_end}
use Rattle.sq_program.specs.Results.{line_of, listening_text, verdict_text}
use Rattle.sq_program.specs.Streams.{stream, EndsWritten, WrittenWhole}
use Rattle.sq_server.specs.Outcomes.{HasRaced, HasServed, homes_in_all}
use Rattle.sq_server.specs.Verdicts.{IsFaultOf, IsRunOf, LeavesRun}
use Rattle.sq_server.specs.inside.Outcomes.{HasToldEnd, HasToldRace}

-- a front of a text is one of it with more behind it
cut_front : (n : ℕ) (xs ys : List ℕ) → (m : ℕ) × (take m (xs ++ ys) ≡ take n xs)
cut_front zero [] ys = (0, refl)
cut_front (suc n) [] ys = (0, refl)
cut_front zero (x ∷ xs) ys = (0, refl)
cut_front (suc n) (x ∷ xs) ys = let rest = cut_front n xs ys in (suc rest.0, ap (λ (zs : List ℕ). x ∷ zs) rest.1)

-- nothing went out
pub unserved : {W : Type 0} (bytes : W → Option (List ℕ)) (a b : Counted W) (mode : ServeMode) (here : SocketAddr) → b ≡ a → HasServed mode (stream bytes a b) 1
unserved bytes a b mode here same = (line_of (listening_text here) ++ line_of verdict_text, 0, (line_of (listening_text here), (here, refl), refl), rw same (appends_none (bytes a.inner)))

-- where connections are taken was not told whole
pub unlistened : {W : Type 0} (bytes : W → Option (List ℕ)) (a b : Counted W) (mode : ServeMode) (here : SocketAddr) (status : ℕ) → status ≢ 0 → EndsWritten (λ line. line ≡ line_of (listening_text here)) (stream bytes a b) status
    → HasServed mode (stream bytes a b) status
unlistened bytes a b mode here zero fault h = absurd (fault refl)
unlistened bytes a b mode here (suc zero) fault h = elim h [
  | inl same ↦ unserved bytes a b mode here same
  | inr cut ↦
      (let front = cut_front cut.1.1 (line_of (listening_text here)) (line_of verdict_text) in
      (line_of (listening_text here) ++ line_of verdict_text, front.0, (line_of (listening_text here), (here, refl), refl), rw (front.1, sym cut.1.2) cut.1.3))
]
unlistened bytes a b mode here (suc (suc n)) fault h = absurd h

-- it was told, and no more
listened : {W : Type 0} (bytes : W → Option (List ℕ)) (a b c : Counted W) (mode : ServeMode) (here : SocketAddr) → WrittenWhole (λ line. line ≡ line_of (listening_text here)) (stream bytes a b) → c ≡ b → HasServed mode (stream bytes a c) 1
listened bytes a b c mode here told same =
    let went = part_of_end (bytes a.inner) (bytes b.inner) (bytes c.inner) (line_of (listening_text here)) (line_of verdict_text) 0 (rw (sym told.1.1) told.1.2) (rw same (appends_none (bytes b.inner))) in
    (line_of (listening_text here) ++ line_of verdict_text, went.0, (line_of (listening_text here), (here, refl), refl), went.1)

-- it was told, and then that all is one run
judged : {W : Type 0} (bytes : W → Option (List ℕ)) (a b c : Counted W) (mode : ServeMode) (here : SocketAddr) (status : ℕ) → LeavesRun (homes_in_all mode.options) → WrittenWhole (λ line. line ≡ line_of (listening_text here)) (stream bytes a b)
    → EndsWritten (λ line. line ≡ line_of verdict_text) (stream bytes b c) status → HasServed mode (stream bytes a c) status
judged bytes a b c mode here zero run told h = (
  (
    h.0 ∙ told.0,
    (
      line_of (listening_text here) ++ line_of verdict_text,
      (line_of (listening_text here), (here, refl), refl),
      appends_more (bytes a.inner) (bytes b.inner) (bytes c.inner) (line_of (listening_text here)) (line_of verdict_text) (rw (sym told.1.1) told.1.2) (rw (sym h.1.1) h.1.2),
    ),
  ),
  run,
)
judged bytes a b c mode here (suc zero) run told h = elim h [
  | inl same ↦ listened bytes a b c mode here told same
  | inr cut ↦
      (let went = part_of_end (bytes a.inner) (bytes b.inner) (bytes c.inner) (line_of (listening_text here)) (line_of verdict_text) cut.1.1 (rw (sym told.1.1) told.1.2) (rw (sym cut.1.2) cut.1.3) in
      (line_of (listening_text here) ++ line_of verdict_text, went.0, (line_of (listening_text here), (here, refl), refl), went.1))
]
judged bytes a b c mode here (suc (suc n)) run told h = absurd h

-- it was told, and then how serving ended
pub ends_told : {W : Type 0} (bytes : W → Option (List ℕ)) (a b c : Counted W) (mode : ServeMode) (here : SocketAddr) (ended : Result (Option Parts) AuditFault) (status : ℕ)
    → IfOk ended (λ run. IfSome run (IsRunOf (homes_in_all mode.options))) → IfErr ended (IsFaultOf (homes_in_all mode.options)) → WrittenWhole (λ line. line ≡ line_of (listening_text here)) (stream bytes a b)
    → HasToldEnd ended (stream bytes b c) status → HasServed mode (stream bytes a c) status
ends_told bytes a b c mode here (Ok (Some run)) status is left told h = judged bytes a b c mode here status (run, is) told h
ends_told bytes a b c mode here (Ok None) status is left told h = rw h.0 (listened bytes a b c mode here told h.1)
ends_told bytes a b c mode here (Err fault) status is left told h = elim h.0 [
  | inl memory ↦ rw memory.1 (listened bytes a b c mode here told h.1)
  | inr wrong ↦ rw (wrong.1, h.1) ((told.0, (told.1.0, (here, told.1.1), told.1.2)), (fault, wrong.0, left))
]

-- a race was told, or why not
pub race_told : {W : Type 0} (bytes : W → Option (List ℕ)) (a b : Counted W) (mode : RaceMode) (ended : Result (Parts × ℕ) AuditFault) (status : ℕ)
    → IfOk ended (λ r. IsRunOf (homes_in_all mode.options) r.0) → IfErr ended (IsFaultOf (homes_in_all mode.options)) → HasToldRace mode ended (stream bytes a b) status → HasRaced mode (stream bytes a b) status
race_told bytes a b mode (Ok (run, sent)) zero is left h = ((h.0, (h.1.0, (sent, h.1.1), h.1.2)), (run, is))
race_told bytes a b mode (Ok (run, sent)) (suc zero) is left h = elim h [
  | inl same ↦ inl same
  | inr cut ↦ inr (cut.0, (cut.1.0, cut.1.1, (sent, cut.1.2), cut.1.3))
]
race_told bytes a b mode (Ok (run, sent)) (suc (suc n)) is left h = absurd h
race_told bytes a b mode (Err fault) status is left h = elim h.0 [
  | inl memory ↦ rw memory.1 (inl h.1)
  | inr wrong ↦ rw wrong.1 (h.1, (fault, wrong.0, left))
]
