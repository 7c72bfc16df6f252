-- What serving connections and a race have written when they end, by the status of the process.
use Rattle.std.specs.Prelude.{ℕ, zero, suc, ◌-◌, ◌*◌, ◌^◌, min, ◌≡◌, ◌++◌, List, take}
use Rattle.std.specs.declared.net.socket_addr.SocketAddr.{SocketAddr}
use Rattle.sq_flags.specs.declared.flags.RaceMode.{RaceMode}
use Rattle.sq_flags.specs.declared.flags.ServeMode.{ServeMode}
use Rattle.sq_model.specs.declared.options.Options.{Options}
use Rattle.sq_program.specs.Results.{line_of, listening_text, race_text, verdict_text}
use Rattle.sq_program.specs.Streams.{Stream, IsUntouched, PutsOut, WrittenInPart, WrittenWhole}
use Rattle.sq_program.specs.declared.program.Next.{Next}
use Rattle.sq_program.specs.declared.program.Next.TheVariants as next
use Rattle.sq_server.specs.Verdicts.{LeavesNoRun, LeavesRun}

-- how many homes all queues have together that these options are for
abbrev pub homes_in_all : Options → ℕ
homes_in_all options = options.queues * options.homes

-- where connections are taken
abbrev pub IsListeningLine : List ℕ → Type 0
IsListeningLine text = (here : SocketAddr) × (text ≡ line_of (listening_text here))

-- and that all that was done is one run
abbrev pub AreServedLines : List ℕ → Type 0
AreServedLines text = (listening : List ℕ) × IsListeningLine listening × (text ≡ listening ++ line_of verdict_text)

-- a front of a text of this kind went out
abbrev pub WritesFront : {W : Type 0} → (List ℕ → Type 0) → Stream W → Type 0
WritesFront IsText output = (text : List ℕ) × (part : ℕ) × IsText text × PutsOut output (take part text)

-- Connections were served and what was done is one run, which is told; or there was a fault, and no more than a front of that went out; or what was done is no run: then
-- it is not told that it is one.
abbrev pub HasServed : {W : Type 0} → ServeMode → Stream W → ℕ → Type 0
HasServed mode output zero = WrittenWhole AreServedLines output × LeavesRun (homes_in_all mode.options)
HasServed mode output (suc zero) = WritesFront AreServedLines output
HasServed mode output (suc (suc zero)) = ⊥
HasServed mode output (suc (suc (suc zero))) = WrittenWhole IsListeningLine output × LeavesNoRun (homes_in_all mode.options)
HasServed mode output (suc (suc (suc (suc n)))) = ⊥

-- that a race is one run, with its calls, as many as a number of 64 bits can tell, and how many sends of them were answered
abbrev pub race_line : RaceMode → ℕ → List ℕ
race_line mode sent = line_of (race_text (min (mode.calls * mode.clients) (2 ^ 64 - 1)) sent)

abbrev pub IsRaceLine : RaceMode → List ℕ → Type 0
IsRaceLine mode text = (sent : ℕ) × (text ≡ race_line mode sent)

-- A race was run and what was done is one run, which is told; or there was a fault, and no more than a front of that went out; or what was done is no run, and nothing is told.
abbrev pub HasRaced : {W : Type 0} → RaceMode → Stream W → ℕ → Type 0
HasRaced mode output zero = WrittenWhole (IsRaceLine mode) output × LeavesRun (homes_in_all mode.options)
HasRaced mode output (suc zero) = WrittenInPart (IsRaceLine mode) output
HasRaced mode output (suc (suc zero)) = ⊥
HasRaced mode output (suc (suc (suc zero))) = IsUntouched output × LeavesNoRun (homes_in_all mode.options)
HasRaced mode output (suc (suc (suc (suc n)))) = ⊥

-- what was left to do is done, and the process ends with this status
abbrev pub IsDone : {W : Type 0} → Next → Stream W → ℕ → Type 0
IsDone (next.End answered) output status = (status ≡ answered) × IsUntouched output
IsDone (next.Serve address mode) output status = HasServed mode output status
IsDone (next.Race mode) output status = HasRaced mode output status
