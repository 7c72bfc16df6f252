-- How the program ends, by its exit status or by what is left to do, over what its words ask for and what becomes of its input and its output.
use Rattle.std.specs.Prelude.{ℕ, zero, suc, Bool, true, false, List, [], ◌∷◌, ◌++◌, ◌≡◌, ◌≤◌, ◌⊎◌, Option, None, Some, IfSome, Result, Ok, Err}
use Rattle.clap.specs.Words.{Text}
use Rattle.sq_lines.specs.Lines.{lines_left}
use Rattle.sq_lines.specs.declared.counted.Counted.{Counted}
use Rattle.sq_merge.specs.Openings.{new_world}
use Rattle.sq_model.specs.Options.{IsServed}
use Rattle.sq_merge.specs.WorldValue.{WorldValue}
use Rattle.sq_model.specs.declared.options.Options.{Options}
use Rattle.sq_wire.specs.Audits.{IsAudit}
use Rattle.sq_wire.specs.Runs.{Writes, StopsAt, IsOfCall}
use Rattle.sq_wire.specs.Scripts.{ScriptValue, script_at, LineReplies, LineUnanswered}
use Rattle.sq_wire.specs.declared.run.ServeFault.{ServeFault}
use Rattle.sq_flags.specs.Flags.{ParsesTo}
use Rattle.sq_flags.specs.declared.flags.Mode.{Mode}
use Rattle.sq_flags.specs.declared.flags.Mode.TheVariants.{Script, Serve, Race}
use Rattle.sq_flags.specs.declared.flags.RaceMode.{RaceMode}
use Rattle.sq_flags.specs.declared.flags.Refused.{Refused}
use Rattle.sq_flags.specs.declared.flags.Refused.TheVariants as refused
use Rattle.sq_program.specs.Streams.{Stream, stream, IsUntouched, HasNoFault, WrittenWhole, WrittenInPart}
use Rattle.sq_program.specs.declared.program.Next.{Next}
use Rattle.sq_program.specs.declared.program.Next.TheVariants as next
use Rattle.sq_program.specs.declared.program.TheConstants.{TITLE}

-- the lines of an input, where they are known
abbrev pub lines_in : {R : Type 0} → Stream R → Option (List (List ℕ))
lines_in input = lines_left [] (input.bytes input.before.inner)

-- the program's title, and what else clap tells
abbrev pub IsHelp : List ℕ → Type 0
IsHelp text = (answered : List ℕ) × (text ≡ TITLE.now ++ answered)

-- the audit of a world, and a line feed
abbrev pub IsAuditLine : WorldValue → List ℕ → Type 0
IsAuditLine world text = (audit : List ℕ) × IsAudit world audit × (text ≡ audit ++ 10 ∷ [])

-- after the replies comes the audit where it was asked for, and else nothing
abbrev pub AuditWritten : {W : Type 0} → Bool → WorldValue → Stream W → Type 0
AuditWritten true world output = WrittenWhole (IsAuditLine world) output
AuditWritten false world output = IsUntouched output

-- or it was asked for, and was not written whole
abbrev pub AuditCut : {W : Type 0} → Bool → WorldValue → Stream W → Type 0
AuditCut true world output = WrittenInPart (IsAuditLine world) output
AuditCut false world output = ⊥

-- each line, where they are known, has its reply, in order, of a world that began without queues and is this one now
abbrev pub HasReplies : Options → Option (List (List ℕ)) → Option (List ℕ) → Option (List ℕ) → WorldValue → Type 0
HasReplies options all old new world = IfSome all (λ lines. (clock : ℕ) × Writes LineReplies old new (script_at (new_world options) 0) lines (script_at world clock))

-- all lines have their replies, and no call failed up to there; then the output went on so
abbrev pub AnswersAll : {R W : Type 0} → Options → Stream R → Stream W → (WorldValue → Stream W → Type 0) → Type 0
AnswersAll {R} {W} options input output GoesOn =
    (world : WorldValue) × (mid : Counted W) × HasNoFault input × HasNoFault (stream output.bytes output.before mid)
    × HasReplies options (lines_in input) (output.bytes output.before.inner) (output.bytes mid.inner) world
    × GoesOn world (stream output.bytes mid output.after)

-- the lines before a fault have their replies, and the fault is of a call that failed, or of none; where a write failed, more lines may have been read, and what they ask is done
abbrev pub StopsEarly : {R W : Type 0} → Options → Stream R → Stream W → Type 0
StopsEarly options input output =
    (fault : ServeFault) × IsOfCall fault input.before.failed input.after.failed output.before.failed output.after.failed × IfSome (lines_in input) (λ lines. (after : ScriptValue)
    × StopsAt LineReplies LineUnanswered fault lines (input.bytes input.after.inner) (output.bytes output.before.inner) (output.bytes output.after.inner) (script_at (new_world options) 0) after)

-- a race may be run: the options are served, and it has its two queues
abbrev pub MayRace : RaceMode → Type 0
MayRace mode = IsServed mode.options × (2 ≤ mode.options.queues)

-- Status 0: what was asked for is done. A script has served options, a reply to each line, and its audit where one was asked
-- for; a text was shown whole, and nothing was read.
abbrev pub EndsWell : {R W : Type 0} → Result Mode Refused → Stream R → Stream W → Type 0
EndsWell (Ok (Script mode)) input output = IsServed mode.options × AnswersAll mode.options input output (AuditWritten mode.audit)
EndsWell (Ok (Serve mode)) input output = ⊥
EndsWell (Ok (Race mode)) input output = ⊥
EndsWell (Err (refused.Text error)) input output = IsUntouched input × WrittenWhole IsHelp output
EndsWell (Err (refused.Mistake error)) input output = ⊥
EndsWell (Err refused.NoMemory) input output = ⊥

-- Status 1: a fault. A script has served options, and there was no memory to begin it, or it stopped at a line, or its audit
-- was cut short; a text was shown in part, and nothing was read; or there was no memory to see what the words ask for. Where
-- connections were to be served, there is no address.
abbrev pub EndsByFault : {R W : Type 0} → Result Mode Refused → Stream R → Stream W → Type 0
EndsByFault (Ok (Script mode)) input output =
    IsServed mode.options × ((IsUntouched input × IsUntouched output) ⊎ (StopsEarly mode.options input output ⊎ AnswersAll mode.options input output (AuditCut mode.audit)))
EndsByFault (Ok (Serve mode)) input output = IsServed mode.options × (mode.address ≡ None) × IsUntouched input × IsUntouched output
EndsByFault (Ok (Race mode)) input output = ⊥
EndsByFault (Err (refused.Text error)) input output = IsUntouched input × WrittenInPart IsHelp output
EndsByFault (Err (refused.Mistake error)) input output = ⊥
EndsByFault (Err refused.NoMemory) input output = IsUntouched input × IsUntouched output

-- Status 2: what was asked for cannot be done, since the options are not served or the words are mistaken; nothing was touched.
abbrev pub EndsRefused : {R W : Type 0} → Result Mode Refused → Stream R → Stream W → Type 0
EndsRefused (Ok (Script mode)) input output = (¬ IsServed mode.options) × IsUntouched input × IsUntouched output
EndsRefused (Ok (Serve mode)) input output = (¬ IsServed mode.options) × IsUntouched input × IsUntouched output
EndsRefused (Ok (Race mode)) input output = (¬ MayRace mode) × IsUntouched input × IsUntouched output
EndsRefused (Err (refused.Text error)) input output = ⊥
EndsRefused (Err (refused.Mistake error)) input output = IsUntouched input × IsUntouched output
EndsRefused (Err refused.NoMemory) input output = ⊥

-- By its status, how the program ends; no other status is there.
abbrev pub EndsBy : {R W : Type 0} → Result Mode Refused → Stream R → Stream W → ℕ → Type 0
EndsBy parsed input output zero = EndsWell parsed input output
EndsBy parsed input output (suc zero) = EndsByFault parsed input output
EndsBy parsed input output (suc (suc zero)) = EndsRefused parsed input output
EndsBy parsed input output (suc (suc (suc n))) = ⊥

-- By what is left to do, how the program ends. What needs threads and sockets is handed back as the words have it: connections are to be served at their
-- address where the options are served, and clients are to race where a race may be run. Nothing was touched then.
abbrev pub Ends : {R W : Type 0} → Result Mode Refused → Stream R → Stream W → Next → Type 0
Ends parsed input output (next.End status) = EndsBy parsed input output status
Ends parsed input output (next.Serve address mode) = (parsed ≡ Ok (Serve mode)) × IsServed mode.options × (mode.address ≡ Some address) × IsUntouched input × IsUntouched output
Ends parsed input output (next.Race mode) = (parsed ≡ Ok (Race mode)) × MayRace mode × IsUntouched input × IsUntouched output

-- where the program ends, it ends with one of three statuses
abbrev pub HasStatus : Next → Type 0
HasStatus (next.End status) = status ≤ 2
HasStatus (next.Serve address mode) = Unit {0}
HasStatus (next.Race mode) = Unit {0}

-- the words ask for something, and the program ends as is right for it
pub record EndsFor {R W : Type 0} (words : List Text) (input : Stream R) (output : Stream W) (then : Next) : Type 0 where
  pub parsed : Result Mode Refused
  pub parses : ParsesTo words parsed
  pub ends : Ends parsed input output then
