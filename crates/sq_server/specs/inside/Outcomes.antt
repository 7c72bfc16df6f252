-- What serving connections and a race have written when they end, by the status of the process.
use Rattle.std.specs.Prelude.{ℕ, ◌≡◌, ◌≢◌, ◌⊎◌, Option, Some, None, Result, Ok, Err}
use Rattle.sq_audit.specs.declared.check.AuditFault.{AuditFault}
use Rattle.sq_audit.specs.declared.check.AuditFault.TheVariants.{NoMemory}
use Rattle.sq_audit.specs.declared.parts.Parts.{Parts}
use Rattle.sq_flags.specs.declared.flags.RaceMode.{RaceMode}
use Rattle.sq_program.specs.Results.{line_of, verdict_text}
use Rattle.sq_program.specs.Streams.{Stream, EndsWritten, IsUntouched}
use Rattle.sq_server.specs.Outcomes.{race_line}

-- that what was done is no run, or that there was no memory to see it, is no line, but a status
abbrev pub HasToldFault : {W : Type 0} → AuditFault → Stream W → ℕ → Type 0
HasToldFault fault output status = (((fault ≡ NoMemory) × (status ≡ 1)) ⊎ ((fault ≢ NoMemory) × (status ≡ 3))) × IsUntouched output

-- By a verdict, what is told: that what was done is one run, where it is; else nothing.
abbrev pub HasToldVerdict : {W : Type 0} → Result Parts AuditFault → Stream W → ℕ → Type 0
HasToldVerdict (Ok run) output status = EndsWritten (λ line. line ≡ line_of verdict_text) output status
HasToldVerdict (Err fault) output status = HasToldFault fault output status

-- By how serving ended, what is told of it: the verdict, or nothing where a connection was lost.
abbrev pub HasToldEnd : {W : Type 0} → Result (Option Parts) AuditFault → Stream W → ℕ → Type 0
HasToldEnd (Ok (Some run)) output status = HasToldVerdict (Ok run) output status
HasToldEnd (Ok None) output status = (status ≡ 1) × IsUntouched output
HasToldEnd (Err fault) output status = HasToldVerdict (Err fault) output status

-- by how a race ended, with a verdict and so many sends that were answered, what is told of it
abbrev pub HasToldRace : {W : Type 0} → RaceMode → Result (Parts × ℕ) AuditFault → Stream W → ℕ → Type 0
HasToldRace mode (Ok (run, sent)) output status = EndsWritten (λ line. line ≡ race_line mode sent) output status
HasToldRace mode (Err fault) output status = HasToldFault fault output status
