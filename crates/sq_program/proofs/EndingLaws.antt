-- How a run ends, from how its parts did.
use Rattle.std.proofs.Common.{◌≡◌, ◌⊎◌, ℕ, zero, suc, true, false, Some, None, List, length, Option, IfSome, Result, Ok, Err, refl, inl, inr, arith}
use Rattle.clap.specs.declared.error.Error.{Error}
use Rattle.sq_lines.specs.declared.counted.Counted.{Counted}
use Rattle.sq_merge.specs.Openings.{new_world}
use Rattle.sq_model.specs.Options.{IsServed}
use Rattle.sq_merge.specs.WorldValue.{WorldValue}
use Rattle.sq_model.specs.declared.options.Options.{Options}
use Rattle.sq_wire.specs.Runs.{Writes, StopsAt, IsOfCall}
use Rattle.sq_wire.specs.declared.run.ServeFault.{ServeFault}
use Rattle.sq_wire.specs.declared.run.ServeFault.TheVariants.{NoMemory}
use Rattle.sq_wire.specs.Scripts.{ScriptValue, script_at, LineReplies, LineUnanswered}
use Rattle.sq_program.specs.Streams.{Stream, stream, EndsWritten, HasNoFault, IsUntouched}
use Rattle.sq_program.specs.Endings.{Ends, EndsBy, HasReplies, HasStatus, IsAuditLine, IsHelp, lines_in}
use Rattle.sq_program.specs.declared.program.Next.{Next}
use Rattle.sq_program.specs.declared.program.Next.TheVariants as next
use Rattle.sq_flags.specs.declared.flags.Mode.{Mode}
use Rattle.sq_flags.specs.declared.flags.Mode.TheVariants.{Script, Serve, Race}
use Rattle.sq_flags.specs.declared.flags.Refused.{Refused}
use Rattle.sq_flags.specs.declared.flags.Refused.TheVariants as refused
use Rattle.sq_flags.specs.declared.flags.ScriptMode.{ScriptMode}

-- what the words ask for was shown
pub ends_written : {R W : Type 0} (error : Error) (input : Stream R) (output : Stream W) (status : ℕ) → IsUntouched input → EndsWritten IsHelp output status → EndsBy (Err (refused.Text error)) input output status
ends_written error input output zero same h = (same, h)
ends_written error input output (suc zero) same h = (same, h)
ends_written error input output (suc (suc n)) same h = absurd h

-- all lines have their replies, and no audit was asked for
pub ends_answered : {R W : Type 0} (mode : ScriptMode) (input : Stream R) (output : Stream W) (world : WorldValue) → mode.audit ≡ false → IsServed mode.options → HasNoFault input → HasNoFault output
    → HasReplies mode.options (lines_in input) (output.bytes output.before.inner) (output.bytes output.after.inner) world → EndsBy (Ok (Script mode)) input output 0
ends_answered mode input output world none served r w replies = (served, (world, output.after, r, w, replies, rw none refl))

-- or one was asked for, and ended so
pub ends_audited : {R W : Type 0} (mode : ScriptMode) (input : Stream R) (output : Stream W) (world : WorldValue) (mid : Counted W) (status : ℕ) → mode.audit ≡ true → IsServed mode.options → HasNoFault input
    → HasNoFault (stream output.bytes output.before mid) → HasReplies mode.options (lines_in input) (output.bytes output.before.inner) (output.bytes mid.inner) world
    → EndsWritten (IsAuditLine world) (stream output.bytes mid output.after) status → EndsBy (Ok (Script mode)) input output status
ends_audited mode input output world mid zero parsed served r w replies answered = (served, (world, mid, r, w, replies, rw parsed answered))
ends_audited mode input output world mid (suc zero) parsed served r w replies answered = (served, inr (inr (world, mid, r, w, replies, rw parsed answered)))
ends_audited mode input output world mid (suc (suc n)) parsed served r w replies answered = absurd answered

-- the replies to all lines, where their number is answered too
pub replies_to_all : (options : Options) (all : Option (List (List ℕ))) (n : ℕ) (old new : Option (List ℕ)) (world : WorldValue)
    → IfSome all (λ lines. (clock : ℕ) × (n ≡ length lines) × Writes LineReplies old new (script_at (new_world options) 0) lines (script_at world clock)) → HasReplies options all old new world
replies_to_all options None n old new world h = tt
replies_to_all options (Some lines) n old new world h = (h.0, h.2)

-- a fault stopped the lines
stopped : (all : Option (List (List ℕ))) (fault : ServeFault) (coming old new : Option (List ℕ)) (begin : ScriptValue) (world : WorldValue)
    → IfSome all (λ lines. (clock : ℕ) × StopsAt LineReplies LineUnanswered fault lines coming old new begin (script_at world clock)) → IfSome all (λ lines. (after : ScriptValue) × StopsAt LineReplies LineUnanswered fault lines coming old new begin after)
stopped None fault coming old new begin world h = tt
stopped (Some lines) fault coming old new begin world h = (script_at world h.0, h.1)

pub ends_stopped : {R W : Type 0} (mode : ScriptMode) (input : Stream R) (output : Stream W) (fault : ServeFault) (world : WorldValue) (Other : Type 0) → IsServed mode.options
    → ((fault ≡ NoMemory 0) × (input.after ≡ input.before) × (output.after ≡ output.before) × Other)
    ⊎ IfSome (lines_in input) (λ lines. (clock : ℕ) × StopsAt LineReplies LineUnanswered fault lines (input.bytes input.after.inner) (output.bytes output.before.inner) (output.bytes output.after.inner) (script_at (new_world mode.options) 0) (script_at world clock))
    → IsOfCall fault input.before.failed input.after.failed output.before.failed output.after.failed → EndsBy (Ok (Script mode)) input output 1
ends_stopped mode input output fault world Other served err count = (
  served,
  elim err [
    | inl same ↦ inl (same.1, same.2)
    | inr stops ↦ inr (inl (fault, count, stopped (lines_in input) fault (input.bytes input.after.inner) (output.bytes output.before.inner) (output.bytes output.after.inner) (script_at (new_world mode.options) 0) world stops))
  ],
)

-- the status is one of three
pub status_within : {R W : Type 0} (parsed : Result Mode Refused) (input : Stream R) (output : Stream W) (then : Next) → Ends parsed input output then → HasStatus then
status_within parsed input output (next.End zero) h = omega arith
status_within parsed input output (next.End (suc zero)) h = omega arith
status_within parsed input output (next.End (suc (suc zero))) h = omega arith
status_within parsed input output (next.End (suc (suc (suc n)))) h = absurd h
status_within parsed input output (next.Serve address mode) h = tt
status_within parsed input output (next.Race mode) h = tt
