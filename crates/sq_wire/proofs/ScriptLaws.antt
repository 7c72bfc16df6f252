-- A line whose answer has no text, and a script as a run over its world.
use Rattle.std.proofs.Common.{◌≡◌, ℕ, List, Option, Some, None, Result, Ok, Err, length}
use Rattle.std.specs.Prelude.{IsOk, OnErr, IfSome}
use Rattle.sq_base.specs.declared.refusal.Refusal.{Refusal}
use Rattle.sq_calls.specs.declared.calls.Answered.{Answered}
use Rattle.sq_calls.specs.declared.calls.Answered.TheVariants.{Call, Turn}
use Rattle.sq_replies.specs.Replies.{OnTurned}
use Rattle.sq_merge.specs.WorldValue.{WorldValue}
use Rattle.sq_wire.specs.Runs.{Writes, StopsAt}
use Rattle.sq_wire.specs.Scripts.{ScriptValue, script_at, LineAnswered, LineReplies, LineUnanswered}
use Rattle.sq_wire.specs.declared.run.ServeFault.{ServeFault}
use Rattle.sq_wire.specs.declared.script.Scripted.{Scripted}
use Rattle.sq_wire.proofs.InsideLaws.{Inside, done_inside, stops_inside}

-- only an answer to a call may have none, since the text of a refusal and the word of a turn take no memory
pub line_unanswered : {X E : Type 0} (s : ScriptValue) (line : List ℕ) (answered : Result Answered Refusal) (after : ScriptValue) (text : Result X E) → LineAnswered s line answered after → OnErr answered (IsOk text) → OnTurned answered (IsOk text) → OnErr text (LineUnanswered s line after)
unfolding LineUnanswered
line_unanswered s line answered after (Ok text) h made turned = tt
line_unanswered s line (Ok (Call answer)) after (Err e) h made turned = (answer, h)
line_unanswered s line (Ok (Turn word)) after (Err e) h made turned = absurd cc
line_unanswered s line (Err refusal) after (Err e) h made turned = absurd cc

-- ---- a world that is asked line after line

abbrev RepliesAt : Scripted → List ℕ → List ℕ → Scripted → Type 0
RepliesAt s line text t = LineReplies (script_at s.world.now s.clock) line text (script_at t.world.now t.clock)

abbrev UnansweredAt : Scripted → List ℕ → Scripted → Type 0
UnansweredAt s line t = LineUnanswered (script_at s.world.now s.clock) line (script_at t.world.now t.clock)

abbrev AnyOf : Scripted → Type 0
AnyOf s = Unit {0}

script_inside : Inside AnyOf (λ s. script_at s.world.now s.clock) RepliesAt UnansweredAt LineReplies LineUnanswered
script_inside = record { replies = λ s t line text k h. (tt, h); unanswered = λ s t line k h. (tt, h) }

-- the reading of the last line is some reading
done_at : (all : Option (List (List ℕ))) (n : ℕ) (old new : Option (List ℕ)) (start : ScriptValue) (world : WorldValue) (clock : ℕ)
    → IfSome all (λ lines. (n ≡ length lines) × Writes LineReplies old new start lines (script_at world clock)) → IfSome all (λ lines. (c : ℕ) × (n ≡ length lines) × Writes LineReplies old new start lines (script_at world c))
done_at None n old new start world clock h = tt
done_at (Some lines) n old new start world clock h = (clock, h.0, h.1)

stops_at : (all : Option (List (List ℕ))) (f : ServeFault) (coming old new : Option (List ℕ)) (start : ScriptValue) (world : WorldValue) (clock : ℕ)
    → IfSome all (λ lines. StopsAt LineReplies LineUnanswered f lines coming old new start (script_at world clock)) → IfSome all (λ lines. (c : ℕ) × StopsAt LineReplies LineUnanswered f lines coming old new start (script_at world c))
stops_at None f coming old new start world clock h = tt
stops_at (Some lines) f coming old new start world clock h = (clock, h)

pub script_done : (all : Option (List (List ℕ))) (n : ℕ) (old new : Option (List ℕ)) (s t : Scripted)
    → IfSome all (λ lines. (n ≡ length lines) × Writes RepliesAt old new s lines t) → IfSome all (λ lines. (c : ℕ) × (n ≡ length lines) × Writes LineReplies old new (script_at s.world.now s.clock) lines (script_at t.world.now c))
script_done all n old new s t h =
    done_at all n old new (script_at s.world.now s.clock) t.world.now t.clock (done_inside AnyOf (λ u. script_at u.world.now u.clock) RepliesAt UnansweredAt LineReplies LineUnanswered script_inside all n old new s t tt h)

pub script_stops : (all : Option (List (List ℕ))) (f : ServeFault) (coming old new : Option (List ℕ)) (s t : Scripted)
    → IfSome all (λ lines. StopsAt RepliesAt UnansweredAt f lines coming old new s t) → IfSome all (λ lines. (c : ℕ) × StopsAt LineReplies LineUnanswered f lines coming old new (script_at s.world.now s.clock) (script_at t.world.now c))
script_stops all f coming old new s t h =
    stops_at all f coming old new (script_at s.world.now s.clock) t.world.now t.clock (stops_inside AnyOf (λ u. script_at u.world.now u.clock) RepliesAt UnansweredAt LineReplies LineUnanswered script_inside all f coming old new s t tt h)
