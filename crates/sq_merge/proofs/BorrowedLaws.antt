-- What an actor does at a world that it borrows, as done at that world.
use Rattle.std.proofs.Common.{◌≡◌, ℕ, List, Result, Ok, Err, refl, ap, subst}
use Rattle.sq_base.specs.declared.refusal.Refusal.{Refusal}
use Rattle.sq_steps.specs.Journals.{journal_of}
use Rattle.sq_merge.specs.WorldSteps.{ActorDoes, ActorStepped}
use Rattle.sq_merge.specs.WorldValue.{WorldValue}
use Rattle.sq_actions.specs.Asks.{Ask, Resolve, AskDirectory, AskHome, AskShared, Peek, Redriven, AskLedger, ReadTask, Gave, Found, Answered, Replied, Nothing, Peeked, Ends, Told, TaskFound, Done}
use Rattle.sq_actions.specs.Performs.{Performs, LeavesRecords}
use Rattle.sq_merge.specs.declared.world_steps.WorldSteps.{WorldSteps}
use Rattle.sq_merge.specs.declared.progress.ActorProgress.{ActorProgress}
use Rattle.sq_actions.proofs.PathLaws.{path_inside}

-- no step changes how far the turns of actors are
does_progress : (actor now : ℕ) (s t : WorldValue) (ask : Ask) (gave : Gave) → ActorDoes actor now s ask gave t → t.progress ≡ s.progress
does_progress actor now s t (Resolve name) (Found queue) h = ap (λ (v : WorldValue). v.progress) h.2
does_progress actor now s t (AskDirectory call) (Answered reply) h = ap (λ (v : WorldValue). v.progress) h.changed
does_progress actor now s t (AskHome name id act) (Replied reply) h = ap (λ (v : WorldValue). v.progress) h.changed
does_progress actor now s t (AskShared name id what) (Replied reply) h = ap (λ (v : WorldValue). v.progress) h.changed
does_progress actor now s t (AskShared name id what) Nothing h = ap (λ (v : WorldValue). v.progress) h.unchanged
does_progress actor now s t (Peek number) (Peeked next) h = ap (λ (v : WorldValue). v.progress) h.1
does_progress actor now s t (Redriven source destination) (Ends ends) h = ap (λ (v : WorldValue). v.progress) h.1
does_progress actor now s t (AskLedger what) (Told reply) h = ap (λ (v : WorldValue). v.progress) h.changed
does_progress actor now s t (ReadTask number) (TaskFound task) h = ap (λ (v : WorldValue). v.progress) h.1
does_progress actor now s t ask gave h = elim h [ ]

steps_progress : (actor now : ℕ) (s t : WorldValue) (ask : Ask) (answered : Result Gave Refusal) → ActorStepped actor now s ask answered t → t.progress ≡ s.progress
steps_progress actor now s t ask (Ok gave) h = does_progress actor now s t ask gave h
steps_progress actor now s t ask (Err e) h = ap (λ (v : WorldValue). v.progress) h.1

-- a step at the world that is borrowed; the reference, the actor and the clock reading stay
abbrev pub WorldStepped : WorldSteps → Ask → Result Gave Refusal → WorldSteps → Type 0
WorldStepped s ask answered t = ActorStepped s.actor s.clock s.world.now ask answered t.world.now × (t.world.ghost_name ≡ s.world.ghost_name) × (t.actor ≡ s.actor) × (t.clock ≡ s.clock)

pub at_world : {A : Type 0} (Fits : List Done → Result A Refusal → Type 0) (old new : WorldSteps) (answered : Result A Refusal) → Performs WorldStepped Fits old answered new
    → LeavesRecords Fits (journal_of old.actor old.world.now.journals) answered (journal_of new.actor new.world.now.journals)
    → (new.world.ghost_name ≡ old.world.ghost_name) × (new.world.now.progress ≡ old.world.now.progress) × Performs (ActorStepped old.actor old.clock) Fits old.world.now answered new.world.now
    × LeavesRecords Fits (journal_of old.actor old.world.now.journals) answered (journal_of old.actor new.world.now.journals)
at_world Fits old new answered h leaves =
    let inside = path_inside WorldStepped (λ (n : _ × List ActorProgress × ℕ × ℕ). ActorStepped n.2 n.3) (λ a. a.world.now) (λ a. (a.world.ghost_name, a.world.now.progress, a.actor, a.clock))
    (λ s t ask gave h. (h.0, rw (h.1, steps_progress s.actor s.clock s.world.now t.world.now ask gave h.0, h.2, h.3) refl)) old new h.trace h.path in (
      ap (λ n. n.0) inside.1,
      ap (λ n. n.1) inside.1,
      record { trace = h.trace; path = inside.0; fits = h.fits },
      subst (λ (n : ℕ). LeavesRecords Fits (journal_of old.actor old.world.now.journals) answered (journal_of n new.world.now.journals)) (ap (λ n. n.2) inside.1) leaves,
    )

-- steps that fit one way, as steps that fit another way
pub at_world_as : {A : Type 0} (Fits Did : List Done → Result A Refusal → Type 0) (old new : WorldSteps) (answered : Result A Refusal) → ((ds : List Done) → Did ds answered → Fits ds answered) → Performs WorldStepped Did old answered new
    → LeavesRecords Did (journal_of old.actor old.world.now.journals) answered (journal_of new.actor new.world.now.journals)
    → (new.world.ghost_name ≡ old.world.ghost_name) × (new.world.now.progress ≡ old.world.now.progress) × Performs (ActorStepped old.actor old.clock) Fits old.world.now answered new.world.now
    × LeavesRecords Fits (journal_of old.actor old.world.now.journals) answered (journal_of old.actor new.world.now.journals)
at_world_as Fits Did old new answered fitting h leaves =
    at_world Fits old new answered (record { trace = h.trace; path = h.path; fits = fitting h.trace h.fits }) (record { trace = leaves.trace; records = leaves.records; are = leaves.are; gains = leaves.gains; fits = fitting leaves.trace leaves.fits })
