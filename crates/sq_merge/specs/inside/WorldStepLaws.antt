-- A step of a call leaves its record with its actor, and no others.
use Rattle.std.specs.Prelude.{◌≡◌, ℕ, List, Result, Ok, Err}
use Rattle.std.proofs.Common.{◌∙◌, ap, sym, subst}
use Rattle.sq_base.specs.declared.refusal.Refusal.{Refusal}
use Rattle.sq_model.specs.RecordValues.{Journal, OfDirectory, OfLedger, OfHome, RecordValue}
use Rattle.sq_steps.specs.Journals.{journal_of, put_journal, having_seen, with_record}
use Rattle.sq_steps.proofs.JournalListLaws.{journal_own, journal_put}
use Rattle.sq_base.specs.StampValue.{StampValue}
use Rattle.sq_actions.proofs.LeaveLaws.{home_leaves, shared_leaves, directory_leaves, ledger_leaves}
use Rattle.sq_merge.specs.WorldSteps.{ActorDoes, ActorStepped}
use Rattle.sq_actions.specs.Asks.{Ask, Resolve, AskDirectory, AskHome, AskShared, Peek, Redriven, AskLedger, ReadTask, Gave, Found, Answered, Replied, Nothing, Peeked, Ends, Told, TaskFound, LeavesOf}
use Rattle.sq_merge.specs.WorldValue.{WorldValue}

-- what an actor has after a change is the change
mine_is : (actor : ℕ) (s t : WorldValue) (b : Journal) → b.actor ≡ actor → t.journals ≡ put_journal b s.journals → journal_of actor t.journals ≡ b
mine_is actor s t b own journals = ap (λ (bs : List Journal). journal_of actor bs) journals ∙ journal_put actor b s.journals own

-- an actor has read a part
read_is : (actor : ℕ) (s t : WorldValue) (last : StampValue) → t.journals ≡ put_journal (having_seen (journal_of actor s.journals) last) s.journals → (seen : StampValue) × (journal_of actor t.journals ≡ having_seen (journal_of actor s.journals) seen)
read_is actor s t last journals = (last, mine_is actor s t (having_seen (journal_of actor s.journals) last) (journal_own actor s.journals) journals)

-- what a step leaves with what its actor has, it leaves with what the world has of the actor
kept_is : (actor : ℕ) (s t : WorldValue) (ask : Ask) (answered : Result Gave Refusal) (n : RecordValue) (b : Journal) → b ≡ with_record (journal_of actor s.journals) n b.spare → t.journals ≡ put_journal b s.journals
    → LeavesOf ask answered (journal_of actor s.journals) b → LeavesOf ask answered (journal_of actor s.journals) (journal_of actor t.journals)
kept_is actor s t ask answered n b more journals left =
    let own : b.actor ≡ actor = ap (λ (x : Journal). x.actor) more ∙ journal_own actor s.journals in
    subst (LeavesOf ask answered (journal_of actor s.journals)) (sym (mine_is actor s t b own journals)) left

does_leaves : (actor now : ℕ) (s t : WorldValue) (ask : Ask) (gave : Gave) → ActorDoes actor now s ask gave t → LeavesOf ask (Ok gave) (journal_of actor s.journals) (journal_of actor t.journals)
does_leaves actor now s t (Resolve name) (Found queue) h = read_is actor s t s.directory.last (ap (λ (v : WorldValue). v.journals) h.2)
does_leaves actor now s t (AskDirectory call) (Answered reply) h =
    kept_is actor s t (AskDirectory call) (Ok (Answered reply)) (OfDirectory h.moves.its_record) h.recorded_in h.moves.recorded_as (ap (λ (v : WorldValue). v.journals) h.changed)
    (directory_leaves s.directory h.after (journal_of actor s.journals) h.recorded_in now call reply h.moves)
does_leaves actor now s t (AskHome name id act) (Replied reply) h =
    kept_is actor s t (AskHome name id act) (Ok (Replied reply)) (OfHome h.moves.its_record) h.recorded_in h.moves.recorded_as (ap (λ (v : WorldValue). v.journals) h.changed)
    (home_leaves h.before h.after (journal_of actor s.journals) h.recorded_in now name id act reply h.home.has_id h.moves)
does_leaves actor now s t (AskShared name id what) (Replied reply) h =
    kept_is actor s t (AskShared name id what) (Ok (Replied reply)) (OfHome h.moves.its_record) h.recorded_in h.moves.recorded_as (ap (λ (v : WorldValue). v.journals) h.changed)
    (shared_leaves h.before h.after s.ledger h.ledger (journal_of actor s.journals) h.recorded_in now name id what reply h.home.has_id h.moves)
does_leaves actor now s t (AskShared name id what) Nothing h = ap (λ (v : WorldValue). journal_of actor v.journals) h.unchanged
does_leaves actor now s t (Peek number) (Peeked next) h = read_is actor s t s.ledger.last (ap (λ (v : WorldValue). v.journals) h.1)
does_leaves actor now s t (Redriven source destination) (Ends ends) h = read_is actor s t s.directory.last (ap (λ (v : WorldValue). v.journals) h.1)
does_leaves actor now s t (AskLedger what) (Told reply) h =
    kept_is actor s t (AskLedger what) (Ok (Told reply)) (OfLedger h.moves.its_record) h.recorded_in h.moves.recorded_as (ap (λ (v : WorldValue). v.journals) h.changed)
    (ledger_leaves s.ledger h.after (journal_of actor s.journals) h.recorded_in now what reply h.moves)
does_leaves actor now s t (ReadTask number) (TaskFound task) h = read_is actor s t s.ledger.last (ap (λ (v : WorldValue). v.journals) h.1)
does_leaves actor now s t ask gave h = elim h [ ]

leaves_own : (actor now : ℕ) (s t : WorldValue) (ask : Ask) (answered : Result Gave Refusal) → ActorStepped actor now s ask answered t → LeavesOf ask answered (journal_of actor s.journals) (journal_of actor t.journals)
leaves_own actor now s t ask (Ok gave) h = does_leaves actor now s t ask gave h
leaves_own actor now s t (Resolve name) (Err e) h = ap (λ (v : WorldValue). journal_of actor v.journals) h.1
leaves_own actor now s t (AskDirectory call) (Err e) h = ap (λ (v : WorldValue). journal_of actor v.journals) h.1
leaves_own actor now s t (AskHome name id act) (Err e) h = ap (λ (v : WorldValue). journal_of actor v.journals) h.1
leaves_own actor now s t (AskShared name id what) (Err e) h = ap (λ (v : WorldValue). journal_of actor v.journals) h.1
leaves_own actor now s t (Peek number) (Err e) h = ap (λ (v : WorldValue). journal_of actor v.journals) h.1
leaves_own actor now s t (Redriven source destination) (Err e) h = ap (λ (v : WorldValue). journal_of actor v.journals) h.1
leaves_own actor now s t (AskLedger what) (Err e) h = ap (λ (v : WorldValue). journal_of actor v.journals) h.1
leaves_own actor now s t (ReadTask number) (Err e) h = ap (λ (v : WorldValue). journal_of actor v.journals) h.1

-- the same of an actor that stays who it is
pub actor_leaves : (actor after now : ℕ) (s t : WorldValue) (ask : Ask) (answered : Result Gave Refusal) → ActorStepped actor now s ask answered t → after ≡ actor → LeavesOf ask answered (journal_of actor s.journals) (journal_of after t.journals)
actor_leaves actor after now s t ask answered h same = subst (λ (n : ℕ). LeavesOf ask answered (journal_of actor s.journals) (journal_of n t.journals)) (sym same) (leaves_own actor now s t ask answered h)
