-- Which steps of the directory can be done.
use Rattle.std.proofs.Common.{◌≡◌, ℕ, not, List, refl, Option, Some, None}
use Rattle.std.specs.Prelude.{nat_le}
use Rattle.sq_base.specs.declared.refusal.Refusal.{Refusal}
use Rattle.sq_model.specs.declared.directory.Attributes.{Attributes}
use Rattle.sq_model.specs.declared.directory.DirectoryCall.{DirectoryCall}
use Rattle.sq_model.specs.declared.directory.DirectoryCall.TheVariants as asks
use Rattle.sq_model.specs.declared.directory.DirectoryReply.{DirectoryReply}
use Rattle.sq_model.specs.declared.directory.DirectoryReply.TheVariants as answers
use Rattle.sq_model.specs.declared.directory.Queue.{Queue}
use Rattle.sq_model.specs.declared.directory.QueueSettings.{QueueSettings}
use Rattle.sq_model.specs.Directories.{Creates, Directory, DirectoryStep, agrees, attributes_at, create_refusal, deleted_recently, directory_refusal, last_version, purged_recently, may_have, names_with, queue_of, refused_at, sources_of}
use Rattle.sq_laws.proofs.Progress.{above, passed}
use Rattle.sq_laws.proofs.Refusals.{below}
use Rattle.sq_model.proofs.SlotLaws.{not_false}

-- ---- a step is given only where no check fails

refused_none : (found : Option Queue) (later : Queue → Option Refusal) (queue : Queue) → found ≡ Some queue → later queue ≡ None → refused_at found later ≡ None
refused_none found later queue e h = rw e h

creates_allowed : (d : Directory) (m : ℕ) (name : List ℕ) (given : Attributes) (found : Option Queue) (made : QueueSettings) (after : Directory) → Creates d m name given found made after → create_refusal d m name given found ≡ None
creates_allowed d m name given None made after h = rw (h.0.name_free, h.0.policy, below _ _ h.0.not_full) refl
creates_allowed d m name given (Some queue) made after h = rw h.0 refl

pub directory_allowed : (d : Directory) (m : ℕ) (call : DirectoryCall) (reply : DirectoryReply) (after : Directory) → DirectoryStep d m call reply after → directory_refusal d m call ≡ None
unfolding DirectoryStep directory_refusal
directory_allowed d m (asks.Create name given) (answers.Made made) after s = creates_allowed d m name given (queue_of name d.queues) made after s
directory_allowed d m (asks.Set name given) (answers.Changed changed) after s = refused_none _ _ s.0 s.1 (rw (below _ _ s.2, s.3) refl)
directory_allowed d m (asks.Remove name) (answers.Removed number) after s = refused_none _ _ s.0 s.1 refl
directory_allowed d m (asks.PurgeTicket name) (answers.Ticket number) after s = refused_none _ _ s.0 s.1 (rw s.2 refl)
directory_allowed d m (asks.Url name) (answers.Found number) after s = refused_none _ _ s.0.0 s.0.1 refl
directory_allowed d m (asks.List prefix) (answers.Listed names) after s = refl
directory_allowed d m (asks.Sources name) (answers.Sources names) after s = refused_none _ _ s.0.0 s.0.1 refl
directory_allowed d m (asks.Read name) (answers.Read attributes) after s = refused_none _ _ s.0.0 s.0.1 refl
directory_allowed d m call reply after s = elim s [ ]

-- ---- and where none does one can be done

found_there : (found : Option Queue) (later : Queue → Option Refusal) → refused_at found later ≡ None → (queue : Queue) × (found ≡ Some queue) × (later queue ≡ None)
found_there None later h = absurd cc
found_there (Some queue) later h = (queue, refl, h)

abbrev Possible : Directory → ℕ → DirectoryCall → Type 0
Possible d m call = (reply : DirectoryReply) × (after : Directory) × DirectoryStep d m call reply after

can_create : (d : Directory) (m : ℕ) (name : List ℕ) (given : Attributes) (found : Option Queue) → create_refusal d m name given found ≡ None → (made : QueueSettings) × (after : Directory) × Creates d m name given found made after
can_create d m name given None h =
    let name_free = passed (deleted_recently m name d.deleted) _ _ h in
    let policy = passed (not (may_have d.queues name given.redrive)) _ _ name_free.1 in
    let not_full = passed (nat_le d.most d.made) _ _ policy.1 in
    (_, _, (record { name_free = name_free.0; policy = not_false _ policy.0; not_full = above _ _ not_full.0 }, refl, refl))
can_create d m name given (Some queue) h = (_, _, (not_false _ (passed (not (agrees given queue)) _ _ h).0, refl, refl))

pub directory_possible : (d : Directory) (m : ℕ) (call : DirectoryCall) → directory_refusal d m call ≡ None → Possible d m call
unfolding DirectoryStep directory_refusal
directory_possible d m (asks.Create name given) h = let c = can_create d m name given (queue_of name d.queues) h in (answers.Made c.0, c.1, c.2)
directory_possible d m (asks.Set name given) h =
    let f = found_there _ _ h in
    let worn = passed (nat_le last_version f.0.version) _ _ f.2 in
    let policy = passed (not (may_have d.queues name given.redrive)) _ _ worn.1 in
    (answers.Changed _, _, (f.0, f.1, above _ _ worn.0, not_false _ policy.0, refl, refl))
directory_possible d m (asks.Remove name) h = let f = found_there _ _ h in (answers.Removed f.0.number, _, (f.0, f.1, refl, refl))
directory_possible d m (asks.PurgeTicket name) h =
    let f = found_there _ _ h in (answers.Ticket f.0.number, _, (f.0, f.1, (passed (purged_recently m f.0.last_purge) _ _ f.2).0, refl, refl))
directory_possible d m (asks.Url name) h = let f = found_there _ _ h in (answers.Found f.0.number, d, ((f.0, f.1, refl), refl))
directory_possible d m (asks.List prefix) h = (answers.Listed (names_with prefix d.queues), d, (refl, refl))
directory_possible d m (asks.Sources name) h = let f = found_there _ _ h in (answers.Sources (sources_of f.0.number d.queues), d, ((f.0, f.1, refl), refl))
directory_possible d m (asks.Read name) h = let f = found_there _ _ h in (answers.Read (attributes_at f.0), d, ((f.0, f.1, refl), refl))
