-- Which queues an actor knows by their names.
use Rattle.std.proofs.Common.{◌≡◌, ℕ, List, ap, sym, ◌∙◌, inr, Option, Some}
use Rattle.sq_base.proofs.StampLaws.{after_above_second}
use Rattle.sq_model.specs.declared.calls.HomeCall.{HomeCall}
use Rattle.sq_model.specs.declared.replies.HomeReply.{HomeReply}
use Rattle.sq_model.specs.declared.directory.DirectoryCall.{DirectoryCall}
use Rattle.sq_model.specs.declared.directory.DirectoryReply.{DirectoryReply}
use Rattle.sq_model.specs.RecordValues.{Journal}
use Rattle.sq_base.specs.declared.ids.HomeId.{HomeId}
use Rattle.sq_directory.specs.Makers.{IsSeen, IsMadeBy}
use Rattle.sq_steps.specs.Journals.{journal_of, having_seen}
use Rattle.sq_merge.specs.WorldValue.{WorldValue}
use Rattle.sq_merge.specs.Worlds.{HomeStepped, DirectoryStepped, having_read_directory}
use Rattle.sq_merge.specs.inside.Worlds.{IsKnown}
use Rattle.sq_steps.proofs.JournalListLaws.{journal_own, journal_put}
use Rattle.sq_steps.proofs.JournalLaws.{later_second}
use Rattle.sq_directory.proofs.MakerLaws.{made_later}

-- an actor that read the directory knows the queue that it found
pub known_read : (w : WorldValue) (actor : ℕ) (name : List ℕ) (queue : ℕ) → IsMadeBy w.directory.events w.directory.last name queue
    → IsKnown w.directory.events (journal_of actor (having_read_directory w actor).journals) (Some name) queue
known_read w actor name queue made =
    let mine = having_seen (journal_of actor w.journals) w.directory.last in
    rw (journal_put actor mine w.journals (journal_own actor w.journals)) (made_later w.directory.events w.directory.last mine.seen name queue made (later_second (journal_of actor w.journals).seen w.directory.last))

-- an actor knows the queue that a step of the directory answered by its name
pub known_by_directory : (old new : WorldValue) (actor now : ℕ) (call : DirectoryCall) (reply : DirectoryReply) (name : List ℕ) (queue : ℕ) → DirectoryStepped old new actor now call reply
    → IsMadeBy new.directory.events new.directory.last name queue → IsKnown new.directory.events (journal_of actor new.journals) (Some name) queue
known_by_directory old new actor now call reply name queue s made =
    let own : s.recorded_in.actor ≡ actor = ap (λ (b : Journal). b.actor) s.moves.recorded_as ∙ journal_own actor old.journals in
    let seen : s.recorded_in.seen ≡ s.after.last = ap (λ (b : Journal). b.seen) s.moves.recorded_as ∙ sym s.moves.does.last in
    let after : IsMadeBy s.after.events s.after.last name queue = rw s.changed at made in
    rw (s.changed, journal_put actor s.recorded_in old.journals own, seen) after

-- an actor that does a step of a home knows what it knew
pub known_stepped : (old new : WorldValue) (actor now : ℕ) (said : Option (List ℕ)) (id : HomeId) (call : HomeCall) (reply : HomeReply) (name : List ℕ) (queue : ℕ)
    → HomeStepped old new actor now said id call reply → IsKnown old.directory.events (journal_of actor old.journals) (Some name) queue → IsKnown new.directory.events (journal_of actor new.journals) (Some name) queue
known_stepped old new actor now said id call reply name queue s known =
    let mine = journal_of actor old.journals in
    let own : s.recorded_in.actor ≡ actor = ap (λ (b : Journal). b.actor) s.moves.recorded_as ∙ journal_own actor old.journals in
    let above : IsSeen mine.seen s.recorded_in.seen = rw s.moves.recorded_as (inr (after_above_second _ mine.seen now _ s.moves.does.stamped)) in
    rw (s.changed, journal_put actor s.recorded_in old.journals own) (made_later old.directory.events mine.seen s.recorded_in.seen name queue known above)
