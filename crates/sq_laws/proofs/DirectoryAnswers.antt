-- A directory has one answer to a call, and goes on to one directory.
use Rattle.std.proofs.Common.{ap, ◌≡◌, ℕ, List, sym, ◌∙◌, Option, Some, None}
use Rattle.sq_model.specs.declared.directory.Attributes.{Attributes}
use Rattle.sq_model.specs.declared.directory.DirectoryCall.{DirectoryCall}
use Rattle.sq_model.specs.declared.directory.DirectoryCall.TheVariants as asks
use Rattle.sq_model.specs.declared.directory.DirectoryReply.{DirectoryReply}
use Rattle.sq_model.specs.declared.directory.DirectoryReply.TheVariants as answers
use Rattle.sq_model.specs.declared.directory.NamePrefix.{NamePrefix}
use Rattle.sq_model.specs.declared.directory.Queue.{Queue}
use Rattle.sq_model.specs.declared.directory.QueueAttributes.{QueueAttributes}
use Rattle.sq_model.specs.declared.directory.QueueSettings.{QueueSettings}
use Rattle.sq_model.specs.Directories.{Creates, Directory, DirectoryStep, attributes_at, queue_of, settings_at, sources_of, with_attributes}
use Rattle.sq_laws.proofs.LedgerLists.{some_same}

-- what follows from the queue that is found is one
one_found : {X : Type 0} (of : Queue → X) (found : Option Queue) (queue other : Queue) (x y : X) → found ≡ Some queue → found ≡ Some other → x ≡ of queue → y ≡ of other → x ≡ y
one_found {X} of found queue other x y e f h k = h ∙ ap of (some_same queue other (sym e ∙ f)) ∙ sym k

one_creation : (d : Directory) (m : ℕ) (name : List ℕ) (given : Attributes) (found : Option Queue) (made other : QueueSettings) (after again : Directory)
    → Creates d m name given found made after → Creates d m name given found other again → (made ≡ other) × (after ≡ again)
one_creation d m name given None made other after again s t = (s.1 ∙ sym t.1, s.2 ∙ sym t.2)
one_creation d m name given (Some queue) made other after again s t = (s.1 ∙ sym t.1, s.2 ∙ sym t.2)

-- whatever a step of this call answers and leaves is this
abbrev IsOnly : Directory → ℕ → DirectoryCall → DirectoryReply → Directory → Type 0
IsOnly d m call reply after = (other : DirectoryReply) (again : Directory) → DirectoryStep d m call other again → (reply ≡ other) × (after ≡ again)

only_made : (d : Directory) (m : ℕ) (name : List ℕ) (given : Attributes) (made : QueueSettings) (after : Directory) → DirectoryStep d m (asks.Create name given) (answers.Made made) after → IsOnly d m (asks.Create name given) (answers.Made made) after
unfolding DirectoryStep
only_made d m name given made after s (answers.Made other) again t = let r = one_creation d m name given (queue_of name d.queues) made other after again s t in (ap answers.Made r.0, r.1)
only_made d m name given made after s other again t = elim t [ ]

only_changed : (d : Directory) (m : ℕ) (name : List ℕ) (given : Attributes) (changed : QueueSettings) (after : Directory) → DirectoryStep d m (asks.Set name given) (answers.Changed changed) after → IsOnly d m (asks.Set name given) (answers.Changed changed) after
unfolding DirectoryStep
only_changed d m name given changed after s (answers.Changed other) again t = (ap answers.Changed (one_found (λ queue. settings_at (with_attributes d.queues given queue)) (queue_of name d.queues) s.0 t.0 changed other s.1 t.1 s.4 t.4), s.5 ∙ sym t.5)
only_changed d m name given changed after s other again t = elim t [ ]

only_removed : (d : Directory) (m : ℕ) (name : List ℕ) (number : ℕ) (after : Directory) → DirectoryStep d m (asks.Remove name) (answers.Removed number) after → IsOnly d m (asks.Remove name) (answers.Removed number) after
unfolding DirectoryStep
only_removed d m name number after s (answers.Removed other) again t = (ap answers.Removed (one_found (λ queue. queue.number) (queue_of name d.queues) s.0 t.0 number other s.1 t.1 s.2 t.2), s.3 ∙ sym t.3)
only_removed d m name number after s other again t = elim t [ ]

only_ticket : (d : Directory) (m : ℕ) (name : List ℕ) (number : ℕ) (after : Directory) → DirectoryStep d m (asks.PurgeTicket name) (answers.Ticket number) after → IsOnly d m (asks.PurgeTicket name) (answers.Ticket number) after
unfolding DirectoryStep
only_ticket d m name number after s (answers.Ticket other) again t = (ap answers.Ticket (one_found (λ queue. queue.number) (queue_of name d.queues) s.0 t.0 number other s.1 t.1 s.3 t.3), s.4 ∙ sym t.4)
only_ticket d m name number after s other again t = elim t [ ]

only_found : (d : Directory) (m : ℕ) (name : List ℕ) (number : ℕ) (after : Directory) → DirectoryStep d m (asks.Url name) (answers.Found number) after → IsOnly d m (asks.Url name) (answers.Found number) after
unfolding DirectoryStep
only_found d m name number after s (answers.Found other) again t = (ap answers.Found (one_found (λ queue. queue.number) (queue_of name d.queues) s.0.0 t.0.0 number other s.0.1 t.0.1 s.0.2 t.0.2), s.1 ∙ sym t.1)
only_found d m name number after s other again t = elim t [ ]

only_listed : (d : Directory) (m : ℕ) (prefix : NamePrefix) (names : List (List ℕ)) (after : Directory) → DirectoryStep d m (asks.List prefix) (answers.Listed names) after → IsOnly d m (asks.List prefix) (answers.Listed names) after
unfolding DirectoryStep
only_listed d m prefix names after s (answers.Listed other) again t = (ap answers.Listed (s.0 ∙ sym t.0), s.1 ∙ sym t.1)
only_listed d m prefix names after s other again t = elim t [ ]

only_sources : (d : Directory) (m : ℕ) (name : List ℕ) (names : List (List ℕ)) (after : Directory) → DirectoryStep d m (asks.Sources name) (answers.Sources names) after → IsOnly d m (asks.Sources name) (answers.Sources names) after
unfolding DirectoryStep
only_sources d m name names after s (answers.Sources other) again t = (ap answers.Sources (one_found (λ queue. sources_of queue.number d.queues) (queue_of name d.queues) s.0.0 t.0.0 names other s.0.1 t.0.1 s.0.2 t.0.2), s.1 ∙ sym t.1)
only_sources d m name names after s other again t = elim t [ ]

only_read : (d : Directory) (m : ℕ) (name : List ℕ) (attributes : QueueAttributes) (after : Directory) → DirectoryStep d m (asks.Read name) (answers.Read attributes) after → IsOnly d m (asks.Read name) (answers.Read attributes) after
unfolding DirectoryStep
only_read d m name attributes after s (answers.Read other) again t = (ap answers.Read (one_found attributes_at (queue_of name d.queues) s.0.0 t.0.0 attributes other s.0.1 t.0.1 s.0.2 t.0.2), s.1 ∙ sym t.1)
only_read d m name attributes after s other again t = elim t [ ]

pub one_answer : (d : Directory) (m : ℕ) (call : DirectoryCall) (reply : DirectoryReply) (after : Directory) → DirectoryStep d m call reply after → IsOnly d m call reply after
unfolding DirectoryStep
one_answer d m (asks.Create name given) (answers.Made made) after s = only_made d m name given made after s
one_answer d m (asks.Set name given) (answers.Changed changed) after s = only_changed d m name given changed after s
one_answer d m (asks.Remove name) (answers.Removed number) after s = only_removed d m name number after s
one_answer d m (asks.PurgeTicket name) (answers.Ticket number) after s = only_ticket d m name number after s
one_answer d m (asks.Url name) (answers.Found number) after s = only_found d m name number after s
one_answer d m (asks.List prefix) (answers.Listed names) after s = only_listed d m prefix names after s
one_answer d m (asks.Sources name) (answers.Sources names) after s = only_sources d m name names after s
one_answer d m (asks.Read name) (answers.Read attributes) after s = only_read d m name attributes after s
one_answer d m call reply after s = elim s [ ]
