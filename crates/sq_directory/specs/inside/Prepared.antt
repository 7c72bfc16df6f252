-- What is known of a call before its moment.
use Rattle.std.specs.Prelude.{◌≡◌, ◌<◌, ℕ, true, length, Option, None, Some}
use Rattle.sq_model.specs.declared.directory.Attributes.{Attributes}
use Rattle.sq_model.specs.declared.directory.DirectoryCall.{DirectoryCall}
use Rattle.sq_model.specs.declared.directory.DirectoryCall.TheVariants as asks
use Rattle.sq_model.specs.declared.directory.DirectoryReply.{DirectoryReply}
use Rattle.sq_model.specs.declared.directory.DirectoryReply.TheVariants as answers
use Rattle.sq_model.specs.Directories.{Directory, DirectoryStep, directory_refusal, queue_of}
use Rattle.sq_model.specs.Policies.{has_list, lists_queues}
use Rattle.sq_directory.specs.declared.prepared.Prepared.{Prepared}
use Rattle.sq_directory.specs.declared.prepared.Prepared.TheVariants.{Answered, Refused, Changes}
use Rattle.sq_directory.specs.declared.prepared.ShortReply.{ShortReply}
use Rattle.sq_directory.specs.declared.prepared.ShortReply.TheVariants as short

-- what is told by a reply that holds little
abbrev pub short_reply : ShortReply → DirectoryReply
short_reply (short.Made made) = answers.Made made
short_reply (short.Changed changed) = answers.Changed changed
short_reply (short.Removed number) = answers.Removed number
short_reply (short.Ticket number) = answers.Ticket number
short_reply (short.Found number) = answers.Found number

-- a reply with a list of queues: names, or those of a policy
abbrev pub IsListing : DirectoryReply → Type 0
IsListing (answers.Listed names) = 0 < length names
IsListing (answers.Sources names) = 0 < length names
IsListing (answers.Read attributes) = lists_queues attributes.allow ≡ true
IsListing other = ⊥

-- a call with a list of queues, which a queue is to have from then on
abbrev pub KeepsList : Directory → DirectoryCall → Type 0
KeepsList d (asks.Create name given) = (has_list given.allow ≡ true) × (queue_of name d.queues ≡ None)
KeepsList d (asks.Set name given) = has_list given.allow ≡ true
KeepsList d other = ⊥

-- a call that may change the queues, with the attributes that one of them is to have from then on
abbrev pub IsChange : Directory → DirectoryCall → Option Attributes → Type 0
IsChange d (asks.Create name given) kept = (queue_of name d.queues ≡ None) × (kept ≡ Some given)
IsChange d (asks.Set name given) kept = kept ≡ Some given
IsChange d (asks.Remove name) kept = Unit {0}
IsChange d (asks.PurgeTicket name) kept = Unit {0}
IsChange d other kept = ⊥

-- what is known of a call: at any moment it is answered so and changes nothing, or is refused so; or it may change the queues
abbrev pub IsPreparedFor : Directory → DirectoryCall → Prepared → Type 0
IsPreparedFor d call (Answered reply) = (m : ℕ) → DirectoryStep d m call reply d
IsPreparedFor d call (Refused e) = (m : ℕ) → directory_refusal d m call ≡ Some e
IsPreparedFor d call (Changes kept) = IsChange d call kept
