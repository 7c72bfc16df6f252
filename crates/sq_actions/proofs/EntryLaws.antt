-- What is done for one message, and for the entries of a batch.
use Rattle.std.proofs.Common.{◌≡◌, ◌∙◌, ℕ, suc, ◌+◌, Bool, true, false, List, [], ◌∷◌, ◌++◌, length, refl, sym, ap, subst, inl, inr, arith, Option, Some, Result, Ok, Err, slice_get}
use Rattle.std.specs.Prelude.{MatchResult, if◌then◌else◌}
use Rattle.sq_base.specs.Bodies.{body_check}
use Rattle.sq_base.specs.declared.handle.Handle.{Handle}
use Rattle.sq_base.specs.declared.refusal.Refusal.{Refusal}
use Rattle.sq_base.specs.declared.refusal.Refusal.TheVariants.{InvalidMessageContents, NoMemory}
use Rattle.sq_calls.specs.BodyTexts.{body_limit, is_too_small_or_large}
use Rattle.sq_calls.specs.BatchValue.{BatchValue}
use Rattle.sq_calls.specs.declared.batches.Entry.{Entry}
use Rattle.sq_calls.specs.declared.batches.EntryAnswer.{EntryAnswer}
use Rattle.sq_calls.specs.declared.batches.EntryAsk.{EntryAsk}
use Rattle.sq_calls.specs.declared.batches.EntryResult.{EntryResult}
use Rattle.sq_calls.specs.declared.calls.Answer.TheVariants as answer
use Rattle.sq_actions.specs.Asks.{Ask, Gave, Done, HomeCounts}
use Rattle.sq_actions.specs.Entries.{are_allowed, SendAt, HandleAt, EntryFits, OneFits, EntriesFit, BatchAt, one_answered}
use Rattle.sq_actions.specs.inside.Messages.{act_of, asked_by}
use Rattle.sq_actions.specs.declared.message.OnMessage.{OnMessage}
use Rattle.sq_actions.specs.declared.message.OnMessage.TheVariants.{Delete, Change}
use Rattle.sq_actions.specs.Performs.{Path, Performs}
use Rattle.sq_actions.proofs.PathLaws.{path_append}

-- ---- bodies

-- what a text within its bounds is refused as
abbrev by_characters : Bool → Result (Unit {0}) Refusal
by_characters allowed = if allowed then Ok tt else Err InvalidMessageContents

checked_so : (body : List ℕ) → is_too_small_or_large body ≡ false → body_check body body_limit ≡ by_characters (are_allowed body)
checked_so body in_bounds = rw in_bounds refl

ok_so : (allowed : Bool) → by_characters allowed ≡ Ok tt → allowed ≡ true
ok_so true h = refl
ok_so false h = absurd cc

pub body_allowed : (body : List ℕ) → is_too_small_or_large body ≡ false → body_check body body_limit ≡ Ok tt → are_allowed body ≡ true
body_allowed body in_bounds ok = ok_so (are_allowed body) (sym (checked_so body in_bounds) ∙ ok)

-- a body that was not made: its characters, or memory
refused_so : (homes : ℕ) (name : List ℕ) (queue : ℕ) (body : List ℕ) (delay : Option ℕ) (e : Refusal) (allowed : Bool) → is_too_small_or_large body ≡ false → are_allowed body ≡ allowed
    → MatchResult (by_characters allowed) (λ u. e ≡ NoMemory) (λ f. e ≡ f) → SendAt homes name queue body delay [] (Err e)
refused_so homes name queue body delay e true in_bounds is memory = (in_bounds, inr (is, inl (refl, ap Err memory)))
refused_so homes name queue body delay e false in_bounds is same = (in_bounds, inl (is, refl, ap Err same))

pub body_refused : (homes : ℕ) (name : List ℕ) (queue : ℕ) (body : List ℕ) (delay : Option ℕ) (e : Refusal) → is_too_small_or_large body ≡ false
    → MatchResult (body_check body body_limit) (λ u. e ≡ NoMemory) (λ f. e ≡ f) → SendAt homes name queue body delay [] (Err e)
body_refused homes name queue body delay e in_bounds refused = refused_so homes name queue body delay e (are_allowed body) in_bounds refl (rw (checked_so body in_bounds) at refused)

-- ---- calls on one message

-- what was told of an entry is answered
pub answered_as_entry : {S : Type 0} (stepped : S → Ask → Result Gave Refusal → S → Type 0) (G : List Done → Result EntryAnswer Refusal → Type 0) (homes : ℕ) (name : List ℕ) (asked : EntryAsk) (queue : ℕ) (old new : S) (told : Result EntryAnswer Refusal)
    → Performs stepped G old told new → ((ds : List Done) → G ds told → EntryFits homes name queue (Ok asked) ds told) → Performs stepped (OneFits homes name asked queue) old (one_answered told) new
answered_as_entry stepped G homes name asked queue old new told did fits = record { trace = did.trace; path = did.path; fits = (told, fits did.trace did.fits, refl) }

-- a step on the message of a handle is one as an entry asks it
pub handle_as_entry : (homes : ℕ) (name : List ℕ) (queue : ℕ) (handle : Option Handle) (what : OnMessage) (ds : List Done) (told : Result EntryAnswer Refusal) → HandleAt homes name queue handle (act_of what) ds told → EntryFits homes name queue (Ok (asked_by what handle)) ds told
handle_as_entry homes name queue handle Delete ds told fits = fits
handle_as_entry homes name queue handle (Change timeout) ds told fits = fits

-- ---- batches

-- one entry more was done
pub entry_more : {S : Type 0} (stepped : S → Ask → Result Gave Refusal → S → Type 0) (counts : S → HomeCounts) (old mid new : S) (b : BatchValue) (name : List ℕ) (queue n : ℕ) (told more : List EntryResult) (e : Entry) (one : Result EntryAnswer Refusal)
    → (trace : List Done) × Path stepped old trace mid × EntriesFit (counts old).homes b queue n trace told → counts mid ≡ counts old → name ≡ b.queue → slice_get b.entries n ≡ Some e
    → Performs stepped (EntryFits (counts mid).homes name queue e.ask) mid one new → more ≡ told ++ record { id = e.id; answer = one } ∷ []
    → (trace : List Done) × Path stepped old trace new × EntriesFit (counts old).homes b queue (n + 1) trace more
entry_more stepped counts old mid new b name queue n told more e one asked same named at did is =
    let next : n + 1 ≡ suc n = omega arith in
    let fits : EntryFits (counts old).homes b.queue queue e.ask did.trace one = subst (λ (c : HomeCounts). EntryFits c.homes b.queue queue e.ask did.trace one) same (subst (λ (k : List ℕ). EntryFits (counts mid).homes k queue e.ask did.trace one) named did.fits) in
    rw next (asked.0 ++ did.trace, path_append stepped old mid new asked.0 did.trace asked.1 did.path, (asked.0, did.trace, told, e, one, asked.2, at, fits, refl, is))

-- all entries were done
pub entries_done : {S : Type 0} (stepped : S → Ask → Result Gave Refusal → S → Type 0) (homes : ℕ) (old new : S) (b : BatchValue) (queue n : ℕ) (told : List EntryResult)
    → (trace : List Done) × Path stepped old trace new × EntriesFit homes b queue n trace told → n ≡ length b.entries → Performs stepped (BatchAt homes b queue) old (Ok (answer.Batch told)) new
entries_done stepped homes old new b queue n told asked all = record {
  trace = asked.0;
  path = asked.1;
  fits = inr (told, subst (λ (k : ℕ). EntriesFit homes b queue k asked.0 told) all asked.2, refl);
}
