-- A queue that is found was made by its name.
use Rattle.std.proofs.Common.{sym, subst, inl, inr, ◌≡◌, ◌⊎◌, ℕ, zero, suc, Bool, true, false, not, cond, List, [], ◌∷◌, ◌++◌, length, refl, ap, ◌∙◌, Option, Some, None, slice_get}
use Rattle.sq_base.specs.StampValue.{StampValue}
use Rattle.sq_base.specs.Stamps.{Below, start}
use Rattle.sq_base.proofs.StampLaws.{after_above_first, below_trans}
use Rattle.sq_directory.specs.Makers.{IsSeen, IsMadeBy, IsAnsweredByName, name_asked, queue_answered}
use Rattle.std.specs.Prelude.{filter, find, if◌then◌else◌, option_map, IfSome}
use Rattle.std.proofs.lemmas.Slice.Eq.{bytes_eq-Decides}
use Rattle.sq_model.specs.declared.event.Event.{Event}
use Rattle.sq_model.specs.declared.directory.Attributes.{Attributes}
use Rattle.sq_model.specs.declared.directory.Queue.{Queue}
use Rattle.sq_model.specs.declared.directory.QueueSettings.{QueueSettings}
use Rattle.sq_model.specs.declared.directory.DirectoryCall.{DirectoryCall}
use Rattle.sq_model.specs.declared.directory.DirectoryCall.TheVariants as asks
use Rattle.sq_model.specs.declared.directory.DirectoryReply.{DirectoryReply}
use Rattle.sq_model.specs.declared.directory.DirectoryReply.TheVariants as answers
use Rattle.sq_model.specs.Directories.{Directory, Creates, DirectoryStep, changed_queue, has_name, number_named, new_queue, opening_directory, queue_of, with_attributes}
use Rattle.sq_model.specs.Replays.{Replays, StampsRise}
use Rattle.sq_model.specs.Systems.{DirectoryEvent}
use Rattle.sq_model.specs.Matches.{IsCreate}
use Rattle.sq_directory.specs.DirectoryHistory.{DirectoryHistory}
use Rattle.sq_model.specs.declared.directory.QueueAttributes.{QueueAttributes}
use Rattle.sq_model.specs.declared.event.Actor.{Actor}
use Rattle.sq_model.specs.RecordValues.{DirectoryRecordValue}
use Rattle.sq_directory.specs.DirectoryHistories.{DirectoryRecords, IsDirectoryKept, directory_event}
use Rattle.sq_model.proofs.ElementLaws.{get_cases, get_mapped, get_new, get_old, some_same}

pub seen_below : (a b c : StampValue) → IsSeen a b → Below b c → Below a c
seen_below a b c (inl h) below = subst (λ (x : StampValue). Below x c) (sym h) below
seen_below a b c (inr h) below = below_trans a b c h below

pub seen_trans : (a b c : StampValue) → IsSeen a b → IsSeen b c → IsSeen a c
seen_trans a b c ab bc = elim bc [ inl same ↦ subst (λ (s : StampValue). IsSeen a s) same ab | inr below ↦ inr (seen_below a b c ab below) ]

pub made_later : (directory : List DirectoryEvent) (a b : StampValue) (name : List ℕ) (queue : ℕ) → IsMadeBy directory a name queue → IsSeen a b → IsMadeBy directory b name queue
made_later directory a b name queue made seen = (made.0, made.1, made.2, seen_trans made.1.stamp a b made.3 seen, made.4)

-- ---- what is found in a list

find_in : {X : Type 0} (p : X → Bool) (xs : List X) (x : X) → find p xs ≡ Some x → (k : ℕ) × (slice_get xs k ≡ Some x) × (p x ≡ true)
find_in p [] x h = absurd cc
find_in {X} p (y ∷ ys) x h =
    elim (p y) as (λ b. p y ≡ b → cond b (Some y) (find p ys) ≡ Some x → (k : ℕ) × (slice_get (y ∷ ys) k ≡ Some x) × (p x ≡ true)) [
      | true ↦ (λ e k. (zero, k, subst (λ (z : X). p z ≡ true) (some_same k) e))
      | false ↦ (λ e k. let r = find_in p ys x k in (suc r.0, r.1, r.2))
    ] refl h

-- what stands in a part of a list stands in the list
get_more : {X : Type 0} (xs ys : List X) (y : X) → ((k : ℕ) (x : X) → slice_get xs k ≡ Some x → (j : ℕ) × (slice_get ys j ≡ Some x)) → (k : ℕ) (x : X) → slice_get (y ∷ xs) k ≡ Some x → (j : ℕ) × (slice_get (y ∷ ys) j ≡ Some x)
get_more xs ys y f zero x h = (zero, h)
get_more xs ys y f (suc k) x h = let r = f k x h in (suc r.0, r.1)

get_filtered : {X : Type 0} (keep : X → Bool) (xs : List X) (k : ℕ) (x : X) → slice_get (filter keep xs) k ≡ Some x → (j : ℕ) × (slice_get xs j ≡ Some x)
get_filtered keep [] k x h = absurd cc
get_filtered {X} keep (y ∷ ys) k x h =
    elim (keep y) as (λ b. slice_get (cond b (y ∷ filter keep ys) (filter keep ys)) k ≡ Some x → (j : ℕ) × (slice_get (y ∷ ys) j ≡ Some x)) [
      | true ↦ (λ g. get_more (filter keep ys) ys y (get_filtered keep ys) k x g)
      | false ↦ (λ g. let r = get_filtered keep ys k x g in (suc r.0, r.1))
    ] h

-- ---- who made a queue

-- a queue of its name and number stands in a list
IsIn : List Queue → Queue → Type 0
IsIn queues x = (at : ℕ) × (y : Queue) × (slice_get queues at ≡ Some y) × (y.name ≡ x.name) × (y.number ≡ x.number)

-- the step made it
MadeIn : DirectoryCall → DirectoryReply → Queue → Type 0
MadeIn call reply x = (attributes : Attributes) × (made : QueueSettings) × (call ≡ asks.Create x.name attributes) × (reply ≡ answers.Made made) × (made.queue ≡ x.number)

in_same : (queues other : List Queue) (at : ℕ) (x : Queue) → other ≡ queues → slice_get other at ≡ Some x → IsIn queues x
unfolding IsIn
in_same queues other at x e h = (at, x, subst (λ (qs : List Queue). slice_get qs at ≡ Some x) e h, refl, refl)

creates_made : (d : Directory) (m : ℕ) (name : List ℕ) (given : Attributes) (found : Option Queue) (made : QueueSettings) (after : Directory) (at : ℕ) (x : Queue)
    → Creates d m name given found made after → slice_get after.queues at ≡ Some x → IsIn d.queues x ⊎ MadeIn (asks.Create name given) (answers.Made made) x
unfolding IsIn MadeIn
creates_made d m name given None made after at x h in_list =
    let last : slice_get (d.queues ++ new_queue d name given ∷ []) at ≡ Some x = subst (λ (a : Directory). slice_get a.queues at ≡ Some x) h.2 in_list in
    elim (get_cases d.queues (new_queue d name given) x at last) [
      | inl g ↦ inl (at, x, g, refl, refl)
      | inr g ↦ inr (given, made, ap (λ (q : Queue). asks.Create q.name given) (sym g.1), refl, ap (λ (q : QueueSettings). q.queue) h.1 ∙ ap (λ (q : Queue). q.number) (sym g.1))
    ]
creates_made d m name given (Some queue) made after at x h in_list = inl (in_same d.queues after.queues at x (ap (λ (a : Directory). a.queues) h.2) in_list)

-- a change that leaves name and number
record IsChange (change : Queue → Queue) : Type 0 where
  pub name : (q : Queue) → (change q).name ≡ q.name
  pub number : (q : Queue) → (change q).number ≡ q.number

one_name : (name : List ℕ) (change : Queue → Queue) (q : Queue) → IsChange change → (if has_name name q then change q else q).name ≡ q.name
one_name name change q c = elim (has_name name q) as (λ b. (if b then change q else q).name ≡ q.name) [ true ↦ c.name q | false ↦ refl ]

one_number : (name : List ℕ) (change : Queue → Queue) (q : Queue) → IsChange change → (if has_name name q then change q else q).number ≡ q.number
one_number name change q c = elim (has_name name q) as (λ b. (if b then change q else q).number ≡ q.number) [ true ↦ c.number q | false ↦ refl ]

changed_in : (queues : List Queue) (name : List ℕ) (change : Queue → Queue) (at : ℕ) (x : Queue) → IsChange change → slice_get (changed_queue name change queues) at ≡ Some x → IsIn queues x
unfolding IsIn
changed_in queues name change at x c h =
    let f : Queue → Queue = λ q. if has_name name q then change q else q in
    let r = get_mapped f queues at x h in
    (at, r.0, r.1, sym (ap (λ (q : Queue). q.name) r.2 ∙ one_name name change r.0 c), sym (ap (λ (q : Queue). q.number) r.2 ∙ one_number name change r.0 c))

step_made : (d : Directory) (m : ℕ) (call : DirectoryCall) (reply : DirectoryReply) (after : Directory) (at : ℕ) (x : Queue)
    → DirectoryStep d m call reply after → slice_get after.queues at ≡ Some x → IsIn d.queues x ⊎ MadeIn call reply x
unfolding DirectoryStep IsIn
step_made d m (asks.Create name given) (answers.Made made) after at x h in_list = creates_made d m name given (queue_of name d.queues) made after at x h in_list
step_made d m (asks.Set name given) (answers.Changed changed) after at x h in_list =
    inl (changed_in d.queues name (with_attributes d.queues given) at x (record { name = λ q. refl; number = λ q. refl }) (subst (λ (a : Directory). slice_get a.queues at ≡ Some x) h.5 in_list))
step_made d m (asks.Remove name) (answers.Removed number) after at x h in_list =
    let r = get_filtered (λ queue. not (has_name name queue)) d.queues at x (subst (λ (a : Directory). slice_get a.queues at ≡ Some x) h.3 in_list) in inl (r.0, x, r.1, refl, refl)
step_made d m (asks.PurgeTicket name) (answers.Ticket number) after at x h in_list =
    inl (changed_in d.queues name (λ q. record q { last_purge = Some m }) at x (record { name = λ q. refl; number = λ q. refl }) (subst (λ (a : Directory). slice_get a.queues at ≡ Some x) h.4 in_list))
step_made d m (asks.Url name) (answers.Found number) after at x h in_list = inl (in_same d.queues after.queues at x (ap (λ (a : Directory). a.queues) h.1) in_list)
step_made d m (asks.List prefix) (answers.Listed names) after at x h in_list = inl (in_same d.queues after.queues at x (ap (λ (a : Directory). a.queues) h.1) in_list)
step_made d m (asks.Sources name) (answers.Sources names) after at x h in_list = inl (in_same d.queues after.queues at x (ap (λ (a : Directory). a.queues) h.1) in_list)
step_made d m (asks.Read name) (answers.Read attributes) after at x h in_list = inl (in_same d.queues after.queues at x (ap (λ (a : Directory). a.queues) h.1) in_list)
step_made d m call reply after at x h in_list = elim h [ ]

-- by the names and numbers of both it is one queue
create_of : (e : DirectoryEvent) (y x : Queue) → y.name ≡ x.name → y.number ≡ x.number → IsCreate e y.name y.number → IsCreate e x.name x.number
create_of e y x name number h = subst (λ (n : ℕ). IsCreate e x.name n) number (subst (λ (text : List ℕ). IsCreate e text y.number) name h)

queues_made : (d : Directory) (es : List DirectoryEvent) (after : Directory) (at : ℕ) (x : Queue) → Replays DirectoryStep d es after → slice_get after.queues at ≡ Some x
    → IsIn d.queues x ⊎ ((k : ℕ) × (e : DirectoryEvent) × (slice_get es k ≡ Some e) × IsCreate e x.name x.number)
unfolding IsIn MadeIn
queues_made d [] after at x r in_list = inl (in_same d.queues after.queues at x (ap (λ (a : Directory). a.queues) r) in_list)
queues_made d (e ∷ es) after at x r in_list = elim (queues_made r.0 es after at x r.2 in_list) [
  | inl g ↦ elim (step_made d e.stamp.moment e.call e.reply r.0 g.0 g.1 r.1 g.2) [
    | inl h ↦ inl (h.0, h.1, h.2, h.3 ∙ g.3, h.4 ∙ g.4)
    | inr h ↦ inr (0, e, refl, create_of e g.1 x g.3 g.4 (record { attributes = h.0; made = h.1; call = h.2; reply = h.3; of_queue = h.4 }))
  ]
  | inr g ↦ inr (suc g.0, g.1, g.2, g.3)
]

last_above : {K R : Type 0} (low : StampValue) (es : List (Event K R)) (last : StampValue) → StampsRise low es last → IsSeen low last
last_above low [] last r = inl (sym r)
last_above low (e ∷ es) last r = seen_trans low e.stamp last (inr r.0) (last_above e.stamp es last r.1)

stamps_seen : {K R : Type 0} (low : StampValue) (es : List (Event K R)) (last : StampValue) (k : ℕ) (e : Event K R) → StampsRise low es last → slice_get es k ≡ Some e → IsSeen e.stamp last
stamps_seen low [] last k e r in_list = absurd cc
stamps_seen {K} {R} low (x ∷ es) last zero e r in_list = subst (λ (y : Event K R). IsSeen y.stamp last) (some_same in_list) (last_above x.stamp es last r.1)
stamps_seen low (x ∷ es) last (suc k) e r in_list = stamps_seen x.stamp es last k e r.1 in_list

-- the queue of a name has its number, and that name
number_found : (name : List ℕ) (queues : List Queue) (number : ℕ) → number_named name queues ≡ Some number → (x : Queue) × (queue_of name queues ≡ Some x) × (x.number ≡ number)
number_found name queues number h =
    elim (queue_of name queues) as (λ p. queue_of name queues ≡ p → option_map (λ queue. queue.number) p ≡ Some number → (x : Queue) × (queue_of name queues ≡ Some x) × (x.number ≡ number))
    [ Some x ↦ (λ e k. (x, e, some_same k)) | None ↦ (λ e k. absurd cc) ] refl h

-- a queue that is found was made by its name
pub found_made : (d : DirectoryHistory) (name : List ℕ) (number : ℕ) → IsDirectoryKept d → number_named name d.directory.queues ≡ Some number → IsMadeBy d.events d.last name number
unfolding IsIn
found_made d name number kept h =
    let found = number_found name d.directory.queues number h in
    let stands = find_in (has_name name) d.directory.queues found.0 found.1 in
    let named : found.0.name ≡ name = (bytes_eq-Decides found.0.name name).0 stands.2 in
    elim (queues_made (opening_directory d.directory.most) d.events d.directory stands.0 found.0 kept.replays stands.1) [
      | inl none ↦ absurd cc
      | inr made ↦ (
        made.0,
        made.1,
        made.2,
        stamps_seen start d.events d.last made.0 made.1 kept.rising made.2,
        subst (λ (n : ℕ). IsCreate made.1 name n) found.2 (subst (λ (text : List ℕ). IsCreate made.1 text found.0.number) named made.3),
      )
    ]

pub if_found : (d : DirectoryHistory) (name : List ℕ) (found : Option ℕ) → IsDirectoryKept d → found ≡ number_named name d.directory.queues → IfSome found (IsMadeBy d.events d.last name)
if_found d name (Some number) kept e = found_made d name number kept (sym e)
if_found d name None kept e = tt

-- ---- the queue that a step answers

-- the queue of the name that was asked is there, or the call made it
FoundOrMade : Directory → DirectoryCall → DirectoryReply → List ℕ → ℕ → Type 0
FoundOrMade d call reply name queue = (number_named name d.queues ≡ Some queue) ⊎ ((given : Attributes) × (made : QueueSettings) × (call ≡ asks.Create name given) × (reply ≡ answers.Made made) × (made.queue ≡ queue))

there_named : (queues : List Queue) (asked name : List ℕ) (number queue : ℕ) (q : Queue) → queue_of asked queues ≡ Some q → number ≡ q.number → Some asked ≡ Some name → Some number ≡ Some queue → number_named name queues ≡ Some queue
there_named queues asked name number queue q there is by of =
    subst (λ (k : List ℕ). number_named k queues ≡ Some queue) (some_same by) (ap (option_map (λ x. x.number)) there ∙ ap Some (sym is) ∙ of)

step_found : (d : Directory) (m : ℕ) (call : DirectoryCall) (reply : DirectoryReply) (after : Directory) (name : List ℕ) (queue : ℕ)
    → DirectoryStep d m call reply after → name_asked call ≡ Some name → queue_answered reply ≡ Some queue → FoundOrMade d call reply name queue
unfolding DirectoryStep FoundOrMade
step_found d m (asks.Create asked given) (answers.Made made) after name queue h by of = inr (given, made, ap (λ (k : List ℕ). asks.Create k given) (some_same by), refl, some_same of)
step_found d m (asks.Set asked given) (answers.Changed changed) after name queue h by of = inl (there_named d.queues asked name changed.queue queue h.0 h.1 (ap (λ (s : QueueSettings). s.queue) h.4) by of)
step_found d m (asks.Remove asked) (answers.Removed number) after name queue h by of = inl (there_named d.queues asked name number queue h.0 h.1 h.2 by of)
step_found d m (asks.PurgeTicket asked) (answers.Ticket number) after name queue h by of = inl (there_named d.queues asked name number queue h.0 h.1 h.3 by of)
step_found d m (asks.Url asked) (answers.Found number) after name queue h by of = inl (there_named d.queues asked name number queue h.0.0 h.0.1 h.0.2 by of)
step_found d m (asks.List prefix) (answers.Listed names) after name queue h by of = absurd cc
step_found d m (asks.Sources asked) (answers.Sources names) after name queue h by of = absurd cc
step_found d m (asks.Read asked) (answers.Read attributes) after name queue h by of = inl (there_named d.queues asked name attributes.queue queue h.0.0 h.0.1 (ap (λ (a : QueueAttributes). a.queue) h.0.2) by of)
step_found d m call reply after name queue h by of = elim h [ ]

-- what was made stands in the longer history, and not after a later stamp
made_more : (events : List DirectoryEvent) (event : DirectoryEvent) (a b : StampValue) (name : List ℕ) (queue : ℕ) → IsMadeBy events a name queue → IsSeen a b → IsMadeBy (events ++ event ∷ []) b name queue
made_more events event a b name queue made seen = (made.0, made.1, get_old events event made.1 made.0 made.2, seen_trans made.1.stamp a b made.3 seen, made.4)

-- the queue that a step answers was made by the name that was asked
pub answered_by_name : (old new : DirectoryHistory) (by : Actor) (now : ℕ) (call : DirectoryCall) (its_record : DirectoryRecordValue)
    → IsDirectoryKept old → DirectoryRecords old new by now call its_record → IsAnsweredByName new.events new.last call its_record.reply
unfolding FoundOrMade
answered_by_name old new by now call its_record kept more name queue asked of =
    let event = directory_event its_record.stamp by call its_record.reply in
    elim (step_found old.directory its_record.stamp.moment call its_record.reply new.directory name queue more.step asked of) [
      | inl found ↦ rw (more.events, more.last) (made_more old.events event old.last its_record.stamp name queue (found_made old name queue kept found) (inr (after_above_first old.last by.seen now its_record.stamp more.stamped)))
      | inr made ↦ rw (more.events, more.last) (length old.events, event, get_new old.events event, inl refl, record { attributes = made.0; made = made.1; call = made.2; reply = made.3; of_queue = made.4 })
    ]
