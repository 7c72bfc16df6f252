-- A step of a world, from what was done to its parts.
use Rattle.std.proofs.Common.{◌≡◌, ◌≢◌, ℕ, zero, suc, ◌*◌, ◌≤◌, List, [], ◌∷◌, length, refl, ap, sym, ◌∙◌, subst, inl, inr, arith, Option, Some, None, slice_get, slice_set, take}
use Rattle.std.specs.Prelude.{◌⊎◌, position, nat_le, if◌then◌else◌}
use Rattle.std.specs.List.{slice_index_or}
use Rattle.std.proofs.Math.Nat.{mul-le-mul_right}
use Rattle.std.proofs.lemmas.Option.{slice_get_read}
use Rattle.std.proofs.lemmas.List.{length-append}
use Rattle.sq_base.specs.Stamps.{stamp_end}
use Rattle.sq_base.specs.StampValue.{StampValue}
use Rattle.sq_base.specs.declared.ids.HomeId.{HomeId}
use Rattle.sq_base.specs.declared.refusal.Refusal.{Refusal}
use Rattle.sq_base.specs.declared.refusal.Refusal.TheVariants.{NoMemory, ClockRange, QueueDoesNotExist}
use Rattle.sq_model.specs.declared.place.Limits.{Limits}
use Rattle.sq_model.specs.declared.calls.HomeCall.{HomeCall}
use Rattle.sq_model.specs.declared.replies.HomeReply.{HomeReply}
use Rattle.sq_model.specs.declared.directory.DirectoryCall.{DirectoryCall}
use Rattle.sq_model.specs.declared.directory.DirectoryReply.{DirectoryReply}
use Rattle.sq_model.specs.declared.shared.SharedAct.{SharedAct}
use Rattle.sq_ledger.specs.LedgerHistory.{LedgerHistory}
use Rattle.sq_steps.specs.SharedSteps.{SharedMoves, IsUnmoved}
use Rattle.sq_steps.specs.declared.act.TaskAct.{TaskAct}
use Rattle.sq_steps.specs.TaskActs.{task_call}
use Rattle.sq_model.specs.declared.ledger.LedgerReply.{LedgerReply}
use Rattle.sq_model.specs.Replays.{HomeEvent}
use Rattle.sq_model.specs.RecordValues.{Journal, RecordValue}
use Rattle.sq_model.specs.Matches.{HomeHistory, IsHomeEvent}
use Rattle.sq_history.specs.HistoryValue.{HistoryValue}
use Rattle.sq_directory.specs.DirectoryHistory.{DirectoryHistory}
use Rattle.sq_steps.specs.Journals.{is_of_actor, new_journal, journal_of, index_in, opened, having_seen, put_journal, with_record, last_place, HomeMoves, DirectoryMoves, LedgerMoves, IsNotReady}
use Rattle.sq_merge.specs.WorldValue.{WorldValue}
use Rattle.sq_history.specs.HomeIds.{IsNumbered, home_index}
use Rattle.sq_audit.specs.HomeHistories.{home_history, histories_of}
use Rattle.sq_merge.specs.Worlds.{IsHomeOf, IsKeptWorld, HomeStepped, SharedStepped, NothingLeaves, DirectoryStepped, DirectoryRefused, LedgerStepped, LedgerRefused, having_seen_at}
use Rattle.sq_model.specs.declared.options.Options.{Options}
use Rattle.sq_merge.specs.Openings.{new_world}
use Rattle.sq_model.specs.Options.{limits_of, IsServed}
use Rattle.sq_history.specs.HomeIds.{never_opened, never_opened_homes}
use Rattle.sq_model.proofs.ElementLaws.{some_same, get_cases, get_mapped, get_within}
use Rattle.sq_steps.proofs.JournalListLaws.{journal_own, lost_there, opened_put, opened_is, kept_front}
use Rattle.sq_history.proofs.HomeIdLaws.{index_found, index_none}

-- a world as its fields are
abbrev pub as_fields : {fields w : WorldValue} → fields ≡ w → WorldValue
as_fields {fields} is = fields

-- the home at its index
home_is : (old : WorldValue) (id : HomeId) (place : ℕ) (before : HistoryValue) → IsNumbered old.per_queue old.homes → 1 ≤ id.queue → home_index old.per_queue (length old.homes) id ≡ Some place → before ≡ slice_index_or old.homes place before → IsHomeOf old id place before
home_is old id place before numbered least found is =
    let t = index_found old.per_queue (length old.homes) id place least found in
    let in_list : slice_get old.homes place ≡ Some before = slice_get_read old.homes (length old.homes) place before refl t.0 is in
    record { in_list = in_list; has_id = numbered place before in_list ∙ t.1 }

written_back : {X : Type 0} (xs : List X) (at : ℕ) (x : X) → slice_get xs at ≡ Some x → slice_set xs at x ≡ xs
written_back [] at x h = absurd cc
written_back (y ∷ ys) zero x h = ap (λ z. z ∷ ys) (sym (some_same h))
written_back (y ∷ ys) (suc at) x h = ap (λ zs. y ∷ zs) (written_back ys at x h)

-- why a step at a home is refused, by its own checks of the home and of what the actor has
abbrev pub IsRefusedAt : WorldValue → ℕ → ℕ → HomeId → Refusal → (HistoryValue → Journal → Type 0) → Type 0
IsRefusedAt w actor now id e Why =
    (((at : ℕ) (h : HistoryValue) → IsHomeOf w id at h → ⊥) × (e ≡ (if nat_le stamp_end now then ClockRange else QueueDoesNotExist)))
    ⊎ ((at : ℕ) × (h : HistoryValue) × IsHomeOf w id at h × Why h (journal_of actor w.journals))

new_is_not_worn : (actor : ℕ) → (new_journal actor).next ≢ last_place
new_is_not_worn actor e = omega (arith, e)

-- no memory was found for a record of an actor that is new
unmade : (actor now : ℕ) (journals : List Journal) → position (is_of_actor actor) journals ≡ None → IsNotReady (journal_of actor journals) now NoMemory
unmade actor now journals pos = subst (λ (b : Journal). IsNotReady b now NoMemory) (sym (lost_there actor journals pos)) (inr (new_is_not_worn actor, refl, refl))

-- some home is there
pub home_there : (old : WorldValue) (id : HomeId) (place : ℕ) → IsNumbered old.per_queue old.homes → 1 ≤ id.queue → home_index old.per_queue (length old.homes) id ≡ Some place
    → (at : ℕ) × (h : HistoryValue) × IsHomeOf old id at h
home_there old id place numbered least found =
    let t = index_found old.per_queue (length old.homes) id place least found in
    let home = get_within old.homes place t.0 in
    (place, home.0, record { in_list = home.1; has_id = numbered place home.0 home.1 ∙ t.1 })

-- there is no such home
pub refused_nowhere : (old : WorldValue) (actor now : ℕ) (id : HomeId) (e : Refusal) (Why : HistoryValue → Journal → Type 0) → IsNumbered old.per_queue old.homes → 1 ≤ old.per_queue → home_index old.per_queue (length old.homes) id ≡ None
    → e ≡ (if nat_le stamp_end now then ClockRange else QueueDoesNotExist) → IsRefusedAt old actor now id e Why
refused_nowhere old actor now id e Why numbered some none is = inl (λ at h home. index_none old.per_queue old.homes id some numbered none at h home.in_list home.has_id, is)

-- no memory was found for a new actor
pub refused_unmade : (old : WorldValue) (actor now : ℕ) (id : HomeId) (place : ℕ) (Why : HistoryValue → Journal → Type 0) → IsNumbered old.per_queue old.homes → 1 ≤ id.queue → home_index old.per_queue (length old.homes) id ≡ Some place
    → position (is_of_actor actor) old.journals ≡ None → ((h : HistoryValue) (mine : Journal) → IsNotReady mine now NoMemory → Why h mine) → IsRefusedAt old actor now id NoMemory Why
refused_unmade old actor now id place Why numbered least found pos unready =
    let home = home_there old id place numbered least found in
    inr (home.0, home.1, home.2, unready home.1 (journal_of actor old.journals) (unmade actor now old.journals pos))

-- what a step at a home found: the home at its index, and what the actor has
pub record IsOpened (old : WorldValue) (actor : ℕ) (id : HomeId) (place : ℕ) (before : HistoryValue) (mine : Journal) : Type 0 where
  pub home : IsHomeOf old id place before
  pub own : mine ≡ journal_of actor old.journals

pub opened_here : (old : WorldValue) (actor : ℕ) (id : HomeId) (place : ℕ) (before : HistoryValue) (mine : Journal) → IsNumbered old.per_queue old.homes → 1 ≤ id.queue → home_index old.per_queue (length old.homes) id ≡ Some place
    → before ≡ slice_index_or old.homes place before → mine ≡ slice_index_or (opened actor old.journals) (index_in actor old.journals) mine → IsOpened old actor id place before mine
opened_here old actor id place before mine numbered least found in_list own = record { home = home_is old id place before numbered least found in_list; own = opened_is actor old.journals mine own }

-- what an actor has with one record more stands where the actor was opened
recorded_put : (actor : ℕ) (journals : List Journal) (mine recorded_in : Journal) (n : RecordValue) → mine ≡ journal_of actor journals → recorded_in ≡ with_record mine n recorded_in.spare → slice_set (opened actor journals) (index_in actor journals) recorded_in ≡ put_journal recorded_in journals
recorded_put actor journals mine recorded_in n is recorded_as =
    opened_put actor recorded_in journals (ap (λ (b : Journal). b.actor) recorded_as ∙ ap (λ (b : Journal). b.actor) is ∙ journal_own actor journals)

-- an actor whose place was made, and taken back, leaves the others
pub closed_again : (actor : ℕ) (journals : List Journal) (mine : Journal) → mine ≡ journal_of actor journals → take (length journals) (slice_set (opened actor journals) (index_in actor journals) mine) ≡ journals
closed_again actor journals mine is =
    ap (λ (bs : List Journal). take (length journals) bs) (opened_put actor mine journals (ap (λ (b : Journal). b.actor) is ∙ journal_own actor journals)) ∙ kept_front actor mine journals is

-- the two steps at a home, alone and with the ledger
module _ {old : WorldValue} {actor : ℕ} {id : HomeId} {place : ℕ} {before : HistoryValue} {mine : Journal} (found : IsOpened old actor id place before mine) (now : ℕ) where
  pub stepped_opened : {name : Option (List ℕ)} {call : HomeCall} {reply : HomeReply} {after : HistoryValue} {recorded_in : Journal} → HomeMoves before after mine recorded_in now name call reply
      → HomeStepped old (record old { homes = slice_set old.homes place after; journals = slice_set (opened actor old.journals) (index_in actor old.journals) recorded_in }) actor now name id call reply
  stepped_opened {name} {call} {reply} {after} {recorded_in} moves = record {
    at = place;
    before = before;
    after = after;
    recorded_in = recorded_in;
    home = found.home;
    moves = subst (λ (b : Journal). HomeMoves before after b recorded_in now name call reply) found.own moves;
    changed = ap (λ (bs : List Journal). record old { homes = slice_set old.homes place after; journals = bs }) (recorded_put actor old.journals mine recorded_in _ found.own moves.recorded_as);
  }

  pub shared_opened : {name : Option (List ℕ)} {what : SharedAct} {reply : HomeReply} {after : HistoryValue} {ledger : LedgerHistory} {recorded_in : Journal} → SharedMoves before after old.ledger ledger mine recorded_in now name what reply
      → SharedStepped old (record old { ledger = ledger; homes = slice_set old.homes place after; journals = slice_set (opened actor old.journals) (index_in actor old.journals) recorded_in }) actor now name id what reply
  shared_opened {name} {what} {reply} {after} {ledger} {recorded_in} moves = record {
    at = place;
    before = before;
    after = after;
    ledger = ledger;
    recorded_in = recorded_in;
    home = found.home;
    moves = subst (λ (b : Journal). SharedMoves before after old.ledger ledger b recorded_in now name what reply) found.own moves;
    changed = ap (λ (bs : List Journal). record old { ledger = ledger; homes = slice_set old.homes place after; journals = bs }) (recorded_put actor old.journals mine recorded_in _ found.own moves.recorded_as);
  }

  pub nothing_opened : (what : SharedAct) → IsUnmoved before old.ledger mine now what → NothingLeaves old old actor now id what
  nothing_opened what unmoved = record {
    at = place;
    before = before;
    home = found.home;
    unmoved = subst (λ (b : Journal). IsUnmoved before old.ledger b now what) found.own unmoved;
    unchanged = refl;
  }

  -- where neither the home nor what the actor has is changed, all are as they were
  pub closed_opened : {after : HistoryValue} {recorded_in : Journal} → after ≡ before → recorded_in ≡ mine
      → (slice_set old.homes place after ≡ old.homes) × (take (length old.journals) (slice_set (opened actor old.journals) (index_in actor old.journals) recorded_in) ≡ old.journals)
  closed_opened same_home same_journal =
      (rw same_home (written_back old.homes place before found.home.in_list), rw same_journal (closed_again actor old.journals mine found.own))

  -- it is refused as its own checks say
  pub refused_opened : (e : Refusal) (Why : HistoryValue → Journal → Type 0) → Why before mine → IsRefusedAt old actor now id e Why
  refused_opened e Why why = inr (place, before, found.home, subst (λ (b : Journal). Why before b) found.own why)

-- ---- a step of the directory

pub directory_unmade : (old : WorldValue) (actor now : ℕ) (call : DirectoryCall) → position (is_of_actor actor) old.journals ≡ None → DirectoryRefused old actor now call NoMemory
directory_unmade old actor now call pos = inl (unmade actor now old.journals pos)

pub directory_opened : (old : WorldValue) (actor now : ℕ) (call : DirectoryCall) (reply : DirectoryReply) (after : DirectoryHistory) (mine recorded_in : Journal) → mine ≡ journal_of actor old.journals
    → DirectoryMoves old.directory after mine recorded_in now call reply
    → DirectoryStepped old (record old { directory = after; journals = slice_set (opened actor old.journals) (index_in actor old.journals) recorded_in }) actor now call reply
directory_opened old actor now call reply after mine recorded_in is moves = record {
  after = after;
  recorded_in = recorded_in;
  moves = subst (λ (b : Journal). DirectoryMoves old.directory after b recorded_in now call reply) is moves;
  changed = ap (λ (bs : List Journal). record old { directory = after; journals = bs }) (recorded_put actor old.journals mine recorded_in _ is moves.recorded_as);
}

-- ---- a step of the ledger alone

pub ledger_unmade : (old : WorldValue) (actor now : ℕ) (what : TaskAct) → position (is_of_actor actor) old.journals ≡ None → LedgerRefused old actor now what NoMemory
ledger_unmade old actor now what pos = inl (unmade actor now old.journals pos)

pub ledger_opened : (old : WorldValue) (actor now : ℕ) (what : TaskAct) (reply : LedgerReply) (after : LedgerHistory) (mine recorded_in : Journal) → mine ≡ journal_of actor old.journals
    → LedgerMoves old.ledger after mine recorded_in now (task_call what) reply
    → LedgerStepped old (record old { ledger = after; journals = slice_set (opened actor old.journals) (index_in actor old.journals) recorded_in }) actor now what reply
ledger_opened old actor now what reply after mine recorded_in is moves = record {
  after = after;
  recorded_in = recorded_in;
  moves = subst (λ (b : Journal). LedgerMoves old.ledger after b recorded_in now (task_call what) reply) is moves;
  changed = ap (λ (bs : List Journal). record old { ledger = after; journals = bs }) (recorded_put actor old.journals mine recorded_in _ is moves.recorded_as);
}

-- ---- a part is read

pub seen_opened : (old : WorldValue) (actor : ℕ) (last : StampValue) (mine : Journal) → mine ≡ slice_index_or (opened actor old.journals) (index_in actor old.journals) mine
    → record old { journals = slice_set (opened actor old.journals) (index_in actor old.journals) (having_seen mine last) } ≡ having_seen_at old actor last
seen_opened old actor last mine own =
    rw (opened_is actor old.journals mine own) (ap (λ (bs : List Journal). record old { journals = bs }) (opened_put actor (having_seen (journal_of actor old.journals) last) old.journals (journal_own actor old.journals)))

length_opened : (per_queue : ℕ) (limits : Limits) (n : ℕ) → length (never_opened_homes per_queue limits n) ≡ n
length_opened per_queue limits zero = refl
length_opened per_queue limits (suc n) = omega (arith, length-append (never_opened_homes per_queue limits n) (never_opened per_queue limits n ∷ []), length_opened per_queue limits n)

opened_at : (per_queue : ℕ) (limits : Limits) (n at : ℕ) (h : HistoryValue) → slice_get (never_opened_homes per_queue limits n) at ≡ Some h → h ≡ never_opened per_queue limits at
opened_at per_queue limits zero at h in_list = absurd cc
opened_at per_queue limits (suc n) at h in_list = elim (get_cases (never_opened_homes per_queue limits n) (never_opened per_queue limits n) h at in_list) [
  | inl g ↦ opened_at per_queue limits n at h g
  | inr g ↦ g.1 ∙ ap (never_opened per_queue limits) (sym (length_opened per_queue limits n) ∙ sym g.0)
]

opening_empty : (per_queue : ℕ) (limits : Limits) (n j k : ℕ) (h : HomeHistory) (e : HomeEvent) → IsHomeEvent (histories_of (never_opened_homes per_queue limits n)) j k h e → ⊥
opening_empty per_queue limits n j k h e at =
    let t = get_mapped home_history (never_opened_homes per_queue limits n) j h at.in_homes in
    let none : h.events ≡ [] = ap (λ (x : HomeHistory). x.events) t.2 ∙ ap (λ (x : HistoryValue). x.events) (opened_at per_queue limits n j t.0 t.1) in
    let k2 = rw none at at.in_events in cc

pub few_new : (o : Options) → IsServed o → length (never_opened_homes o.homes (limits_of o) (o.queues * o.homes)) ≤ 16384
few_new o served =
    let most : o.queues * o.homes ≤ 1024 * o.homes = mul-le-mul_right o.homes served.queues.1 in
    omega (arith, length_opened o.homes (limits_of o) (o.queues * o.homes), most, served.homes.1)

-- a world that begins
pub kept_new : (o : Options) → IsKeptWorld (new_world o)
unfolding new_world
kept_new o = record {
  numbered = λ at h in_list. ap (λ (x : HistoryValue). x.site.home) (opened_at o.homes (limits_of o) (o.queues * o.homes) at h in_list);
  has_its_event = λ b i journal n h. let k = h.in_journals in absurd cc;
  directory_recorded = λ k e h. absurd cc;
  ledger_recorded = λ k e h own. absurd cc;
  homes_recorded = λ j k h e at. absurd (opening_empty o.homes (limits_of o) (o.queues * o.homes) j k h e at);
  exact = λ b i journal n h. let k = h.in_journals in absurd cc;
  counted = λ b journal h. absurd cc;
  distinct = tt;
  paired = record {
    in_ledger = λ j k h e there shared. absurd (opening_empty o.homes (limits_of o) (o.queues * o.homes) j k h e there);
    in_home = λ k e there shared. absurd cc;
  };
}
