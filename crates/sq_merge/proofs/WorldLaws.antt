-- Records and events stay of each other in each step.
use Rattle.std.proofs.Common.{◌≡◌, ◌⊎◌, ℕ, List, [], ◌∷◌, ◌++◌, length, true, false, refl, ap, sym, ◌∙◌, subst, inl, inr, arith, Option, Some, None, slice_get, slice_set}
use Rattle.std.proofs.lemmas.List.{length-append}
use Rattle.sq_base.specs.StampValue.{StampValue}
use Rattle.sq_base.specs.Stamps.{Below}
use Rattle.sq_base.proofs.StampLaws.{after_above_second}
use Rattle.sq_base.specs.declared.ids.HomeId.{HomeId}
use Rattle.sq_model.specs.declared.event.Actor.{Actor}
use Rattle.sq_model.specs.declared.calls.HomeCall.{HomeCall}
use Rattle.sq_model.specs.declared.replies.HomeReply.{HomeReply}
use Rattle.sq_model.specs.declared.directory.DirectoryCall.{DirectoryCall}
use Rattle.sq_model.specs.declared.directory.DirectoryReply.{DirectoryReply}
use Rattle.sq_model.specs.declared.place.Site.{Site}
use Rattle.sq_model.specs.declared.shared.SharedAct.{SharedAct}
use Rattle.sq_model.specs.Ledgers.{LedgerEvent, is_own}
use Rattle.sq_model.specs.declared.ledger.LedgerReply.{LedgerReply}
use Rattle.sq_steps.specs.declared.act.TaskAct.{TaskAct}
use Rattle.sq_steps.specs.declared.act.TaskAct.TheVariants.{Start, Cancel, List as ListOf, Finish}
use Rattle.sq_steps.specs.TaskActs.{task_call}
use Rattle.sq_model.specs.Replays.{HomeEvent}
use Rattle.sq_model.specs.Systems.{DirectoryEvent, as_ledger, is_alone}
use Rattle.sq_model.specs.RecordValues.{HomeRecordValue, DirectoryRecordValue, LedgerRecordValue, RecordValue, OfDirectory, OfLedger, OfHome, place_of_record, Journal, actor_of, record_of, directory_record_of, home_record_of}
use Rattle.sq_model.specs.Matches.{HomeHistory, IsHomeEvent, IsRecordAt, IsNamed, HasItsEvent, IsRecorded, IsOfDirectory, IsOfLedger, IsOfHome, IsMatched, IsPaired, InHome, InLedger}
use Rattle.sq_history.specs.HistoryValue.{HistoryValue}
use Rattle.sq_history.specs.Acts.{call_of}
use Rattle.sq_history.specs.Histories.{new_event, new_record}
use Rattle.sq_history.specs.declared.act.HomeAct.{HomeAct}
use Rattle.sq_history.specs.declared.act.HomeAct.TheVariants.{Close}
use Rattle.sq_ledger.specs.LedgerHistory.{LedgerHistory}
use Rattle.sq_ledger.specs.LedgerHistories.{own_event, shared_event}
use Rattle.sq_directory.specs.DirectoryHistories.{directory_event}
use Rattle.sq_steps.specs.Journals.{new_journal, journal_of, put_journal, with_record, having_seen}
use Rattle.sq_merge.specs.WorldValue.{WorldValue}
use Rattle.sq_merge.specs.declared.progress.ActorProgress.{ActorProgress}
use Rattle.sq_history.specs.HomeIds.{home_id}
use Rattle.sq_audit.specs.HomeHistories.{home_history, histories_of}
use Rattle.sq_merge.specs.Worlds.{IsKeptWorld, HomeStepped, SharedStepped, DirectoryStepped, LedgerStepped, having_seen_at}
use Rattle.sq_merge.specs.inside.Worlds.{IsKnown}
use Rattle.sq_directory.proofs.MakerLaws.{seen_below}
use Rattle.sq_model.proofs.ElementLaws.{get_old, get_new, get_cases, get_map, get_mapped, get_same, set_cases, set_kept}
use Rattle.sq_steps.proofs.JournalListLaws.{journal_there, journal_own, put_cases, put_there, put_kept, put_distinct}
use Rattle.sq_audit.proofs.CheckLaws.{fits_match}

-- what was there is there, with more events
record Grown (homes : List HomeHistory) (j : ℕ) (old : HomeHistory) : Type 0 where
  new : HomeHistory
  in_list : slice_get homes j ≡ Some new
  same : new.home ≡ old.home
  more : (k : ℕ) (e : HomeEvent) → slice_get old.events k ≡ Some e → slice_get new.events k ≡ Some e

named_grows : (ds ds2 : List DirectoryEvent) (n : HomeRecordValue) (name : Option (List ℕ)) → ((k : ℕ) (e : DirectoryEvent) → slice_get ds k ≡ Some e → slice_get ds2 k ≡ Some e) → IsNamed ds n name → IsNamed ds2 n name
named_grows ds ds2 n None grow h = tt
named_grows ds ds2 n (Some name) grow h = (h.0, h.1, grow h.0 h.1 h.2, h.3, h.4)

its_event_stays : (ds ds2 : List DirectoryEvent) (ls ls2 : List LedgerEvent) (hs hs2 : List HomeHistory) (actor : ℕ) (n : RecordValue)
    → ((k : ℕ) (e : DirectoryEvent) → slice_get ds k ≡ Some e → slice_get ds2 k ≡ Some e)
    → ((k : ℕ) (e : LedgerEvent) → slice_get ls k ≡ Some e → slice_get ls2 k ≡ Some e)
    → ((j : ℕ) (h : HomeHistory) → slice_get hs j ≡ Some h → Grown hs2 j h)
    → HasItsEvent ds ls hs actor n → HasItsEvent ds2 ls2 hs2 actor n
its_event_stays ds ds2 ls ls2 hs hs2 actor (OfDirectory n) grow more grown h = (h.0, grow n.index h.0 h.1, h.2, h.3)
its_event_stays ds ds2 ls ls2 hs hs2 actor (OfLedger n) grow more grown h = (h.0, more n.index h.0 h.1, h.2, h.3, h.4)
its_event_stays ds ds2 ls ls2 hs hs2 actor (OfHome n) grow more grown h =
    let g = grown h.0 h.1 h.3.in_homes in
    (h.0, g.new, h.2, record { in_homes = g.in_list; in_events = g.more n.index h.2 h.3.in_events }, h.4, subst (λ (x : HomeId). n ≡ home_record_of x n.index n.name h.2) (sym g.same) h.5, named_grows ds ds2 n n.name grow h.6)

-- a record that was there is there after a change of what its actor has, which keeps its records
recorded_kept : (journals : List Journal) (actor : ℕ) (recorded_in : Journal) (a : ℕ) (P : RecordValue → Type 0) → recorded_in.actor ≡ actor
    → ((i : ℕ) (m : RecordValue) → slice_get (journal_of actor journals).records i ≡ Some m → slice_get recorded_in.records i ≡ Some m)
    → IsRecorded journals a P → IsRecorded (put_journal recorded_in journals) a P
recorded_kept journals actor recorded_in a P own more h =
    elim (put_kept recorded_in journals h.at h.journal h.in_list.in_journals) [
      | inl k ↦ record { at = h.at; index = h.index; journal = h.journal; its_record = h.its_record; in_list = record { in_journals = k; in_records = h.in_list.in_records }; of_actor = h.of_actor; of_event = h.of_event }
      | inr k ↦ (
          let is : h.journal ≡ journal_of actor journals = k.0 ∙ ap (λ (n : ℕ). journal_of n journals) own in
          record {
            at = h.at;
            index = h.index;
            journal = recorded_in;
            its_record = h.its_record;
            in_list = record { in_journals = k.1; in_records = more h.index h.its_record (subst (λ (b : Journal). slice_get b.records h.index ≡ Some h.its_record) is h.in_list.in_records) };
            of_actor = own ∙ sym (journal_own actor journals) ∙ sym (ap (λ (b : Journal). b.actor) is) ∙ h.of_actor;
            of_event = h.of_event;
          })
    ]

-- the new one is there
new_recorded : (journals : List Journal) (actor : ℕ) (n : RecordValue) (spare : ℕ) (P : RecordValue → Type 0) → P n → IsRecorded (put_journal (with_record (journal_of actor journals) n spare) journals) actor P
new_recorded journals actor n spare P p =
    let t = put_there (with_record (journal_of actor journals) n spare) journals in
    record { at = t.0; index = length (journal_of actor journals).records; journal = with_record (journal_of actor journals) n spare; its_record = n; in_list = record { in_journals = t.1; in_records = get_new (journal_of actor journals).records n }; of_actor = journal_own actor journals; of_event = p }

-- a record that was there before, of the same actor
record WasRecord (journals : List Journal) (i : ℕ) (actor : ℕ) (m : RecordValue) : Type 0 where
  at : ℕ
  journal : Journal
  in_list : IsRecordAt journals at i journal m
  own : journal.actor ≡ actor

was_own : (journals : List Journal) (actor i : ℕ) (m : RecordValue) → slice_get (journal_of actor journals).records i ≡ Some m → WasRecord journals i actor m
was_own journals actor i m h = elim (journal_there actor journals) [
  | inl t ↦ record { at = t.0; journal = journal_of actor journals; in_list = record { in_journals = t.1; in_records = h }; own = journal_own actor journals }
  | inr none ↦ (let k : slice_get (new_journal actor).records i ≡ Some m = subst (λ (b : Journal). slice_get b.records i ≡ Some m) none h in absurd cc)
]

-- a record after a step was there, or is the new one
old_or_new : (journals : List Journal) (actor : ℕ) (n : RecordValue) (spare : ℕ) (b i : ℕ) (x : Journal) (m : RecordValue) → IsRecordAt (put_journal (with_record (journal_of actor journals) n spare) journals) b i x m
    → WasRecord journals i x.actor m ⊎ ((x.actor ≡ actor) × (i ≡ length (journal_of actor journals).records) × (m ≡ n))
old_or_new journals actor n spare b i x m h = elim (put_cases (with_record (journal_of actor journals) n spare) journals b x h.in_journals) [
  | inl k ↦ inl (record { at = b; journal = x; in_list = record { in_journals = k; in_records = h.in_records }; own = refl })
  | inr same ↦ (
      let own : x.actor ≡ actor = ap (λ (y : Journal). y.actor) same ∙ journal_own actor journals in
      elim (get_cases (journal_of actor journals).records n m i (subst (λ (y : Journal). slice_get y.records i ≡ Some m) same h.in_records)) [
        | inl g ↦ inl (subst (λ (a : ℕ). WasRecord journals i a m) (sym own) (was_own journals actor i m g))
        | inr g ↦ inr (own, g.0, g.1)
      ])
]

-- the numbers of an actor's records are those of their indices
journal_counted : (journals : List Journal) (actor : ℕ) → ((b : ℕ) (journal : Journal) → slice_get journals b ≡ Some journal → journal.next ≡ length journal.records) → (journal_of actor journals).next ≡ length (journal_of actor journals).records
journal_counted journals actor counted = elim (journal_there actor journals) [
  | inl t ↦ counted t.0 (journal_of actor journals) t.1
  | inr none ↦ rw none refl
]

exact_more : (w : WorldValue) (actor : ℕ) (n : RecordValue) (spare : ℕ) → IsKeptWorld w → place_of_record n ≡ (journal_of actor w.journals).next → (b i : ℕ) (x : Journal) (m : RecordValue) → IsRecordAt (put_journal (with_record (journal_of actor w.journals) n spare) w.journals) b i x m → place_of_record m ≡ i
exact_more w actor n spare kept place b i x m h = elim (old_or_new w.journals actor n spare b i x m h) [
  | inl was ↦ kept.exact was.at i was.journal m was.in_list
  | inr new ↦ ap place_of_record new.2 ∙ place ∙ journal_counted w.journals actor kept.counted ∙ sym new.1
]

counted_more : (w : WorldValue) (actor : ℕ) (n : RecordValue) (spare : ℕ) → IsKeptWorld w → (b : ℕ) (x : Journal) → slice_get (put_journal (with_record (journal_of actor w.journals) n spare) w.journals) b ≡ Some x → x.next ≡ length x.records
counted_more w actor n spare kept b x h = elim (put_cases (with_record (journal_of actor w.journals) n spare) w.journals b x h) [
  | inl k ↦ kept.counted b x k
  | inr same ↦ rw same (omega (arith, length-append (journal_of actor w.journals).records (n ∷ []), journal_counted w.journals actor kept.counted))
]

-- An actor has one record more.
module _ (old : WorldValue) (actor : ℕ) (its_record : RecordValue) (spare : ℕ) where
  abbrev with_one : List Journal
  with_one = put_journal (with_record (journal_of actor old.journals) its_record spare) old.journals

  -- what was recorded is
  one_stays : (a : ℕ) (P : RecordValue → Type 0) → IsRecorded old.journals a P → IsRecorded with_one a P
  one_stays a P h = recorded_kept old.journals actor (with_record (journal_of actor old.journals) its_record spare) a P (journal_own actor old.journals) (λ i m g. get_old (journal_of actor old.journals).records its_record m i g) h

  -- each record has its event, where the new one has and no event is gone
  one_has_event : IsKeptWorld old → (ds : List DirectoryEvent) (ls : List LedgerEvent) (hs : List HomeHistory)
      → ((k : ℕ) (e : DirectoryEvent) → slice_get old.directory.events k ≡ Some e → slice_get ds k ≡ Some e)
      → ((k : ℕ) (e : LedgerEvent) → slice_get old.ledger.events k ≡ Some e → slice_get ls k ≡ Some e)
      → ((j : ℕ) (h : HomeHistory) → slice_get (histories_of old.homes) j ≡ Some h → Grown hs j h)
      → HasItsEvent ds ls hs actor its_record → (b i : ℕ) (journal : Journal) (n : RecordValue) → IsRecordAt with_one b i journal n → HasItsEvent ds ls hs journal.actor n
  one_has_event kept ds ls hs grow more grown has b i journal n h = elim (old_or_new old.journals actor its_record spare b i journal n h) [
    | inl was ↦ subst (λ (a : ℕ). HasItsEvent ds ls hs a n) was.own
        (its_event_stays old.directory.events ds old.ledger.events ls (histories_of old.homes) hs was.journal.actor n grow more grown (kept.has_its_event was.at i was.journal n was.in_list))
    | inr new ↦ subst (λ (a : ℕ). HasItsEvent ds ls hs a n) (sym new.0) (subst (λ (m : RecordValue). HasItsEvent ds ls hs actor m) (sym new.2) has)
  ]

  -- each event of a part is recorded, where one stands there more and the new record is of it
  one_recorded : {E : Type 0} (events : List E) (event : E) (actor_in : E → ℕ) (IsOf : ℕ → E → RecordValue → Type 0) → actor_in event ≡ actor → IsOf (length events) event its_record
      → (k : ℕ) (e : E) → (slice_get events k ≡ Some e → IsRecorded old.journals (actor_in e) (IsOf k e)) → slice_get (events ++ event ∷ []) k ≡ Some e → IsRecorded with_one (actor_in e) (IsOf k e)
  one_recorded {E} events event actor_in IsOf own is k e was h = elim (get_cases events event e k h) [
    | inl g ↦ one_stays (actor_in e) (IsOf k e) (was g)
    | inr g ↦ subst (λ (x : E). IsRecorded with_one (actor_in x) (IsOf k x)) (sym g.1)
        (subst (λ (i : ℕ). IsRecorded with_one (actor_in event) (IsOf i event)) (sym g.0)
        (subst (λ (a : ℕ). IsRecorded with_one a (IsOf (length events) event)) (sym own) (new_recorded old.journals actor its_record spare (IsOf (length events) event) is)))
  ]

-- the last event of a part stands where its record says
last_there : {E N : Type 0} (events after : List E) (event : E) (record_for : ℕ → E → N) (n : N) (at : ℕ) → at ≡ length events → after ≡ events ++ event ∷ [] → n ≡ record_for (length events) event
    → (slice_get after at ≡ Some event) × (n ≡ record_for at event)
last_there {E} {N} events after event record_for n at index grown is = rw (index, grown) (get_new events event, is)

-- the name that a record has
named_by : (ds : List DirectoryEvent) (journal : Journal) (its_record : HomeRecordValue) (name : Option (List ℕ)) → Below journal.seen its_record.stamp → IsKnown ds journal name its_record.home.queue → IsNamed ds its_record name
named_by ds journal its_record None above h = tt
named_by ds journal its_record (Some name) above h = (h.0, h.1, h.2, seen_below h.1.stamp journal.seen its_record.stamp h.3 above, h.4)

same_record : (its_record : HomeRecordValue) (by : Actor) (home other : HomeId) (len : ℕ) (call : HomeCall) (name : Option (List ℕ))
    → its_record ≡ new_record its_record.stamp by home len call its_record.reply name → other ≡ home → its_record ≡ home_record_of other its_record.index its_record.name (new_event its_record.stamp by home call its_record.reply)
same_record its_record by home other len call name recorded_in same =
    let event = new_event its_record.stamp by home call its_record.reply in
    subst (λ (h : HomeId). its_record ≡ home_record_of h its_record.index its_record.name event) (sym same)
    (subst (λ (i : ℕ). its_record ≡ home_record_of home i its_record.name event) (sym (ap (λ (n : HomeRecordValue). n.index) recorded_in))
    (subst (λ (x : Option (List ℕ)). its_record ≡ home_record_of home len x event) (sym (ap (λ (n : HomeRecordValue). n.name) recorded_in)) recorded_in))

-- One event more stands in the history of a home, and its record is what its actor keeps of it. The ledger is now this one.
record OneMore (old : WorldValue) (actor here : ℕ) (before after : HistoryValue) (name : Option (List ℕ)) (call : HomeCall) (its_record : HomeRecordValue) (ledger : LedgerHistory) : Type 0 where
  in_list : slice_get old.homes here ≡ Some before
  site : after.site ≡ before.site
  events : after.events ≡ before.events ++ new_event its_record.stamp (actor_of (journal_of actor old.journals)) before.site.home call its_record.reply ∷ []
  record_is : its_record ≡ new_record its_record.stamp (actor_of (journal_of actor old.journals)) before.site.home (length before.events) call its_record.reply name
  named : IsNamed old.directory.events its_record name
  -- what stood in the ledger's history stands there, and nothing more that is its own
  grows : (k : ℕ) (e : LedgerEvent) → slice_get old.ledger.events k ≡ Some e → slice_get ledger.events k ≡ Some e
  own_as_before : (k : ℕ) (e : LedgerEvent) → slice_get ledger.events k ≡ Some e → is_own e.call ≡ true → slice_get old.ledger.events k ≡ Some e

module _ (old : WorldValue) (actor here : ℕ) (before after : HistoryValue) (name : Option (List ℕ)) (call : HomeCall) (its_record : HomeRecordValue) (spare : ℕ) (ledger : LedgerHistory) (kept : IsKeptWorld old) (s : OneMore old actor here before after name call its_record ledger) where
  abbrev by : Actor
  by = actor_of (journal_of actor old.journals)

  abbrev event : HomeEvent
  event = new_event its_record.stamp by before.site.home call its_record.reply

  abbrev homes : List HistoryValue
  homes = slice_set old.homes here after

  abbrev journals : List Journal
  journals = put_journal (with_record (journal_of actor old.journals) (OfHome its_record) spare) old.journals

  same_home : after.site.home ≡ before.site.home
  same_home = ap (λ (x : _). x.home) s.site

  home_grown : (j : ℕ) (h : HomeHistory) → slice_get (histories_of old.homes) j ≡ Some h → Grown (histories_of homes) j h
  home_grown j h in_list =
      let t = get_mapped home_history old.homes j h in_list in
      elim (set_kept old.homes here j before after t.0 s.in_list t.1) [
        | inl k ↦ record { new = h; in_list = rw t.2 (get_map home_history homes j t.0 k.1); same = refl; more = λ n e g. g }
        | inr k ↦ record {
          new = home_history after;
          in_list = get_map home_history homes j after k.2;
          same = rw (t.2, k.1) same_home;
          more = λ n e g. rw s.events (get_old before.events event e n (subst (λ (x : HomeHistory). slice_get x.events n ≡ Some e) (t.2 ∙ ap home_history k.1) g));
        }
      ]

  new_has_event : HasItsEvent old.directory.events ledger.events (histories_of homes) actor (OfHome its_record)
  new_has_event = (
    here,
    home_history after,
    event,
    record {
      in_homes = get_map home_history homes here after (get_same old.homes here before after s.in_list);
      in_events = subst (λ (es : List HomeEvent). slice_get es its_record.index ≡ Some event) (sym s.events)
          (subst (λ (k : ℕ). slice_get (before.events ++ event ∷ []) k ≡ Some event) (sym (ap (λ (n : HomeRecordValue). n.index) s.record_is)) (get_new before.events event));
    },
    journal_own actor old.journals,
    same_record its_record by before.site.home after.site.home (length before.events) call name s.record_is same_home,
    subst (λ (x : Option (List ℕ)). IsNamed old.directory.events its_record x) (sym (ap (λ (n : HomeRecordValue). n.name) s.record_is)) s.named,
  )

  stays : (a : ℕ) (P : RecordValue → Type 0) → IsRecorded old.journals a P → IsRecorded journals a P
  stays a P h = one_stays old actor (OfHome its_record) spare a P h

  of_after : (k : ℕ) (e : HomeEvent) → slice_get after.events k ≡ Some e → IsRecorded journals e.actor (IsOfHome after.site.home k e)
  of_after k e h =
      let index = ap (λ (n : HomeRecordValue). n.index) s.record_is in
      let is : IsOfHome after.site.home (length before.events) event (OfHome its_record) = (its_record.name, ap OfHome (subst (λ (x : ℕ). its_record ≡ home_record_of after.site.home x its_record.name event) index (same_record its_record by before.site.home after.site.home (length before.events) call name s.record_is same_home))) in
      one_recorded old actor (OfHome its_record) spare before.events event (λ x. x.actor) (IsOfHome after.site.home) (journal_own actor old.journals) is k e
      (λ g. subst (λ (x : HomeId). IsRecorded old.journals e.actor (IsOfHome x k e)) (sym same_home) (kept.homes_recorded here k (home_history before) e (record { in_homes = get_map home_history old.homes here before s.in_list; in_events = g })))
      (rw s.events at h)

  all_recorded : (j k : ℕ) (h : HomeHistory) (e : HomeEvent) → IsHomeEvent (histories_of homes) j k h e → IsRecorded journals e.actor (IsOfHome h.home k e)
  all_recorded j k h e at =
      let t = get_mapped home_history homes j h at.in_homes in
      let in_events : slice_get t.0.events k ≡ Some e = subst (λ (x : HomeHistory). slice_get x.events k ≡ Some e) t.2 at.in_events in
      elim (set_cases old.homes here j before after t.0 s.in_list t.1) [
        | inl g ↦ rw t.2 (stays e.actor (IsOfHome t.0.site.home k e) (kept.homes_recorded j k (home_history t.0) e (record { in_homes = get_map home_history old.homes j t.0 g.1; in_events = in_events })))
        | inr g ↦ rw (t.2, g.1) (of_after k e (rw g.1 at in_events))
      ]

  numbered : (at : ℕ) (h : HistoryValue) → slice_get homes at ≡ Some h → h.site.home ≡ home_id old.per_queue at
  numbered at h in_list = elim (set_cases old.homes here at before after h s.in_list in_list) [
    | inl g ↦ kept.numbered at h g.1
    | inr g ↦ rw (g.1, ← g.0) (same_home ∙ kept.numbered here before s.in_list)
  ]

  -- what was shared has its partner as before
  partner_stays : (e : LedgerEvent) → InHome (histories_of old.homes) e → InHome (histories_of homes) e
  partner_stays e h =
      let g = home_grown h.0 h.2 h.4.in_homes in
      (h.0, h.1, g.new, h.3, record { in_homes = g.in_list; in_events = g.more h.1 h.3 h.4.in_events }, h.5, h.6 ∙ ap (λ (x : HomeId). as_ledger x h.3) (sym g.same))

  entry_stays : (home : HomeId) (e : HomeEvent) → InLedger old.ledger.events home e → InLedger ledger.events home e
  entry_stays home e h = (h.0, s.grows h.0 (as_ledger home e) h.1)

  -- where the new event is shared, it stands in the ledger's history, and else nothing new does
  pairs : (is_alone call ≡ false → InLedger ledger.events before.site.home event) → ((k : ℕ) (e : LedgerEvent) → slice_get ledger.events k ≡ Some e → (slice_get old.ledger.events k ≡ Some e) ⊎ (is_own e.call ≡ false → InHome (histories_of homes) e)) → IsPaired ledger.events (histories_of homes)
  pairs entered known = record {
    in_ledger = λ j k h e there shared. (
        let t = get_mapped home_history homes j h there.in_homes in
        let in_events : slice_get t.0.events k ≡ Some e = subst (λ (x : HomeHistory). slice_get x.events k ≡ Some e) t.2 there.in_events in
        elim (set_cases old.homes here j before after t.0 s.in_list t.1) [
          | inl g ↦ rw t.2 (entry_stays t.0.site.home e (kept.paired.in_ledger j k (home_history t.0) e (record { in_homes = get_map home_history old.homes j t.0 g.1; in_events = in_events }) shared))
          | inr g ↦ rw (t.2, g.1, same_home) (elim (get_cases before.events event e k (rw s.events at (rw g.1 at in_events))) [
            | inl was ↦ entry_stays before.site.home e (kept.paired.in_ledger here k (home_history before) e (record { in_homes = get_map home_history old.homes here before s.in_list; in_events = was }) shared)
            | inr new ↦ rw new.1 (entered (subst (λ (x : HomeEvent). is_alone x.call ≡ false) new.1 shared))
          ])
        ]);
    in_home = λ k e there shared. elim (known k e there) [ inl was ↦ partner_stays e (kept.paired.in_home k e was shared) | inr new ↦ new shared ];
  }

  -- the new event stands there
  event_there : IsHomeEvent (histories_of homes) here (length before.events) (home_history after) event
  event_there = record {
    in_homes = get_map home_history homes here after (get_same old.homes here before after s.in_list);
    in_events = subst (λ (es : List HomeEvent). slice_get es (length before.events) ≡ Some event) (sym s.events) (get_new before.events event);
  }

  kept_with : IsPaired ledger.events (histories_of homes) → IsKeptWorld (record old { ledger = ledger; homes = homes; journals = journals })
  kept_with paired = record {
    numbered = numbered;
    has_its_event = one_has_event old actor (OfHome its_record) spare kept old.directory.events ledger.events (histories_of homes) (λ k e g. g) s.grows home_grown new_has_event;
    directory_recorded = λ k e h. stays e.actor (IsOfDirectory k e) (kept.directory_recorded k e h);
    ledger_recorded = λ k e h own. stays e.actor (IsOfLedger k e) (kept.ledger_recorded k e (s.own_as_before k e h own) own);
    homes_recorded = all_recorded;
    exact = exact_more old actor (OfHome its_record) spare kept (ap (λ (n : HomeRecordValue). n.place) s.record_is);
    counted = counted_more old actor (OfHome its_record) spare kept;
    distinct = put_distinct (with_record (journal_of actor old.journals) (OfHome its_record) spare) old.journals kept.distinct;
    paired = paired;
  }

-- the record of a step of a home by a name that its actor knows
named_at : (old : WorldValue) (actor : ℕ) (name : Option (List ℕ)) (id home : HomeId) (its_record : HomeRecordValue) → Below (journal_of actor old.journals).seen its_record.stamp → IsKnown old.directory.events (journal_of actor old.journals) name id.queue
    → its_record.home ≡ home → home ≡ id → IsNamed old.directory.events its_record name
named_at old actor name id home its_record above known of_home has_id =
    named_by old.directory.events (journal_of actor old.journals) its_record name above
    (subst (λ (q : ℕ). IsKnown old.directory.events (journal_of actor old.journals) name q) (sym (ap (λ (x : HomeId). x.queue) (of_home ∙ has_id))) known)

acts_are_alone : (act : HomeAct) → is_alone (call_of act) ≡ true
acts_are_alone Close = refl
acts_are_alone act = refl

-- a step of a home alone
pub kept_home : (old : WorldValue) (actor now : ℕ) (name : Option (List ℕ)) (id : HomeId) (act : HomeAct) (reply : HomeReply) (new : WorldValue) → IsKeptWorld old → IsKnown old.directory.events (journal_of actor old.journals) name id.queue
    → HomeStepped old new actor now name id (call_of act) reply → IsKeptWorld new
kept_home old actor now name id act reply new kept known s =
    let its_record = s.moves.its_record in
    let does = s.moves.does in
    let above = after_above_second s.before.last (journal_of actor old.journals).seen now its_record.stamp does.stamped in
    let more : OneMore old actor s.at s.before s.after name (call_of act) its_record old.ledger = record {
      in_list = s.home.in_list;
      site = does.site;
      events = does.events;
      record_is = does.record_is;
      named = named_at old actor name id s.before.site.home its_record above known (ap (λ (n : HomeRecordValue). n.home) does.record_is) s.home.has_id;
      grows = λ k e h. h;
      own_as_before = λ k e h own. h;
    } in
    let paired = pairs old actor s.at s.before s.after name (call_of act) its_record s.recorded_in.spare old.ledger kept more (λ shared. let k : true ≡ false = sym (acts_are_alone act) ∙ shared in cc) (λ k e h. inl h) in
    rw (s.changed, s.moves.recorded_as) (kept_with old actor s.at s.before s.after name (call_of act) its_record s.recorded_in.spare old.ledger kept more paired)

-- a step that a home shares with the ledger
pub kept_shared : (old : WorldValue) (actor now : ℕ) (name : Option (List ℕ)) (id : HomeId) (what : SharedAct) (reply : HomeReply) (new : WorldValue) → IsKeptWorld old → IsKnown old.directory.events (journal_of actor old.journals) name id.queue
    → SharedStepped old new actor now name id what reply → IsKeptWorld new
kept_shared old actor now name id what reply new kept known s =
    let its_record = s.moves.its_record in
    let at_home = s.moves.both.at_home in
    let in_ledger = s.moves.both.in_ledger in
    let entry = shared_event its_record.stamp (actor_of (journal_of actor old.journals)) s.before.site.home its_record.call its_record.reply in
    let more : OneMore old actor s.at s.before s.after name its_record.call its_record s.ledger = record {
      in_list = s.home.in_list;
      site = at_home.site;
      events = at_home.events;
      record_is = at_home.record_is;
      named = named_at old actor name id s.before.site.home its_record at_home.above_seen known (ap (λ (n : HomeRecordValue). n.home) at_home.record_is) s.home.has_id;
      grows = λ k e h. rw in_ledger.events (get_old old.ledger.events entry e k h);
      own_as_before = λ k e h own. elim (get_cases old.ledger.events entry e k (rw in_ledger.events at h)) [ inl was ↦ was | inr new ↦ (let k : false ≡ true = subst (λ (x : LedgerEvent). is_own x.call ≡ true) new.1 own in cc) ];
    } in
    let event = new_event its_record.stamp (actor_of (journal_of actor old.journals)) s.before.site.home its_record.call its_record.reply in
    let entered : InLedger s.ledger.events s.before.site.home event = (length old.ledger.events, rw in_ledger.events (get_new old.ledger.events entry)) in
    let there = event_there old actor s.at s.before s.after name its_record.call its_record s.recorded_in.spare s.ledger kept more in
    let same : s.after.site.home ≡ s.before.site.home = ap (λ (x : Site). x.home) at_home.site in
    let partner : InHome (histories_of (slice_set old.homes s.at s.after)) entry = (s.at, length s.before.events, home_history s.after, event, there, at_home.shared, ap (λ (x : HomeId). as_ledger x event) (sym same)) in
    let paired =
    pairs old actor s.at s.before s.after name its_record.call its_record s.recorded_in.spare s.ledger kept more (λ shared. entered)
    (λ k e h. elim (get_cases old.ledger.events entry e k (rw in_ledger.events at h)) [ inl was ↦ inl was | inr new ↦ inr (λ shared. rw new.1 partner) ]) in
    rw (s.changed, s.moves.recorded_as) (kept_with old actor s.at s.before s.after name its_record.call its_record s.recorded_in.spare s.ledger kept more paired)

as_it_was : (homes : List HomeHistory) (j : ℕ) (h : HomeHistory) → slice_get homes j ≡ Some h → Grown homes j h
as_it_was homes j h there = record { new = h; in_list = there; same = refl; more = λ k e g. g }

-- a step of the directory
pub kept_directory : (old : WorldValue) (actor now : ℕ) (call : DirectoryCall) (reply : DirectoryReply) (new : WorldValue) → IsKeptWorld old → DirectoryStepped old new actor now call reply → IsKeptWorld new
kept_directory old actor now call reply new kept s =
    let n = s.moves.its_record in
    let is = s.moves.does.record_is in
    let grown = s.moves.does.events in
    let event = directory_event n.stamp (actor_of (journal_of actor old.journals)) call n.reply in
    let own = journal_own actor old.journals in
    let last = last_there old.directory.events s.after.events event directory_record_of n n.index (ap (λ (m : DirectoryRecordValue). m.index) is) grown is in
    let stays = one_stays old actor (OfDirectory n) s.recorded_in.spare in
    rw (s.changed, s.moves.recorded_as) (record {
      numbered = kept.numbered;
      has_its_event = one_has_event old actor (OfDirectory n) s.recorded_in.spare kept s.after.events old.ledger.events (histories_of old.homes) (λ k e h. rw grown (get_old old.directory.events event e k h)) (λ k e h. h) (as_it_was (histories_of old.homes)) (event, last.0, own, last.1);
      directory_recorded = λ k e h. one_recorded old actor (OfDirectory n) s.recorded_in.spare old.directory.events event (λ x. x.actor) IsOfDirectory own (ap OfDirectory is) k e (kept.directory_recorded k e) (rw grown at h);
      ledger_recorded = λ k e h own. stays e.actor (IsOfLedger k e) (kept.ledger_recorded k e h own);
      homes_recorded = λ j k h e at. stays e.actor (IsOfHome h.home k e) (kept.homes_recorded j k h e at);
      exact = exact_more old actor (OfDirectory n) s.recorded_in.spare kept (ap (λ (m : DirectoryRecordValue). m.place) is);
      counted = counted_more old actor (OfDirectory n) s.recorded_in.spare kept;
      distinct = put_distinct (with_record (journal_of actor old.journals) (OfDirectory n) s.recorded_in.spare) old.journals kept.distinct;
      paired = kept.paired;
    })

acts_are_own : (what : TaskAct) → is_own (task_call what) ≡ true
acts_are_own (Start asked) = refl
acts_are_own (Cancel number) = refl
acts_are_own (ListOf source most) = refl
acts_are_own (Finish number) = refl

-- what is shared has its partner as before, where the new event is not shared
own_paired : (events : List LedgerEvent) (homes : List HomeHistory) (event : LedgerEvent) → is_own event.call ≡ true → IsPaired events homes → IsPaired (events ++ event ∷ []) homes
own_paired events homes event own paired = record {
  in_ledger = λ j k h e there shared. (let was = paired.in_ledger j k h e there shared in (was.0, get_old events event (as_ledger h.home e) was.0 was.1));
  in_home = λ k e there shared. elim (get_cases events event e k there) [
    | inl was ↦ paired.in_home k e was shared
    | inr new ↦ (let k : true ≡ false = sym own ∙ subst (λ (x : LedgerEvent). is_own x.call ≡ false) new.1 shared in absurd cc)
  ];
}

-- a step of the ledger alone
pub kept_ledger : (old : WorldValue) (actor now : ℕ) (what : TaskAct) (reply : LedgerReply) (new : WorldValue) → IsKeptWorld old → LedgerStepped old new actor now what reply → IsKeptWorld new
kept_ledger old actor now what reply new kept s =
    let n = s.moves.its_record in
    let is = s.moves.does.record_is in
    let grown = s.moves.does.events in
    let event = own_event n.stamp (actor_of (journal_of actor old.journals)) (task_call what) n.reply in
    let own = journal_own actor old.journals in
    let last = last_there old.ledger.events s.after.events event record_of n n.index (ap (λ (m : LedgerRecordValue). m.index) is) grown is in
    let stays = one_stays old actor (OfLedger n) s.recorded_in.spare in
    rw (s.changed, s.moves.recorded_as) (record {
      numbered = kept.numbered;
      has_its_event = one_has_event old actor (OfLedger n) s.recorded_in.spare kept old.directory.events s.after.events (histories_of old.homes) (λ k e h. h) (λ k e h. rw grown (get_old old.ledger.events event e k h)) (as_it_was (histories_of old.homes)) (event, last.0, acts_are_own what, own, last.1);
      directory_recorded = λ k e h. stays e.actor (IsOfDirectory k e) (kept.directory_recorded k e h);
      ledger_recorded = λ k e h alone. one_recorded old actor (OfLedger n) s.recorded_in.spare old.ledger.events event (λ x. x.actor) IsOfLedger own (ap OfLedger is) k e (λ was. kept.ledger_recorded k e was alone) (rw grown at h);
      homes_recorded = λ j k h e at. stays e.actor (IsOfHome h.home k e) (kept.homes_recorded j k h e at);
      exact = exact_more old actor (OfLedger n) s.recorded_in.spare kept (ap (λ (m : LedgerRecordValue). m.place) is);
      counted = counted_more old actor (OfLedger n) s.recorded_in.spare kept;
      distinct = put_distinct (with_record (journal_of actor old.journals) (OfLedger n) s.recorded_in.spare) old.journals kept.distinct;
      paired = rw grown (own_paired old.ledger.events (histories_of old.homes) event (acts_are_own what) kept.paired);
    })

-- an actor that has read the directory has the same records
read_was : (journals : List Journal) (actor : ℕ) (stamp : StampValue) (b i : ℕ) (x : Journal) (m : RecordValue) → IsRecordAt (put_journal (having_seen (journal_of actor journals) stamp) journals) b i x m → WasRecord journals i x.actor m
read_was journals actor stamp b i x m h = elim (put_cases (having_seen (journal_of actor journals) stamp) journals b x h.in_journals) [
  | inl k ↦ record { at = b; journal = x; in_list = record { in_journals = k; in_records = h.in_records }; own = refl }
  | inr same ↦ subst (λ (a : ℕ). WasRecord journals i a m) (sym (ap (λ (y : Journal). y.actor) same ∙ journal_own actor journals)) (was_own journals actor i m (subst (λ (y : Journal). slice_get y.records i ≡ Some m) same h.in_records))
]

-- an actor that has seen a stamp
pub kept_seen : (w : WorldValue) (actor : ℕ) (stamp : StampValue) → IsKeptWorld w → IsKeptWorld (having_seen_at w actor stamp)
kept_seen w actor stamp kept =
    let recorded_in = having_seen (journal_of actor w.journals) stamp in
    let stays = λ (a : ℕ) (P : RecordValue → Type 0) (h : IsRecorded w.journals a P). recorded_kept w.journals actor recorded_in a P (journal_own actor w.journals) (λ i m g. g) h in
    record {
      numbered = kept.numbered;
      has_its_event = λ b i x m h. let was = read_was w.journals actor stamp b i x m h in subst (λ (a : ℕ). HasItsEvent w.directory.events w.ledger.events (histories_of w.homes) a m) was.own (kept.has_its_event was.at i was.journal m was.in_list);
      directory_recorded = λ k e h. stays e.actor (IsOfDirectory k e) (kept.directory_recorded k e h);
      ledger_recorded = λ k e h own. stays e.actor (IsOfLedger k e) (kept.ledger_recorded k e h own);
      homes_recorded = λ j k h e at. stays e.actor (IsOfHome h.home k e) (kept.homes_recorded j k h e at);
      exact = λ b i x m h. let was = read_was w.journals actor stamp b i x m h in kept.exact was.at i was.journal m was.in_list;
      counted = λ b x h. elim (put_cases recorded_in w.journals b x h) [ inl k ↦ kept.counted b x k | inr same ↦ rw same (journal_counted w.journals actor kept.counted) ];
      distinct = put_distinct recorded_in w.journals kept.distinct;
      paired = kept.paired;
    }

-- how far the turns of an actor are is no record and no event
pub kept_progress : (w : WorldValue) (progress : List ActorProgress) → IsKeptWorld w → IsKeptWorld (record w { progress = progress })
kept_progress w progress kept = record {
  numbered = kept.numbered;
  has_its_event = kept.has_its_event;
  directory_recorded = kept.directory_recorded;
  ledger_recorded = kept.ledger_recorded;
  homes_recorded = kept.homes_recorded;
  exact = kept.exact;
  counted = kept.counted;
  distinct = kept.distinct;
  paired = kept.paired;
}

-- what a world leaves is matched
pub kept_matched : (w : WorldValue) → IsKeptWorld w → IsMatched w.directory.events w.ledger.events (histories_of w.homes) w.journals
kept_matched w kept =
    fits_match w.directory.events w.ledger.events (histories_of w.homes) w.journals kept.distinct (λ b i journal n h. (kept.exact b i journal n h, kept.has_its_event b i journal n h)) kept.directory_recorded kept.ledger_recorded kept.homes_recorded
