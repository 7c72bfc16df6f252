-- Where all records and events fit, all is matched; and what is wrong excludes that.
use Rattle.std.proofs.Common.{◌≡◌, ◌≢◌, ◌⊎◌, ℕ, zero, suc, ◌+◌, ◌*◌, ◌/◌, ◌%◌, ◌<◌, ◌≤◌, List, [], ◌∷◌, length, refl, ap, sym, ◌∙◌, subst, inl, inr, arith, Option, Some, None, slice_get, true, false}
use Rattle.std.specs.Prelude.{nat_eq, position, if◌then◌else◌}
use Rattle.std.specs.List.{slice_index_or}
use Rattle.std.proofs.lemmas.Bool.{eqb-true}
use Rattle.std.proofs.Math.Nat.{mod-add-div}
use Rattle.std.proofs.lemmas.Bool.Decides.{eqb_tells, leb_tells}
use Rattle.std.proofs.lemmas.Option.{slice_get_within, slice_get_read}
use Rattle.sq_base.specs.Stamps.{Below}
use Rattle.sq_base.specs.declared.ids.HomeId.{HomeId}
use Rattle.sq_model.specs.declared.calls.HomeCall.{HomeCall}
use Rattle.sq_model.specs.declared.calls.HomeCall.TheVariants.{LeaveDead, LeaveDrain, LeaveTask, Enter, TurnBack, GiveBack, Drop}
use Rattle.sq_model.specs.declared.ledger.LedgerCall.{LedgerCall}
use Rattle.sq_model.specs.declared.ledger.LedgerCall.TheVariants.{AtHome, StartTask, CancelTask, ListTasks, FinishTask}
use Rattle.sq_model.specs.declared.ledger.LedgerReply.{LedgerReply}
use Rattle.sq_model.specs.declared.place.Component.TheVariants as component
use Rattle.sq_model.specs.Passages.{is_alone, is_leave}
use Rattle.sq_model.specs.Replays.{HomeEvent, Replays}
use Rattle.sq_model.specs.Systems.{DirectoryEvent, as_ledger}
use Rattle.sq_model.specs.RecordValues.{HomeRecordValue, DirectoryRecordValue, LedgerRecordValue, RecordValue, OfDirectory, OfLedger, OfHome, place_of_record, record_stamp, Journal, RecordsRise, record_of, directory_record_of, home_record_of}
use Rattle.sq_model.specs.Matches.{HomeHistory, IsHomeEvent, IsRecordAt, IsNamed, HasItsEvent, IsRecorded, IsOfDirectory, IsOfLedger, IsOfHome, IsMatched, IsPaired, InLedger as IsInLedger, InHome as IsInHome, is_of_item, is_shared_as}
use Rattle.sq_laws.proofs.PairLaws.{leaves_matched, items_matched}
use Rattle.sq_history.specs.HistoryValue.{HistoryValue}
use Rattle.sq_model.specs.Ledgers.{Ledger, LedgerEvent, LedgerStep, is_own}
use Rattle.sq_history.specs.HomeIds.{home_id, IsNumbered, home_index}
use Rattle.sq_audit.specs.HomeHistories.{home_history, histories_of}
use Rattle.sq_steps.specs.Journals.{AreDistinct, RecordsRiseAt, is_of_actor}
use Rattle.sq_audit.specs.declared.check.AuditFault.{AuditFault}
use Rattle.sq_audit.specs.declared.check.AuditFault.TheVariants.{NoMemory, RecordMissing, RecordTwice, LeaveUnmatched, EnterUnmatched}
use Rattle.sq_audit.specs.declared.check.Part.TheVariants as part
use Rattle.sq_audit.specs.Faults.{EventIndex, InDirectory, InLedger, InHome, IsBy, HasNoRecord, Gap, TwoEvents, IsWrong}
use Rattle.sq_audit.specs.inside.Faults.{RecordFits, DirectoryFits, LedgerFits, HomeFits, LedgerHas, unmatched, IsRecordFault, IsAt, IsRecordedAt, IsEventFault, EventFits, HasEventFault, IsWithoutPartner, HasPartner}
use Rattle.sq_history.specs.Histories.{IsKept}
use Rattle.sq_log.specs.Events.{IsEventAt}
use Rattle.sq_history.specs.Events.{HasHomeEvent}
use Rattle.sq_model.proofs.ElementLaws.{some_same, get_map, get_mapped, all_get}
use Rattle.sq_steps.proofs.JournalListLaws.{journal_own, found_is, journal_once, same_place}
use Rattle.sq_audit.proofs.ListLaws.{all_at}
use Rattle.sq_history.proofs.HomeIdLaws.{index_found, place_back, index_none}

differing : (j i : ℕ) → j ≢ i → (j < i) ⊎ (j ≡ i) ⊎ (i < j)
differing j i ne = elim (leb_tells i j) as (λ _. (j < i) ⊎ (j ≡ i) ⊎ (i < j)) [ inl p ↦ inr (inr (let le : i ≤ j = p.1 in omega (arith, le, ne))) | inr p ↦ inl (omega (arith, p.1)) ]

pub nat_compare : (j i : ℕ) → (j < i) ⊎ (j ≡ i) ⊎ (i < j)
nat_compare j i = elim (eqb_tells j i) as (λ _. (j < i) ⊎ (j ≡ i) ⊎ (i < j)) [ inl p ↦ inr (inl p.1) | inr p ↦ differing j i p.1 ]

get_below : {X : Type 0} (xs : List X) (k j : ℕ) (x : X) → slice_get xs k ≡ Some x → j ≤ k → (y : X) × (slice_get xs j ≡ Some y)
get_below [] k j x h le = absurd cc
get_below (z ∷ zs) k zero x h le = (z, refl)
get_below (z ∷ zs) zero (suc j) x h le = absurd (omega (arith, le))
get_below (z ∷ zs) (suc k) (suc j) x h le = get_below zs k j x h (omega (arith, le))

-- a later record has the higher number and the higher stamp
pub records_rise : (ns : List RecordValue) → RecordsRise ns → (i j : ℕ) (n m : RecordValue) → i < j → slice_get ns i ≡ Some n → slice_get ns j ≡ Some m → (place_of_record n < place_of_record m) × Below (record_stamp n) (record_stamp m)
records_rise [] rise i j n m lt h g = absurd cc
records_rise (z ∷ zs) rise i zero n m lt h g = absurd (omega (arith, lt))
records_rise (z ∷ zs) rise zero (suc j) n m lt h g = subst (λ (x : RecordValue). (place_of_record x < place_of_record m) × Below (record_stamp x) (record_stamp m)) (some_same h) (all_get _ zs rise.0 j m g)
records_rise (z ∷ zs) rise (suc i) (suc j) n m lt h g = records_rise zs rise.1 i j n m (omega (arith, lt)) h g

pub home_id_once : (per_queue j i : ℕ) → home_id per_queue j ≡ home_id per_queue i → j ≡ i
home_id_once per_queue j i e =
    let q : j / per_queue + 1 ≡ i / per_queue + 1 = ap (λ (x : HomeId). x.queue) e in
    let r : j % per_queue ≡ i % per_queue = ap (λ (x : HomeId). x.home) e in
    let p : j / per_queue ≡ i / per_queue = omega (arith, q) in
    sym (mod-add-div j per_queue) ∙ ap (λ (n : ℕ). j % per_queue + per_queue * n) p ∙ ap (λ (n : ℕ). n + per_queue * (i / per_queue)) r ∙ mod-add-div i per_queue

-- a home is known by its index
numbered_home : (per_queue : ℕ) (homes : List HistoryValue) → IsNumbered per_queue homes → (j : ℕ) (h : HomeHistory) → slice_get (histories_of homes) j ≡ Some h → h.home ≡ home_id per_queue j
numbered_home per_queue homes numbered j h in_list =
    let t = get_mapped home_history homes j h in_list in
    ap (λ (x : HomeHistory). x.home) t.2 ∙ numbered j t.0 t.1

-- and is there once
pub home_once : (per_queue : ℕ) (homes : List HistoryValue) → IsNumbered per_queue homes → (j i : ℕ) (h g : HomeHistory) → slice_get (histories_of homes) j ≡ Some h → slice_get (histories_of homes) i ≡ Some g → h.home ≡ g.home → j ≡ i
home_once per_queue homes numbered j i h g in_list too same =
    home_id_once per_queue j i (sym (numbered_home per_queue homes numbered j h in_list) ∙ same ∙ numbered_home per_queue homes numbered i g too)

-- the place of a home, both ways
home_at : (per_queue count : ℕ) (id : HomeId) (place : ℕ) → 1 ≤ id.queue → home_index per_queue count id ≡ Some place → id ≡ home_id per_queue place
home_at per_queue count id place least h = sym (index_found per_queue count id place least h).1

home_back : (per_queue count : ℕ) (id : HomeId) (place : ℕ) → 1 ≤ per_queue → place < count → id ≡ home_id per_queue place → home_index per_queue count id ≡ Some place
home_back per_queue count id place some within is = rw is (place_back per_queue count place some within)

pub home_test : (per_queue count : ℕ) (id : HomeId) (at place : ℕ) → 1 ≤ id.queue → 1 ≤ per_queue → place < count → home_index per_queue count id ≡ Some at
    → (nat_eq at place ≡ true → id ≡ home_id per_queue place) × (id ≡ home_id per_queue place → nat_eq at place ≡ true)
home_test per_queue count id at place least some within h = (
  λ e. subst (λ (n : ℕ). id ≡ home_id per_queue n) (eqb-true at place e) (home_at per_queue count id at least h),
  λ e. same_place at place (some_same (sym h ∙ home_back per_queue count id place some within e)),
)

-- the home at an index
pub read_home : (homes : List HistoryValue) (j : ℕ) (h : HistoryValue) → j < length homes → h ≡ slice_index_or homes j h → slice_get (histories_of homes) j ≡ Some (home_history h)
read_home homes j h lt is = get_map home_history homes j h (slice_get_read homes (length homes) j h refl lt is)

-- the record at an index
pub read_record : (journals : List Journal) (b i : ℕ) (journal : Journal) (n : RecordValue) → b < length journals → journal ≡ slice_index_or journals b journal → slice_get journal.records i ≡ Some n → IsRecordAt journals b i journal n
read_record journals b i journal n lt is own = record { in_journals = slice_get_read journals (length journals) b journal refl lt is; in_records = own }

-- a record of a home that is not there did not happen
pub no_event_found : (per_queue : ℕ) (homes : List HistoryValue) (d : List DirectoryEvent) (l : List LedgerEvent) (a : ℕ) (n : HomeRecordValue) → 1 ≤ per_queue → 1 ≤ n.home.queue → IsNumbered per_queue homes → home_index per_queue (length homes) n.home ≡ None → HasItsEvent d l (histories_of homes) a (OfHome n) → ⊥
no_event_found per_queue homes d l a n some least numbered none h =
    let t = get_mapped home_history homes h.0 h.1 h.3.in_homes in
    index_none per_queue homes n.home some numbered none h.0 t.0 t.1 (sym (ap (λ (m : HomeRecordValue). m.home) h.5 ∙ ap (λ (x : HomeHistory). x.home) t.2))

module _ (per_queue : ℕ) (homes : List HistoryValue) (d : List DirectoryEvent) (l : List LedgerEvent) (a : ℕ) (n : HomeRecordValue) (place : ℕ) (home : HistoryValue) (numbered : IsNumbered per_queue homes) (least : 1 ≤ n.home.queue) (found : home_index per_queue (length homes) n.home ≡ Some place) (is : home ≡ slice_index_or homes place home) where
  home_there : slice_get homes place ≡ Some home
  home_there = slice_get_read homes (length homes) place home refl (index_found per_queue (length homes) n.home place least found).0 is

  home_own : n.home ≡ home.site.home
  home_own = home_at per_queue (length homes) n.home place least found ∙ sym (numbered place home home_there)

  -- a record of the home at an index happened
  pub did_happen : HasHomeEvent home.events a n → IsNamed d n n.name → HasItsEvent d l (histories_of homes) a (OfHome n)
  did_happen h named = (
    place,
    home_history home,
    h.0,
    record { in_homes = get_map home_history homes place home home_there; in_events = h.1 },
    h.2,
    h.3 ∙ ap (λ (x : HomeId). home_record_of x n.index n.name h.0) home_own,
    named,
  )

  pub finds_its_event : HasItsEvent d l (histories_of homes) a (OfHome n) → HasHomeEvent home.events a n × IsNamed d n n.name
  finds_its_event h =
      let at : h.0 ≡ place = home_once per_queue homes numbered h.0 place h.1 (home_history home) h.3.in_homes (get_map home_history homes place home home_there) (sym (ap (λ (m : HomeRecordValue). m.home) h.5) ∙ home_own) in
      let same : h.1 ≡ home_history home = some_same (sym h.3.in_homes ∙ ap (slice_get (histories_of homes)) at ∙ get_map home_history homes place home home_there) in (
        (h.2, subst (λ (x : HomeHistory). slice_get x.events n.index ≡ Some h.2) same h.3.in_events, h.4, h.5 ∙ ap (λ (x : HomeId). home_record_of x n.index n.name h.2) (sym (ap (λ (m : HomeRecordValue). m.home) h.5))),
        h.6,
      )

-- a record is one of its actor
recorded_by : (journals : List Journal) (b i : ℕ) (journal : Journal) (n : RecordValue) (P : RecordValue → Type 0) → IsRecordAt journals b i journal n → P n → IsRecorded journals journal.actor P
recorded_by journals b i journal n P in_list p = record { at = b; index = i; journal = journal; its_record = n; in_list = in_list; of_actor = refl; of_event = p }

-- a record of which something else is known
pub recorded_as : (journals : List Journal) (a c : ℕ) (P Q : RecordValue → Type 0) (x : IsRecorded journals a P) → a ≡ c → Q x.its_record → IsRecorded journals c Q
recorded_as journals a c P Q x same q = record { at = x.at; index = x.index; journal = x.journal; its_record = x.its_record; in_list = x.in_list; of_actor = x.of_actor ∙ same; of_event = q }

-- a record that stands above its place leaves it out
place_gap : (d : List DirectoryEvent) (l : List LedgerEvent) (hs : List HomeHistory) (journals : List Journal) (b i : ℕ) (journal : Journal) (n : RecordValue) → AreDistinct journals → RecordsRise journal.records
    → ((j : ℕ) → j < i → RecordFits d l hs journals b j) → IsRecordAt journals b i journal n → place_of_record n ≢ i → Gap journals journal.actor i
place_gap d l hs journals b i journal n distinct rise before in_list ne =
    let above : i < place_of_record n = elim (nat_compare (place_of_record n) i) [
      | inl less ↦ (
          let t = get_below journal.records i (place_of_record n) n in_list.in_records (omega (arith, less)) in
          let own : place_of_record t.0 ≡ place_of_record n = (before (place_of_record n) less journal t.0 (record { in_journals = in_list.in_journals; in_records = t.1 })).0 in
          let up : place_of_record t.0 < place_of_record n = (records_rise journal.records rise (place_of_record n) i t.0 n less t.1 in_list.in_records).0 in
          absurd (omega (arith, own, up)))
      | inr rest ↦ (elim rest [ inl same ↦ absurd (ne same) | inr more ↦ more ])
    ] in (
      λ m. (
          let same : m.journal ≡ journal = some_same (sym m.in_list.in_journals ∙ ap (slice_get journals) (journal_once journals distinct m.at b m.journal journal m.in_list.in_journals in_list.in_journals m.of_actor) ∙ in_list.in_journals) in
          let get : slice_get journal.records m.index ≡ Some m.its_record = subst (λ (x : Journal). slice_get x.records m.index ≡ Some m.its_record) same m.in_list.in_records in
          elim (nat_compare m.index i) [
            | inl less ↦ (let own : place_of_record m.its_record ≡ m.index = (before m.index less journal m.its_record (record { in_journals = in_list.in_journals; in_records = get })).0 in let e : place_of_record m.its_record ≡ i = m.of_event in omega (arith, own, e, less))
            | inr rest ↦ (elim rest [
              | inl at ↦ (let k : m.its_record ≡ n = some_same (sym get ∙ ap (slice_get journal.records) at ∙ in_list.in_records) in ne (sym (ap place_of_record k) ∙ m.of_event))
              | inr more ↦ (let up : place_of_record n < place_of_record m.its_record = (records_rise journal.records rise i m.index n m.its_record more in_list.in_records get).0 in let e : place_of_record m.its_record ≡ i = m.of_event in omega (arith, up, e, above))
            ])
          ]),
      recorded_by journals b i journal n (λ m. i < place_of_record m) in_list above,
    )

pub record_wrong : (d : List DirectoryEvent) (l : List LedgerEvent) (hs : List HomeHistory) (journals : List Journal) (b i : ℕ) (journal : Journal) (n : RecordValue) (f : AuditFault) → AreDistinct journals → RecordsRise journal.records
    → ((j : ℕ) → j < i → RecordFits d l hs journals b j) → IsRecordAt journals b i journal n → IsRecordFault d l hs journal.actor i n f → IsWrong d l hs journals f
record_wrong d l hs journals b i journal n f distinct rise before in_list wrong = elim wrong [
  | inl p ↦ subst (λ (x : AuditFault). IsWrong d l hs journals x) (sym p.1) (inr (inr (place_gap d l hs journals b i journal n distinct rise before in_list p.0)))
  | inr p ↦ subst (λ (x : AuditFault). IsWrong d l hs journals x) (sym p.1) (inr (inl (recorded_by journals b i journal n (λ m. (place_of_record m ≡ place_of_record n) × (HasItsEvent d l hs journal.actor m → ⊥)) in_list (refl, p.0))))
]

-- a record that fits
pub record_fits : (d : List DirectoryEvent) (l : List LedgerEvent) (hs : List HomeHistory) (journals : List Journal) (b i : ℕ) (journal : Journal) (n : RecordValue) → IsRecordAt journals b i journal n → place_of_record n ≡ i → HasItsEvent d l hs journal.actor n → RecordFits d l hs journals b i
record_fits d l hs journals b i journal n in_list place has_its_event x m too =
    let same : x ≡ journal = some_same (sym too.in_journals ∙ in_list.in_journals) in
    let its_record : m ≡ n = some_same (sym too.in_records ∙ ap (λ (y : Journal). slice_get y.records i) same ∙ in_list.in_records) in
    (ap place_of_record its_record ∙ place, subst (λ (y : Journal). HasItsEvent d l hs y.actor m) (sym same) (subst (λ (y : RecordValue). HasItsEvent d l hs journal.actor y) (sym its_record) has_its_event))

pub all_records : (d : List DirectoryEvent) (l : List LedgerEvent) (hs : List HomeHistory) (journals : List Journal) (b : ℕ) (journal : Journal) → slice_get journals b ≡ Some journal → ((i : ℕ) → i < length journal.records → RecordFits d l hs journals b i) → (i : ℕ) → RecordFits d l hs journals b i
all_records d l hs journals b journal in_list each i x m too =
    let same : x ≡ journal = some_same (sym too.in_journals ∙ in_list) in
    each i (slice_get_within journal.records i m (subst (λ (y : Journal). slice_get y.records i ≡ Some m) same too.in_records)) x m too

pub all_journals : (d : List DirectoryEvent) (l : List LedgerEvent) (hs : List HomeHistory) (journals : List Journal) → ((b : ℕ) → b < length journals → (i : ℕ) → RecordFits d l hs journals b i) → (b i : ℕ) → RecordFits d l hs journals b i
all_journals d l hs journals each b i x m in_list = each b (slice_get_within journals b x in_list.in_journals) i x m in_list

-- an actor whose records rise
pub rise_at : (journals : List Journal) (b : ℕ) (journal : Journal) → slice_get journals b ≡ Some journal → RecordsRise journal.records → RecordsRiseAt journals b
rise_at journals b journal in_list rise x too = subst (λ (y : Journal). RecordsRise y.records) (some_same (sym in_list ∙ too)) rise

pub all_rise_at : (journals : List Journal) → ((b : ℕ) → b < length journals → RecordsRiseAt journals b) → (b : ℕ) → RecordsRiseAt journals b
all_rise_at journals each b x in_list = each b (slice_get_within journals b x in_list) x in_list

pub all_homes : (homes : List HistoryValue) (journals : List Journal) → ((j : ℕ) → j < length homes → (k : ℕ) → HomeFits (histories_of homes) journals j k) → (j k : ℕ) → HomeFits (histories_of homes) journals j k
all_homes homes journals each j k h e in_list = let t = get_mapped home_history homes j h in_list.in_homes in each j (slice_get_within homes j t.0 t.1) k h e in_list

-- where all fit, all is matched
pub fits_match : (d : List DirectoryEvent) (l : List LedgerEvent) (hs : List HomeHistory) (journals : List Journal) → AreDistinct journals → ((b i : ℕ) → RecordFits d l hs journals b i) → ((k : ℕ) → DirectoryFits d journals k) → ((k : ℕ) → LedgerFits l journals k) → ((j k : ℕ) → HomeFits hs journals j k) → IsMatched d l hs journals
fits_match d l hs journals distinct each every own all = record {
  has_its_event = λ b i journal n h. (each b i journal n h).1;
  ledger_recorded = own;
  directory_recorded = every;
  homes_recorded = all;
  once = λ b c i j journal other n m h g actor place. (journal_once journals distinct b c journal other h.in_journals g.in_journals actor, sym (each b i journal n h).0 ∙ place ∙ (each c j other m g).0);
  full = λ b i journal n place h lt. (
      let t = get_below journal.records i place n h.in_records (let e : place_of_record n ≡ i = (each b i journal n h).0 in omega (arith, lt, e)) in
      let in_list : IsRecordAt journals b place journal t.0 = record { in_journals = h.in_journals; in_records = t.1 } in
      recorded_by journals b place journal t.0 (λ m. place_of_record m ≡ place) in_list (each b place journal t.0 in_list).0);
}

module _ (journals : List Journal) (actor at : ℕ) (journal : Journal) (place : ℕ) (pos : position (is_of_actor actor) journals ≡ Some at) (lt : at < length journals) (is : journal ≡ slice_index_or journals at journal) where
  journal_is : slice_get journals at ≡ Some journal
  journal_is = slice_get_read journals (length journals) at journal refl lt is

  actor_is : journal.actor ≡ actor
  actor_is = ap (λ (b : Journal). b.actor) (found_is journals actor at journal pos lt is) ∙ journal_own actor journals

  -- a journal has no record past its end
  pub no_record : AreDistinct journals → length journal.records ≤ place → IsRecordedAt journals actor place (λ n. Unit {0}) → ⊥
  no_record distinct past (x, here) =
      let same : x.journal ≡ journal = some_same (sym x.in_list.in_journals ∙ ap (slice_get journals) (journal_once journals distinct x.at at x.journal journal x.in_list.in_journals journal_is (x.of_actor ∙ sym actor_is)) ∙ journal_is) in
      let h : slice_get journal.records x.index ≡ Some x.its_record = subst (λ (b : Journal). slice_get b.records x.index ≡ Some x.its_record) same x.in_list.in_records in
      omega (arith, past, here, slice_get_within journal.records x.index x.its_record h)

  pub record_there : (n : RecordValue) (P : RecordValue → Type 0) → slice_get journal.records place ≡ Some n → P n → IsRecordedAt journals actor place P
  unfolding recorded_by
  record_there n P own p =
      let in_list = read_record journals at place journal n lt is own in
      (subst (λ (a : ℕ). IsRecorded journals a P) actor_is (recorded_by journals at place journal n P in_list p), refl)

-- an event's record, at the number of the event
module _ (per_queue : ℕ) (homes : List HistoryValue) (numbered : IsNumbered per_queue homes) (d : List DirectoryEvent) (l : List LedgerEvent) where
  abbrev hs : List HomeHistory
  hs = histories_of homes

  of_directory : (a k : ℕ) (e : DirectoryEvent) (n : RecordValue) → IsAt per_queue part.Directory k n → HasItsEvent d l hs a n → slice_get d k ≡ Some e → IsOfDirectory k e n
  of_directory a k e (OfDirectory n) at h in_list =
      let same : h.0 ≡ e = some_same (sym h.1 ∙ ap (slice_get d) at ∙ in_list) in
      ap OfDirectory (h.3 ∙ ap (λ (i : ℕ). directory_record_of i h.0) at ∙ ap (directory_record_of k) same)
  of_directory a k e (OfLedger n) at h in_list = absurd at
  of_directory a k e (OfHome n) at h in_list = absurd at

  of_ledger : (a k : ℕ) (e : LedgerEvent) (n : RecordValue) → IsAt per_queue part.Ledger k n → HasItsEvent d l hs a n → slice_get l k ≡ Some e → IsOfLedger k e n
  of_ledger a k e (OfDirectory n) at h in_list = absurd at
  of_ledger a k e (OfLedger n) at h in_list =
      let same : h.0 ≡ e = some_same (sym h.1 ∙ ap (slice_get l) at ∙ in_list) in
      ap OfLedger (h.4 ∙ ap (λ (i : ℕ). record_of i h.0) at ∙ ap (record_of k) same)
  of_ledger a k e (OfHome n) at h in_list = absurd at

  of_home : (a j k : ℕ) (x : HomeHistory) (e : HomeEvent) (n : RecordValue) → IsAt per_queue (part.Home j) k n → HasItsEvent d l hs a n → IsHomeEvent hs j k x e → IsOfHome x.home k e n
  of_home a j k x e (OfDirectory n) at h in_list = absurd at
  of_home a j k x e (OfLedger n) at h in_list = absurd at
  of_home a j k x e (OfHome n) at h in_list =
      let place : h.0 ≡ j = home_once per_queue homes numbered h.0 j h.1 x h.3.in_homes in_list.in_homes (sym (ap (λ (m : HomeRecordValue). m.home) h.5) ∙ at.0 ∙ sym (numbered_home per_queue homes numbered j x in_list.in_homes)) in
      let same : h.1 ≡ x = some_same (sym h.3.in_homes ∙ ap (slice_get hs) place ∙ in_list.in_homes) in
      let event : h.2 ≡ e = some_same (sym h.3.in_events ∙ ap (λ (y : HomeHistory). slice_get y.events n.index) same ∙ ap (slice_get x.events) at.1 ∙ in_list.in_events) in
      (n.name, ap OfHome (h.5 ∙ ap (λ (y : HomeHistory). home_record_of y.home n.index n.name h.2) same ∙ ap (λ (i : ℕ). home_record_of x.home i n.name h.2) at.1 ∙ ap (home_record_of x.home k n.name) event))

  -- the event of a record
  record HasSpot (a place : ℕ) (n : RecordValue) : Type 0 where
    event_index : EventIndex
    by : IsBy d l hs a place event_index
    in_directory : (k : ℕ) → event_index ≡ InDirectory k → IsAt per_queue part.Directory k n
    in_ledger : (k : ℕ) → event_index ≡ InLedger k → IsAt per_queue part.Ledger k n
    in_home : (j k : ℕ) → event_index ≡ InHome j k → IsAt per_queue (part.Home j) k n

  event_index_of : (a place : ℕ) (n : RecordValue) → HasItsEvent d l hs a n → place_of_record n ≡ place → HasSpot a place n
  event_index_of a place (OfDirectory n) h e = record {
    event_index = InDirectory n.index;
    by = (h.0, h.1, h.2, sym (ap (λ (m : DirectoryRecordValue). m.place) h.3) ∙ e);
    in_directory = λ k p. cc;
    in_ledger = λ k p. absurd cc;
    in_home = λ j k p. absurd cc;
  }
  event_index_of a place (OfLedger n) h e = record {
    event_index = InLedger n.index;
    by = (h.0, h.1, h.2, h.3, sym (ap (λ (m : LedgerRecordValue). m.place) h.4) ∙ e);
    in_directory = λ k p. absurd cc;
    in_ledger = λ k p. cc;
    in_home = λ j k p. absurd cc;
  }
  event_index_of a place (OfHome n) h e = record {
    event_index = InHome h.0 n.index;
    by = (h.1, h.2, h.3, h.4, sym (ap (λ (m : HomeRecordValue). m.place) h.5) ∙ e);
    in_directory = λ k p. absurd cc;
    in_ledger = λ k p. absurd cc;
    in_home = λ j k p. (
        let at : h.0 ≡ j = cc in
        let index : n.index ≡ k = cc in
        (ap (λ (m : HomeRecordValue). m.home) h.5 ∙ numbered_home per_queue homes numbered h.0 h.1 h.3.in_homes ∙ ap (home_id per_queue) at, index));
  }

  module _ (journals : List Journal) (fit : (b i : ℕ) → RecordFits d l hs journals b i) where
    recorded_at : (a place : ℕ) (P : RecordValue → Type 0) (x : IsRecorded journals a P) → place_of_record x.its_record ≡ place → IsRecordedAt journals a place (λ n. Unit {0})
    unfolding recorded_as
    recorded_at a place P x e = (recorded_as journals a a P (λ n. Unit {0}) x refl tt, sym (fit x.at x.index x.journal x.its_record x.in_list).0 ∙ e)

    two_events : (a place : ℕ) (other : EventIndex) (P : RecordValue → Type 0) (x : IsRecordedAt journals a place P) → IsBy d l hs a place other → ((s : HasSpot a place x.0.its_record) → s.event_index ≡ other → ⊥) → TwoEvents d l hs a place
    two_events a place other P (x, here) by differ =
        let f = fit x.at x.index x.journal x.its_record x.in_list in
        let s = event_index_of a place x.its_record (subst (λ (y : ℕ). HasItsEvent d l hs y x.its_record) x.of_actor f.1) (f.0 ∙ here) in
        record { one = s.event_index; other = other; differ = differ s; first = s.by; second = by }

    pub directory_fits : ((k : ℕ) → EventFits per_queue journals part.Directory d k) → (k : ℕ) → DirectoryFits d journals k
    directory_fits all k e in_list =
        let x = (all k e in_list).0 in
        recorded_as journals e.actor e.actor (IsAt per_queue part.Directory k) (IsOfDirectory k e) x refl (of_directory x.journal.actor k e x.its_record x.of_event (fit x.at x.index x.journal x.its_record x.in_list).1 in_list)

    pub directory_wrong : (f : AuditFault) → HasEventFault per_queue journals part.Directory d f → IsWrong d l hs journals f
    directory_wrong f (k, e, in_list, wrong) = elim wrong [
      | inl p ↦ subst (λ (x : AuditFault). IsWrong d l hs journals x) (sym p.1) (inl (record {
        event_index = InDirectory k;
        by = (e, in_list, refl, refl);
        alone = λ e2 too x. p.0 (recorded_at e.actor e.place (IsOfDirectory k e2) x (ap place_of_record x.of_event ∙ ap (λ (y : DirectoryEvent). y.place) (some_same (sym too ∙ in_list))));
      }))
      | inr p ↦ subst (λ (x : AuditFault). IsWrong d l hs journals x) (sym p.1)
          (two_events e.actor e.place (InDirectory k) (λ n. IsAt per_queue part.Directory k n → ⊥) p.0 (e, in_list, refl, refl) (λ s q. p.0.0.of_event (s.in_directory k q)))
    ]

    pub ledger_fits : (k : ℕ) (e : LedgerEvent) → slice_get l k ≡ Some e → IsRecordedAt journals e.actor e.place (IsAt per_queue part.Ledger k) → IsRecorded journals e.actor (IsOfLedger k e)
    ledger_fits k e in_list here =
        let x = here.0 in
        recorded_as journals e.actor e.actor (IsAt per_queue part.Ledger k) (IsOfLedger k e) x refl (of_ledger x.journal.actor k e x.its_record x.of_event (fit x.at x.index x.journal x.its_record x.in_list).1 in_list)

    pub ledger_wrong : (k : ℕ) (e : LedgerEvent) (f : AuditFault) → slice_get l k ≡ Some e → is_own e.call ≡ true → IsEventFault per_queue journals e.actor e.place part.Ledger k f → IsWrong d l hs journals f
    ledger_wrong k e f in_list own wrong = elim wrong [
      | inl p ↦ subst (λ (x : AuditFault). IsWrong d l hs journals x) (sym p.1) (inl (record {
        event_index = InLedger k;
        by = (e, in_list, own, refl, refl);
        alone = λ e2 too x. p.0 (recorded_at e.actor e.place (IsOfLedger k e2) x (ap place_of_record x.of_event ∙ ap (λ (y : LedgerEvent). y.place) (some_same (sym too ∙ in_list))));
      }))
      | inr p ↦ subst (λ (x : AuditFault). IsWrong d l hs journals x) (sym p.1)
          (two_events e.actor e.place (InLedger k) (λ n. IsAt per_queue part.Ledger k n → ⊥) p.0 (e, in_list, own, refl, refl) (λ s q. p.0.0.of_event (s.in_ledger k q)))
    ]

    pub home_fits : (j : ℕ) (h : HomeHistory) → slice_get hs j ≡ Some h → ((k : ℕ) → EventFits per_queue journals (part.Home j) h.events k) → (k : ℕ) → HomeFits hs journals j k
    home_fits j h at all k h2 e in_list =
        let same : h2 ≡ h = some_same (sym in_list.in_homes ∙ at) in
        let x = (all k e (subst (λ (y : HomeHistory). slice_get y.events k ≡ Some e) same in_list.in_events)).0 in
        recorded_as journals e.actor e.actor (IsAt per_queue (part.Home j) k) (IsOfHome h2.home k e) x refl (of_home x.journal.actor j k h2 e x.its_record x.of_event (fit x.at x.index x.journal x.its_record x.in_list).1 in_list)

    pub home_wrong : (j : ℕ) (h : HomeHistory) (f : AuditFault) → slice_get hs j ≡ Some h → HasEventFault per_queue journals (part.Home j) h.events f → IsWrong d l hs journals f
    home_wrong j h f at (k, e, own, wrong) = let in_list : IsHomeEvent hs j k h e = record { in_homes = at; in_events = own } in elim wrong [
      | inl p ↦ subst (λ (x : AuditFault). IsWrong d l hs journals x) (sym p.1) (inl (record {
        event_index = InHome j k;
        by = (h, e, in_list, refl, refl);
        alone = λ h2 e2 too x. (
            let home : h2 ≡ h = some_same (sym too.in_homes ∙ in_list.in_homes) in
            let same : e2 ≡ e = some_same (sym too.in_events ∙ ap (λ (y : HomeHistory). slice_get y.events k) home ∙ in_list.in_events) in
            p.0 (recorded_at e.actor e.place (IsOfHome h2.home k e2) x (ap place_of_record x.of_event.1 ∙ ap (λ (y : HomeEvent). y.place) same)));
      }))
      | inr p ↦ subst (λ (x : AuditFault). IsWrong d l hs journals x) (sym p.1)
          (two_events e.actor e.place (InHome j k) (λ n. IsAt per_queue (part.Home j) k n → ⊥) p.0 (h, e, in_list, refl, refl) (λ s q. p.0.0.of_event (s.in_home j k q)))
    ]

  -- the record is of the event there
  abbrev RecordsIndex : EventIndex → RecordValue → Type 0
  RecordsIndex (InDirectory k) n = (e : DirectoryEvent) × (n ≡ OfDirectory (directory_record_of k e))
  RecordsIndex (InLedger k) n = (e : LedgerEvent) × (n ≡ OfLedger (record_of k e))
  RecordsIndex (InHome j k) n = (h : HomeHistory) × (e : HomeEvent) × (name : Option (List ℕ)) × (slice_get hs j ≡ Some h) × (n ≡ OfHome (home_record_of h.home k name e))

  abbrev index_of : RecordValue → ℕ
  index_of (OfDirectory n) = n.index
  index_of (OfLedger n) = n.index
  index_of (OfHome n) = n.index

  abbrev home_in : RecordValue → Option HomeId
  home_in (OfDirectory n) = None
  home_in (OfLedger n) = None
  home_in (OfHome n) = Some n.home

  one_event_index : (s t : EventIndex) (n : RecordValue) → RecordsIndex s n → RecordsIndex t n → s ≡ t
  one_event_index (InDirectory k) (InDirectory i) n p q = ap InDirectory (sym (ap index_of p.1) ∙ ap index_of q.1)
  one_event_index (InDirectory k) (InLedger i) n p q = let e : OfDirectory (directory_record_of k p.0) ≡ OfLedger (record_of i q.0) = sym p.1 ∙ q.1 in absurd cc
  one_event_index (InDirectory k) (InHome j i) n p q = let e : None ≡ Some q.0.home = sym (ap home_in p.1) ∙ ap home_in q.4 in absurd cc
  one_event_index (InLedger k) (InDirectory i) n p q = let e : OfLedger (record_of k p.0) ≡ OfDirectory (directory_record_of i q.0) = sym p.1 ∙ q.1 in absurd cc
  one_event_index (InLedger k) (InLedger i) n p q = ap InLedger (sym (ap index_of p.1) ∙ ap index_of q.1)
  one_event_index (InLedger k) (InHome j i) n p q = let e : None ≡ Some q.0.home = sym (ap home_in p.1) ∙ ap home_in q.4 in absurd cc
  one_event_index (InHome j k) (InDirectory i) n p q = let e : None ≡ Some p.0.home = sym (ap home_in q.1) ∙ ap home_in p.4 in absurd cc
  one_event_index (InHome j k) (InLedger i) n p q = let e : None ≡ Some p.0.home = sym (ap home_in q.1) ∙ ap home_in p.4 in absurd cc
  one_event_index (InHome j k) (InHome i m) n p q =
      let place : j ≡ i = home_once per_queue homes numbered j i p.0 q.0 p.3 q.3 (some_same (sym (ap home_in p.4) ∙ ap home_in q.4)) in
      ap (λ (x : ℕ). InHome x k) place ∙ ap (InHome i) (sym (ap index_of p.4) ∙ ap index_of q.4)

  module _ (journals : List Journal) (matched : IsMatched d l hs journals) (paired : IsPaired l hs) where
    recorded_of : (a place : ℕ) (s : EventIndex) → IsBy d l hs a place s → IsRecorded journals a (λ n. (place_of_record n ≡ place) × RecordsIndex s n)
    recorded_of a place (InDirectory k) by =
        let x = matched.directory_recorded k by.0 by.1 in
        recorded_as journals by.0.actor a (IsOfDirectory k by.0) (λ n. (place_of_record n ≡ place) × RecordsIndex (InDirectory k) n) x by.2 (ap place_of_record x.of_event ∙ by.3, (by.0, x.of_event))
    recorded_of a place (InLedger k) by =
        let x = matched.ledger_recorded k by.0 by.1 by.2 in
        recorded_as journals by.0.actor a (IsOfLedger k by.0) (λ n. (place_of_record n ≡ place) × RecordsIndex (InLedger k) n) x by.3 (ap place_of_record x.of_event ∙ by.4, (by.0, x.of_event))
    recorded_of a place (InHome j k) by =
        let x = matched.homes_recorded j k by.0 by.1 by.2 in
        recorded_as journals by.1.actor a (IsOfHome by.0.home k by.1) (λ n. (place_of_record n ≡ place) × RecordsIndex (InHome j k) n) x by.3 (ap place_of_record x.of_event.1 ∙ by.4, (by.0, by.1, x.of_event.0, by.2.in_homes, x.of_event.1))

    not_two : (a place : ℕ) → TwoEvents d l hs a place → ⊥
    not_two a place t =
        let x = recorded_of a place t.one t.first in
        let y = recorded_of a place t.other t.second in
        let o = matched.once x.at y.at x.index y.index x.journal y.journal x.its_record y.its_record x.in_list y.in_list (x.of_actor ∙ sym y.of_actor) (x.of_event.0 ∙ sym y.of_event.0) in
        let journal : x.journal ≡ y.journal = some_same (sym x.in_list.in_journals ∙ ap (slice_get journals) o.0 ∙ y.in_list.in_journals) in
        let its_record : x.its_record ≡ y.its_record = some_same (sym x.in_list.in_records ∙ ap (λ (z : Journal). slice_get z.records x.index) journal ∙ ap (slice_get y.journal.records) o.1 ∙ y.in_list.in_records) in
        t.differ (one_event_index t.one t.other y.its_record (subst (RecordsIndex t.one) its_record x.of_event.1) y.of_event.1)

    not_alone : (a place : ℕ) (s : EventIndex) → IsBy d l hs a place s → HasNoRecord d l hs journals a s → ⊥
    not_alone a place (InDirectory k) by alone = alone by.0 by.1 (subst (λ (x : ℕ). IsRecorded journals x (IsOfDirectory k by.0)) by.2 (matched.directory_recorded k by.0 by.1))
    not_alone a place (InLedger k) by alone = alone by.0 by.1 (subst (λ (x : ℕ). IsRecorded journals x (IsOfLedger k by.0)) by.3 (matched.ledger_recorded k by.0 by.1 by.2))
    not_alone a place (InHome j k) by alone = alone by.0 by.1 by.2 (subst (λ (x : ℕ). IsRecorded journals x (IsOfHome by.0.home k by.1)) by.3 (matched.homes_recorded j k by.0 by.1 by.2))

    -- what is wrong is not so where all is matched
    pub wrong_refutes : (f : AuditFault) → IsWrong d l hs journals f → ⊥
    wrong_refutes NoMemory w = w
    wrong_refutes (RecordMissing a p) w = elim w [
      | inl e ↦ not_alone a p e.event_index e.by e.alone
      | inr v ↦ (elim v [
        | inl n ↦ n.of_event.1 (subst (λ (x : ℕ). HasItsEvent d l hs x n.its_record) n.of_actor (matched.has_its_event n.at n.index n.journal n.its_record n.in_list))
        | inr g ↦ g.0 (subst (λ (x : ℕ). IsRecorded journals x (λ m. place_of_record m ≡ p)) g.1.of_actor (matched.full g.1.at g.1.index g.1.journal g.1.its_record p g.1.in_list g.1.of_event))
      ])
    ]
    wrong_refutes (RecordTwice a p) w = not_two a p w
    wrong_refutes (LeaveUnmatched s) w = leaves_matched l hs s paired w
    wrong_refutes (EnterUnmatched s) w = items_matched l hs s paired w

-- ---- what homes and the ledger share

-- a step of the ledger is its own, or of a call that is not a home's alone
shares : (v : Ledger) (m : ℕ) (call : LedgerCall) (reply : LedgerReply) (after : Ledger) → LedgerStep v m call reply after → is_shared_as is_alone call ≡ false
unfolding LedgerStep
shares v m (AtHome home LeaveDead) reply after h = refl
shares v m (AtHome home LeaveDrain) reply after h = refl
shares v m (AtHome home (LeaveTask number)) reply after h = refl
shares v m (AtHome home (Enter item)) reply after h = refl
shares v m (AtHome home (TurnBack item)) reply after h = refl
shares v m (AtHome home (GiveBack item)) reply after h = refl
shares v m (AtHome home (Drop item)) reply after h = refl
shares v m (StartTask source destination rate) reply after h = refl
shares v m (CancelTask number) reply after h = refl
shares v m (ListTasks source most) reply after h = refl
shares v m (FinishTask number) reply after h = refl
shares v m call reply after h = elim h [ ]

pub all_shared : (v : Ledger) (es : List LedgerEvent) (after : Ledger) → Replays LedgerStep v es after → (k : ℕ) (e : LedgerEvent) → slice_get es k ≡ Some e → is_shared_as is_alone e.call ≡ false
all_shared v [] after r k e h = absurd cc
all_shared v (x ∷ xs) after r zero e h = subst (λ (y : LedgerEvent). is_shared_as is_alone y.call ≡ false) (some_same h) (shares v x.stamp.moment x.call x.reply r.0 r.1)
all_shared v (x ∷ xs) after r (suc k) e h = all_shared r.0 xs after r.2 k e h

-- what is shared is a leave, or else it is done with an item
item_kind : (call : HomeCall) → is_alone call ≡ false → is_leave call ≡ false → is_of_item call ≡ true
item_kind call shared no_leave = rw (shared, no_leave) refl

-- a call that is none at a home is the ledger's own
pub own_if : (call : LedgerCall) → ((home : HomeId) (at : HomeCall) → call ≡ AtHome home at → ⊥) → is_own call ≡ true
own_if (AtHome home at) h = absurd (h home at refl)
own_if (StartTask source destination rate) h = refl
own_if (CancelTask number) h = refl
own_if (ListTasks source most) h = refl
own_if (FinishTask number) h = refl

module _ (d : List DirectoryEvent) (l : List LedgerEvent) (hs : List HomeHistory) (journals : List Journal) where
  -- one of a home that the ledger does not have
  pub wrong_at_home : (j k : ℕ) (h : HomeHistory) (e : HomeEvent) → IsHomeEvent hs j k h e → is_alone e.call ≡ false → (IsInLedger l h.home e → ⊥) → IsWrong d l hs journals (unmatched e.call e.stamp)
  wrong_at_home j k h e there shared lost =
      elim (is_leave e.call) as (λ v. is_leave e.call ≡ v → IsWrong d l hs journals (if v then LeaveUnmatched e.stamp else EnterUnmatched e.stamp)) [
        | true ↦ (λ kind. inl (record { at = j; index = k; home = h; event = e; in_home = there; of_kind = kind; stamped = refl; alone = lost }))
        | false ↦ (λ kind. inl (record { at = j; index = k; home = h; event = e; in_home = there; of_kind = item_kind e.call shared kind; stamped = refl; alone = lost }))
      ] refl

  -- one of the ledger that no home has
  pub wrong_in_ledger : (k : ℕ) (e : LedgerEvent) (home : HomeId) (call : HomeCall) → slice_get l k ≡ Some e → e.call ≡ AtHome home call → is_shared_as is_alone e.call ≡ false → (IsInHome hs e → ⊥) → IsWrong d l hs journals (unmatched call e.stamp)
  wrong_in_ledger k e home call there is shared lost =
      let alone : is_alone call ≡ false = subst (λ (c : LedgerCall). is_shared_as is_alone c ≡ false) is shared in
      elim (is_leave call) as (λ v. is_leave call ≡ v → IsWrong d l hs journals (if v then LeaveUnmatched e.stamp else EnterUnmatched e.stamp)) [
        | true ↦ (λ kind. inr (record { index = k; event = e; in_ledger = there; of_kind = subst (λ (c : LedgerCall). is_shared_as is_leave c ≡ true) (sym is) kind; stamped = refl; alone = lost }))
        | false ↦ (λ kind. inr (record { index = k; event = e; in_ledger = there; of_kind = subst (λ (c : LedgerCall). is_shared_as is_of_item c ≡ true) (sym is) (item_kind call alone kind); stamped = refl; alone = lost }))
      ] refl

-- an event of a home names it
names_home : (home : HistoryValue) → IsKept home → (k : ℕ) (e : HomeEvent) → slice_get home.events k ≡ Some e → e.component ≡ component.Home home.site.home
names_home home kept k e in_events = all_at (λ (x : HomeEvent). x.component ≡ component.Home home.site.home) home.events k e kept.own in_events

module _ (l : List LedgerEvent) (homes : List HistoryValue) (j : ℕ) (home : HistoryValue) (in_homes : slice_get (histories_of homes) j ≡ Some (home_history home)) (kept : IsKept home) where
  pub ledger_has : ((k : ℕ) (e : HomeEvent) → slice_get home.events k ≡ Some e → HasPartner l e) → (k : ℕ) → LedgerHas l (histories_of homes) j k
  ledger_has has k h e there shared =
      let same : h ≡ home_history home = some_same (sym there.in_homes ∙ in_homes) in
      let in_events : slice_get home.events k ≡ Some e = subst (λ (y : HomeHistory). slice_get y.events k ≡ Some e) same there.in_events in
      subst (λ (y : HomeHistory). IsInLedger l y.home e) (sym same) (has k e in_events shared home.site.home (names_home home kept k e in_events))

  pub ledger_lacks : (k : ℕ) (e : HomeEvent) → slice_get home.events k ≡ Some e → (d : List DirectoryEvent) (journals : List Journal) (f : AuditFault) → IsWithoutPartner l e f → IsWrong d l (histories_of homes) journals f
  ledger_lacks k e in_events d journals f wrong =
      subst (IsWrong d l (histories_of homes) journals) (sym wrong.told)
      (wrong_at_home d l (histories_of homes) journals j k (home_history home) e (record { in_homes = in_homes; in_events = in_events }) wrong.shared (wrong.lost home.site.home (names_home home kept k e in_events)))

pub all_partners : (l : List LedgerEvent) (homes : List HistoryValue) → ((j : ℕ) → j < length homes → (k : ℕ) → LedgerHas l (histories_of homes) j k) → (j k : ℕ) → LedgerHas l (histories_of homes) j k
all_partners l homes each j k h e there = let t = get_mapped home_history homes j h there.in_homes in each j (slice_get_within homes j t.0 t.1) k h e there

-- the home of an event that the ledger shares
module _ (per_queue : ℕ) (homes : List HistoryValue) (numbered : IsNumbered per_queue homes) (id : HomeId) (e : LedgerEvent) (call : HomeCall) (is : e.call ≡ AtHome id call) where
  home_is : (h : HomeHistory) (f : HomeEvent) → e ≡ as_ledger h.home f → h.home ≡ id
  home_is h f same = let c : AtHome h.home f.call ≡ AtHome id call = sym (ap (λ (x : LedgerEvent). x.call) same) ∙ is in cc

  pub no_home_has : 1 ≤ per_queue → home_index per_queue (length homes) id ≡ None → IsInHome (histories_of homes) e → ⊥
  no_home_has some none x =
      let t = get_mapped home_history homes x.0 x.2 x.4.in_homes in
      index_none per_queue homes id some numbered none x.0 t.0 t.1 (sym (ap (λ (y : HomeHistory). y.home) t.2) ∙ home_is x.2 x.3 x.6)

  module _ (place : ℕ) (home : HistoryValue) (least : 1 ≤ id.queue) (found : home_index per_queue (length homes) id ≡ Some place) (read : home ≡ slice_index_or homes place home) where
    it_stands : slice_get homes place ≡ Some home
    it_stands = slice_get_read homes (length homes) place home refl (index_found per_queue (length homes) id place least found).0 read

    its_id : id ≡ home.site.home
    its_id = home_at per_queue (length homes) id place least found ∙ sym (numbered place home it_stands)

    pub home_has : (f : HomeEvent) (k : ℕ) → slice_get home.events k ≡ Some f → is_shared_as is_alone e.call ≡ false → e ≡ as_ledger id f → IsInHome (histories_of homes) e
    home_has f k in_events shared same = (
      place,
      k,
      home_history home,
      f,
      record { in_homes = get_map home_history homes place home it_stands; in_events = in_events },
      subst (λ (c : LedgerCall). is_shared_as is_alone c ≡ false) (ap (λ (x : LedgerEvent). x.call) same) shared,
      same ∙ ap (λ (x : HomeId). as_ledger x f) its_id,
    )

    pub found_there : IsInHome (histories_of homes) e → (f : HomeEvent) × IsEventAt home.events e.stamp f × (e ≡ as_ledger id f)
    found_there x =
        let at : x.0 ≡ place = home_once per_queue homes numbered x.0 place x.2 (home_history home) x.4.in_homes (get_map home_history homes place home it_stands) (home_is x.2 x.3 x.6 ∙ its_id) in
        let same : x.2 ≡ home_history home = some_same (sym x.4.in_homes ∙ ap (slice_get (histories_of homes)) at ∙ get_map home_history homes place home it_stands) in (
          x.3,
          (x.1, subst (λ (y : HomeHistory). slice_get y.events x.1 ≡ Some x.3) same x.4.in_events, sym (ap (λ (y : LedgerEvent). y.stamp) x.6)),
          x.6 ∙ ap (λ (y : HomeId). as_ledger y x.3) (home_is x.2 x.3 x.6),
        )
