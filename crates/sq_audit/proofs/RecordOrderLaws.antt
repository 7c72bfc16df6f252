-- The records of the actors order their events in a run.
use Rattle.std.proofs.Common.{true, ◌≡◌, ℕ, zero, suc, ◌<◌, List, [], ◌∷◌, refl, ap, sym, ◌∙◌, subst, inl, inr, arith, Some, slice_get}
use Rattle.sq_base.specs.Stamps.{Below}
use Rattle.sq_model.specs.Systems.{DirectoryEvent, Tag, OfDirectory, OfLedger, OfHome, stamp_of}
use Rattle.sq_model.specs.Merges.{LedgerIsAlone, IsMerged, rank_of}
use Rattle.sq_model.specs.RecordValues as kept
use Rattle.sq_model.specs.RecordValues.{RecordValue, Journal, RecordsRise}
use Rattle.sq_model.specs.Matches.{HomeHistory, IsRecorded, IsOfDirectory, IsOfLedger, IsOfHome, IsMatched}
use Rattle.sq_history.specs.HistoryValue.{HistoryValue}
use Rattle.sq_model.specs.Ledgers.{LedgerEvent, is_own}
use Rattle.sq_audit.specs.Actors.{event_actor, event_place, ActorsRise, PartsRise}
use Rattle.sq_audit.specs.inside.Actors.{PlacesAgree, PlacesApart}
use Rattle.sq_steps.specs.Journals.{RecordsRiseAt, AreDistinct}
use Rattle.sq_audit.specs.SystemNow.{events_of}
use Rattle.sq_history.specs.HomeIds.{IsNumbered}
use Rattle.sq_audit.specs.HomeHistories.{home_history, histories_of}
use Rattle.sq_audit.proofs.ActorLaws.{all_rise, in_directory, in_home}
use Rattle.sq_audit.proofs.CheckLaws.{nat_compare, records_rise, home_once, recorded_as}
use Rattle.sq_audit.proofs.SharedLaws.{event_home, in_ledger}
use Rattle.sq_steps.proofs.JournalListLaws.{journal_once}
use Rattle.sq_model.proofs.ElementLaws.{some_same, get_map}

-- what stands as the ledger's is its own
own_at : (ts : List Tag) → LedgerIsAlone ts → (i : ℕ) (e : LedgerEvent) → slice_get ts i ≡ Some (OfLedger e) → is_own e.call ≡ true
own_at [] h i e is = absurd cc
own_at (OfDirectory d ∷ ts) h zero e is = absurd cc
own_at (OfLedger d ∷ ts) h zero e is = let same : d ≡ e = cc in subst (λ (x : LedgerEvent). is_own x.call ≡ true) same h.0
own_at (OfHome j d ∷ ts) h zero e is = absurd cc
own_at (OfDirectory d ∷ ts) h (suc i) e is = own_at ts h i e is
own_at (OfLedger d ∷ ts) h (suc i) e is = own_at ts h.1 i e is
own_at (OfHome j d ∷ ts) h (suc i) e is = own_at ts h i e is

-- of two records of one actor, the one with the higher number has the higher stamp
records_below : (ns : List RecordValue) → RecordsRise ns → (i j : ℕ) (n m : RecordValue) → slice_get ns i ≡ Some n → slice_get ns j ≡ Some m → kept.place_of_record n < kept.place_of_record m → Below (kept.record_stamp n) (kept.record_stamp m)
records_below ns rise i j n m h g lt = elim (nat_compare i j) [
  | inl less ↦ (records_rise ns rise i j n m less h g).1
  | inr rest ↦ (elim rest [
    | inl same ↦ (let one : n ≡ m = some_same (sym h ∙ ap (slice_get ns) same ∙ g) in let e : kept.place_of_record n ≡ kept.place_of_record m = ap kept.place_of_record one in absurd (omega (arith, e, lt)))
    | inr more ↦ (let up : kept.place_of_record m < kept.place_of_record n = (records_rise ns rise j i m n more g h).0 in absurd (omega (arith, up, lt)))
  ])
]

-- a record and an event are of one part
abbrev IsOfPart : List HomeHistory → RecordValue → Tag → Type 0
IsOfPart homes (kept.OfDirectory n) t = rank_of t ≡ 0
IsOfPart homes (kept.OfLedger n) t = rank_of t ≡ 1
IsOfPart homes (kept.OfHome n) t = (j : ℕ) × (h : HomeHistory) × (slice_get homes j ≡ Some h) × (n.home ≡ h.home) × (rank_of t ≡ suc (suc j))

-- a record has the number, the stamp and the part of an event
record IsLike (homes : List HomeHistory) (t : Tag) (its_record : RecordValue) : Type 0 where
  of_place : kept.place_of_record its_record ≡ event_place t
  of_stamp : kept.record_stamp its_record ≡ stamp_of t
  of_part : IsOfPart homes its_record t

module _ (per_queue : ℕ) (d : List DirectoryEvent) (l : List LedgerEvent) (homes : List HistoryValue) (journals : List Journal) (run : List Tag)
    (numbered : IsNumbered per_queue homes) (distinct : AreDistinct journals) (rise : (b : ℕ) → RecordsRiseAt journals b)
    (matched : IsMatched d l (histories_of homes) journals) (merged : IsMerged d l (events_of homes) run) where
  abbrev hs : List HomeHistory
  hs = histories_of homes

  -- each event of the run has its record
  has_record : (i : ℕ) (t : Tag) → slice_get run i ≡ Some t → IsRecorded journals (event_actor t) (IsLike hs t)
  has_record i (OfDirectory e) is =
      let at = in_directory run i e is in
      let x = matched.directory_recorded at.0 e (rw merged.of_the_directory at at.1) in
      recorded_as journals e.actor e.actor (IsOfDirectory at.0 e) (IsLike hs (OfDirectory e)) x refl
      (subst (IsLike hs (OfDirectory e)) (sym x.of_event) (record { of_place = refl; of_stamp = refl; of_part = refl }))
  has_record i (OfLedger e) is =
      let at = in_ledger run i (OfLedger e) e is (0, refl) in
      let x = matched.ledger_recorded at.0 e (rw merged.of_the_ledger at at.1) (own_at run merged.ledger_is_alone i e is) in
      recorded_as journals e.actor e.actor (IsOfLedger at.0 e) (IsLike hs (OfLedger e)) x refl
      (subst (IsLike hs (OfLedger e)) (sym x.of_event) (record { of_place = refl; of_stamp = refl; of_part = refl }))
  has_record i (OfHome j e) is =
      let at = in_home run i j e is in
      let h = event_home homes j at.0 e (rw (merged.of_each_home j) at at.1) in
      let in_list = get_map home_history homes j h.0 h.1 in
      let x = matched.homes_recorded j at.0 (home_history h.0) e (record { in_homes = in_list; in_events = h.2 }) in
      recorded_as journals e.actor e.actor (IsOfHome h.0.site.home at.0 e) (IsLike hs (OfHome j e)) x refl
      (subst (IsLike hs (OfHome j e)) (sym x.of_event.1) (record { of_place = refl; of_stamp = refl; of_part = (j, home_history h.0, in_list, refl, refl) }))

  -- what is of one part with one record is of one part
  one_part : (t u : Tag) (n : RecordValue) → IsOfPart hs n t → IsOfPart hs n u → rank_of t ≡ rank_of u
  one_part t u (kept.OfDirectory n) p q = p ∙ sym q
  one_part t u (kept.OfLedger n) p q = p ∙ sym q
  one_part t u (kept.OfHome n) p q = p.4 ∙ ap (λ (k : ℕ). suc (suc k)) (home_once per_queue homes numbered p.0 q.0 p.1 q.1 p.2 q.2 (sym p.3 ∙ q.3)) ∙ sym q.4

  places_agree : PlacesAgree run
  places_agree i j t u ti uj actor lt =
      let x = has_record i t ti in
      let y = has_record j u uj in
      let at : x.at ≡ y.at = journal_once journals distinct x.at y.at x.journal y.journal x.in_list.in_journals y.in_list.in_journals (x.of_actor ∙ actor ∙ sym y.of_actor) in
      let same : x.journal ≡ y.journal = some_same (sym x.in_list.in_journals ∙ ap (slice_get journals) at ∙ y.in_list.in_journals) in
      let in_list : slice_get x.journal.records y.index ≡ Some y.its_record = subst (λ (b : Journal). slice_get b.records y.index ≡ Some y.its_record) (sym same) y.in_list.in_records in
      let lower : kept.place_of_record x.its_record < kept.place_of_record y.its_record = rw (x.of_event.of_place, y.of_event.of_place) lt in
      rw (← x.of_event.of_stamp, ← y.of_event.of_stamp) (records_below x.journal.records (rise x.at x.journal x.in_list.in_journals) x.index y.index x.its_record y.its_record x.in_list.in_records in_list lower)

  places_apart : PlacesApart run
  places_apart i j t u ti uj actor place =
      let x = has_record i t ti in
      let y = has_record j u uj in
      let once = matched.once x.at y.at x.index y.index x.journal y.journal x.its_record y.its_record x.in_list y.in_list (x.of_actor ∙ actor ∙ sym y.of_actor) (x.of_event.of_place ∙ place ∙ sym y.of_event.of_place) in
      let same : x.journal ≡ y.journal = some_same (sym x.in_list.in_journals ∙ ap (slice_get journals) once.0 ∙ y.in_list.in_journals) in
      let one : x.its_record ≡ y.its_record = some_same (sym x.in_list.in_records ∙ ap (λ (z : Journal). slice_get z.records x.index) same ∙ ap (slice_get y.journal.records) once.1 ∙ y.in_list.in_records) in
      (one_part t u y.its_record (subst (λ (n : RecordValue). IsOfPart hs n t) one x.of_event.of_part) y.of_event.of_part, sym x.of_event.of_stamp ∙ ap kept.record_stamp one ∙ y.of_event.of_stamp)

-- where records and histories are matched, each actor's events stand in its order in the run of them all
pub matched_rise : (per_queue : ℕ) (d : List DirectoryEvent) (l : List LedgerEvent) (homes : List HistoryValue) (journals : List Journal) (run : List Tag) → IsNumbered per_queue homes → AreDistinct journals → ((b : ℕ) → RecordsRiseAt journals b)
    → IsMatched d l (histories_of homes) journals → IsMerged d l (events_of homes) run → PartsRise run → ActorsRise run
matched_rise per_queue d l homes journals run numbered distinct rise matched merged parts =
    all_rise run merged.in_order parts
    (places_agree per_queue d l homes journals run numbered distinct rise matched merged)
    (places_apart per_queue d l homes journals run numbered distinct rise matched merged)
