-- An actor's journal without one of its records.
use Rattle.std.proofs.Common.{◌≡◌, ◌≢◌, ◌↔◌, ℕ, zero, suc, ◌+◌, ◌<◌, ◌≤◌, Bool, true, false, not, cond, List, [], ◌∷◌, length, refl, ap, sym, ◌∙◌, subst, arith, Some, None, slice_get, slice_set}
use Rattle.std.specs.Prelude.{nat_eq, nat_lt, ◌==◌, ◌||◌, if◌then◌else◌, position, filter}
use Rattle.std.specs.List.{AllByRecursion, position_or_len, list_any}
use Rattle.std.proofs.lemmas.Bool.{eqb-true}
use Rattle.std.proofs.lemmas.Grind.{common_steps}
use Rattle.sq_base.specs.Stamps.{Below}
use Rattle.sq_model.specs.RecordValues.{RecordValue, place_of_record, record_stamp, Journal, RecordsRise}
use Rattle.sq_model.specs.Matches.{IsRecorded}
use Rattle.sq_directory.specs.Makers.{IsSeen}
use Rattle.sq_steps.specs.inside.Records.{without_first}
use Rattle.sq_steps.specs.Journals.{IsJournal, is_of_actor, journal_of, without_record, without_record_of, AreDistinct}
use Rattle.sq_steps.proofs.JournalListLaws.{journal_own, found_there, differ, journal_once, same_place}
use Rattle.sq_model.proofs.ElementLaws.{all_get, some_same}
use Rattle.sq_steps.proofs.FilterLaws.{all_filter}

rise_filter : (p : RecordValue → Bool) (ns : List RecordValue) → RecordsRise ns → RecordsRise (filter p ns)
rise_filter p [] rise = rise
rise_filter p (n ∷ ns) rise =
    elim (p n) as (λ v. RecordsRise (cond v (n ∷ filter p ns) (filter p ns)))
    [ true ↦ (all_filter (λ m. (place_of_record n < place_of_record m) × Below (record_stamp n) (record_stamp m)) p ns rise.0, rise_filter p ns rise.1) | false ↦ rise_filter p ns rise.1 ]

-- what is left is a journal
pub journal_less : (journal : Journal) (place : ℕ) → IsJournal journal → IsJournal (without_record place journal)
journal_less journal place is =
    let p : RecordValue → Bool = λ n. not (place_of_record n == place) in
    record {
      rise = rise_filter p journal.records is.rise;
      below = all_filter (λ n. place_of_record n < journal.next) p journal.records is.below;
      saw = all_filter (λ n. IsSeen (record_stamp n) journal.seen) p journal.records is.saw;
    }

other_number : (x y : ℕ) → x ≢ y → nat_eq x y ≡ false
other_number x y ne = grind (arith, common_steps)

-- of records that rise one at most has this number, so that the first is all
kept_all : (n : RecordValue) (place : ℕ) (ns : List RecordValue) → place_of_record n ≡ place → AllByRecursion (λ m. (place_of_record n < place_of_record m) × Below (record_stamp n) (record_stamp m)) ns
    → filter (λ m. not (place_of_record m == place)) ns ≡ ns
kept_all n place [] same above = refl
kept_all n place (m ∷ ns) same above =
    let lower = above.0.0 in
    rw (other_number (place_of_record m) place (λ e. absurd (omega (arith, e, same, lower)))) (ap (λ ys. m ∷ ys) (kept_all n place ns same above.1))

pub first_is_all : (place : ℕ) (ns : List RecordValue) → RecordsRise ns → without_first (λ n. place_of_record n == place) ns ≡ filter (λ n. not (place_of_record n == place)) ns
first_is_all place [] rise = refl
first_is_all place (n ∷ ns) rise =
    let p : RecordValue → Bool = λ m. place_of_record m == place in
    let q : RecordValue → Bool = λ m. not (place_of_record m == place) in
    elim (p n) as (λ v. p n ≡ v → cond v ns (n ∷ without_first p ns) ≡ cond (not v) (n ∷ filter q ns) (filter q ns)) [
      | true ↦ (λ e. sym (kept_all n place ns (eqb-true _ _ e) rise.0))
      | false ↦ (λ e. ap (λ ys. n ∷ ys) (first_is_all place ns rise.1))
    ] refl

-- where no element passes, none is found; and the other way round
any_at : {X : Type 0} (p : X → Bool) (xs : List X) → list_any p xs ≡ true → (i : ℕ) × (x : X) × (slice_get xs i ≡ Some x) × (p x ≡ true)
any_at p [] h = absurd cc
any_at p (x ∷ xs) h =
    elim (p x) as (λ v. p x ≡ v → (v || list_any p xs) ≡ true → (i : ℕ) × (y : _) × (slice_get (x ∷ xs) i ≡ Some y) × (p y ≡ true))
    [ true ↦ (λ e k. (0, x, refl, e)) | false ↦ (λ e k. let rest = any_at p xs k in (suc rest.0, rest.1, rest.2, rest.3)) ] refl h

at_any : {X : Type 0} (p : X → Bool) (xs : List X) (i : ℕ) (x : X) → slice_get xs i ≡ Some x → p x ≡ true → list_any p xs ≡ true
at_any p [] i x h e = absurd cc
at_any p (y ∷ ys) zero x h e = let here : p y ≡ true = ap p (some_same h) ∙ e in rw here refl
at_any p (y ∷ ys) (suc i) x h e = elim (p y) as (λ v. (v || list_any p ys) ≡ true) [ true ↦ refl | false ↦ at_any p ys i x h e ]

-- where an actor is not found, all are others
all_lost : (actor : ℕ) (journals : List Journal) → length journals ≤ position_or_len (is_of_actor actor) journals → AllByRecursion (λ y. y.actor ≢ actor) journals
all_lost actor [] le = tt
all_lost actor (x ∷ xs) le =
    elim (x.actor == actor) as (λ v. x.actor == actor ≡ v → length (x ∷ xs) ≤ cond (not v) (1 + position_or_len (is_of_actor actor) xs) 0 → AllByRecursion (λ y. y.actor ≢ actor) (x ∷ xs))
    [ true ↦ (λ e l. absurd (omega (arith, l))) | false ↦ (λ e l. (λ same. differ x.actor actor e (sym same), all_lost actor xs (omega (arith, l)))) ] refl le

lost_others : (actor : ℕ) (journals : List Journal) → position (is_of_actor actor) journals ≡ None → AllByRecursion (λ y. y.actor ≢ actor) journals
lost_others actor journals h =
    elim (nat_lt (position_or_len (is_of_actor actor) journals) (length journals)) as (λ v. nat_lt (position_or_len (is_of_actor actor) journals) (length journals) ≡ v → cond v (Some (position_or_len (is_of_actor actor) journals)) None ≡ None → AllByRecursion (λ y. y.actor ≢ actor) journals)
    [ true ↦ (λ e k. absurd cc) | false ↦ (λ e k. all_lost actor journals (grind (arith, common_steps, e))) ] refl h

without_others : (actor place : ℕ) (journals : List Journal) → AllByRecursion (λ y. y.actor ≢ actor) journals → without_record_of actor place journals ≡ journals
without_others actor place [] all = refl
without_others actor place (x ∷ xs) all = rw (other_number x.actor actor all.0) (ap (λ (ys : List Journal). x ∷ ys) (without_others actor place xs all.1))

without_at : (actor place : ℕ) (journals : List Journal) → AreDistinct journals → (at : ℕ) (journal : Journal) → slice_get journals at ≡ Some journal → journal.actor ≡ actor → slice_set journals at (without_record place journal) ≡ without_record_of actor place journals
without_at actor place [] distinct at journal h own = absurd cc
without_at actor place (x ∷ xs) distinct zero journal h own =
    let here : x.actor ≡ actor = ap (λ (b : Journal). b.actor) (some_same h) ∙ own in
    let others : AllByRecursion (λ y. y.actor ≢ actor) xs = subst (λ (n : ℕ). AllByRecursion (λ y. y.actor ≢ n) xs) here distinct.0 in
    rw (same_place x.actor actor here, without_others actor place xs others) (ap (λ (b : Journal). without_record place b ∷ xs) (sym (some_same h)))
without_at actor place (x ∷ xs) distinct (suc at) journal h own =
    let other : x.actor ≢ actor = λ e. all_get _ xs distinct.0 at journal h (own ∙ sym e) in
    rw (other_number x.actor actor other) (ap (λ (ys : List Journal). x ∷ ys) (without_at actor place xs distinct.1 at journal h own))

-- each actor is there once, also without a record
all_without : (actor place other : ℕ) (journals : List Journal) → AllByRecursion (λ y. y.actor ≢ other) journals → AllByRecursion (λ y. y.actor ≢ other) (without_record_of actor place journals)
all_without actor place other [] all = tt
all_without actor place other (x ∷ xs) all = (elim (x.actor == actor) as (λ v. (if v then without_record place x else x).actor ≢ other) [ true ↦ all.0 | false ↦ all.0 ], all_without actor place other xs all.1)

pub without_distinct : (actor place : ℕ) (journals : List Journal) → AreDistinct journals → AreDistinct (without_record_of actor place journals)
without_distinct actor place [] distinct = tt
without_distinct actor place (x ∷ xs) distinct = (
  elim (x.actor == actor) as (λ v. AllByRecursion (λ y. y.actor ≢ (if v then without_record place x else x).actor) (without_record_of actor place xs)) [ true ↦ all_without actor place x.actor xs distinct.0 | false ↦ all_without actor place x.actor xs distinct.0 ],
  without_distinct actor place xs distinct.1,
)

-- the actor that is found is changed, and no other
pub without_found : (actor place : ℕ) (journals : List Journal) (at : ℕ) → AreDistinct journals → position (is_of_actor actor) journals ≡ Some at → slice_set journals at (without_record place (journal_of actor journals)) ≡ without_record_of actor place journals
without_found actor place journals at distinct pos = without_at actor place journals distinct at (journal_of actor journals) (found_there actor journals at pos) (journal_own actor journals)

pub without_lost : (actor place : ℕ) (journals : List Journal) → position (is_of_actor actor) journals ≡ None → without_record_of actor place journals ≡ journals
without_lost actor place journals pos = without_others actor place journals (lost_others actor journals pos)

-- whether the actor that is found has the record
pub recorded_found : (actor place : ℕ) (journals : List Journal) (at : ℕ) → AreDistinct journals → position (is_of_actor actor) journals ≡ Some at → list_any (λ n. place_of_record n == place) (journal_of actor journals).records ≡ true ↔ IsRecorded journals actor (λ n. place_of_record n ≡ place)
recorded_found actor place journals at distinct pos =
    let own = journal_own actor journals in
    let in_list = found_there actor journals at pos in (
      λ h. (
          let n = any_at (λ n. place_of_record n == place) (journal_of actor journals).records h in
          record { at = at; index = n.0; journal = journal_of actor journals; its_record = n.1; in_list = record { in_journals = in_list; in_records = n.2 }; of_actor = own; of_event = eqb-true _ _ n.3 }),
      λ x. (
          let same : x.journal ≡ journal_of actor journals = some_same (sym x.in_list.in_journals ∙ ap (slice_get journals) (journal_once journals distinct x.at at x.journal (journal_of actor journals) x.in_list.in_journals in_list (x.of_actor ∙ sym own)) ∙ in_list) in
          at_any (λ n. place_of_record n == place) (journal_of actor journals).records x.index x.its_record (subst (λ (b : Journal). slice_get b.records x.index ≡ Some x.its_record) same x.in_list.in_records) (same_place (place_of_record x.its_record) place x.of_event)),
    )

pub recorded_lost : (actor : ℕ) (journals : List Journal) (P : RecordValue → Type 0) → position (is_of_actor actor) journals ≡ None → IsRecorded journals actor P → ⊥
recorded_lost actor journals P pos x = all_get _ journals (lost_others actor journals pos) x.at x.journal x.in_list.in_journals x.of_actor
