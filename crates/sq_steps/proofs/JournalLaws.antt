-- What an actor has stays in order with one step more.
use Rattle.std.proofs.Common.{◌≡◌, ℕ, ◌+◌, ◌<◌, true, false, List, [], ◌∷◌, ◌++◌, Option, Ok, refl, sym, ap, subst, inl, inr, arith}
use Rattle.std.specs.Prelude.{if◌then◌else◌}
use Rattle.std.specs.List.{AllByRecursion}
use Rattle.std.specs.Ordering.{is_lt}
use Rattle.std.specs.Cmp.{IsStrictWeakOrder}
use Rattle.std.proofs.lemmas.List.Sorted.{ranks_by}
use Rattle.sq_base.specs.StampValue.{StampValue}
use Rattle.sq_base.specs.Stamps.{Below, after, stamp_cmp}
use Rattle.sq_base.proofs.StampLaws.{stamps_total, after_above_second, below_or, below_less, below_not_less}
use Rattle.sq_model.specs.RecordValues.{HomeRecordValue, RecordValue, OfHome, place_of_record, record_stamp, Journal, actor_of, RecordsRise}
use Rattle.sq_history.specs.HistoryValue.{HistoryValue}
use Rattle.sq_directory.specs.Makers.{IsSeen}
use Rattle.sq_model.specs.declared.replies.HomeReply.{HomeReply}
use Rattle.sq_model.specs.declared.shared.SharedAct.{SharedAct}
use Rattle.sq_ledger.specs.LedgerHistory.{LedgerHistory}
use Rattle.sq_steps.specs.SharedSteps.{BothDo}
use Rattle.sq_steps.specs.Journals.{later, IsJournal, with_record}
use Rattle.sq_directory.proofs.MakerLaws.{seen_below}

pub all_weaken : {X : Type 0} (P Q : X → Type 0) (xs : List X) → ((x : X) → P x → Q x) → AllByRecursion P xs → AllByRecursion Q xs
all_weaken P Q [] f h = tt
all_weaken P Q (x ∷ xs) f h = (f x h.0, all_weaken P Q xs f h.1)

pub all_both : {X : Type 0} (P Q : X → Type 0) (xs : List X) → AllByRecursion P xs → AllByRecursion Q xs → AllByRecursion (λ x. P x × Q x) xs
all_both P Q [] h g = tt
all_both P Q (x ∷ xs) h g = ((h.0, g.0), all_both P Q xs h.1 g.1)

pub all_push : {X : Type 0} (P : X → Type 0) (xs : List X) (x : X) → AllByRecursion P xs → P x → AllByRecursion P (xs ++ x ∷ [])
all_push P [] x h p = (p, tt)
all_push P (y ∷ ys) x h p = (h.0, all_push P ys x h.1 p)

rise_push : (ns : List RecordValue) (n : RecordValue) → RecordsRise ns → AllByRecursion (λ m. (place_of_record m < place_of_record n) × Below (record_stamp m) (record_stamp n)) ns → RecordsRise (ns ++ n ∷ [])
rise_push [] n rise low = (tt, tt)
rise_push (m ∷ ms) n rise low = (all_push (λ k. (place_of_record m < place_of_record k) × Below (record_stamp m) (record_stamp k)) ms n rise.0 low.0, rise_push ms n rise.1 low.1)

stamps_weak : IsStrictWeakOrder (λ a b. is_lt (stamp_cmp a b))
stamps_weak = ranks_by stamps_total (λ s. s)

not_less_itself : (a : StampValue) → is_lt (stamp_cmp a a) ≡ true → ⊥
not_less_itself a h = let k : is_lt (stamp_cmp a a) ≡ false = stamps_weak.one_way a a h in cc

less_below : (a b : StampValue) → is_lt (stamp_cmp a b) ≡ true → Below a b
less_below a b less = elim (below_or a b) [
  | inl h ↦ h
  | inr h ↦ elim h [
    | inl same ↦ absurd (not_less_itself a (subst (λ (x : StampValue). is_lt (stamp_cmp a x) ≡ true) (sym same) less))
    | inr above ↦ (let k : is_lt (stamp_cmp a b) ≡ false = below_not_less b a above in absurd cc)
  ]
]

pub journal_more : (b : Journal) (n : RecordValue) (spare : ℕ) → IsJournal b → place_of_record n ≡ b.next → Below b.seen (record_stamp n) → IsJournal (with_record b n spare)
journal_more b n spare is place above =
    let low = all_weaken (λ m. place_of_record m < b.next) (λ m. place_of_record m < place_of_record n) b.records (λ m lt. omega (arith, lt, place)) is.below in
    let under = all_weaken (λ m. IsSeen (record_stamp m) b.seen) (λ m. Below (record_stamp m) (record_stamp n)) b.records (λ m s. seen_below (record_stamp m) b.seen (record_stamp n) s above) is.saw in
    record {
      rise = rise_push b.records n is.rise (all_both (λ m. place_of_record m < place_of_record n) (λ m. Below (record_stamp m) (record_stamp n)) b.records low under);
      below = all_push (λ m. place_of_record m < b.next + 1) b.records n (all_weaken (λ m. place_of_record m < b.next) (λ m. place_of_record m < b.next + 1) b.records (λ m lt. omega (arith, lt)) is.below) (omega (arith, place));
      saw = all_push (λ m. IsSeen (record_stamp m) (record_stamp n)) b.records n (all_weaken (λ m. Below (record_stamp m) (record_stamp n)) (λ m. IsSeen (record_stamp m) (record_stamp n)) b.records (λ m h. inr h) under) (inl refl);
    }

-- it has read what is above what it had seen
pub journal_above : (b : Journal) (stamp : StampValue) → IsJournal b → is_lt (stamp_cmp b.seen stamp) ≡ true → IsJournal (record b { seen = stamp })
journal_above b stamp is less = record {
  rise = is.rise;
  below = is.below;
  saw = all_weaken (λ m. IsSeen (record_stamp m) b.seen) (λ m. IsSeen (record_stamp m) stamp) b.records (λ m h. inr (seen_below (record_stamp m) b.seen stamp h (less_below b.seen stamp less))) is.saw;
}

-- the record of a step of a part is above what its actor has
pub after_journal_more : (last : StampValue) (journal : Journal) (now : ℕ) (n : RecordValue) (spare : ℕ)
    → IsJournal journal → after last journal.seen now ≡ Ok (record_stamp n) → place_of_record n ≡ journal.next → IsJournal (with_record journal n spare)
after_journal_more last journal now n spare is stamped place = journal_more journal n spare is place (after_above_second last journal.seen now (record_stamp n) stamped)

-- that of a step that the home shares with the ledger
pub shared_journal_more : (old new : HistoryValue) (ledger after : LedgerHistory) (journal : Journal) (stamp : StampValue) (name : Option (List ℕ)) (act : SharedAct) (reply : HomeReply) (its_record : HomeRecordValue) (spare : ℕ)
    → IsJournal journal → BothDo old new ledger after (actor_of journal) stamp name act (reply, its_record) → IsJournal (with_record journal (OfHome its_record) spare)
shared_journal_more old new ledger after journal stamp name act reply its_record spare is both =
    let at_home = both.at_home in
    journal_more journal (OfHome its_record) spare is (ap (λ (n : HomeRecordValue). n.place) at_home.record_is)
    (subst (λ (s : StampValue). Below journal.seen s) (sym (ap (λ (n : HomeRecordValue). n.stamp) at_home.record_is)) at_home.above_seen)

-- of two stamps the later is not below either
pub later_first : (a b : StampValue) → IsSeen a (later a b)
later_first a b = elim (below_or a b) as (λ _. IsSeen a (later a b)) [
  | inl below ↦ rw (below_less a b below) (inr below)
  | inr rest ↦ elim rest as (λ _. IsSeen a (later a b)) [
    | inl same ↦ elim (is_lt (stamp_cmp a b)) as (λ v. IsSeen a (if v then b else a)) [ true ↦ inl same | false ↦ inl refl ]
    | inr above ↦ rw (below_not_less b a above) (inl refl)
  ]
]

pub later_second : (a b : StampValue) → IsSeen b (later a b)
later_second a b = elim (below_or a b) as (λ _. IsSeen b (later a b)) [
  | inl below ↦ rw (below_less a b below) (inl refl)
  | inr rest ↦ elim rest as (λ _. IsSeen b (later a b)) [
    | inl same ↦ elim (is_lt (stamp_cmp a b)) as (λ v. IsSeen b (if v then b else a)) [ true ↦ inl refl | false ↦ inl (sym same) ]
    | inr above ↦ rw (below_not_less b a above) (inr above)
  ]
]
