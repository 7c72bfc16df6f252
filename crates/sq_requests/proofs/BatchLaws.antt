-- What is read of the entries of a batch.
use Rattle.std.proofs.Common.{◌≡◌, Bool, true, false, ℕ, List, [], ◌∷◌, ◌++◌, Result, Ok, Err, refl, sym, ◌∙◌, ◌<◌, ◌≤◌, ◌↔◌, arith, ◌+◌, add-zero, append_assoc, length, length-append, map}
use Rattle.std.specs.Prelude.{is_err, nat_lt, IsOk, OnOk, OnErr}
use Rattle.std.proofs.lemmas.Bool.{lt-ltb}
use Rattle.std.proofs.lemmas.List.{map-append}
use Rattle.arrayvec.specs.ArrayVec.{ArrayVec}
use Rattle.serde_json.specs.Data.{Data, Items, no_items, item}
use Rattle.sq_base.specs.declared.refusal.Refusal.{Refusal}
use Rattle.sq_calls.specs.declared.batches.BatchKind.{BatchKind}
use Rattle.sq_calls.specs.declared.batches.Entry.{Entry}
use Rattle.sq_policy.specs.Reading.{◌>>=◌}
use Rattle.sq_requests.specs.Lists.{all_items}
use Rattle.sq_requests.specs.Batches.{bodies_length, body_length, entries_of, entry_of, how_many, is_entry}
use Rattle.sq_requests.specs.inside.Batches.{with_rest, entry_by, length_by, lengths_of, AreFirst, IsRead}
use Rattle.sq_requests.specs.declared.batches.EntryMembers.{EntryMembers}
use Rattle.sq_requests.specs.declared.batches.ReadEntries.{ReadEntries}

-- ---- one more entry

after_one_more : (read : List Entry) (entry : Entry) (rest : Result (List Entry) Refusal) → with_rest read (rest >>= λ more. Ok (entry ∷ more)) ≡ with_rest (read ++ entry ∷ []) rest
after_one_more read entry (Ok more) = rw append_assoc refl
after_one_more read entry (Err e) = refl

one_more : (kind : BatchKind) (found : Result (List Entry) Refusal) (ds rest : Items) (d : Data) (read : List Entry) (entry : Entry) → ds ≡ item d rest → entry_of kind d ≡ Ok entry
    → found ≡ with_rest read (entries_of kind ds) → found ≡ with_rest (read ++ entry ∷ []) (entries_of kind rest)
one_more kind found ds rest d read entry is one so = so ∙ rw (is, one) (after_one_more read entry (entries_of kind rest))

longer : (first : List EntryMembers) (entry : EntryMembers) → lengths_of (first ++ entry ∷ []) ≡ lengths_of first + length_by entry.asked
longer [] entry = omega arith
longer (one ∷ rest) entry = let more = longer rest entry in omega arith

next_first : (kind : BatchKind) (all ds rest : Items) (d : Data) (first : List EntryMembers) (entry : EntryMembers) → ds ≡ item d rest → entry_of kind d ≡ Ok (entry_by entry) → length_by entry.asked ≡ body_length kind d
    → AreFirst kind all ds first → AreFirst kind all rest (first ++ entry ∷ [])
next_first kind all ds rest d first entry is one length so =
    let counted : how_many ds ≡ 1 + how_many rest = rw is refl in
    let measured : bodies_length kind ds ≡ body_length kind d + bodies_length kind rest = rw is refl in
    let more = longer first entry in
    let count = so.count in
    let lengths = so.lengths in
    record {
      entries = rw (map-append entry_by first (entry ∷ [])) (one_more kind _ ds rest d (map entry_by first) (entry_by entry) is one so.entries);
      count = simp length-append (omega arith);
      lengths = omega arith;
    }

-- ---- the walk over all entries

-- the first ten are kept, and that there are more
pub record AreKept (kind : BatchKind) (all rest : Items) (first : List EntryMembers) (has_more : Bool) : Type 0 where
  pub are_all : has_more ≡ false → AreFirst kind all rest first
  pub many : has_more ≡ true → 10 < how_many all
  pub full : has_more ≡ true → length first ≡ 10
  pub few : length first ≤ 10

keeps_all : (kind : BatchKind) (all : Items) (found : Result (List Entry) Refusal) → found ≡ with_rest [] found
keeps_all kind all (Ok entries) = refl
keeps_all kind all (Err e) = refl

pub keeps_none : (kind : BatchKind) (all : Items) → AreKept kind all all [] false
keeps_none kind all = record {
  are_all = λ h. record { entries = keeps_all kind all (entries_of kind all); count = omega arith; lengths = omega arith };
  many = λ h. absurd (cc);
  full = λ h. absurd (cc);
  few = omega arith;
}

-- where more fit, all so far are kept
not_more : (has_more : Bool) (n : ℕ) → (has_more ≡ true → n ≡ 10) → n < 10 → has_more ≡ false
not_more true n full more_fit = let is = full refl in absurd (omega arith)
not_more false n full more_fit = refl

-- and behind ten there are more
more_than_ten : (kind : BatchKind) (all ds rest : Items) (d : Data) (first : List EntryMembers) (has_more : Bool) → ds ≡ item d rest → length first ≡ 10 → AreKept kind all ds first has_more → 10 < how_many all
more_than_ten kind all ds rest d first true is full so = so.many refl
more_than_ten kind all ds rest d first false is full so =
    let counted : how_many ds ≡ 1 + how_many rest = rw is refl in
    let count = (so.are_all refl).count in
    omega arith

pub keeps_one : {E : Type 0} (kind : BatchKind) (all ds rest : Items) (d : Data) (first new : ArrayVec EntryMembers) (has_more : Bool) (entry : EntryMembers) (pushed : Result (Unit {0}) E)
    → ds ≡ item d rest → entry_of kind d ≡ Ok (entry_by entry) → length_by entry.asked ≡ body_length kind d
    → IsOk pushed ↔ (length first.items < 10) → OnOk pushed (new.items ≡ first.items ++ entry ∷ []) → OnErr pushed (new ≡ first) → OnErr pushed (length first.items ≡ 10)
    → AreKept kind all ds first.items has_more → AreKept kind all rest new.items (is_err pushed)
keeps_one kind all ds rest d first new has_more entry (Ok done) is one length fits ok err full so =
    let more_fit = fits.0 refl in
    record {
      are_all = λ h. rw ok (next_first kind all ds rest d first.items entry is one length (so.are_all (not_more has_more _ so.full more_fit)));
      many = λ h. absurd (cc);
      full = λ h. absurd (cc);
      few = rw ok (simp length-append (omega arith));
    }
keeps_one kind all ds rest d first new has_more entry (Err e) is one length fits ok err full so = record {
  are_all = λ h. absurd (cc);
  many = λ h. more_than_ten kind all ds rest d first.items has_more is full so;
  full = λ h. rw err full;
  few = rw err so.few;
}

more_if : (has_more : Bool) (n m : ℕ) → (has_more ≡ true → 10 < n) → (has_more ≡ false → n ≡ m) → m ≤ 10 → has_more ≡ nat_lt 10 n
more_if true n m many few le = sym (lt-ltb 10 n (many refl))
more_if false n m many few le = let is = few refl in grind arith

pub reads_all : (kind : BatchKind) (all rest : Items) (read : ReadEntries) → rest ≡ no_items → all_items (is_entry kind) all ≡ all_items (is_entry kind) rest → AreKept kind all rest read.first.items read.has_more → IsRead kind all read
reads_all kind all rest read none entries so = record {
  entries = rw (entries, none) refl;
  first = λ h. rw none at (so.are_all h);
  more = more_if read.has_more (how_many all) (length read.first.items + how_many rest) so.many (λ h. (so.are_all h).count) (rw (none, add-zero) so.few);
}
