-- What is gathered at the end of a service.
use Rattle.std.proofs.Common.{◌≡◌, ◌≢◌, ◌+◌, ◌≤◌, ℕ, List, [], ◌∷◌, ◌++◌, Some, None, length, map, sum_by, refl, sym, ap, subst, inl, inr, ◌∙◌, append_assoc, length-append, arith, Bool, true, false, ◌&&◌}
use Rattle.std.specs.Prelude.{◌==◌, nat_lt, position}
use Rattle.std.specs.List.{AllByRecursion, position_or_len}
use Rattle.std.proofs.lemmas.Bool.Decides.{nat_tests}
use Rattle.std.proofs.lemmas.Grind.{common_steps}
use Rattle.sq_model.specs.RecordValues.{Journal}
use Rattle.sq_steps.specs.Journals.{is_of_actor, AreDistinct}
use Rattle.sq_queue.specs.Evidence.{first_of_each, with_firsts, with_unfound}
use Rattle.std.proofs.lemmas.Bool.{eqb-true}
use Rattle.std.proofs.lemmas.List.{append-nil, length-map, map-append}
use Rattle.sq_base.specs.declared.ids.HomeId.{HomeId}
use Rattle.sq_history.proofs.HomeIdLaws.{same_id}
use Rattle.std.proofs.lemmas.List.Sums.{sum_by-append}
use Rattle.std.proofs.lemmas.List.Folds.{fold-map}
use Rattle.sq_history.specs.HistoryValue.{HistoryValue}
use Rattle.sq_history.specs.HomeIds.{home_id, IsNumbered}
use Rattle.sq_model.proofs.ElementLaws.{get_cases}

summed : {S A : Type 0} (actor : S → A) (f : A → ℕ) (retired given : List S) (actors records : List A) (made left parts amount total : ℕ)
    → actors ≡ map actor retired ++ map actor given
    → records ≡ actors
    → made + left ≡ 4294967296
    → parts ≡ left + length retired + length given
    → amount ≡ sum_by (λ s. f (actor s)) retired + sum_by (λ s. f (actor s)) given
    → (parts ≡ 4294967296 → amount ≡ total)
    → length records ≡ made
    → total ≡ sum_by f records
summed actor f retired given actors records made left parts amount total are same cut here sums whole all =
    let n : length actors ≡ length retired + length given = ap length are ∙ length-append (map actor retired) (map actor given) ∙ (λ i. length-map retired actor i + length-map given actor i) in
    let as_many : length records ≡ length actors = ap length same in
    let whole' : amount ≡ total = whole (omega (arith, n, as_many, all, here, cut)) in
    let split : sum_by f actors ≡ sum_by f (map actor retired) + sum_by f (map actor given) = ap (sum_by f) are ∙ sum_by-append f (map actor retired) (map actor given) in
    let one : sum_by f (map actor retired) ≡ sum_by (λ s. f (actor s)) retired = fold-map (λ a x. a + f x) actor 0 retired in
    let two : sum_by f (map actor given) ≡ sum_by (λ s. f (actor s)) given = fold-map (λ a x. a + f x) actor 0 given in
    let as_much : sum_by f records ≡ sum_by f actors = ap (sum_by f) same in
    omega (arith, whole', split, one, two, sums, as_much)

-- one journal more, at the end of those that come
pub firsts_more : (kept journals : List Journal) (journal : Journal)
    → with_firsts kept (journals ++ journal ∷ []) ≡ with_unfound (with_firsts kept journals) journal (position (is_of_actor journal.actor) (with_firsts kept journals))
firsts_more kept [] journal = refl
firsts_more kept (x ∷ xs) journal = firsts_more (with_unfound kept x (position (is_of_actor x.actor) kept)) xs journal

-- the journal of one session more is taken in
pub gathered_more : {S : Type 0} (its : S → Journal) (kept : List Journal) (ss : List S) (s : S) (journal : Journal) (before after : List Journal)
    → before ≡ with_firsts kept (map its ss) → journal ≡ its s → after ≡ with_unfound before journal (position (is_of_actor journal.actor) before) → after ≡ with_firsts kept (map its (ss ++ s ∷ []))
gathered_more its kept ss s journal before after have same put =
    put ∙ (λ i. with_unfound (have i) (same i) (position (is_of_actor (same i).actor) (have i))) ∙ sym (firsts_more kept (map its ss) (its s)) ∙ ap (with_firsts kept) (sym (map-append its ss (s ∷ [])))

-- some journals, and then some more
pub firsts_both : (kept xs ys : List Journal) → with_firsts kept (xs ++ ys) ≡ with_firsts (with_firsts kept xs) ys
firsts_both kept [] ys = refl
firsts_both kept (x ∷ xs) ys = firsts_both (with_unfound kept x (position (is_of_actor x.actor) kept)) xs ys

-- no more are kept than there are
pub firsts_fewer : (kept xs : List Journal) → length (with_firsts kept xs) ≤ length kept + length xs
firsts_fewer kept [] = omega arith
firsts_fewer kept (x ∷ xs) = elim (position (is_of_actor x.actor) kept) as (λ found. length (with_firsts (with_unfound kept x found) xs) ≤ length kept + length (x ∷ xs)) [
  | Some at ↦ (let few = firsts_fewer kept xs in omega (arith, few))
  | None ↦ (let few = firsts_fewer (kept ++ x ∷ []) xs in omega (arith, few, length-append kept (x ∷ [])))
]

-- where as many are kept as there are, all are
pub firsts_whole : (kept xs : List Journal) → length (with_firsts kept xs) ≡ length kept + length xs → with_firsts kept xs ≡ kept ++ xs
firsts_whole kept [] h = sym (append-nil kept)
firsts_whole kept (x ∷ xs) h = elim (position (is_of_actor x.actor) kept) as (λ found. length (with_firsts (with_unfound kept x found) xs) ≡ length kept + length (x ∷ xs) → with_firsts (with_unfound kept x found) xs ≡ kept ++ x ∷ xs) [
  | Some at ↦ (λ e. let few = firsts_fewer kept xs in absurd (omega (arith, few, e)))
  | None ↦ (λ e. firsts_whole (kept ++ x ∷ []) xs (omega (arith, e, length-append kept (x ∷ []))) ∙ append_assoc kept (x ∷ []) xs)
] h

not_equal : (a b : ℕ) → a ≢ b → (a == b) ≡ false
not_equal a b apart = grind (arith, nat_tests)

passed_over : (p : Journal → Bool) (xs : List Journal) → AllByRecursion (λ y. p y ≡ false) xs → position_or_len p xs ≡ length xs
passed_over p [] h = refl
passed_over p (x ∷ xs) h = let e = h.0 in let k = passed_over p xs h.1 in rw e (omega (arith, k))

not_found : (p : Journal → Bool) (xs : List Journal) → AllByRecursion (λ y. p y ≡ false) xs → position p xs ≡ None
not_found p xs h = let none : nat_lt (length xs) (length xs) ≡ false = grind (arith, common_steps) in rw (passed_over p xs h, none) refl

in_the_middle : (P : Journal → Type 0) (xs : List Journal) (x : Journal) (ys : List Journal) → AllByRecursion P (xs ++ x ∷ ys) → P x
in_the_middle P [] x ys h = h.0
in_the_middle P (y ∷ xs) x ys h = in_the_middle P xs x ys h.1

others_before : (xs : List Journal) (x : Journal) (ys : List Journal) → AreDistinct (xs ++ x ∷ ys) → AllByRecursion (λ y. is_of_actor x.actor y ≡ false) xs
others_before [] x ys h = tt
others_before (y ∷ xs) x ys h =
    let apart : x.actor ≢ y.actor = in_the_middle (λ z. z.actor ≢ y.actor) xs x ys h.0 in
    (not_equal y.actor x.actor (λ e. apart (sym e)), others_before xs x ys h.1)

firsts_distinct : (kept xs : List Journal) → AreDistinct (kept ++ xs) → with_firsts kept xs ≡ kept ++ xs
firsts_distinct kept [] h = sym (append-nil kept)
firsts_distinct kept (x ∷ xs) h =
    rw (not_found (is_of_actor x.actor) kept (others_before kept x xs h))
    (firsts_distinct (kept ++ x ∷ []) xs (subst AreDistinct (sym (append_assoc kept (x ∷ []) xs)) h) ∙ append_assoc kept (x ∷ []) xs)

-- of actors that are each there once, all are kept
pub all_kept : (journals : List Journal) → AreDistinct journals → first_of_each journals ≡ journals
all_kept journals h = firsts_distinct [] journals h

-- Where as many journals are left as sessions were made, every part of the ledger is here, and so the whole total.
pub all_counted : {S : Type 0} (actor : S → Journal) (f : Journal → ℕ) (given retired : List S) (records : List Journal) (made left parts amount total : ℕ)
    → records ≡ first_of_each (map actor given ++ map actor retired)
    → made + left ≡ 4294967296
    → parts ≡ left + length given + length retired
    → parts ≤ 4294967296
    → amount ≡ sum_by (λ s. f (actor s)) given + sum_by (λ s. f (actor s)) retired
    → (parts ≡ 4294967296 → amount ≡ total)
    → length records ≡ made
    → total ≡ sum_by f records
all_counted actor f given retired records made left parts amount total are cut here few sums whole all =
    let journals = map actor given ++ map actor retired in
    let n : length journals ≡ length given + length retired = length-append (map actor given) (map actor retired) ∙ (λ i. length-map given actor i + length-map retired actor i) in
    let most = firsts_fewer [] journals in
    let fewer : length (first_of_each journals) ≤ length journals = omega (arith, most) in
    let as_many : length records ≡ length (first_of_each journals) = ap length are in
    let same : first_of_each journals ≡ journals = firsts_whole [] journals (omega (arith, n, fewer, as_many, all, cut, here, few)) in
    summed actor f given retired journals records made left parts amount total refl (are ∙ same) cut here sums whole all

-- a home more at its place
pub numbered_more : (per_queue : ℕ) (homes : List HistoryValue) (home : HistoryValue) → IsNumbered per_queue homes → home.site.home ≡ home_id per_queue (length homes) → IsNumbered per_queue (homes ++ home ∷ [])
numbered_more per_queue homes home numbered at = λ k h there. elim (get_cases homes home h k there) [
  | inl before ↦ numbered k h before
  | inr last ↦ ap (λ (x : HistoryValue). x.site.home) last.1 ∙ at ∙ ap (home_id per_queue) (sym last.0)
]

both : (a b : Bool) → (a && b) ≡ true → (a ≡ true) × (b ≡ true)
both true true h = (refl, refl)
both true false h = absurd cc
both false b h = absurd cc

-- two ids whose numbers are found equal are the same
pub found_same : (x y : HomeId) → ((x.queue == y.queue) && (x.home == y.home)) ≡ true → x ≡ y
found_same x y h = let each = both (x.queue == y.queue) (x.home == y.home) h in same_id x y (eqb-true _ _ each.0) (eqb-true _ _ each.1)
