-- What is picked of the rows that are found: a look, in whatever order they stand.
use Rattle.std.proofs.Common.{◌≡◌, ℕ, zero, suc, ◌+◌, ◌≤◌, Bool, true, false, not, List, [], ◌∷◌, ◌++◌, length, map, take, drop, refl, sym, ap, ◌∙◌, subst, ⊎_elim, arith}
use Rattle.std.specs.Prelude.{◌==◌, ◌&&◌, ◌||◌, count_by, filter, filter_map, min}
use Rattle.std.specs.List.{Contains, list_any}
use Rattle.std.specs.List.Sorted.{IsPermutation}
use Rattle.std.proofs.lemmas.Bool.{and_parts, or_from, or_parts}
use Rattle.std.proofs.lemmas.Grind.{common_steps}
use Rattle.std.proofs.lemmas.List.{append-nil, append_assoc, length-map, length-take, map-append, take-append-drop, take-append-le, take-map, take-take, take_all}
use Rattle.std.proofs.lemmas.List.Elements.{All-contains_itself, All-take, filter-append, filter_map-append}
use Rattle.std.proofs.lemmas.List.Sorted.{All-permutation, IsPermutation-append_comm, IsPermutation-append_left, IsPermutation-cons, IsPermutation-map, IsPermutation-middle, IsPermutation-refl, IsPermutation-trans, length_permutation, list_any-IsPermutation}
use Rattle.std.proofs.lemmas.List.Sums.{length-filter}
use Rattle.sq_base.specs.declared.row.Row.{Row}
use Rattle.sq_base.specs.declared.settings.Settings.{Settings}
use Rattle.sq_deadline.specs.declared.deadline.Deadline.{Deadline}
use Rattle.sq_deadline.specs.Deadlines.{IndexValue, DeadlinesRise as InOrder, is_due}
use Rattle.sq_deadline.proofs.SetLaws.{along_permutation, due_first}
use Rattle.sq_model.specs.Rows.{IsLook, RisesFrom, is_distinct, is_expired, is_live, received, serials_of, unexpired}
use Rattle.sq_model.proofs.RowLaws.{rises_distinct, rises_filter, rises_unexpired}
use Rattle.sq_slots.specs.Slots.{AreApart, SerialsRise}
use Rattle.sq_store.specs.inside.Due.{most_under}
use Rattle.sq_store.specs.inside.Found.{found, found_due, is_kept_and, row_of}
use Rattle.sq_store.specs.SlotStores.{AreVisible}
use Rattle.sq_store.specs.inside.Visible.{AreBoth}
use Rattle.sq_store.specs.declared.visible.VisibleFrom.{VisibleFrom}
use Rattle.sq_store.proofs.DueLaws.{filter_both, found_of_all}
use Rattle.sq_store.proofs.LiveLaws.{live_is_visible, no_exhausted_is_live}

-- ---- distinct numbers

flips : (a b : ℕ) → (a == b) ≡ (b == a)
flips a b = grind (arith, common_steps)

turned_tests : (e a b d : Bool) → (not (e || a) && (not b && d)) ≡ true → (not (e || b) && (not a && d)) ≡ true
turned_tests true a b d h = absurd cc
turned_tests false true b d h = absurd cc
turned_tests false false true d h = absurd cc
turned_tests false false false d h = h

-- numbers that stand once do so in another order
pub distinct_permutation : (xs ys : List ℕ) → IsPermutation xs ys → is_distinct xs ≡ true → is_distinct ys ≡ true
distinct_permutation xs ys same = (along_permutation (λ (xs ys : List ℕ). IsPermutation xs ys × (is_distinct xs ≡ true → is_distinct ys ≡ true))
    (λ xs. (IsPermutation-refl xs, λ once. once))
    (λ x xs ys h. (
      IsPermutation-cons x xs ys h.0,
      λ once.
          let parts = and_parts (not (list_any (λ y. y == x) xs)) (is_distinct xs) once in
          let none : not (list_any (λ y. y == x) ys) ≡ true = ap not (sym (list_any-IsPermutation (λ y. y == x) xs ys h.0)) ∙ parts.0 in
          rw none (h.1 parts.1),
    ))
    (λ x y xs. (IsPermutation-middle (x ∷ []) y xs, λ once. rw (flips x y) (turned_tests (y == x) (list_any (λ z. z == x) xs) (list_any (λ z. z == y) xs) (is_distinct xs) once)))
    (λ xs ys zs h g. (IsPermutation-trans xs ys zs h.0 g.0, λ once. g.1 (h.1 once)))
    xs ys same).1

none_taken : {X : Type 0} (p : X → Bool) (n : ℕ) (xs : List X) → list_any p xs ≡ false → list_any p (take n xs) ≡ false
none_taken p zero xs none = refl
none_taken p (suc n) [] none = refl
none_taken p (suc n) (x ∷ xs) none = let parts = or_parts (p x) (list_any p xs) none in or_from (p x) (list_any p (take n xs)) parts.0 (none_taken p n xs parts.1)

not_true : (b : Bool) → not b ≡ true → b ≡ false
not_true true h = absurd cc
not_true false h = refl

distinct_taken : (n : ℕ) (xs : List ℕ) → is_distinct xs ≡ true → is_distinct (take n xs) ≡ true
distinct_taken zero xs once = refl
distinct_taken (suc n) [] once = refl
distinct_taken (suc n) (x ∷ xs) once =
    let parts = and_parts (not (list_any (λ y. y == x) xs)) (is_distinct xs) once in
    rw (none_taken (λ y. y == x) n xs (not_true (list_any (λ y. y == x) xs) parts.0)) (distinct_taken n xs parts.1)

-- ---- a look

pub rise_rises : (low : ℕ) (rows : List Row) → SerialsRise low rows → (next : ℕ) × RisesFrom low rows next
rise_rises low [] h = (low, omega arith)
rise_rises low (row ∷ rows) h = let rest = rise_rises (row.serial + 1) rows h.1 in (rest.0, (h.0, rest.1))

abbrev pub serial_of : Row → ℕ
serial_of row = row.serial

received_serials : (m until : ℕ) (rows : List Row) → serials_of (map (received m until) rows) ≡ serials_of rows
received_serials m until [] = refl
received_serials m until (row ∷ rows) = ap (λ (ns : List ℕ). row.serial ∷ ns) (received_serials m until rows)

-- the first so many of the live rows are a look, in whatever order they stand
pub first_are_look : (s : Settings) (m until n : ℕ) (rows live : List Row) → SerialsRise 0 rows → IsPermutation (filter (is_live s m) (unexpired s m rows)) live
    → IsLook s m until n (unexpired s m rows) (take n (map (received m until) live))
first_are_look s m until n rows live rise same =
    let kept = unexpired s m rows in
    let all = filter (is_live s m) kept in
    let given = map (received m until) live in
    let next = rise_rises 0 rows rise in
    let once = rises_distinct 0 all next.0 (rises_filter (is_live s m) 0 kept next.0 (rises_unexpired s m 0 rows next.0 next.1)) in
    let serials : serials_of (take n given) ≡ take n (serials_of live) = sym (take-map serial_of n given) ∙ ap (take n) (received_serials m until live) in
    record {
      exact = length-take n given ∙ ap (min n) (length-map live (received m until) ∙ length_permutation all live same ∙ length-filter (is_live s m) kept);
      distinct = rw serials (distinct_taken n (serials_of live) (distinct_permutation (serials_of all) (serials_of live) (IsPermutation-map serial_of all live same) once));
      each = All-take (Contains (map (received m until) all)) n given
          (All-permutation (Contains (map (received m until) all)) (map (received m until) all) given (IsPermutation-map (received m until) all live same) (All-contains_itself (map (received m until) all)));
    }

-- ---- picks one after another

-- what is taken first does not change what is taken of all
take_twice : {X : Type 0} (n : ℕ) (xs ys : List X) → take n (take n xs ++ ys) ≡ take n (xs ++ ys)
take_twice zero xs ys = refl
take_twice (suc n) [] ys = refl
take_twice {X} (suc n) (x ∷ xs) ys = ap (λ (zs : List X). x ∷ zs) (take_twice n xs ys)

-- of all that is due, what is walked over comes first
found_part : (p : Row → Bool) (rows : List Row) (m : ℕ) (ds : List Deadline) (rank : ℕ) → InOrder 0 ds → rank ≤ count_by (is_due m) ds
    → found_due p rows m ds ≡ found p rows (take rank ds) ++ found p rows (drop rank (filter (is_due m) ds))
found_part p rows m ds rank rise low =
    let due = filter (is_due m) ds in
    let first : take rank due ≡ take rank ds = ap (take rank) (due_first m 0 ds rise) ∙ take-take rank (count_by (is_due m) ds) ds low in
    let parts : due ≡ take rank ds ++ drop rank due = sym (take-append-drop rank due) ∙ ap (λ (es : List Deadline). es ++ drop rank due) first in
    ap (found p rows) parts ∙ ap (filter p) (filter_map-append (row_of rows) (take rank ds) (drop rank due)) ∙ filter-append p (filter_map (row_of rows) (take rank ds)) (filter_map (row_of rows) (drop rank due))

module _ (p : Row → Bool) (f : Row → Row) (rows : List Row) (m max : ℕ) (ds : List Deadline) (rank : ℕ) (before picked : List Row) (so_far : picked ≡ before ++ map f (found p rows (take rank ds))) where
  -- where as many are picked as may be, the rest is not
  pub picked_full : InOrder 0 ds → rank ≤ count_by (is_due m) ds → length picked ≡ max → picked ≡ take max (before ++ map f (found_due p rows m ds))
  picked_full rise low full =
      let rest = found p rows (drop rank (filter (is_due m) ds)) in
      let all : before ++ map f (found_due p rows m ds) ≡ picked ++ map f rest =
      ap (λ (rs : List Row). before ++ map f rs) (found_part p rows m ds rank rise low) ∙ ap (λ (rs : List Row). before ++ rs) (map-append f (found p rows (take rank ds)) rest)
      ∙ sym (append_assoc before (map f (found p rows (take rank ds))) (map f rest)) ∙ ap (λ (rs : List Row). rs ++ map f rest) (sym so_far) in
      rw all (sym (take-append-le max picked (map f rest) (omega (arith, full)) ∙ take_all max picked (omega (arith, full))))

  -- where all that is due is walked over, all are picked
  pub picked_all : found_due p rows m ds ≡ found p rows (take rank ds) → length picked ≤ max → picked ≡ take max (before ++ map f (found_due p rows m ds))
  picked_all all few = rw all (rw (← so_far) (sym (take_all max picked few)))

-- ---- a pick

-- two lists before a third, in the other order
exchanged : (x y c : List Row) → IsPermutation (x ++ (y ++ c)) (y ++ (x ++ c))
exchanged x y c = subst (λ (rs : List Row). IsPermutation rs (y ++ (x ++ c))) (append_assoc x y c) (subst (λ (rs : List Row). IsPermutation ((x ++ y) ++ c) rs) (append_assoc y x c) (IsPermutation-append_left c (x ++ y) (y ++ x) (IsPermutation-append_comm x y)))

module _ (s : Settings) (m until n : ℕ) (rows : List Row) (v : VisibleFrom) (apart : AreApart rows) (held : AreVisible rows v) where
  abbrev picked_of : List Deadline → List Row
  picked_of ds = map (received m until) (found_due (is_kept_and (is_live s m) s m) rows m ds)

  -- what is picked of the three lists, two of them in one order or the other, is a look
  pub pick_is_look : (one two : IndexValue) → AreBoth v one two → (first second third : List Row) → first ≡ take n (picked_of one.deadlines) → second ≡ take n (first ++ picked_of two.deadlines)
      → third ≡ take n (second ++ picked_of v.exhausted.deadlines) → IsLook s m until n (unexpired s m rows) third
  pick_is_look one two both first second third is_first is_second is_third =
      let p = is_kept_and (is_live s m) s m in
      let f = received m until in
      let a = found_due p rows m one.deadlines in
      let b = found_due p rows m two.deadlines in
      let c = found_due p rows m v.exhausted.deadlines in
      let pair : second ≡ take n (map f a ++ map f b) = is_second ∙ ap (λ (rs : List Row). take n (rs ++ map f b)) is_first ∙ take_twice n (map f a) (map f b) in
      let all : third ≡ take n ((map f a ++ map f b) ++ map f c) = is_third ∙ ap (λ (rs : List Row). take n (rs ++ map f c)) pair ∙ take_twice n (map f a ++ map f b) (map f c) in
      let joined : (map f a ++ map f b) ++ map f c ≡ map f (a ++ (b ++ c)) =
      append_assoc (map f a) (map f b) (map f c) ∙ ap (λ (rs : List Row). map f a ++ rs) (sym (map-append f b c)) ∙ sym (map-append f a (b ++ c)) in
      let x = found_due p rows m v.unreceived.deadlines in
      let y = found_due p rows m v.received.deadlines in
      let lists : IsPermutation (filter (is_live s m) (unexpired s m rows)) (x ++ (y ++ c)) =
      rw (filter_both (λ row. not (is_expired s m row)) (is_live s m) rows) (found_of_all p m rows v apart.slots held (live_is_visible s m)) in
      let same : IsPermutation (filter (is_live s m) (unexpired s m rows)) (a ++ (b ++ c)) =
      ⊎_elim
      (λ (as_they_are : (one ≡ v.unreceived) × (two ≡ v.received)). rw (as_they_are.0, as_they_are.1) lists)
      (λ (turned : (one ≡ v.received) × (two ≡ v.unreceived)). rw (turned.0, turned.1) (IsPermutation-trans (filter (is_live s m) (unexpired s m rows)) (x ++ (y ++ c)) (y ++ (x ++ c)) lists (exchanged x y c)))
      both in
      rw (all ∙ ap (take n) joined) (first_are_look s m until n rows (a ++ (b ++ c)) apart.rise same)

  -- where none of the exhausted rows is live, the other two lists are enough
  pub pick_without_exhausted : (one two : IndexValue) → AreBoth v one two → (first second : List Row) → most_under s.redrive ≤ v.most → first ≡ take n (picked_of one.deadlines)
      → second ≡ take n (first ++ picked_of two.deadlines) → IsLook s m until n (unexpired s m rows) second
  pick_without_exhausted one two both first second le is_first is_second =
      let none : picked_of v.exhausted.deadlines ≡ [] = ap (map (received m until)) (no_exhausted_is_live s m rows v apart.slots held le) in
      let few : second ≡ take n (second ++ picked_of v.exhausted.deadlines) =
      rw (none, append-nil second) (sym (rw is_second (take-take n n (first ++ picked_of two.deadlines) (omega arith)))) in
      pick_is_look one two both first second second is_first is_second few
