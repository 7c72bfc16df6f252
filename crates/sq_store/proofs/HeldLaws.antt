-- The moments of rows of a class, where a row comes in, goes out or changes.
use Rattle.std.proofs.Common.{◌≡◌, ◌≤◌, Bool, true, false, List, ◌∷◌, ◌++◌, length, map, refl, sym, ap, ◌∙◌, subst, arith}
use Rattle.std.specs.Prelude.{filter}
use Rattle.std.specs.List.{list_any}
use Rattle.std.specs.List.Sorted.{IsPermutation}
use Rattle.std.proofs.lemmas.List.{length-map, map-append}
use Rattle.std.proofs.lemmas.List.Sums.{count_by-le-length, length-filter}
use Rattle.std.proofs.lemmas.List.Elements.{filter-append}
use Rattle.std.proofs.lemmas.List.Sorted.{IsPermutation-trans, IsPermutation-sym, IsPermutation-middle, IsPermutation-cons, length_permutation}
use Rattle.sq_base.specs.declared.row.Row.{Row}
use Rattle.sq_deadline.specs.declared.deadline.Deadline.{Deadline}
use Rattle.sq_deadline.specs.Deadlines.{DeadlinesRise, is_same}
use Rattle.sq_deadline.proofs.SetLaws.{comes_in_once, goes_out}
use Rattle.sq_store.specs.Due.{Holds}
use Rattle.sq_store.specs.inside.Due.{with_if, without_if}

module _ (class : Row → Bool) (key : Row → Deadline) (before : List Row) (row : Row) (after : List Row) where
  -- what the rows of a class are, with the one in the middle
  parts : (rest : List Row) → map key (filter class (before ++ rest)) ≡ map key (filter class before) ++ map key (filter class rest)
  parts rest = ap (map key) (filter-append class before rest) ∙ map-append key (filter class before) (filter class rest)

  -- one of the class stands among the moments of the others
  among : class row ≡ true → IsPermutation (map key (filter class (before ++ row ∷ after))) (key row ∷ map key (filter class (before ++ after)))
  among is =
      let whole : map key (filter class (before ++ row ∷ after)) ≡ map key (filter class before) ++ key row ∷ map key (filter class after) =
      parts (row ∷ after) ∙ ap (λ (ds : List Deadline). map key (filter class before) ++ ds) (rw is refl) in
      subst (λ (ds : List Deadline). IsPermutation ds (key row ∷ map key (filter class (before ++ after)))) (sym whole)
      (subst (λ (ds : List Deadline). IsPermutation (map key (filter class before) ++ key row ∷ map key (filter class after)) (key row ∷ ds)) (sym (parts after))
      (IsPermutation-middle (map key (filter class before)) (key row) (map key (filter class after))))

  -- one that is not of the class is not there
  apart : class row ≡ false → map key (filter class (before ++ row ∷ after)) ≡ map key (filter class (before ++ after))
  apart is = parts (row ∷ after) ∙ ap (λ (ds : List Deadline). map key (filter class before) ++ ds) (rw is refl) ∙ sym (parts after)

  pub held_in : (b : Bool) → class row ≡ b → (ds : List Deadline) → (b ≡ true → list_any (is_same (key row)) ds ≡ false)
      → Holds class key (before ++ after) ds → Holds class key (before ++ row ∷ after) (with_if b (key row) ds)
  held_in true is ds absent held = IsPermutation-trans _ _ _ (among is) (IsPermutation-trans _ _ _ (IsPermutation-cons (key row) _ ds held) (comes_in_once (key row) ds (absent refl)))
  held_in false is ds absent held = subst (λ (es : List Deadline). IsPermutation es ds) (sym (apart is)) held

  pub held_out : (b : Bool) → class row ≡ b → (ds : List Deadline) → (b ≡ true → DeadlinesRise 0 ds)
      → Holds class key (before ++ row ∷ after) ds → Holds class key (before ++ after) (without_if b (key row) ds)
  held_out true is ds rise held = goes_out 0 (key row) (map key (filter class (before ++ after))) ds (rise refl) (IsPermutation-trans _ _ _ (IsPermutation-sym _ _ (among is)) held)
  held_out false is ds rise held = subst (λ (es : List Deadline). IsPermutation es ds) (apart is) held

  -- another row in its rank, of the class and with its moment
  pub held_same : (row' : Row) → class row ≡ true → class row' ≡ true → key row' ≡ key row → (ds : List Deadline) → Holds class key (before ++ row ∷ after) ds → Holds class key (before ++ row' ∷ after) ds
  held_same row' is is' same ds held =
      let one : map key (filter class (row' ∷ after)) ≡ map key (filter class (row ∷ after)) = rw (is, is', same) refl in
      subst (λ (es : List Deadline). IsPermutation es ds) (sym (parts (row' ∷ after) ∙ ap (λ (es : List Deadline). map key (filter class before) ++ es) one ∙ sym (parts (row ∷ after)))) held

-- a list has no more moments than there are rows
pub held_few : (class : Row → Bool) (key : Row → Deadline) (rows : List Row) (ds : List Deadline) → Holds class key rows ds → length ds ≤ length rows
held_few class key rows ds held =
    let long = length_permutation (map key (filter class rows)) ds held in
    let mapped : length (map key (filter class rows)) ≡ length (filter class rows) = length-map (filter class rows) key in
    omega (arith, long, mapped, length-filter class rows, count_by-le-length class rows)
