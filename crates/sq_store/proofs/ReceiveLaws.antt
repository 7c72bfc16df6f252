-- Rows that are received one after another.
use Rattle.std.proofs.Common.{◌≡◌, ℕ, zero, suc, ◌+◌, ◌<◌, Bool, true, false, not, List, [], ◌∷◌, ◌++◌, length, map, take, get_or, refl, sym, ap, ◌∙◌, subst, arith, Contains}
use Rattle.std.specs.Prelude.{◌&&◌, ◌||◌, ◌==◌, if◌then◌else◌}
use Rattle.std.specs.List.{list_any}
use Rattle.std.proofs.lemmas.Grind.{common_steps}
use Rattle.std.proofs.lemmas.List.{get_or-map, length-map, map-append, take-map, take_more}
use Rattle.sq_base.specs.declared.row.Row.{Row}
use Rattle.sq_base.specs.declared.settings.Settings.{Settings}
use Rattle.sq_model.specs.Rows.{is_distinct, is_live, received, received_if, serials_of}
use Rattle.sq_slots.proofs.RowLists.{Contains-cons, contains_first}
use Rattle.sq_slots.specs.Slots.{is_at}
use Rattle.sq_store.specs.inside.SlotStores.{received_at}

and_false : (b : Bool) → (b && false) ≡ false
and_false true = refl
and_false false = refl

and_true : (b : Bool) → (b && true) ≡ b
and_true true = refl
and_true false = refl

or_false : (b : Bool) → (b || false) ≡ b
or_false true = refl
or_false false = refl

pub same_number : (a b : ℕ) → (a == b) ≡ true → a ≡ b
same_number a b h = grind (arith, common_steps, h)

pub is_number : (a b : ℕ) → a ≡ b → (a == b) ≡ true
is_number a b h = grind (arith, common_steps, h)

pub other_way : (a b : ℕ) → (a == b) ≡ false → (b == a) ≡ false
other_way a b h = grind (arith, common_steps, h)

-- with one more number at the end
pub any_last : (p : ℕ → Bool) (xs : List ℕ) (x : ℕ) → list_any p (xs ++ x ∷ []) ≡ (list_any p xs || p x)
any_last p [] x = elim (p x) as (λ b. (b || false) ≡ b) [ true ↦ refl | false ↦ refl ]
any_last p (y ∷ ys) x = elim (p y) as (λ b. (b || list_any p (ys ++ x ∷ [])) ≡ ((b || list_any p ys) || p x)) [ true ↦ refl | false ↦ any_last p ys x ]

-- none is received for no number
pub none_received : (s : Settings) (m until : ℕ) (rows : List Row) → rows ≡ map (received_if s [] m until) rows
none_received s m until [] = refl
none_received s m until (r ∷ rs) = rw (and_false (is_live s m r)) (ap (λ (xs : List Row). r ∷ xs) (none_received s m until rs))

module _ (s : Settings) (m until : ℕ) (slot serial : ℕ) (done : List ℕ) (unreceived : list_any (λ c. c == serial) done ≡ false) where
  -- the row of this serial was not received yet
  one_more : (r : Row) → r.slot ≡ slot → r.serial ≡ serial → received_at s slot serial m until (received_if s done m until r) ≡ received_if s (done ++ serial ∷ []) m until r
  one_more r at is =
      let not_done : list_any (λ c. c == r.serial) done ≡ false = subst (λ (n : ℕ). list_any (λ c. c == n) done ≡ false) (sym is) unreceived in
      let before : received_if s done m until r ≡ r = rw (not_done, and_false (is_live s m r)) refl in
      let here : is_at slot serial r ≡ true = rw (is_number r.slot slot at, is_number r.serial serial is) refl in
      let now_done : list_any (λ c. c == r.serial) (done ++ serial ∷ []) ≡ true = any_last (λ c. c == r.serial) done serial ∙ rw (not_done, is_number serial r.serial (sym is)) refl in
      let after : received_if s (done ++ serial ∷ []) m until r ≡ (if is_live s m r then received m until r else r) = rw (now_done, and_true (is_live s m r)) refl in
      ap (received_at s slot serial m until) before ∙ rw here (sym after)

  another : (r : Row) → (r.serial == serial) ≡ false → received_at s slot serial m until (received_if s done m until r) ≡ received_if s (done ++ serial ∷ []) m until r
  another r other =
      let not_it : (b : Bool) → is_at slot serial (if b then received m until r else r) ≡ false = λ b. elim b as (λ b. is_at slot serial (if b then received m until r else r) ≡ false) [
        | true ↦ rw other (and_false (r.slot == slot))
        | false ↦ rw other (and_false (r.slot == slot))
      ] in
      let still : list_any (λ c. c == r.serial) (done ++ serial ∷ []) ≡ list_any (λ c. c == r.serial) done =
      any_last (λ c. c == r.serial) done serial ∙ rw (other_way r.serial serial other) (or_false (list_any (λ c. c == r.serial) done)) in
      rw (not_it (is_live s m r && list_any (λ c. c == r.serial) done), still) refl

  each : (r : Row) → (r.serial ≡ serial → r.slot ≡ slot) → received_at s slot serial m until (received_if s done m until r) ≡ received_if s (done ++ serial ∷ []) m until r
  each r at = elim (r.serial == serial) as (λ b. (r.serial == serial) ≡ b → received_at s slot serial m until (received_if s done m until r) ≡ received_if s (done ++ serial ∷ []) m until r) [
    | true ↦ (λ e. let is = same_number r.serial serial e in one_more r (at is) is)
    | false ↦ (λ e. another r e)
  ] refl

  pub receives_on : (rows : List Row) → ((r : Row) → Contains rows r → r.serial ≡ serial → r.slot ≡ slot) → map (received_at s slot serial m until) (map (received_if s done m until) rows) ≡ map (received_if s (done ++ serial ∷ []) m until) rows
  receives_on [] at = refl
  receives_on (r ∷ rs) at = rw (each r (at r (contains_first r rs))) (ap (λ (xs : List Row). received_if s (done ++ serial ∷ []) m until r ∷ xs) (receives_on rs (λ x there. at x (Contains-cons r x rs there))))

pub none_first : (p : ℕ → Bool) (x : ℕ) (xs : List ℕ) → list_any p (x ∷ xs) ≡ false → (p x ≡ false) × (list_any p xs ≡ false)
none_first p x xs h = elim (p x) as (λ b. p x ≡ b → (b || list_any p xs) ≡ false → (p x ≡ false) × (list_any p xs ≡ false)) [
  | true ↦ (λ e none. absurd cc)
  | false ↦ (λ e none. (e, none))
] refl h

fails_at : (p : ℕ → Bool) (xs : List ℕ) (i d : ℕ) → list_any p xs ≡ false → i < length xs → p (get_or xs i d) ≡ false
fails_at p [] i d h lt = absurd (omega (arith, lt))
fails_at p (x ∷ xs) zero d h lt = (none_first p x xs h).0
fails_at p (x ∷ xs) (suc i) d h lt = fails_at p xs i d (none_first p x xs h).1 (omega (arith, lt))

pub first_is_apart : (x : ℕ) (xs : List ℕ) → is_distinct (x ∷ xs) ≡ true → (list_any (λ y. y == x) xs ≡ false) × (is_distinct xs ≡ true)
first_is_apart x xs h = elim (list_any (λ y. y == x) xs) as (λ b. (not b && is_distinct xs) ≡ true → (b ≡ false) × (is_distinct xs ≡ true)) [
  | true ↦ (λ e. absurd cc)
  | false ↦ (λ e. (refl, e))
] h

-- a number of distinct ones does not stand before its rank
pub apart_before : (xs : List ℕ) (i d : ℕ) → is_distinct xs ≡ true → i < length xs → list_any (λ c. c == get_or xs i d) (take i xs) ≡ false
apart_before [] i d h lt = absurd (omega (arith, lt))
apart_before (x ∷ xs) zero d h lt = refl
apart_before (x ∷ xs) (suc i) d h lt =
    let first = first_is_apart x xs h in
    let within : i < length xs = omega (arith, lt) in
    rw (other_way (get_or xs i d) x (fails_at (λ y. y == x) xs i d first.0 within)) (apart_before xs i d first.1 within)

-- the serials of those before it
pub serials_before : (picked : List Row) (i : ℕ) (row : Row) → is_distinct (serials_of picked) ≡ true → i < length picked → row ≡ get_or picked i row → list_any (λ c. c == row.serial) (serials_of (take i picked)) ≡ false
serials_before picked i row h lt is =
    let numbers : List ℕ = serials_of picked in
    let long : length numbers ≡ length picked = length-map picked (λ (r : Row). r.serial) in
    let at : get_or numbers i row.serial ≡ row.serial = get_or-map (λ (r : Row). r.serial) picked i row row.serial lt ∙ ap (λ (r : Row). r.serial) (sym is) in
    let firsts : take i numbers ≡ serials_of (take i picked) = take-map (λ (r : Row). r.serial) i picked in
    let none = apart_before numbers i row.serial h (omega (arith, lt, long)) in
    subst (λ (ns : List ℕ). list_any (λ c. c == row.serial) ns ≡ false) firsts (subst (λ (n : ℕ). list_any (λ c. c == n) (take i numbers) ≡ false) at none)

pub serials_more : (picked : List Row) (i : ℕ) (row : Row) → i < length picked → row ≡ get_or picked i row → serials_of (take (i + 1) picked) ≡ serials_of (take i picked) ++ row.serial ∷ []
serials_more picked i row lt is = ap serials_of (take_more picked i row lt) ∙ map-append (λ (r : Row). r.serial) (take i picked) (get_or picked i row ∷ []) ∙ ap (λ (r : Row). serials_of (take i picked) ++ r.serial ∷ []) (sym is)
