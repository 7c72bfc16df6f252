-- Lists of rows by rising serial: what stands in them, what is found, and what is left of them.
use Rattle.std.proofs.Common.{◌≡◌, ◌≢◌, ◌⊎◌, ◌∙◌, ℕ, suc, ◌+◌, ◌<◌, ◌≤◌, Bool, true, false, cond, List, [], ◌∷◌, ◌++◌, length, filter, map, Option, Some, None, is_some, Contains, inl, inr, refl, sym, ap, subst, arith}
use Rattle.std.specs.Prelude.{◌||◌, ◌==◌, nat_lt, find, filter_map, if◌then◌else◌}
use Rattle.std.specs.List.{All, cons_option, list_any}
use Rattle.std.proofs.lemmas.Grind.{common_steps}
use Rattle.std.proofs.lemmas.List.Elements.{All-head, All-tail}
pub use Rattle.slab.proofs.SlabLemmas.{Contains-cons, Contains-cons_cases}
use Rattle.sq_base.specs.declared.row.Row.{Row}
use Rattle.sq_slots.specs.Slots.{SerialsRise, with_row}

pub contains_first : {X : Type 0} (x : X) (xs : List X) → Contains (x ∷ xs) x
contains_first x xs = (0, omega arith, refl)

-- ---- tests

pub is_this : (a : ℕ) → (a == a) ≡ true
is_this a = grind (arith, common_steps)

pub is_same : (a b : ℕ) → (a == b) ≡ true → a ≡ b
is_same a b h = grind (arith, common_steps, h)

pub is_other : (a b : ℕ) → a ≢ b → (a == b) ≡ false
is_other a b h = grind (arith, common_steps, h)

-- whether one passes is whether one is found
pub any_is_found : {X : Type 0} (p : X → Bool) (xs : List X) → list_any p xs ≡ is_some (find p xs)
any_is_found p [] = refl
any_is_found p (x ∷ xs) = elim (p x) as (λ b. (b || list_any p xs) ≡ is_some (cond b (Some x) (find p xs))) [ true ↦ refl | false ↦ any_is_found p xs ]

pub none_found : {X : Type 0} (p : X → Bool) (xs : List X) → ((y : X) → Contains xs y → p y ≡ false) → find p xs ≡ None
none_found p [] fails = refl
none_found p (x ∷ xs) fails = rw (fails x (contains_first x xs)) (none_found p xs (λ y there. fails y (Contains-cons x y xs there)))

-- the only one that passes is found
pub one_found : {X : Type 0} (p : X → Bool) (xs : List X) (x : X) → Contains xs x → p x ≡ true → ((y : X) → Contains xs y → p y ≡ true → y ≡ x) → find p xs ≡ Some x
one_found p [] x there passes only = absurd (omega (arith, there.1))
one_found p (y ∷ ys) x there passes only =
    elim (p y) as (λ b. p y ≡ b → cond b (Some y) (find p ys) ≡ Some x) [
      | true ↦ (λ e. ap Some (only y (contains_first y ys) e))
      | false ↦ (λ e. elim (Contains-cons_cases y x ys there) [
        | inl same ↦ absurd (let no : p x ≡ false = subst (λ z. p z ≡ false) same e in cc)
        | inr later ↦ one_found p ys x later passes (λ z in_ys. only z (Contains-cons y z ys in_ys))
      ])
    ] refl

-- ---- what is left of a list

pub map_is_kept : {X Y : Type 0} (f : X → Y) (xs : List X) → filter_map (λ x. Some (f x)) xs ≡ map f xs
map_is_kept f [] = refl
map_is_kept f (x ∷ xs) = ap (λ ys. f x ∷ ys) (map_is_kept f xs)

pub filter_is_kept : {X : Type 0} (p : X → Bool) (xs : List X) → filter_map (λ x. if p x then Some x else None) xs ≡ filter p xs
filter_is_kept p [] = refl
filter_is_kept p (x ∷ xs) =
    elim (p x) as (λ b. cons_option (if b then Some x else None) (filter_map (λ x. if p x then Some x else None) xs) ≡ cond b (x ∷ filter p xs) (filter p xs)) [
      | true ↦ ap (λ ys. x ∷ ys) (filter_is_kept p xs)
      | false ↦ filter_is_kept p xs
    ]

pub kept_is_there : {X Y : Type 0} (h : X → Option Y) (xs : List X) (x : X) (y : Y) → Contains xs x → h x ≡ Some y → Contains (filter_map h xs) y
kept_is_there h [] x y there is = absurd (omega (arith, there.1))
kept_is_there h (z ∷ zs) x y there is = elim (Contains-cons_cases z x zs there) [
  | inl same ↦ rw (ap h same ∙ is) (contains_first y (filter_map h zs))
  | inr later ↦ elim (h z) as (λ o. Contains (cons_option o (filter_map h zs)) y) [
    | Some w ↦ Contains-cons w y (filter_map h zs) (kept_is_there h zs x y later is)
    | None ↦ kept_is_there h zs x y later is
  ]
]

pub there_is_kept : {X Y : Type 0} (h : X → Option Y) (xs : List X) (y : Y) → Contains (filter_map h xs) y → (x : X) × Contains xs x × (h x ≡ Some y)
there_is_kept h [] y there = absurd (omega (arith, there.1))
there_is_kept {X} h (z ∷ zs) y there =
    let later : Contains (filter_map h zs) y → (x : X) × Contains (z ∷ zs) x × (h x ≡ Some y) =
    λ in_rest. let found = there_is_kept h zs y in_rest in (found.0, Contains-cons z found.0 zs found.1, found.2) in
    elim (h z) as (λ o. h z ≡ o → Contains (cons_option o (filter_map h zs)) y → (x : X) × Contains (z ∷ zs) x × (h x ≡ Some y)) [
      | Some w ↦ (λ e inside. elim (Contains-cons_cases w y (filter_map h zs) inside) [
        | inl same ↦ (z, contains_first z zs, e ∙ ap Some same)
        | inr in_rest ↦ later in_rest
      ])
      | None ↦ (λ e inside. later inside)
    ] refl there

-- ---- rising serials

pub not_below : (low : ℕ) (rows : List Row) (row : Row) → SerialsRise low rows → Contains rows row → low ≤ row.serial
not_below low [] row h there = absurd (omega (arith, there.1))
not_below low (r ∷ rs) row h there = elim (Contains-cons_cases r row rs there) [
  | inl same ↦ subst (λ (x : Row). low ≤ x.serial) same h.0
  | inr later ↦ let rest = not_below (r.serial + 1) rs row h.1 later in omega (arith, rest, h.0)
]

-- rows of one serial are one row
pub same_serial : (low : ℕ) (rows : List Row) → SerialsRise low rows → (row other : Row) → Contains rows row → Contains rows other → row.serial ≡ other.serial → row ≡ other
same_serial low [] h row other there too e = absurd (omega (arith, there.1))
same_serial low (r ∷ rs) h row other there too e = elim (Contains-cons_cases r row rs there) [
  | inl same ↦ elim (Contains-cons_cases r other rs too) [
    | inl as_well ↦ sym same ∙ as_well
    | inr later ↦ absurd (let above = not_below (r.serial + 1) rs other h.1 later in omega (arith, above, e, ap (λ (x : Row). x.serial) same))
  ]
  | inr before ↦ elim (Contains-cons_cases r other rs too) [
    | inl same ↦ absurd (let above = not_below (r.serial + 1) rs row h.1 before in omega (arith, above, e, ap (λ (x : Row). x.serial) same))
    | inr later ↦ same_serial (r.serial + 1) rs h.1 row other before later e
  ]
]

-- rising lists of the same rows are one list
pub same_rows : (low least : ℕ) (xs ys : List Row) → SerialsRise low xs → SerialsRise least ys → ((row : Row) → Contains xs row → Contains ys row) → ((row : Row) → Contains ys row → Contains xs row) → xs ≡ ys
same_rows low least [] [] h g there back = refl
same_rows low least [] (y ∷ ys) h g there back = absurd (omega (arith, (back y (contains_first y ys)).1))
same_rows low least (x ∷ xs) [] h g there back = absurd (omega (arith, (there x (contains_first x xs)).1))
same_rows low least (x ∷ xs) (y ∷ ys) h g there back =
    let first : x ≡ y = elim (Contains-cons_cases y x ys (there x (contains_first x xs))) [
      | inl same ↦ sym same
      | inr x_later ↦ elim (Contains-cons_cases x y xs (back y (contains_first y ys))) [
        | inl same ↦ same
        | inr y_later ↦ absurd (let up = not_below (y.serial + 1) ys x g.1 x_later in let down = not_below (x.serial + 1) xs y h.1 y_later in omega (arith, up, down))
      ]
    ] in
    let one_serial : x.serial ≡ y.serial = ap (λ (r : Row). r.serial) first in
    let forth : (row : Row) → Contains xs row → Contains ys row = λ row in_xs. elim (Contains-cons_cases y row ys (there row (Contains-cons x row xs in_xs))) [
      | inl same ↦ absurd (let above = not_below (x.serial + 1) xs row h.1 in_xs in omega (arith, above, one_serial, ap (λ (r : Row). r.serial) same))
      | inr later ↦ later
    ] in
    let home : (row : Row) → Contains ys row → Contains xs row = λ row in_ys. elim (Contains-cons_cases x row xs (back row (Contains-cons y row ys in_ys))) [
      | inl same ↦ absurd (let above = not_below (y.serial + 1) ys row g.1 in_ys in omega (arith, above, one_serial, ap (λ (r : Row). r.serial) same))
      | inr later ↦ later
    ] in
    rw first (ap (λ rs. y ∷ rs) (same_rows (x.serial + 1) (y.serial + 1) xs ys h.1 g.1 forth home))

pub rise_from : (low least : ℕ) (rows : List Row) → least ≤ low → SerialsRise low rows → SerialsRise least rows
rise_from low least [] le h = tt
rise_from low least (r ∷ rs) le h = (omega (arith, le, h.0), h.1)

-- a row of the highest serial comes last
pub rise_last : (low : ℕ) (rows : List Row) (row : Row) → SerialsRise low rows → low ≤ row.serial → All (λ r. r.serial < row.serial) rows → SerialsRise low (rows ++ row ∷ [])
rise_last low [] row h le below = (le, tt)
rise_last low (r ∷ rs) row h le below =
    let first = All-head (λ (x : Row). x.serial < row.serial) r rs below in
    (h.0, rise_last (r.serial + 1) rs row h.1 (omega (arith, first)) (All-tail (λ (x : Row). x.serial < row.serial) r rs below))

-- rows that are kept keep their order
pub rise_kept : (h : Row → Option Row) → ((row new : Row) → h row ≡ Some new → new.serial ≡ row.serial) → (low : ℕ) (rows : List Row) → SerialsRise low rows → SerialsRise low (filter_map h rows)
rise_kept h same low [] rises = tt
rise_kept h same low (r ∷ rs) rises =
    let rest = rise_kept h same (r.serial + 1) rs rises.1 in
    elim (h r) as (λ o. h r ≡ o → SerialsRise low (cons_option o (filter_map h rs))) [
      | Some new ↦ (λ e. let serial = same r new e in (omega (arith, serial, rises.0), rise_from (r.serial + 1) (new.serial + 1) (filter_map h rs) (omega (arith, serial)) rest))
      | None ↦ (λ e. rise_from (r.serial + 1) low (filter_map h rs) (omega (arith, rises.0)) rest)
    ] refl

-- ---- a row put in by its serial

pub length-with_row : (row : Row) (rows : List Row) → length (with_row row rows) ≡ suc (length rows)
length-with_row row [] = refl
length-with_row row (r ∷ rs) = elim (nat_lt row.serial r.serial) as (λ b. length (if b then row ∷ r ∷ rs else r ∷ with_row row rs) ≡ suc (suc (length rs))) [
  | true ↦ refl
  | false ↦ ap suc (length-with_row row rs)
]

pub with_row_cases : (row : Row) (rows : List Row) (x : Row) → Contains (with_row row rows) x → (row ≡ x) ⊎ Contains rows x
with_row_cases row [] x there = Contains-cons_cases row x [] there
with_row_cases row (r ∷ rs) x there = elim (nat_lt row.serial r.serial) as (λ b. Contains (if b then row ∷ r ∷ rs else r ∷ with_row row rs) x → (row ≡ x) ⊎ Contains (r ∷ rs) x) [
  | true ↦ (λ inside. Contains-cons_cases row x (r ∷ rs) inside)
  | false ↦ (λ inside. elim (Contains-cons_cases r x (with_row row rs) inside) [
    | inl same ↦ inr (subst (λ y. Contains (r ∷ rs) y) same (contains_first r rs))
    | inr later ↦ elim (with_row_cases row rs x later) [ inl same ↦ inl same | inr found ↦ inr (Contains-cons r x rs found) ]
  ])
] there

pub with_row_has : (row : Row) (rows : List Row) (x : Row) → Contains (row ∷ rows) x → Contains (with_row row rows) x
with_row_has row [] x there = there
with_row_has row (r ∷ rs) x there = elim (nat_lt row.serial r.serial) as (λ b. Contains (if b then row ∷ r ∷ rs else r ∷ with_row row rs) x) [
  | true ↦ there
  | false ↦ elim (Contains-cons_cases row x (r ∷ rs) there) [
    | inl same ↦ Contains-cons r x (with_row row rs) (with_row_has row rs x (subst (λ y. Contains (row ∷ rs) y) same (contains_first row rs)))
    | inr inside ↦ elim (Contains-cons_cases r x rs inside) [
      | inl same ↦ subst (λ y. Contains (r ∷ with_row row rs) y) same (contains_first r (with_row row rs))
      | inr later ↦ Contains-cons r x (with_row row rs) (with_row_has row rs x (Contains-cons row x rs later))
    ]
  ]
]

is_below : (a b : ℕ) → nat_lt a b ≡ true → a + 1 ≤ b
is_below a b h = grind (arith, common_steps, h)

is_from : (a b : ℕ) → nat_lt a b ≡ false → b ≤ a
is_from a b h = grind (arith, common_steps, h)

pub rise_with : (low : ℕ) (row : Row) (rows : List Row) → low ≤ row.serial → SerialsRise low rows → ((other : Row) → Contains rows other → other.serial ≢ row.serial) → SerialsRise low (with_row row rows)
rise_with low row [] le h new = (le, tt)
rise_with low row (r ∷ rs) le h new =
    elim (nat_lt row.serial r.serial) as (λ b. nat_lt row.serial r.serial ≡ b → SerialsRise low (if b then row ∷ r ∷ rs else r ∷ with_row row rs)) [
      | true ↦ (λ e. (le, (is_below row.serial r.serial e, h.1)))
      | false ↦ (λ e. let from = is_from row.serial r.serial e in let other : r.serial ≢ row.serial = new r (contains_first r rs) in
          (h.0, rise_with (r.serial + 1) row rs (omega arith) h.1 (λ x later. new x (Contains-cons r x rs later))))
    ] refl

-- ---- rows of a table, the first and those after it
