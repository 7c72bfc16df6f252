-- Records as they are kept, one more or one fewer.
use Rattle.std.proofs.Common.{◌≡◌, ◌∙◌, ℕ, zero, suc, Bool, cond, ◌+◌, ◌<◌, ◌≤◌, List, [], ◌∷◌, ◌++◌, true, false, length, map, Option, Some, slice_get, take, refl, ap, sym, subst, arith}
use Rattle.std.specs.List.{AllByRecursion, list_any, remove}
use Rattle.std.specs.Prelude.{◌==◌, ◌||◌, if◌then◌else◌}
use Rattle.std.specs.Str.{bytes_eq}
use Rattle.std.proofs.lemmas.List.{map-append, length-append}
use Rattle.std.proofs.lemmas.List.Folds.{list_any_more}
use Rattle.std.proofs.lemmas.Option.{get_or_from_slice_get}
use Rattle.sq_model.specs.RecordValues.{RecordValue, HomeRecordValue, OfHome, place_of_record}
use Rattle.sq_history.specs.Records.{with_home}
use Rattle.sq_steps.specs.declared.records.Kept.{Kept}
use Rattle.sq_steps.specs.declared.records.Kept.TheVariants.{Home, Named, Other as AmongOthers}
use Rattle.sq_steps.specs.declared.records.Other.{Other}
use Rattle.sq_steps.specs.inside.Records.{HasPut, IsFirstAt, IsIn, IsKeptAs, other_at, place_of_kept, value_of_kept, value_of_other, values_of_kept, without_first}
use Rattle.sq_steps.proofs.JournalLaws.{all_push, all_weaken}

pub get_last : {X : Type 0} (xs : List X) (x : X) → slice_get (xs ++ x ∷ []) (length xs) ≡ Some x
get_last [] x = refl
get_last (y ∷ ys) x = get_last ys x

get_front : {X : Type 0} (xs : List X) (x : X) (i : ℕ) → i < length xs → slice_get (xs ++ x ∷ []) i ≡ slice_get xs i
get_front [] x i h = absurd (omega (arith, h))
get_front (y ∷ ys) x zero h = refl
get_front (y ∷ ys) x (suc i) h = get_front ys x i (omega (arith, h))

-- where one is got, it is within
pub get_within : {X : Type 0} (xs : List X) (x : X) (i : ℕ) → slice_get xs i ≡ Some x → i < length xs
get_within [] x i h = absurd cc
get_within (y ∷ ys) x zero h = omega arith
get_within (y ∷ ys) x (suc i) h = let rest = get_within ys x i h in omega (arith, rest)

-- a name that was there stays at its place
pub record KeepsNames (old new : List (List ℕ)) : Type 0 where
  pub least : length old ≤ length new
  pub same : (i : ℕ) → i < length old → slice_get new i ≡ slice_get old i

keeps_all : (names : List (List ℕ)) → KeepsNames names names
keeps_all names = record { least = omega arith; same = λ i h. refl }

keeps_put : (old new : List (List ℕ)) (name : List ℕ) (at : ℕ) → HasPut old new name at → KeepsNames old new
keeps_put old new name at put =
    let longer : length (old ++ name ∷ []) ≡ length old + 1 = length-append old (name ∷ []) in
    subst (KeepsNames old) (sym put.put)
    (elim (list_any (bytes_eq name) old) as (λ v. KeepsNames old (if v then old else old ++ name ∷ []))
    [ true ↦ keeps_all old | false ↦ record { least = omega (arith, longer); same = get_front old name } ])

-- a record of a home that is kept: the names that were there stay, it is the record, and what it points to is there
keeps_kept : (old new : List (List ℕ)) (n : HomeRecordValue) (kept : Kept) → IsKeptAs old new n kept → KeepsNames old new
keeps_kept old new n (Home home step) h = subst (KeepsNames old) (sym h.0) (keeps_all old)
keeps_kept old new n (Named at home step) h = keeps_put old new h.0 at h.1
keeps_kept old new n (AmongOthers at) h = elim h [ ]

kept_value : (others : List Other) (old new : List (List ℕ)) (n : HomeRecordValue) (kept : Kept) → IsKeptAs old new n kept → value_of_kept others new kept ≡ OfHome n
kept_value others old new n (Home home step) h = ap OfHome (sym h.1)
kept_value others old new n (Named at home step) h = ap (λ (x : Option (List ℕ)). OfHome (with_home home x step)) h.1.there ∙ ap OfHome (sym h.2)
kept_value others old new n (AmongOthers at) h = elim h [ ]

kept_within : (count : ℕ) (old new : List (List ℕ)) (n : HomeRecordValue) (kept : Kept) → IsKeptAs old new n kept → IsIn count (length new) kept
kept_within count old new n (Home home step) h = tt
kept_within count old new n (Named at home step) h = get_within new h.0 at h.1.there
kept_within count old new n (AmongOthers at) h = elim h [ ]

named_same : (others : List Other) (count : ℕ) (old new : List (List ℕ)) (n : Kept) → KeepsNames old new → IsIn count (length old) n → value_of_kept others new n ≡ value_of_kept others old n
named_same others count old new (Home home step) keeps h = refl
named_same others count old new (Named at home step) keeps h = ap (λ (x : Option (List ℕ)). OfHome (with_home home x step)) (keeps.same at h)
named_same others count old new (AmongOthers at) keeps h = refl

all_named : (others : List Other) (count : ℕ) (old new : List (List ℕ)) (kept : List Kept) → KeepsNames old new → AllByRecursion (IsIn count (length old)) kept → values_of_kept others new kept ≡ values_of_kept others old kept
all_named others count old new [] keeps h = refl
all_named others count old new (n ∷ ns) keeps h = λ i. named_same others count old new n keeps h.0 i ∷ all_named others count old new ns keeps h.1 i

is_in_more : (a b c d : ℕ) (n : Kept) → a ≤ b → c ≤ d → IsIn a c n → IsIn b d n
is_in_more a b c d (Home home step) le most h = tt
is_in_more a b c d (Named at home step) le most h = omega (arith, most, h)
is_in_more a b c d (AmongOthers at) le most h = omega (arith, le, h)

-- a record of a home more
pub home_put : (others : List Other) (old new : List (List ℕ)) (kept : List Kept) (n : HomeRecordValue) (k : Kept) → AllByRecursion (IsIn (length others) (length old)) kept → IsKeptAs old new n k
    → values_of_kept others new (kept ++ k ∷ []) ≡ values_of_kept others old kept ++ OfHome n ∷ []
home_put others old new kept n k within is =
    map-append (value_of_kept others new) kept (k ∷ [])
    ∙ (λ i. all_named others (length others) old new kept (keeps_kept old new n k is) within i ++ kept_value others old new n k is i ∷ [])

pub home_within : (count : ℕ) (old new : List (List ℕ)) (kept : List Kept) (n : HomeRecordValue) (k : Kept) → AllByRecursion (IsIn count (length old)) kept → IsKeptAs old new n k → AllByRecursion (IsIn count (length new)) (kept ++ k ∷ [])
home_within count old new kept n k within is =
    all_push (IsIn count (length new)) kept k
    (all_weaken (IsIn count (length old)) (IsIn count (length new)) kept (λ m. is_in_more count count (length old) (length new) m (omega arith) (keeps_kept old new n k is).least) within)
    (kept_within count old new n k is)

kept_same : (others : List Other) (other : Other) (names : List (List ℕ)) (n : Kept) → IsIn (length others) (length names) n → value_of_kept (others ++ other ∷ []) names n ≡ value_of_kept others names n
kept_same others other names (Home home step) h = refl
kept_same others other names (Named at home step) h = refl
kept_same others other names (AmongOthers at) h = ap other_at (get_front others other at h)

all_same : (others : List Other) (other : Other) (names : List (List ℕ)) (kept : List Kept) → AllByRecursion (IsIn (length others) (length names)) kept → values_of_kept (others ++ other ∷ []) names kept ≡ values_of_kept others names kept
all_same others other names [] h = refl
all_same others other names (n ∷ ns) h = λ i. kept_same others other names n h.0 i ∷ all_same others other names ns h.1 i

-- another record more
pub other_put : (others : List Other) (names : List (List ℕ)) (kept : List Kept) (other : Other) → AllByRecursion (IsIn (length others) (length names)) kept
    → values_of_kept (others ++ other ∷ []) names (kept ++ AmongOthers (length others) ∷ []) ≡ values_of_kept others names kept ++ value_of_other other ∷ []
other_put others names kept other h =
    map-append (value_of_kept (others ++ other ∷ []) names) kept (AmongOthers (length others) ∷ []) ∙ (λ i. all_same others other names kept h i ++ other_at (get_last others other i) ∷ [])

pub other_within : (others : List Other) (names : ℕ) (kept : List Kept) (other : Other) → AllByRecursion (IsIn (length others) names) kept → AllByRecursion (IsIn (length (others ++ other ∷ [])) names) (kept ++ AmongOthers (length others) ∷ [])
other_within others names kept other h =
    let more : length (others ++ other ∷ []) ≡ length others + 1 = length-append others (other ∷ []) in
    all_push (IsIn (length (others ++ other ∷ [])) names) kept (AmongOthers (length others))
    (all_weaken (IsIn (length others) names) (IsIn (length (others ++ other ∷ [])) names) kept (λ n. is_in_more _ _ names names n (omega (arith, more)) (omega arith)) h) (omega (arith, more))

-- by the numbers of their steps

place_same : (others : List Other) (names : List (List ℕ)) (n : Kept) → place_of_record (value_of_kept others names n) ≡ place_of_kept others n
place_same others names (Home home step) = refl
place_same others names (Named at home step) = refl
place_same others names (AmongOthers at) = refl

pub any_places : (others : List Other) (names : List (List ℕ)) (place : ℕ) (kept : List Kept) → list_any (λ n. place_of_record n == place) (values_of_kept others names kept) ≡ list_any (λ n. place_of_kept others n == place) kept
any_places others names place [] = refl
any_places others names place (n ∷ ns) = λ i. (place_same others names n i == place) || any_places others names place ns i

pub without_places : (others : List Other) (names : List (List ℕ)) (place : ℕ) (kept : List Kept)
    → values_of_kept others names (without_first (λ n. place_of_kept others n == place) kept) ≡ without_first (λ n. place_of_record n == place) (values_of_kept others names kept)
without_places others names place [] = refl
without_places others names place (n ∷ ns) =
    let f = value_of_kept others names in
    let p : RecordValue → Bool = λ m. place_of_record m == place in
    let q : Kept → Bool = λ m. place_of_kept others m == place in
    let same : q n ≡ p (f n) = ap (λ (x : ℕ). x == place) (sym (place_same others names n)) in
    let here : map f (cond (q n) ns (n ∷ without_first q ns)) ≡ cond (q n) (map f ns) (f n ∷ without_first p (map f ns)) =
    (let rest = without_places others names place ns in
    elim (q n) as (λ v. map f (cond v ns (n ∷ without_first q ns)) ≡ cond v (map f ns) (f n ∷ without_first p (map f ns))) [ true ↦ refl | false ↦ ap (λ ys. f n ∷ ys) rest ]) in
    here ∙ ap (λ (v : Bool). cond v (map f ns) (f n ∷ without_first p (map f ns))) same

-- the first that passes is taken out, by its place
pub first_out : {X : Type 0} (p : X → Bool) (xs : List X) (at : ℕ) → IsFirstAt p xs at → remove xs at ≡ without_first p xs
first_out p [] at first = let within = first.within in absurd (omega arith)
first_out p (x ∷ xs) zero first =
    elim (p x) as (λ v. (v || false) ≡ true → xs ≡ cond v xs (x ∷ without_first p xs)) [ true ↦ (λ e. refl) | false ↦ (λ e. absurd cc) ] first.passes
first_out p (x ∷ xs) (suc at) first =
    let one : suc at + 1 ≡ suc (at + 1) = omega arith in
    elim (p x) as (λ v. (v || list_any p (take at xs)) ≡ false → (v || list_any p (take (at + 1) xs)) ≡ true → x ∷ remove xs at ≡ cond v xs (x ∷ without_first p xs)) [
      | true ↦ (λ e d. absurd cc)
      | false ↦ (λ e d. ap (λ ys. x ∷ ys) (first_out p xs at (record { within = let within = first.within in omega arith; before = e; passes = d })))
    ] first.before (subst (λ (k : ℕ). list_any p (take k (x ∷ xs)) ≡ true) one first.passes)

pub first_there : {X : Type 0} (p : X → Bool) (xs : List X) (at : ℕ) → IsFirstAt p xs at → list_any p xs ≡ true
first_there p [] at first = let within = first.within in absurd (omega arith)
first_there p (x ∷ xs) zero first = elim (p x) as (λ v. (v || false) ≡ true → (v || list_any p xs) ≡ true) [ true ↦ (λ e. refl) | false ↦ (λ e. absurd cc) ] first.passes
first_there p (x ∷ xs) (suc at) first =
    let one : suc at + 1 ≡ suc (at + 1) = omega arith in
    elim (p x) as (λ v. (v || list_any p (take at xs)) ≡ false → (v || list_any p (take (at + 1) xs)) ≡ true → (v || list_any p xs) ≡ true) [
      | true ↦ (λ e d. refl)
      | false ↦ (λ e d. first_there p xs at (record { within = let within = first.within in omega arith; before = e; passes = d }))
    ] first.before (subst (λ (k : ℕ). list_any p (take k (x ∷ xs)) ≡ true) one first.passes)

pub none_out : {X : Type 0} (p : X → Bool) (xs : List X) → list_any p xs ≡ false → without_first p xs ≡ xs
none_out p [] none = refl
none_out p (x ∷ xs) none =
    elim (p x) as (λ v. (v || list_any p xs) ≡ false → cond v xs (x ∷ without_first p xs) ≡ x ∷ xs) [ true ↦ (λ e. absurd cc) | false ↦ (λ e. ap (λ ys. x ∷ ys) (none_out p xs e)) ] none

-- one element more, as at a step of a loop
pub any_next : {X : Type 0} (p : X → Bool) (xs : List X) (i : ℕ) (x : X) → slice_get xs i ≡ Some x → list_any p (take (i + 1) xs) ≡ (list_any p (take i xs) || p x)
any_next p xs i x at = list_any_more p xs i x (get_within xs x i at) ∙ ap (λ y. list_any p (take i xs) || p y) (get_or_from_slice_get xs i x x at)
