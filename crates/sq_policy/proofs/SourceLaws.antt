-- Lists of ARNs.
use Rattle.std.proofs.Common.{◌≡◌, ◌≢◌, ℕ, suc, ◌<◌, ◌≤◌, ◌+◌, List, [], ◌∷◌, length, take, ◌++◌, map, get_or, Bool, true, false, Option, Some, None, option_map, Err, refl, arith}
use Rattle.std.specs.Prelude.{zero, ◌&&◌, nat_le, is_some, option_and_then, if◌then◌else◌}
use Rattle.std.specs.List.{list_all}
use Rattle.std.proofs.lemmas.Bool.{and_parts, le-leb, lt-leb}
use Rattle.std.proofs.lemmas.List.{take_more, map-append}
use Rattle.std.proofs.lemmas.List.Folds.{list_all-append}
use Rattle.serde_json.specs.Data.{Data, null, boolean, number, string, array, object, Items, no_items, item, items_depth}
use Rattle.serde_json.specs.Find.{at, as_array, get_item}
use Rattle.serde_json.specs.View.{view, items_of}
use Rattle.serde_json.specs.Written.{items_have_float}
use Rattle.serde_json.specs.declared.value.Value.{Value}
use Rattle.sq_base.specs.Names.{is_name}
use Rattle.sq_base.specs.declared.refusal.Refusal.{Refusal}
use Rattle.sq_base.specs.declared.refusal.Refusal.TheVariants.{NoMemory}
use Rattle.sq_policy.specs.PolicyTexts.{valid, arn_in, arn_names, one_to_ten, arn_data}
use Rattle.sq_policy.specs.Reading.{Reads}
use Rattle.sq_policy.proofs.ArnLaws.{arn_of_name}

-- what is read once these names and the rest are
abbrev pub after : List (List ℕ) → Option (List (List ℕ)) → Option (List (List ℕ))
after names rest = option_map (λ more. names ++ more) rest

-- what an ARN before others gives
first_of_names : (source : Option (List ℕ)) (rest : Option (List (List ℕ))) (names : List (List ℕ)) → option_and_then (λ name. option_map (λ more. name ∷ more) rest) source ≡ Some names
    → (name : List ℕ) × (more : List (List ℕ)) × (source ≡ Some name) × (rest ≡ Some more) × (names ≡ name ∷ more)
first_of_names None rest names h = absurd (cc)
first_of_names (Some name) None names h = absurd (cc)
first_of_names (Some name) (Some more) names h = (name, more, refl, refl, cc)

-- each item has a name
longer : (n : ℕ) (ds : Items) (names : List (List ℕ)) → is_some (get_item n ds) ≡ true → arn_names ds ≡ Some names → n < length names
longer n no_items names some h = absurd (cc)
longer zero (item d ds) names some h =
    let p = first_of_names (arn_in d) (arn_names ds) names h in
    rw p.4 (omega arith)
longer (suc n) (item d ds) names some h =
    let p = first_of_names (arn_in d) (arn_names ds) names h in
    let behind : n < length p.1 = longer n ds p.1 some p.3 in
    rw p.4 (omega (arith, behind))

at_most : (n : ℕ) (ds : Items) (names : List (List ℕ)) → is_some (get_item n ds) ≡ false → arn_names ds ≡ Some names → length names ≤ n
at_most n no_items names none h = let is : [] ≡ names = cc in rw (← is) (omega arith)
at_most zero (item d ds) names none h = absurd (cc)
at_most (suc n) (item d ds) names none h =
    let p = first_of_names (arn_in d) (arn_names ds) names h in
    let behind : length p.1 ≤ n = at_most n ds p.1 none p.3 in
    rw p.4 (omega (arith, behind))

none_if : (a b : Bool) (names : List (List ℕ)) → b ≡ false → (if a && b then Some names else None) ≡ None
none_if true b names e = rw e refl
none_if false b names e = refl

many : (found : Option (List (List ℕ))) → ((names : List (List ℕ)) → found ≡ Some names → 10 < length names) → option_and_then one_to_ten found ≡ None
many None lt = refl
many (Some names) lt =
    let above : nat_le (length names) 10 ≡ false = lt-leb _ _ (lt names refl) in
    none_if (nat_le 1 (length names)) (nat_le (length names) 10) names above

-- an array with an eleventh item is no list of ten
pub too_many : (d : Data) → is_some (at 10 d) ≡ true → option_and_then one_to_ten (option_and_then arn_names (as_array d)) ≡ None
too_many (array ds) some = many (arn_names ds) (λ names h. longer 10 ds names some h)
too_many null some = absurd (cc)
too_many (boolean b) some = absurd (cc)
too_many (number n) some = absurd (cc)
too_many (string s) some = absurd (cc)
too_many (object ms) some = absurd (cc)

ten_at_most : (d : Data) (names : List (List ℕ)) → is_some (at 10 d) ≡ false → option_and_then arn_names (as_array d) ≡ Some names → length names ≤ 10
ten_at_most (array ds) names none h = at_most 10 ds names none h
ten_at_most null names none h = absurd (cc)
ten_at_most (boolean b) names none h = absurd (cc)
ten_at_most (number n) names none h = absurd (cc)
ten_at_most (string s) names none h = absurd (cc)
ten_at_most (object ms) names none h = absurd (cc)

-- what of few is read once memory is there
few : (found : Option (List (List ℕ))) (e : Refusal) → ((names : List (List ℕ)) → found ≡ Some names → length names ≤ 10) → (e ≡ NoMemory → found ≢ Some [])
    → Reads (Err e) (valid found) → Reads (Err e) (valid (option_and_then one_to_ten found))
few None e le some h = h
few (Some []) NoMemory le some h = absurd (some refl refl)
few (Some (name ∷ names)) NoMemory le some h =
    let high : nat_le (length (name ∷ names)) 10 ≡ true = le-leb _ _ (le (name ∷ names) refl) in
    let low : nat_le 1 (length (name ∷ names)) ≡ true = le-leb _ _ (omega arith) in
    rw (low, high) tt
few (Some names) e le some h = absurd (cc)

pub few_refused : (d : Data) (e : Refusal) → is_some (at 10 d) ≡ false → (e ≡ NoMemory → option_and_then arn_names (as_array d) ≢ Some []) → Reads (Err e) (valid (option_and_then arn_names (as_array d)))
    → Reads (Err e) (valid (option_and_then one_to_ten (option_and_then arn_names (as_array d))))
few_refused d e none some h = few (option_and_then arn_names (as_array d)) e (λ names is. ten_at_most d names none is) some h

-- ---- what is written

pub all_more : (names : List (List ℕ)) (i : ℕ) (name : List ℕ) → i < length names → name ≡ get_or names i name → is_name name ≡ true → list_all is_name (take i names) ≡ true → list_all is_name (take (i + 1) names) ≡ true
all_more names i name lt is h all = rw (take_more names i name lt, ← is, list_all-append is_name (take i names) (name ∷ []), all, h) refl

pub arns_more : (vs more : List Value) (v : Value) (names : List (List ℕ)) (i : ℕ) (name : List ℕ) → i < length names → name ≡ get_or names i name → more ≡ vs ++ v ∷ [] → view v ≡ arn_data name
    → map view vs ≡ map arn_data (take i names) → map view more ≡ map arn_data (take (i + 1) names)
arns_more vs more v names i name lt is pushed here all =
    rw (pushed, take_more names i name lt, ← is, map-append view vs (v ∷ []), map-append arn_data (take i names) (name ∷ []), all, here) refl

pub names_read : (names : List (List ℕ)) → list_all is_name names ≡ true → arn_names (items_of (map arn_data names)) ≡ Some names
names_read [] h = refl
names_read (name ∷ names) h =
    let p = and_parts (is_name name) (list_all is_name names) h in
    rw (arn_of_name name p.0, names_read names p.1) refl

pub flat : (names : List (List ℕ)) → items_depth (items_of (map arn_data names)) ≡ 0
flat [] = refl
flat (name ∷ names) = rw (flat names) refl

pub no_float : (names : List (List ℕ)) → items_have_float (items_of (map arn_data names)) ≡ false
no_float [] = refl
no_float (name ∷ names) = no_float names
