-- Lists of homes that grow.
use Rattle.std.proofs.Common.{◌≡◌, ◌∙◌, sym, ℕ, zero, suc, ◌+◌, ◌-◌, ◌<◌, ◌≤◌, inl, inr, List, [], ◌∷◌, ◌++◌, length, get_or, refl, ap, arith}
use Rattle.std.proofs.lemmas.Bool.{cases_lt}
use Rattle.std.proofs.lemmas.List.{get_or_default}
use Rattle.sq_places.specs.inside.HomeValues.{HomeValue}
use Rattle.sq_places.specs.inside.Audits.{no_states, grown}

-- a list that is long enough stays
pub grown_same : (n : ℕ) (homes : List HomeValue) → n ≤ length homes → grown n homes ≡ homes
grown_same zero homes le = refl
grown_same (suc n) [] le = absurd (omega (arith, le))
grown_same (suc n) (h ∷ homes) le = ap (λ (hs : List HomeValue). h ∷ hs) (grown_same n homes (omega (arith, le)))

-- one more is put last
pub grown_push : (n : ℕ) (homes : List HomeValue) → length homes ≤ n → grown (suc n) homes ≡ grown n homes ++ no_states ∷ []
grown_push zero [] le = refl
grown_push zero (h ∷ homes) le = absurd (omega (arith, le))
grown_push (suc n) [] le = ap (λ (hs : List HomeValue). no_states ∷ hs) (grown_push n [] (omega arith))
grown_push (suc n) (h ∷ homes) le = ap (λ (hs : List HomeValue). h ∷ hs) (grown_push n homes (omega (arith, le)))

pub length_grown : (n : ℕ) (homes : List HomeValue) → n ≤ length (grown n homes)
length_grown zero homes = omega arith
length_grown (suc n) [] = omega (arith, length_grown n [])
length_grown (suc n) (h ∷ homes) = omega (arith, length_grown n homes)

-- what is beyond the end has nothing
pub get_grown : (n : ℕ) (homes : List HomeValue) (i : ℕ) → get_or (grown n homes) i no_states ≡ get_or homes i no_states
get_grown zero homes i = refl
get_grown (suc n) [] zero = refl
get_grown (suc n) [] (suc i) = get_grown n [] i
get_grown (suc n) (h ∷ homes) zero = refl
get_grown (suc n) (h ∷ homes) (suc i) = get_grown n homes i

pub grown_end : (n : ℕ) (homes : List HomeValue) → grown (length homes + (n - length homes)) homes ≡ grown n homes
grown_end n homes =
    elim (cases_lt n (length homes)) [
      | inl lt ↦ (let e : length homes + (n - length homes) ≡ length homes = omega (arith, lt) in rw (e, grown_same (length homes) homes (omega arith), grown_same n homes (omega (arith, lt))) refl)
      | inr le ↦ (let e : length homes + (n - length homes) ≡ n = omega (arith, le) in rw e refl)
    ]

pub grown_more : (homes now : List HomeValue) (k : ℕ) → now ≡ grown (length homes + k) homes → now ++ no_states ∷ [] ≡ grown (length homes + (k + 1)) homes
grown_more homes now k same = let e : length homes + (k + 1) ≡ suc (length homes + k) = omega arith in rw (e, same) (sym (grown_push (length homes + k) homes (omega arith)))

pub read_grown : (n : ℕ) (homes now : List HomeValue) (i : ℕ) (h : HomeValue) → now ≡ grown n homes → i < n → h ≡ get_or now i h → h ≡ get_or homes i no_states
read_grown n homes now i h same lt is =
    let within : i < length now = rw same (omega (arith, lt, length_grown n homes)) in
    is ∙ get_or_default now i h no_states within ∙ rw same (get_grown n homes i)
