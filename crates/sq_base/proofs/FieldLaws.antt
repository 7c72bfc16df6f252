-- What is read of a field is spelled so, and what is spelled so is read.
use Rattle.std.proofs.Common.{◌≡◌, ℕ, zero, suc, ◌+◌, ◌-◌, ◌*◌, ◌/◌, ◌%◌, ◌^◌, ◌<◌, ◌≤◌, Bool, true, false, cond, List, [], ◌∷◌, ◌++◌, length, take, drop, set, get_or, Option, Some, None, refl, sym, ap, ◌∙◌, append_assoc, arith, inl, inr, add-one, drop-cons}
use Rattle.std.specs.Prelude.{nat_lt, nat_le, ◌&&◌, ◌==◌}
use Rattle.std.proofs.lemmas.Bool.{ltb-false, le-ltb, cases_lt, eqb-true, and_parts}
use Rattle.std.proofs.lemmas.List.{take_at, drop_at, take-append-drop, length-append, append-nil, drop-set}
use Rattle.std.proofs.Math.ListN.{drop_of_length-le}
use Rattle.std.proofs.lemmas.Grind.{common_steps}
use Rattle.std.proofs.Math.Nat.{pow-suc, pow-le-pow_right}
use Rattle.sq_base.specs.Fields.{digit, field, ◌>>=◌, digit_value, number_after, field_at, dash_at}

pub bind_some : {A B : Type 0} (o : Option A) (f : A → Option B) (y : B) → (o >>= f) ≡ Some y → (x : A) × (o ≡ Some x) × (f x ≡ Some y)
bind_some None f y e = absurd cc
bind_some (Some x) f y e = (x, refl, e)

pub some_is : {A : Type 0} (x y : A) → Some x ≡ Some y → x ≡ y
some_is x y e = cc

pub test_some : {A : Type 0} (b : Bool) (x y : A) → cond b (Some x) None ≡ Some y → (b ≡ true) × (x ≡ y)
test_some true x y e = (refl, cc)
test_some false x y e = absurd cc

pub guard_some : {A : Type 0} (b : Bool) (o : Option A) (y : A) → cond b None o ≡ Some y → (b ≡ false) × (o ≡ Some y)
guard_some true o y e = absurd cc
guard_some false o y e = (refl, e)

low_digit : (d : ℕ) → d < 10 → digit d ≡ 48 + d
low_digit d h = let e : nat_lt d 10 ≡ true = grind (arith, common_steps) in rw e refl

high_digit : (d : ℕ) → 10 ≤ d → digit d ≡ 87 + d
high_digit d h = let e : nat_lt d 10 ≡ false = grind (arith, common_steps) in rw e refl

within : (a b c : ℕ) → (nat_le a b && nat_le b c) ≡ true → (a ≤ b) × (b ≤ c)
within a b c e = let p = and_parts (nat_le a b) (nat_le b c) e in (grind (arith, common_steps, p.0), grind (arith, common_steps, p.1))

found_by : (b d : ℕ) (t u : Bool) → (nat_le 48 b && nat_le b 57) ≡ t → (nat_le 97 b && nat_le b 102) ≡ u → cond t (Some (b - 48)) (cond u (Some (b - 87)) None) ≡ Some d → (digit d ≡ b) × (d < 16)
found_by b d true u p q e =
    let r = within 48 b 57 p in let is : b - 48 ≡ d = some_is (b - 48) d e in
    let low : d < 10 = omega (arith, r.0, r.1) in
    (low_digit d low ∙ (let v : 48 + d ≡ b = omega (arith, r.0) in v), omega arith)
found_by b d false true p q e =
    let r = within 97 b 102 q in let is : b - 87 ≡ d = some_is (b - 87) d e in
    let high : 10 ≤ d = omega (arith, r.0, r.1) in
    (high_digit d high ∙ (let v : 87 + d ≡ b = omega (arith, r.0) in v), omega (arith, r.1))
found_by b d false false p q e = absurd cc

pub digit_found : (b d : ℕ) → digit_value b ≡ Some d → (digit d ≡ b) × (d < 16)
digit_found b d e = found_by b d (nat_le 48 b && nat_le b 57) (nat_le 97 b && nat_le b 102) refl refl e

pub digit_again : (d : ℕ) → d < 16 → digit_value (digit d) ≡ Some d
digit_again d lt = elim (cases_lt d 10) [
  | inl low ↦ let v = low_digit d low in let e1 : nat_le 48 (48 + d) ≡ true = grind (arith, common_steps) in let e2 : nat_le (48 + d) 57 ≡ true = grind (arith, common_steps) in let m : 48 + d - 48 ≡ d = omega arith in rw (v, e1, e2, m) refl
  | inr high ↦ let v = high_digit d high in let e0 : nat_le (87 + d) 57 ≡ false = grind (arith, common_steps) in let e3 : nat_le 48 (87 + d) ≡ true = grind (arith, common_steps) in let e1 : nat_le 97 (87 + d) ≡ true = grind (arith, common_steps) in let e2 : nat_le (87 + d) 102 ≡ true = grind (arith, common_steps) in let m : 87 + d - 87 ≡ d = omega arith in rw (v, e3, e0, e1, e2, m) refl
]

pub length_field : (w n : ℕ) → length (field w n) ≡ w
unfolding field
length_field zero n = refl
length_field (suc w) n = omega (arith, length-append (field w (n / 16)) (digit (n % 16) ∷ []), length_field w (n / 16))

pub field_step : (k a d : ℕ) → d < 16 → field (suc k) (a * 16 + d) ≡ field k a ++ digit d ∷ []
unfolding field
field_step k a d lt =
    let front : (a * 16 + d) / 16 ≡ a = omega arith in
    let last : (a * 16 + d) % 16 ≡ d = omega arith in
    rw (front, last) refl

-- what was read so far and what is left spell one number
number_found : (k a : ℕ) (bs : List ℕ) (v : ℕ) → number_after a bs ≡ Some v → field k a ++ bs ≡ field (k + length bs) v
unfolding number_after
number_found k a [] v e = let same : a ≡ v = some_is a v e in let none : k ≡ k + 0 = omega arith in append-nil (field k a) ∙ ap (λ (x : ℕ). field k x) same ∙ ap (λ (n : ℕ). field n v) none
number_found k a (b ∷ bs) v e =
    let s = bind_some (digit_value b) (λ d. number_after (a * 16 + d) bs) v e in
    let d = digit_found b s.0 s.1 in
    let rest = number_found (suc k) (a * 16 + s.0) bs v s.2 in
    let one : field (suc k) (a * 16 + s.0) ++ bs ≡ field k a ++ (b ∷ bs) = rw (field_step k a s.0 d.1, d.0) (append_assoc (field k a) (b ∷ []) bs) in
    let count : suc k + length bs ≡ k + length (b ∷ bs) = omega arith in
    sym one ∙ rest ∙ ap (λ (n : ℕ). field n v) count

number_append : (a : ℕ) (xs ys : List ℕ) → number_after a (xs ++ ys) ≡ (number_after a xs >>= λ n. number_after n ys)
unfolding number_after
number_append a [] ys = refl
number_append a (x ∷ xs) ys = elim (digit_value x) as (λ (o : Option ℕ). (o >>= λ d. number_after (a * 16 + d) (xs ++ ys)) ≡ ((o >>= λ d. number_after (a * 16 + d) xs) >>= λ n. number_after n ys)) [
  | None ↦ refl
  | Some d ↦ number_append (a * 16 + d) xs ys
]

number_again : (a w v : ℕ) → v < 16 ^ w → number_after a (field w v) ≡ Some (a * 16 ^ w + v)
unfolding field number_after
number_again a zero v lt = ap Some (omega arith)
number_again a (suc w) v lt =
    let p : 16 ^ suc w ≡ 16 * 16 ^ w = omega (arith, pow-suc 16 w) in
    let below : v / 16 < 16 ^ w = omega arith in
    let front = number_again a w (v / 16) below in
    let small : v % 16 < 16 = omega arith in
    let sum : (a * 16 ^ w + v / 16) * 16 + v % 16 ≡ a * 16 ^ suc w + v = rw p (grind arith) in
    number_append a (field w (v / 16)) (digit (v % 16) ∷ []) ∙ rw (front, digit_again (v % 16) small) (ap Some sum)

pub field_takes : (w : ℕ) (bytes : List ℕ) (n : ℕ) (rest : List ℕ) → field_at w bytes ≡ Some (n, rest) → bytes ≡ field w n ++ rest
unfolding field_at field
field_takes w bytes n rest e =
    let g = guard_some (nat_lt (length bytes) w) (number_after 0 (take w bytes) >>= λ n. Some (n, drop w bytes)) (n, rest) e in
    let long : w ≤ length bytes = ltb-false _ _ g.0 in
    let s = bind_some (number_after 0 (take w bytes)) (λ n. Some (n, drop w bytes)) (n, rest) g.1 in
    let same = some_is (s.0, drop w bytes) (n, rest) s.2 in
    let n-is : s.0 ≡ n = ap (λ (p : ℕ × List ℕ). p.0) same in
    let rest-is : drop w bytes ≡ rest = ap (λ (p : ℕ × List ℕ). p.1) same in
    let text = number_found 0 0 (take w bytes) s.0 s.1 in
    let len : length (take w bytes) ≡ w = grind (arith, common_steps) in
    let count : 0 + length (take w bytes) ≡ w = omega arith in
    let front : take w bytes ≡ field w n = text ∙ ap (λ (k : ℕ). field k s.0) count ∙ ap (λ (x : ℕ). field w x) n-is in
    sym (take-append-drop w bytes) ∙ rw (front, rest-is) refl

pub field_again : (w n : ℕ) (rest : List ℕ) → n < 16 ^ w → field_at w (field w n ++ rest) ≡ Some (n, rest)
unfolding field_at
field_again w n rest lt =
    let len = length_field w n in
    let long : nat_lt (length (field w n ++ rest)) w ≡ false = le-ltb _ _ (omega (arith, length-append (field w n) rest)) in
    rw (long, take_at (field w n) rest w len, drop_at (field w n) rest w len, number_again 0 w n lt) (ap (λ (x : ℕ). Some (x, rest)) (let same : 0 * 16 ^ w + n ≡ n = omega arith in same))

pub dash_takes : (bytes rest : List ℕ) → dash_at bytes ≡ Some rest → bytes ≡ 45 ∷ rest
dash_takes [] rest e = absurd cc
dash_takes (b ∷ bs) rest e =
    let t = test_some (b == 45) bs rest e in
    let head : b ≡ 45 = eqb-true _ _ t.0 in
    rw (head, t.1) refl

pub put_more : (text out : List ℕ) (left rest d : ℕ) → 0 < left → left ≤ length out → d ≡ digit (rest % 16) → text ≡ field left rest ++ drop left out → text ≡ field (left - 1) (rest / 16) ++ drop (left - 1) (set out (left - 1) d)
unfolding field
put_more text out zero rest d lt le is h = absurd (omega arith)
put_more text out (suc k) rest d lt le is h =
    let within : k < length out = omega arith in
    let at : drop k (set out k d) ≡ d ∷ drop (k + 1) out = drop-set out k d within in
    let left-is : suc k - 1 ≡ k = omega arith in
    h ∙ append_assoc (field k (rest / 16)) (digit (rest % 16) ∷ []) (drop (suc k) out) ∙ rw (left-is) (rw (at, is, add-one) refl)

pub number_more : (a d : ℕ) (bs : List ℕ) (i : ℕ) → i < length bs → digit_value (get_or bs i 0) ≡ Some d → number_after a (drop i bs) ≡ number_after (a * 16 + d) (drop (i + 1) bs)
unfolding number_after
number_more a d bs i lt is = rw (drop-cons bs i 0, is, add-one) refl

pub number_stops : (a : ℕ) (bs : List ℕ) (i : ℕ) → i < length bs → digit_value (get_or bs i 0) ≡ None → number_after a (drop i bs) ≡ None
unfolding number_after
number_stops a bs i lt is = rw (drop-cons bs i 0, is) refl

pub number_ends : (a : ℕ) (bs : List ℕ) (i : ℕ) → length bs ≤ i → number_after a (drop i bs) ≡ Some a
unfolding number_after
number_ends a bs i le = rw (drop_of_length-le bs le) refl

pub power_bound : (n d i : ℕ) → n < 16 ^ i → d < 16 → n * 16 + d < 16 ^ (i + 1)
power_bound n d i lt small = rw add-one (let p : 16 ^ suc i ≡ 16 * 16 ^ i = omega (arith, pow-suc 16 i) in omega arith)

pub power_fits : (n i : ℕ) → n < 16 ^ i → i ≤ 16 → n < 18446744073709551616
power_fits n i lt le = let p : 16 ^ i ≤ 16 ^ 16 = let pos : 0 < 16 = omega arith in pow-le-pow_right {n = 16} pos le in omega arith
