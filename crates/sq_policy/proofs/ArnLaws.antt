-- Names have ARNs.
use Rattle.std.proofs.Common.{◌≡◌, ◌∙◌, ℕ, List, length, take, drop, ◌++◌, Bool, true, false, Some, codes, refl, sym, ap, subst, arith}
use Rattle.std.specs.Prelude.{nat_lt}
use Rattle.std.specs.Str.{bytes_eq}
use Rattle.std.proofs.lemmas.Bool.{le-ltb}
use Rattle.std.proofs.lemmas.List.{take-append-drop, length-append}
use Rattle.std.proofs.lemmas.Slice.Eq.{bytes_eq-Decides}
use Rattle.sq_base.specs.Names.{is_name}
use Rattle.sq_policy.specs.PolicyTexts.{arn_name, arn_text, name_behind}

abbrev start : List ℕ
start = codes "arn:aws:sqs:local:000000000000:"

pub arn_of_name : (name : List ℕ) → is_name name ≡ true → arn_name (arn_text name) ≡ Some name
unfolding arn_name name_behind arn_text
arn_of_name name h =
    let long : nat_lt (length (start ++ name)) 31 ≡ false = le-ltb _ _ (omega (arith, length-append start name)) in
    rw (long, h) refl

parts : (text name : List ℕ) (short same valid : Bool) → nat_lt (length text) 31 ≡ short → bytes_eq (take 31 text) start ≡ same → is_name (drop 31 text) ≡ valid
    → arn_name text ≡ Some name → (is_name name ≡ true) × (text ≡ arn_text name)
unfolding arn_name name_behind arn_text
parts text name true same valid e f g h = let none = rw e at h in cc
parts text name false false valid e f g h = let none = rw (e, f) at h in cc
parts text name false true false e f g h = let none = rw (e, f, g) at h in cc
parts text name false true true e f g h =
    let found = rw (e, f, g) at h in
    let is : drop 31 text ≡ name = cc in
    let front : take 31 text ≡ start = (bytes_eq-Decides (take 31 text) start).0 f in
    (subst (λ (n : List ℕ). is_name n ≡ true) is g, sym (take-append-drop 31 text) ∙ ap (λ (a : List ℕ). a ++ drop 31 text) front ∙ ap (λ (a : List ℕ). start ++ a) is)

pub name_of_arn : (text name : List ℕ) → arn_name text ≡ Some name → (is_name name ≡ true) × (text ≡ arn_text name)
name_of_arn text name h = parts text name _ _ _ refl refl refl h
