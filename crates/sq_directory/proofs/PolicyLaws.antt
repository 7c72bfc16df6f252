-- When two policies are the same.
use Rattle.std.proofs.Common.{◌≡◌, ◌↔◌, ℕ, Bool, true, false, List, refl, sym, ap, Option, Some, None}
use Rattle.std.specs.Cmp.Lexicographic.{pointwise}
use Rattle.std.specs.Str.{bytes_eq}
use Rattle.std.proofs.lemmas.Slice.Eq.{bytes_eq-Decides, slice_eq-Decides}
use Rattle.sq_model.specs.declared.policy.AllowPolicy.{AllowPolicy}
use Rattle.sq_model.specs.declared.policy.AllowPolicy.TheVariants.{AllowAll, DenyAll, ByQueue}
use Rattle.sq_model.specs.Policies.{agrees_allow, same_allow}

names_same : (a b : List (List ℕ)) → (pointwise bytes_eq a b ≡ true → a ≡ b) × (a ≡ b → pointwise bytes_eq a b ≡ true)
names_same a b = slice_eq-Decides bytes_eq-Decides a b (pointwise bytes_eq a b) refl

listed_same : (a b : List (List ℕ)) → Some (ByQueue a) ≡ Some (ByQueue b) → a ≡ b
listed_same a b e = cc

same_is : (a b : Option AllowPolicy) → same_allow a b ≡ true → a ≡ b
same_is None None e = refl
same_is (Some AllowAll) (Some AllowAll) e = refl
same_is (Some DenyAll) (Some DenyAll) e = refl
same_is (Some (ByQueue names)) (Some (ByQueue others)) e = ap (λ (n : List (List ℕ)). Some (ByQueue n)) ((names_same names others).0 e)
same_is a b e = absurd cc

is_same : (a b : Option AllowPolicy) → a ≡ b → same_allow a b ≡ true
is_same None None e = refl
is_same (Some AllowAll) (Some AllowAll) e = refl
is_same (Some DenyAll) (Some DenyAll) e = refl
is_same (Some (ByQueue names)) (Some (ByQueue others)) e = (names_same names others).1 (listed_same names others e)
is_same a b e = absurd cc

same_answer : (r s : Bool) → (r ≡ true → s ≡ true) → (s ≡ true → r ≡ true) → r ≡ s
same_answer true s f g = sym (f refl)
same_answer false true f g = g refl
same_answer false false f g = refl

pub allow_agrees : (given : Option (Option AllowPolicy)) (first policy : Option AllowPolicy) (r : Bool) → given ≡ Some first → r ≡ true ↔ first ≡ policy → r ≡ agrees_allow given policy
allow_agrees given first policy r is same = rw is (same_answer r (same_allow first policy) (λ e. is_same first policy (same.0 e)) (λ e. same.1 (same_is first policy e)))
