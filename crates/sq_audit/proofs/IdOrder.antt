-- The order of ids tells all ids apart.
use Rattle.std.proofs.Common.{◌≡◌, ℕ, Bool, true, false, refl, sym, ap, ◌∙◌, arith, List, [], ◌∷◌}
use Rattle.std.specs.Prelude.{nat_eq, ◌&&◌}
use Rattle.std.specs.Ordering.{nat_cmp, ordering_then, is_eq}
use Rattle.std.specs.declared.cmp.Ordering.{Ordering}
use Rattle.std.specs.declared.cmp.Ordering.TheVariants.{Less, Equal, Greater}
use Rattle.std.specs.Map.{lookup}
use Rattle.std.specs.BTreeMap.{is_at}
use Rattle.std.proofs.lemmas.Bool.{eqb-true}
use Rattle.std.proofs.lemmas.Grind.{common_steps}
use Rattle.std.proofs.lemmas.Map.Lookups.{CmpEqualImpliesEq}
use Rattle.sq_base.specs.declared.message_id.MessageId.{MessageId}
use Rattle.sq_model.specs.declared.place.Place.{Place}
use Rattle.sq_model.specs.Lineages.{same_id}
use Rattle.sq_audit.specs.RunLineages.{id_cmp}

other_eq : (a b : ℕ) → is_eq (nat_cmp a b) ≡ nat_eq b a
other_eq a b = grind (arith, common_steps)

then_eq : (a b c : Ordering) → is_eq (ordering_then a (ordering_then b c)) ≡ (is_eq a && is_eq b && is_eq c)
then_eq Less b c = refl
then_eq Greater b c = refl
then_eq Equal Less c = refl
then_eq Equal Greater c = refl
then_eq Equal Equal c = refl

id_at : (x k : MessageId) → is_at (id_cmp x) k ≡ same_id x k
id_at x k = rw (then_eq (nat_cmp x.queue k.queue) (nat_cmp x.home k.home) (nat_cmp x.serial k.serial), other_eq x.queue k.queue, other_eq x.home k.home, other_eq x.serial k.serial) refl

same_parts : (x k : MessageId) → k.queue ≡ x.queue → k.home ≡ x.home → k.serial ≡ x.serial → x ≡ k
same_parts x k p q r =
    ap (λ (n : ℕ). record { queue = n; home = x.home; serial = x.serial }) (sym p)
    ∙ ap (λ (n : ℕ). record { queue = k.queue; home = n; serial = x.serial }) (sym q)
    ∙ ap (λ (n : ℕ). record { queue = k.queue; home = k.home; serial = n }) (sym r)

all_three : (a b c : Bool) → (a && b && c) ≡ true → (a ≡ true) × (b ≡ true) × (c ≡ true)
all_three true true true h = (refl, refl, refl)
all_three true true false h = absurd cc
all_three true false c h = absurd cc
all_three false b c h = absurd cc

id_same : (x k : MessageId) → same_id x k ≡ true → x ≡ k
id_same x k h = let all = all_three _ _ _ h in same_parts x k (eqb-true _ _ all.0) (eqb-true _ _ all.1) (eqb-true _ _ all.2)

-- equal ids are one
pub id_apart : CmpEqualImpliesEq id_cmp
id_apart x k h = id_same x k (sym (id_at x k) ∙ ap is_eq h)

pub lookup_id : (x : MessageId) (es : List (MessageId × Place)) → lookup (is_at (id_cmp x)) es ≡ lookup (same_id x) es
lookup_id x [] = refl
lookup_id x (e ∷ es) = rw (id_at x e.0, lookup_id x es) refl
