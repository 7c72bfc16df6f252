-- The index of a home, and the home at an index.
use Rattle.std.proofs.Common.{◌≡◌, ℕ, ◌+◌, ◌-◌, ◌*◌, ◌/◌, ◌%◌, ◌<◌, ◌≤◌, true, false, List, length, refl, ap, sym, ◌∙◌, subst, arith, Some, None, slice_get}
use Rattle.std.specs.Prelude.{nat_lt, ◌&&◌, if◌then◌else◌}
use Rattle.std.proofs.lemmas.Nat.{div-mul-add, mod-mul-add}
use Rattle.std.proofs.Math.Nat.{mod-add-div, mod-lt, mul_comm}
use Rattle.std.proofs.lemmas.Option.{slice_get_within}
use Rattle.std.proofs.lemmas.Grind.{common_steps}
use Rattle.sq_base.specs.declared.ids.HomeId.{HomeId}
use Rattle.sq_history.specs.HistoryValue.{HistoryValue}
use Rattle.sq_history.specs.HomeIds.{home_id, IsNumbered, home_index}
use Rattle.sq_model.proofs.ElementLaws.{some_same}

pub same_id : (x y : HomeId) → x.queue ≡ y.queue → x.home ≡ y.home → x ≡ y
same_id x y q h = ap (λ (n : ℕ). record { queue = n; home = x.home }) q ∙ ap (λ (n : ℕ). record { queue = y.queue; home = n }) h

place_is : (per_queue count : ℕ) (id : HomeId) → 1 ≤ id.queue → id.home < per_queue → (id.queue - 1) * per_queue + id.home < count
    → ((id.queue - 1) * per_queue + id.home < count) × (home_id per_queue ((id.queue - 1) * per_queue + id.home) ≡ id)
place_is per_queue count id least below within =
    (within, same_id (home_id per_queue ((id.queue - 1) * per_queue + id.home)) id (omega (arith, div-mul-add (id.queue - 1) per_queue id.home below, least)) (mod-mul-add (id.queue - 1) per_queue id.home below))

-- a place that is found has the home
pub index_found : (per_queue count : ℕ) (id : HomeId) (index : ℕ) → 1 ≤ id.queue → home_index per_queue count id ≡ Some index → (index < count) × (home_id per_queue index ≡ id)
index_found per_queue count id index least h =
    let at = (id.queue - 1) * per_queue + id.home in
    elim (nat_lt id.home per_queue) as (λ v. nat_lt id.home per_queue ≡ v → (if v && nat_lt at count then Some at else None) ≡ Some index → (index < count) × (home_id per_queue index ≡ id)) [
      | true ↦ (λ e. elim (nat_lt at count) as (λ w. nat_lt at count ≡ w → (if w then Some at else None) ≡ Some index → (index < count) × (home_id per_queue index ≡ id)) [
        | true ↦ (λ f k. subst (λ (n : ℕ). (n < count) × (home_id per_queue n ≡ id)) (some_same k) (place_is per_queue count id least (grind (arith, common_steps, e)) (grind (arith, common_steps, f))))
        | false ↦ (λ f k. absurd cc)
      ] refl)
      | false ↦ (λ e k. absurd cc)
    ] refl h

mul-order : (a b c d : ℕ) → c + b * a ≡ d → a * b + c ≡ d
mul-order a b c d h = let e = mul_comm a b in omega (arith, h, e)

pub place_back : (per_queue count at : ℕ) → 1 ≤ per_queue → at < count → home_index per_queue count (home_id per_queue at) ≡ Some at
place_back per_queue count at some within =
    let less : nat_lt (at % per_queue) per_queue ≡ true = (let lt = mod-lt at some in grind (arith, common_steps, lt)) in
    let is : (at / per_queue + 1 - 1) * per_queue + at % per_queue ≡ at = (let e : at / per_queue + 1 - 1 ≡ at / per_queue = omega arith in rw e (mul-order (at / per_queue) per_queue (at % per_queue) at (mod-add-div at per_queue))) in
    let inside : nat_lt at count ≡ true = grind (arith, common_steps) in
    rw (less, is, inside) refl

within : (homes : List HistoryValue) (at : ℕ) (h : HistoryValue) → slice_get homes at ≡ Some h → at < length homes
within homes at h in_list = slice_get_within homes at h in_list

-- and no other place is
pub index_none : (per_queue : ℕ) (homes : List HistoryValue) (id : HomeId) → 1 ≤ per_queue → IsNumbered per_queue homes → home_index per_queue (length homes) id ≡ None → (at : ℕ) (h : HistoryValue) → slice_get homes at ≡ Some h → h.site.home ≡ id → ⊥
index_none per_queue homes id some numbered none at h in_list is =
    let index : home_index per_queue (length homes) id ≡ Some at = subst (λ (x : HomeId). home_index per_queue (length homes) x ≡ Some at) (sym (numbered at h in_list) ∙ is) (place_back per_queue (length homes) at some (within homes at h in_list)) in
    cc
