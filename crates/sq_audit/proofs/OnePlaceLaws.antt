-- No two homes of a service have one id.
use Rattle.std.proofs.Common.{◌≡◌, ℕ, suc, ◌≤◌, Bool, true, false, cond, List, [], ◌∷◌, map, refl, ap, sym, ◌∙◌, arith, Some, slice_get}
use Rattle.std.specs.Prelude.{nat_eq, ◌&&◌, count_by}
use Rattle.std.proofs.lemmas.Bool.{eqb-true}
use Rattle.std.proofs.lemmas.List.Sums.{sum_by-cons}
use Rattle.sq_base.specs.declared.ids.HomeId.{HomeId}
use Rattle.sq_model.specs.declared.place.Site.{Site}
use Rattle.sq_model.specs.Systems.{same_home, IsOnePlace}
use Rattle.sq_history.specs.HistoryValue.{HistoryValue}
use Rattle.sq_history.specs.HomeIds.{IsNumbered}
use Rattle.sq_model.proofs.ElementLaws.{get_mapped}
use Rattle.sq_history.proofs.HomeIdLaws.{same_id}
use Rattle.sq_audit.proofs.CheckLaws.{home_id_once}

-- each id stands at one place
abbrev Apart : List Site → Type 0
Apart sites = (i j : ℕ) (s t : Site) → slice_get sites i ≡ Some s → slice_get sites j ≡ Some t → s.home ≡ t.home → i ≡ j

same_home_is : (x y : HomeId) → same_home x y ≡ true → y ≡ x
same_home_is x y h =
    elim (nat_eq y.queue x.queue) as (λ v. nat_eq y.queue x.queue ≡ v → (v && nat_eq y.home x.home) ≡ true → y ≡ x)
    [ true ↦ (λ e k. same_id y x (eqb-true _ _ e) (eqb-true _ _ k)) | false ↦ (λ e k. absurd cc) ] refl h

none_here : (x : HomeId) (sites : List Site) → ((j : ℕ) (t : Site) → slice_get sites j ≡ Some t → same_home x t.home ≡ false) → count_by (λ site. same_home x site.home) sites ≡ 0
none_here x [] h = refl
none_here x (s ∷ ss) h =
    let first : cond {A = ℕ} (same_home x s.home) 1 0 ≡ 0 = ap (λ (v : Bool). cond {A = ℕ} v 1 0) (h 0 s refl) in
    omega (arith, sum_by-cons (λ (site : Site). cond (same_home x site.home) 1 0) s ss, first, none_here x ss (λ j t g. h (suc j) t g))

-- another site has another id
other_id : (x : HomeId) (s : Site) (ss : List Site) (j : ℕ) (t : Site) → Apart (s ∷ ss) → same_home x s.home ≡ true → slice_get ss j ≡ Some t → same_home x t.home ≡ false
other_id x s ss j t one_place here in_list =
    elim (same_home x t.home) as (λ v. same_home x t.home ≡ v → v ≡ false) [
      | true ↦ (λ e. let one : 0 ≡ suc j = one_place 0 (suc j) s t refl in_list (same_home_is x s.home here ∙ sym (same_home_is x t.home e)) in absurd (omega (arith, one)))
      | false ↦ (λ e. refl)
    ] refl

at_most_one : (x : HomeId) (sites : List Site) → Apart sites → count_by (λ site. same_home x site.home) sites ≤ 1
at_most_one x [] one_place = omega arith
at_most_one x (s ∷ ss) one_place =
    elim (same_home x s.home) as (λ v. same_home x s.home ≡ v → count_by (λ site. same_home x site.home) (s ∷ ss) ≤ 1) [
      | true ↦ (λ e.
          let first : cond {A = ℕ} (same_home x s.home) 1 0 ≡ 1 = ap (λ (v : Bool). cond {A = ℕ} v 1 0) e in
          let others = none_here x ss (λ j t g. other_id x s ss j t one_place e g) in
          omega (arith, sum_by-cons (λ (site : Site). cond (same_home x site.home) 1 0) s ss, first, others))
      | false ↦ (λ e.
          let first : cond {A = ℕ} (same_home x s.home) 1 0 ≡ 0 = ap (λ (v : Bool). cond {A = ℕ} v 1 0) e in
          let rest = at_most_one x ss (λ i j a b g h same. let next : suc i ≡ suc j = one_place (suc i) (suc j) a b g h same in omega (arith, next)) in
          omega (arith, sum_by-cons (λ (site : Site). cond (same_home x site.home) 1 0) s ss, first, rest))
    ] refl

pub sites_once : (per_queue : ℕ) (homes : List HistoryValue) → IsNumbered per_queue homes → IsOnePlace (map (λ h. h.site) homes)
sites_once per_queue homes numbered x =
    at_most_one x (map (λ h. h.site) homes) (λ i j s t g h same.
    let a = get_mapped (λ (v : HistoryValue). v.site) homes i s g in
    let b = get_mapped (λ (v : HistoryValue). v.site) homes j t h in
    home_id_once per_queue i j (sym (numbered i a.0 a.1) ∙ sym (ap (λ (y : Site). y.home) a.2) ∙ same ∙ ap (λ (y : Site). y.home) b.2 ∙ numbered j b.0 b.1))
