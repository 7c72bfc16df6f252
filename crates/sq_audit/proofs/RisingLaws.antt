-- Histories whose stamps rise strictly.
use Rattle.std.proofs.Common.{◌≡◌, ℕ, zero, suc, Bool, true, false, cond, List, [], ◌∷◌, refl, ap, sym, ◌∙◌, subst, Some, slice_get}
use Rattle.std.specs.Prelude.{filter}
use Rattle.std.specs.List.{AllByRecursion}
use Rattle.sq_base.specs.StampValue.{StampValue}
use Rattle.sq_base.specs.Stamps.{Below}
use Rattle.sq_base.proofs.StampLaws.{below_trans, below_not_itself}
use Rattle.sq_model.specs.declared.event.Event.{Event}
use Rattle.sq_model.specs.Replays.{StampsRise}
use Rattle.sq_model.proofs.ElementLaws.{some_same, all_get}
use Rattle.sq_steps.proofs.FilterLaws.{all_filter}

-- what stands later has a higher stamp
abbrev pub Increasing : {K R : Type 0} → List (Event K R) → Type 0
Increasing {K} {R} [] = Unit {0}
Increasing {K} {R} (e ∷ es) = AllByRecursion (λ f. Below e.stamp f.stamp) es × Increasing es

-- an element of a list
abbrev pub Has : {X : Type 0} → List X → X → Type 0
Has {X} xs x = (k : ℕ) × (slice_get xs k ≡ Some x)

all_above : {K R : Type 0} (s low : StampValue) (es : List (Event K R)) (last : StampValue) → StampsRise low es last → ((x : StampValue) → Below low x → Below s x) → AllByRecursion (λ e. Below s e.stamp) es
all_above s low [] last r over = tt
all_above s low (e ∷ es) last r over = (over e.stamp r.0, all_above s e.stamp es last r.1 (λ x h. over x (below_trans low e.stamp x r.0 h)))

pub increases : {K R : Type 0} (low : StampValue) (es : List (Event K R)) (last : StampValue) → StampsRise low es last → Increasing es
increases low [] last r = tt
increases low (e ∷ es) last r = (all_above e.stamp e.stamp es last r.1 (λ x h. h), increases e.stamp es last r.1)

pub increases_still : {K R : Type 0} (p : Event K R → Bool) (es : List (Event K R)) → Increasing es → Increasing (filter p es)
increases_still p [] h = tt
increases_still p (e ∷ es) h = elim (p e) as (λ v. Increasing (cond v (e ∷ filter p es) (filter p es))) [ true ↦ (all_filter (λ f. Below e.stamp f.stamp) p es h.0, increases_still p es h.1) | false ↦ increases_still p es h.1 ]

module _ {K R : Type 0} where
  not_below_same : (d e : Event K R) → d.stamp ≡ e.stamp → Below d.stamp e.stamp → ⊥
  not_below_same d e same h = below_not_itself e.stamp (subst (λ (s : StampValue). Below s e.stamp) same h)

  -- two events of one stamp are one
  pub one_event : (es : List (Event K R)) → Increasing es → (i j : ℕ) (d e : Event K R) → slice_get es i ≡ Some d → slice_get es j ≡ Some e → d.stamp ≡ e.stamp → d ≡ e
  one_event [] h i j d e p q same = absurd cc
  one_event (x ∷ xs) h zero zero d e p q same = cc
  one_event (x ∷ xs) h zero (suc j) d e p q same = let first : x ≡ d = some_same p in absurd (not_below_same d e same (subst (λ (y : Event K R). Below y.stamp e.stamp) first (all_get (λ f. Below x.stamp f.stamp) xs h.0 j e q)))
  one_event (x ∷ xs) h (suc i) zero d e p q same = let first : x ≡ e = some_same q in absurd (not_below_same e d (sym same) (subst (λ (y : Event K R). Below y.stamp d.stamp) first (all_get (λ f. Below x.stamp f.stamp) xs h.0 i d p)))
  one_event (x ∷ xs) h (suc i) (suc j) d e p q same = one_event xs h.1 i j d e p q same

  -- the first of one list is no later one of the other, where the first of the other is in the one
  head_same : (x y : Event K R) (xs ys : List (Event K R)) → Increasing (x ∷ xs) → Increasing (y ∷ ys) → Has (y ∷ ys) x → Has (x ∷ xs) y → x ≡ y
  head_same x y xs ys h g (zero, p) q = sym (some_same p)
  head_same x y xs ys h g (suc k, p) (zero, q) = some_same q
  head_same x y xs ys h g (suc k, p) (suc j, q) =
      absurd (below_not_itself x.stamp (below_trans x.stamp y.stamp x.stamp (all_get (λ f. Below x.stamp f.stamp) xs h.0 j y q) (all_get (λ f. Below y.stamp f.stamp) ys g.0 k x p)))

  -- what stands after the first is after it in the other list too
  after_first : (x y : Event K R) (xs ys : List (Event K R)) → x ≡ y → AllByRecursion (λ f. Below x.stamp f.stamp) xs → (k : ℕ) (z : Event K R) → slice_get xs k ≡ Some z → Has (y ∷ ys) z → Has ys z
  after_first x y xs ys same h k z p (zero, q) = let first : y ≡ z = some_same q in absurd (not_below_same x z (ap (λ (e : Event K R). e.stamp) (same ∙ first)) (all_get (λ f. Below x.stamp f.stamp) xs h k z p))
  after_first x y xs ys same h k z p (suc j, q) = (j, q)

  -- two such histories with the same events are one
  pub same_events : (xs ys : List (Event K R)) → Increasing xs → Increasing ys → ((k : ℕ) (x : Event K R) → slice_get xs k ≡ Some x → Has ys x) → ((k : ℕ) (y : Event K R) → slice_get ys k ≡ Some y → Has xs y) → xs ≡ ys
  same_events [] [] h g there back = refl
  same_events [] (y ∷ ys) h g there back = let t = back 0 y refl in absurd (let e = t.1 in cc)
  same_events (x ∷ xs) [] h g there back = let t = there 0 x refl in absurd (let e = t.1 in cc)
  same_events (x ∷ xs) (y ∷ ys) h g there back =
      let first : x ≡ y = head_same x y xs ys h g (there 0 x refl) (back 0 y refl) in
      let rest : xs ≡ ys = same_events xs ys h.1 g.1
      (λ k z p. after_first x y xs ys first h.0 k z p (there (suc k) z p))
      (λ k z p. after_first y x ys xs (sym first) g.0 k z p (back (suc k) z p)) in
      cc
