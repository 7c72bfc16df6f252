-- Each actor's events stand in its order, where their places agree with their stamps.
use Rattle.std.specs.Prelude.{◌≡◌, ℕ, ◌<◌, Bool, true, false, ◌==◌, cond, List, [], ◌∷◌, refl, nat_eq, Some, slice_get}
use Rattle.std.specs.List.{AllByRecursion}
use Rattle.std.specs.Ordering.{ordering_then, is_lt, nat_cmp}
use Rattle.std.specs.declared.cmp.Ordering.{Ordering}
use Rattle.std.specs.declared.cmp.Ordering.TheVariants.{Less, Equal, Greater}
use Rattle.std.proofs.Common.{zero, suc, ap, arith, subst, sym, inl, inr}
use Rattle.std.proofs.lemmas.Bool.{cases_lt}
use Rattle.std.proofs.lemmas.Grind.{common_steps}
use Rattle.sq_base.specs.StampValue.{StampValue}
use Rattle.sq_base.specs.Stamps.{Below, stamp_cmp}
use Rattle.sq_base.proofs.StampLaws.{below_less, below_not_itself}
use Rattle.sq_model.specs.Replays.{HomeEvent}
use Rattle.sq_model.specs.Systems.{DirectoryEvent, Tag, OfDirectory, OfLedger, OfHome, stamp_of}
use Rattle.sq_model.specs.Merges.{of_directory, of_home, rank_of, is_before, InOrder}
use Rattle.sq_audit.specs.Actors.{event_actor, event_place, ActorsRise, PartsRise}
use Rattle.sq_audit.specs.inside.Actors.{PlacesAgree, PlacesApart}

pub same_number : (n : ℕ) → nat_eq n n ≡ true
same_number n = grind (arith, common_steps)

pub less_first : (o r : Ordering) → is_lt o ≡ true → is_lt (ordering_then o r) ≡ true
less_first Less r h = refl
less_first Equal r h = absurd cc
less_first Greater r h = absurd cc

-- of two events of one actor, the later one has the higher place
pair_rises : (t u : Tag) → is_before u t ≡ false → (rank_of u ≡ rank_of t → Below (stamp_of t) (stamp_of u))
    → (event_place u < event_place t → Below (stamp_of u) (stamp_of t))
    → (event_place u ≡ event_place t → (rank_of u ≡ rank_of t) × (stamp_of u ≡ stamp_of t))
    → event_place t < event_place u
pair_rises t u order part agree differ =
    elim (cases_lt (event_place t) (event_place u)) as (λ _. event_place t < event_place u) [
      | inl h ↦ h
      | inr h ↦ elim (cases_lt (event_place u) (event_place t)) as (λ _. event_place t < event_place u) [
        | inl k ↦ (let less = less_first (stamp_cmp (stamp_of u) (stamp_of t)) (nat_cmp (rank_of u) (rank_of t)) (below_less (stamp_of u) (stamp_of t) (agree k)) in absurd cc)
        | inr k ↦ (let e : event_place u ≡ event_place t = omega (arith, h, k) in
            let same = differ e in
            absurd (below_not_itself (stamp_of t) (subst (λ (s : StampValue). Below (stamp_of t) s) same.1 (part same.0))))
      ]
    ]

head_rises : (t : Tag) (us : List Tag) → AllByRecursion (λ u. is_before u t ≡ false) us → AllByRecursion (λ u. rank_of u ≡ rank_of t → Below (stamp_of t) (stamp_of u)) us
    → ((k : ℕ) (u : Tag) → slice_get us k ≡ Some u → event_actor u ≡ event_actor t → event_place u < event_place t → Below (stamp_of u) (stamp_of t))
    → ((k : ℕ) (u : Tag) → slice_get us k ≡ Some u → event_actor u ≡ event_actor t → event_place u ≡ event_place t → (rank_of u ≡ rank_of t) × (stamp_of u ≡ stamp_of t))
    → ((k : ℕ) (u : Tag) → slice_get us k ≡ Some u → event_actor u ≡ event_actor t → event_place t < event_place u → Below (stamp_of t) (stamp_of u))
    → AllByRecursion (λ u. event_actor u ≡ event_actor t → (event_place t < event_place u) × Below (stamp_of t) (stamp_of u)) us
head_rises t [] order parts agree differ up = tt
head_rises t (u ∷ us) order parts agree differ up = (
  λ same. (let less = pair_rises t u order.0 parts.0 (agree 0 u refl same) (differ 0 u refl same) in (less, up 0 u refl same less)),
  head_rises t us order.1 parts.1 (λ k. agree (suc k)) (λ k. differ (suc k)) (λ k. up (suc k)),
)

-- in a list in order in which the events of each part rise, each actor's events stand in its order
pub all_rise : (ts : List Tag) → InOrder is_before ts → PartsRise ts → PlacesAgree ts → PlacesApart ts → ActorsRise ts
all_rise [] order parts agree differ = tt
all_rise (t ∷ ts) order parts agree differ = (
  head_rises t ts order.0 parts.0 (λ k u is. agree (suc k) 0 u t is refl) (λ k u is. differ (suc k) 0 u t is refl) (λ k u is same. agree 0 (suc k) t u refl is (sym same)),
  all_rise ts order.1 parts.2 (λ i j. agree (suc i) (suc j)) (λ i j. differ (suc i) (suc j)),
)

-- an event of the list stands in the history of its part
pub in_directory : (run : List Tag) (i : ℕ) (e : DirectoryEvent) → slice_get run i ≡ Some (OfDirectory e) → (k : ℕ) × (slice_get (of_directory run) k ≡ Some e)
in_directory [] i e is = absurd cc
in_directory (OfDirectory d ∷ ts) zero e is = (0, cc)
in_directory (OfLedger d ∷ ts) zero e is = absurd cc
in_directory (OfHome j d ∷ ts) zero e is = absurd cc
in_directory (OfDirectory d ∷ ts) (suc i) e is = let rest = in_directory ts i e is in (suc rest.0, rest.1)
in_directory (OfLedger d ∷ ts) (suc i) e is = in_directory ts i e is
in_directory (OfHome j d ∷ ts) (suc i) e is = in_directory ts i e is

in_left : (b : Bool) (d e : HomeEvent) (es : List HomeEvent) → (k : ℕ) × (slice_get es k ≡ Some e) → (k : ℕ) × (slice_get (cond b (d ∷ es) es) k ≡ Some e)
in_left true d e es in_list = (suc in_list.0, in_list.1)
in_left false d e es in_list = in_list

pub in_home : (run : List Tag) (i j : ℕ) (e : HomeEvent) → slice_get run i ≡ Some (OfHome j e) → (k : ℕ) × (slice_get (of_home j run) k ≡ Some e)
in_home [] i j e is = absurd cc
in_home (OfDirectory d ∷ ts) zero j e is = absurd cc
in_home (OfLedger d ∷ ts) zero j e is = absurd cc
in_home (OfHome n d ∷ ts) zero j e is =
    let place : n ≡ j = cc in
    let event : d ≡ e = cc in
    rw (place, same_number j) (0, ap Some event)
in_home (OfDirectory d ∷ ts) (suc i) j e is = in_home ts i j e is
in_home (OfLedger d ∷ ts) (suc i) j e is = in_home ts i j e is
in_home (OfHome n d ∷ ts) (suc i) j e is = in_left (n == j) d e (of_home j ts) (in_home ts i j e is)
