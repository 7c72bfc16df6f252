-- The places of homes, each at its index.
use Rattle.std.proofs.Common.{◌≡◌, ◌∙◌, ℕ, zero, suc, ◌≤◌, List, [], ◌∷◌, ◌++◌, Some, ap, inl, inr, length, map, slice_get, subst, sym}
use Rattle.std.proofs.lemmas.List.{map-append}
use Rattle.sq_base.specs.declared.ids.HomeId.{HomeId}
use Rattle.sq_model.proofs.ElementLaws.{get_cases}
use Rattle.sq_history.specs.HomeIds.{home_id, home_index}
use Rattle.sq_history.proofs.HomeIdLaws.{index_found}
use Rattle.sq_queue.specs.LockedParts.{ArePlaced}

mapped_at : {X Y : Type 0} (f : X → Y) (xs : List X) (k : ℕ) (x : X) → slice_get xs k ≡ Some x → slice_get (map f xs) k ≡ Some (f x)
mapped_at f [] k x h = absurd cc
mapped_at {X} {Y} f (y ∷ ys) zero x h = let same : y ≡ x = cc in ap (λ (z : X). Some (f z)) same
mapped_at f (y ∷ ys) (suc k) x h = mapped_at f ys k x h

-- a place more, at the end
pub placed_more : {X : Type 0} (per_queue : ℕ) (its_id : X → HomeId) (places : List X) (place : X) → ArePlaced per_queue (map its_id places) → its_id place ≡ home_id per_queue (length (map its_id places)) → ArePlaced per_queue (map its_id (places ++ place ∷ []))
placed_more per_queue its_id places place placed at = subst (ArePlaced per_queue) (sym (map-append its_id places (place ∷ []))) (λ k x there. elim (get_cases (map its_id places) (its_id place) x k there) [
  | inl before ↦ placed k x before
  | inr last ↦ last.1 ∙ at ∙ ap (home_id per_queue) (sym last.0)
])

-- the place at the index of a home is its place
pub place_of : {X : Type 0} (per_queue count : ℕ) (its_id : X → HomeId) (places : List X) (place : X) (id : HomeId) (index : ℕ) → ArePlaced per_queue (map its_id places) → 1 ≤ id.queue → home_index per_queue count id ≡ Some index → slice_get places index ≡ Some place → its_id place ≡ id
place_of per_queue count its_id places place id index placed least is there = placed index (its_id place) (mapped_at its_id places index place there) ∙ (index_found per_queue count id index least is).1
