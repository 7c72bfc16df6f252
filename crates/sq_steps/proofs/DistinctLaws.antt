-- Actors that are each there once, one after another.
use Rattle.std.proofs.Common.{◌≡◌, ℕ, zero, suc, ◌<◌, List, [], ◌∷◌, ◌++◌, subst, arith, Some, None, slice_get, take}
use Rattle.std.specs.Prelude.{position}
use Rattle.sq_model.specs.RecordValues.{Journal}
use Rattle.sq_steps.specs.Journals.{is_of_actor, journal_of, AreDistinct}
use Rattle.sq_steps.proofs.JournalListLaws.{found_there, journal_own, journal_once, lost_put, put_distinct}

-- an actor more that was not there
pub distinct_more : (b : Journal) (xs : List Journal) → AreDistinct xs → position (is_of_actor b.actor) xs ≡ None → AreDistinct (xs ++ b ∷ [])
distinct_more b xs each lost = subst AreDistinct (lost_put b xs lost) (put_distinct b xs each)

get_taken : {X : Type 0} (n : ℕ) (xs : List X) (k : ℕ) (y : X) → slice_get (take n xs) k ≡ Some y → (slice_get xs k ≡ Some y) × (k < n)
get_taken zero xs k y h = absurd cc
get_taken (suc n) [] k y h = absurd cc
get_taken (suc n) (x ∷ xs) zero y h = (h, omega arith)
get_taken (suc n) (x ∷ xs) (suc k) y h = let r = get_taken n xs k y h in (r.0, omega (arith, r.1))

-- an actor that is there before is there twice
pub found_twice : (journals : List Journal) (at p : ℕ) (x : Journal) → slice_get journals at ≡ Some x → position (is_of_actor x.actor) (take at journals) ≡ Some p → AreDistinct journals → ⊥
found_twice journals at p x there found each =
    let t = get_taken at journals p (journal_of x.actor (take at journals)) (found_there x.actor (take at journals) p found) in
    let same : p ≡ at = journal_once journals each p at (journal_of x.actor (take at journals)) x t.0 there (journal_own x.actor (take at journals)) in
    absurd (omega (arith, t.1, same))
