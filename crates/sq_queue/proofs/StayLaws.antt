-- The home that a session stays at, as the first of those drawn.
use Rattle.std.proofs.Common.{◌≡◌, ◌≢◌, ◌∙◌, ℕ, ◌<◌, ◌≤◌, true, false, true≢false, List, Some, None, length, length-set, get_or, refl, sym, inl, inr, arith, slice_get, cond}
use Rattle.std.specs.Prelude.{◌==◌, nat_lt, position, slice_set, swap}
use Rattle.std.specs.List.{position_or_len}
use Rattle.rand.specs.Sample.{IsSampleOf}
use Rattle.std.proofs.lemmas.Bool.{cases_lt, eqb-true}
use Rattle.std.proofs.lemmas.Bool.Decides.{nat_tests}
use Rattle.std.proofs.lemmas.Grind.{common_steps}
use Rattle.std.proofs.lemmas.List.{get_or-set_same, get_or-set_other, get_or_default}
use Rattle.std.proofs.lemmas.List.Elements.{All-set}
use Rattle.std.proofs.lemmas.List.Edits.{swapped_from_swap, length-swap}
use Rattle.std.proofs.lemmas.List.Sums.{fails_before_first, passes_at_first}
use Rattle.std.proofs.lemmas.Option.{slice_get_read}

found_at : (xs : List ℕ) (home at : ℕ) → position (λ it. it == home) xs ≡ Some at → (at < length xs) × (get_or xs at home ≡ home)
found_at xs home at h =
    let n = position_or_len (λ it. it == home) xs in
    elim (nat_lt n (length xs)) as (λ v. nat_lt n (length xs) ≡ v → cond v (Some n) None ≡ Some at → (at < length xs) × (get_or xs at home ≡ home)) [
      | true ↦ (λ e k.
          let same : n ≡ at = cc in
          let within : n < length xs = grind (arith, common_steps, e) in
          let passes = eqb-true _ _ (passes_at_first (λ it. it == home) xs home within) in
          rw (sym same) (within, passes))
      | false ↦ (λ e k. absurd cc)
    ] refl h

-- what was at its place stands first
pub first_swapped : (xs : List ℕ) (home at : ℕ) → position (λ it. it == home) xs ≡ Some at → slice_get (swap xs 0 at) 0 ≡ Some home
first_swapped xs home at h =
    let found = found_at xs home at h in
    let some : 0 < length xs = omega (arith, found.0) in
    let swapped = swapped_from_swap xs (swap xs 0 at) 0 at home some found.0 refl in
    slice_get_read (swap xs 0 at) (length (swap xs 0 at)) 0 home refl (omega (arith, length-swap xs 0 at, some)) (sym (swapped.0 ∙ found.1))

other_than : (xs : List ℕ) (home k : ℕ) → position (λ it. it == home) xs ≡ None → k < length xs → get_or xs k home ≢ home
other_than xs home k h lt =
    let n = position_or_len (λ it. it == home) xs in
    elim (nat_lt n (length xs)) as (λ v. nat_lt n (length xs) ≡ v → cond v (Some n) None ≡ None → get_or xs k home ≢ home) [
      | true ↦ (λ e g. absurd cc)
      | false ↦ (λ e g same.
          let beyond : length xs ≤ n = grind (arith, common_steps, e) in
          let fails : (get_or xs k home == home) ≡ false = fails_before_first (λ it. it == home) xs k home (omega (arith, lt, beyond)) in
          let passes : (get_or xs k home == home) ≡ true = grind (arith, nat_tests, same) in
          absurd (true≢false (sym passes ∙ fails)))
    ] refl h

-- another home gave way to it
pub sample_begun : (bound n home : ℕ) (xs : List ℕ) → home < bound → 0 < length xs → position (λ it. it == home) xs ≡ None → IsSampleOf bound n xs → IsSampleOf bound n (slice_set xs 0 home)
sample_begun bound n home xs below some lost s = record {
  len = length-set xs 0 home ∙ s.len;
  in_range = All-set (λ x. x < bound) xs 0 home below s.in_range;
  distinct = λ i j d lt within.
      let inside : j < length xs = omega (arith, within, length-set xs 0 home) in
      let second : get_or (slice_set xs 0 home) j d ≡ get_or xs j d = get_or-set_other xs 0 j home d (λ e. omega (arith, lt, e)) in
      elim (cases_lt 0 i) [
        | inl under ↦ rw (get_or-set_other xs 0 i home d (λ e. omega (arith, under, e)), second) (s.distinct i j d lt inside)
        | inr first ↦ (λ same.
            let zero_th : i ≡ 0 = omega (arith, first) in
            let at_first : get_or (slice_set xs 0 home) i d ≡ home = rw zero_th (get_or-set_same xs 0 home d some) in
            other_than xs home j lost inside (get_or_default xs j home d inside ∙ sym second ∙ sym same ∙ at_first))
      ];
}
