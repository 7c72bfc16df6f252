use Rattle.std.proofs.Common.{◌≡◌, ◌∙◌, ℕ, suc, List, [], ◌∷◌, ◌++◌, length, slice_set, ap, arith, rules}
use Rattle.std.proofs.lemmas.List.{append-nil, drop_all}
use Rattle.sq_base.specs.Handles.{handle_text}
use Rattle.sq_base.proofs.handle.write_handle.Goals as goal
use borrow.Rule.Slice.PartMut.{put_mid}

-- two bytes, and then what was put behind them
behind_two : (old rest : List ℕ) → length old ≡ 53 → put_mid 2 51 (slice_set (slice_set old 0 50) 1 45) rest ≡ 50 ∷ 45 ∷ rest
behind_two [] rest e = absurd (omega (arith, e))
behind_two (a ∷ []) rest e = absurd (omega (arith, e))
behind_two (a ∷ b ∷ more) rest e = ap (λ (x : List ℕ). 50 ∷ 45 ∷ (rest ++ x)) (drop_all 51 more (omega (arith, e))) ∙ ap (λ (x : List ℕ). 50 ∷ 45 ∷ x) (append-nil rest)

pub returns : goal.returns
unfolding handle_text
returns c = behind_two c.args.out.now c.put_numbers.new.out (search rules) ∙ ap (λ (x : List ℕ). 50 ∷ 45 ∷ x) c.put_numbers.ensures
