use Rattle.std.proofs.Common.{arith, subst, get_or, ◌≡◌, ◌∙◌, ◌/◌, ◌%◌, ◌++◌, ◌∷◌, [], ℕ, suc, Some}
use Rattle.std.specs.Prelude.{slice_get, slice_set}
use Rattle.std.specs.List.{remove}
use Rattle.std.proofs.lemmas.Nat.{div-add-mod'}
use Rattle.std.proofs.lemmas.Option.{slice_get-get_or}
use Rattle.std.proofs.Math.Nat.{mod-lt}
use Rattle.sq_log.specs.BlocksValue.{joined}
use Rattle.sq_log.proofs.BlockLaws.{Moves, get_whole, moved_out, there_before}
use Rattle.sq_log.proofs.blocks.move_out.Goals as goal

moves : (g : _) (c : goal.After-push_out g) → Moves (suc (c.args.index / 4096)) c.args.blocks.now c.loop-left.blocks c.args.item c.loop-left.carried
moves g c =
    let left : c.loop-left.left ≡ suc (c.args.index / 4096) = omega arith in
    rw (← left) c.loop-left.invariant.moves

there : (g : _) (c : goal.After-push_out g) → slice_get c.loop-left.blocks (c.args.index / 4096) ≡ Some (get_or c.loop-left.blocks (c.args.index / 4096) c.index-blocks-at.result)
there g c = slice_get-get_or c.loop-left.blocks (c.args.index / 4096) c.index-blocks-at.result (omega arith)

-- what came out was at the index, and is no more in the blocks
out : (g : _) (c : goal.After-push_out g) → (slice_get (joined c.args.blocks.now []) c.args.index ≡ Some c.push_out.result)
    × (joined (slice_set c.loop-left.blocks (c.args.index / 4096) c.push_out.new.block) [] ≡ remove (joined c.args.blocks.now []) c.args.index ++ c.args.item ∷ [])
out g c =
    let old = c.args.blocks.now in
    let q = c.args.index / 4096 in
    let r = c.args.index % 4096 in
    let block = get_or c.loop-left.blocks q c.index-blocks-at.result in
    let before = there_before c.loop-left.blocks old q block (moves g c).ahead (there g c) in
    let within = mod-lt c.args.index (omega arith) in
    subst (λ (k : ℕ). (slice_get (joined old []) k ≡ Some c.push_out.result) × (joined (slice_set c.loop-left.blocks q c.push_out.new.block) [] ≡ remove (joined old []) k ++ c.args.item ∷ [])) (div-add-mod' c.args.index 4096) (
      get_whole 4096 old [] q r block c.requires.whole within before ∙ c.push_out.ensures.taken,
      moved_out 4096 old c.loop-left.blocks q r block c.push_out.new.block c.args.item c.loop-left.carried c.requires.whole within (moves g c) (there g c) c.push_out.ensures.items,
    )

pub returns-clause-taken : goal.returns-clause-taken
returns-clause-taken g c = (out g c).0

pub returns-clause-items : goal.returns-clause-items
returns-clause-items g c = (out g c).1
