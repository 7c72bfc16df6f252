use Rattle.std.proofs.Common.{◌∙◌, ap, List, ℕ, ◌++◌, length, drop, replicate}
use Rattle.std.proofs.lemmas.List.{drop-replicate}
use Rattle.sq_base.proofs.name.padded.Goals as goal

pub returns : goal.returns
returns c =
    ap (λ (front : List ℕ). front ++ drop (length c.args.text.now) (replicate 80 0)) c.copy_from_slice.ensures.after
    ∙ ap (λ (rest : List ℕ). c.args.text.now ++ rest) (drop-replicate (length c.args.text.now) 80 0)
