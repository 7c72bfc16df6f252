use Rattle.std.proofs.Common.{rules, ◌≡◌, ◌∙◌, sym, true}
use Rattle.std.specs.List.{list_all}
use Rattle.sq_base.specs.inside.Bodies.{is_short}
use Rattle.sq_base.proofs.BodyLaws.{short_text}
use Rattle.sq_base.proofs.body.has_allowed.Goals as goal

pub returns-then-are_short : goal.returns-then-are_short
returns-then-are_short c =
    let short : list_all is_short c.args.text.now ≡ true = search rules in
    c.if-are_short.true ∙ sym (short_text c.args.text.now short)
