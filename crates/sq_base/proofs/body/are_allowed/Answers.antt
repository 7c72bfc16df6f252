use Rattle.std.proofs.Common.{rules}
use Rattle.std.proofs.lemmas.Iterator.{YieldsList-from_chars}
use Rattle.std.proofs.lemmas.Iterator.Search.{all_from_yields_List}
use Rattle.sq_base.specs.Bodies.{allowed}
use Rattle.sq_base.proofs.body.are_allowed.Goals as goal

pub returns : goal.returns
returns c = all_from_yields_List allowed _ _ _ c.all.ensures.ran (YieldsList-from_chars c.args.text.now c.utf8.text (search rules)) (λ x b q k. search rules)
