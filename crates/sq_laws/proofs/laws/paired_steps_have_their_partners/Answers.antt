use Rattle.sq_laws.proofs.PairLaws.{items_matched, leaves_matched}
use Rattle.sq_laws.proofs.laws.paired_steps_have_their_partners.Goals as goal

pub returns-clause-leaves : goal.returns-clause-leaves
returns-clause-leaves c = leaves_matched

pub returns-clause-items : goal.returns-clause-items
returns-clause-items c = items_matched
