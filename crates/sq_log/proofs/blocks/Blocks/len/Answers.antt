use Rattle.std.proofs.Common.{rules}
use Rattle.sq_log.proofs.BlockLaws.{length_joined}
use Rattle.sq_log.proofs.blocks.Blocks.len.Goals as goal

pub returns : goal.returns
returns g c =
    let all = length_joined 4096 c.self.inside.whole.items c.self.inside.last.items c.self.invariant.whole in
    search (rules, all)
