use Rattle.std.proofs.Common.{arith, sym}
use Rattle.std.proofs.lemmas.List.Elements.{All-more}
use Rattle.sq_history.specs.Histories.{IsKept}
use Rattle.sq_audit.proofs.PartLaws.{by_part_more}
use Rattle.sq_audit.proofs.by_stamp.collect.Goals as goal

pub loop-index-preserved : goal.loop-index-preserved
loop-index-preserved c =
    let homes = c.args.homes.now in
    let home = c.index-homes-index.result in
    record {
      tags = rw (c.in_ok-add_home.ensures.tags, c.loop-index.invariant.tags) (sym (by_part_more c.args.directory.now.events c.args.ledger.now.history.events homes c.loop-index.index home (omega arith) c.index-homes-index.is));
      directory = c.loop-index.invariant.directory;
      ledger = c.loop-index.invariant.ledger;
      homes = All-more IsKept homes c.loop-index.index home (omega arith) c.loop-index.invariant.homes (rw (← c.index-homes-index.is) c.in_ok-add_home.ensures.kept);
    }
