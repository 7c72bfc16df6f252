use Rattle.std.proofs.Common.{rules}
use Rattle.sq_server.proofs.RoundLaws.{run_short, run_whole}
use Rattle.sq_server.proofs.served.Served+R+D+T+SlotStore.turns.Goals.{then-is_ok, else-is_ok}
use Rattle.sq_server.proofs.served.Served+R+D+T+SlotStore.turns.Goals as goal

pub returns-clause-run : goal.returns-clause-run
returns-clause-run g c = elim c.if-is_ok.branch [
  | then-is_ok w ↦ run_whole c.deref.result.now c.args.self.now.service.value c.args.turns c.args.mover.now c.run_mover-made.new.mover c.deref_mut.result.now c.args.client.now c.run_mover-made.new.session
      c.run_mover-made.result c.if-is_ok.result c.run_mover-made.ensures.turns (search rules) (search rules) (search rules) (search rules) (search rules)
  | else-is_ok w ↦ run_short c.deref.result.now c.args.self.now.service.value c.args.turns c.args.mover.now c.run_mover-made.new.mover c.deref_mut.result.now c.args.client.now c.run_mover-made.new.session
      c.run_mover-made.result c.if-is_ok.result c.run_mover-made.ensures.ended (search rules) (search rules) (search rules) (search rules)
]
