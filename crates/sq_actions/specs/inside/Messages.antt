-- What is done to the message of a handle, or at each home of a queue, as an act of a home; and as an entry asks it.
use Rattle.std.specs.Prelude.{Option}
use Rattle.sq_base.specs.declared.handle.Handle.{Handle}
use Rattle.sq_calls.specs.declared.batches.EntryAsk.{EntryAsk}
use Rattle.sq_calls.specs.declared.batches.EntryAsk.TheVariants as ask
use Rattle.sq_model.specs.declared.calls.Receipt.{Receipt}
use Rattle.sq_history.specs.declared.act.HomeAct.{HomeAct}
use Rattle.sq_history.specs.declared.act.HomeAct.TheVariants as act
use Rattle.sq_actions.specs.declared.client.AtEach.{AtEach}
use Rattle.sq_actions.specs.declared.client.AtEach.TheVariants as each
use Rattle.sq_actions.specs.declared.message.OnMessage.{OnMessage}
use Rattle.sq_actions.specs.declared.message.OnMessage.TheVariants.{Delete, Change}

abbrev pub act_of : OnMessage → Receipt → HomeAct
act_of Delete receipt = act.Delete receipt
act_of (Change timeout) receipt = act.Change receipt timeout

abbrev pub asked_by : OnMessage → Option Handle → EntryAsk
asked_by Delete handle = ask.Delete handle
asked_by (Change timeout) handle = ask.Change handle timeout

abbrev pub act_at_each : AtEach → HomeAct
act_at_each (each.Configure settings version) = act.Configure settings version
act_at_each each.Close = act.Close
act_at_each each.Purge = act.Purge
