use Rattle.std.proofs.Common.{ℕ, List, ◌<◌, ◌∙◌, length, take, map, sym, ap, arith}
use Rattle.sq_model.specs.Rows.{received_if, serials_of}
use Rattle.sq_store.proofs.ReceiveLaws.{none_received, receives_on, serials_before, serials_more}
use Rattle.std.proofs.lemmas.List.Elements.{All-contains}
use Rattle.sq_store.specs.Picked.{HasItsSlot}
use Rattle.sq_store.specs.inside.SlotStores.{received_at}
use Rattle.sq_store.proofs.slots.SlotStoreStore.receive.Goals as goal

pub loop-row-init : goal.loop-row-init
loop-row-init c = (none_received c.args.at.now.settings c.args.at.now.moment c.args.until c.args.self.now.table.rows, omega arith)

pub loop-row-preserved : goal.loop-row-preserved
loop-row-preserved c =
    let s = c.args.at.now.settings in
    let picked = c.args.picked.now in
    let row = c.row-item.result in
    let i = c.loop-row.row-index in
    let within : i < length picked = omega arith in
    let unreceived = serials_before picked i row c.requires.picked.distinct within c.row-item.is in
    let slots : HasItsSlot c.args.self.now.table.rows row = All-contains (HasItsSlot c.args.self.now.table.rows) picked row c.requires.picked.slots (i, within, sym c.row-item.is) in (
      c.receive_row.ensures.rows
          ∙ ap (map (received_at s row.slot row.serial c.args.at.now.moment c.args.until)) c.loop-row.invariant.0
          ∙ receives_on s c.args.at.now.moment c.args.until row.slot row.serial (serials_of (take i picked)) unreceived c.args.self.now.table.rows slots
          ∙ ap (λ (done : List ℕ). map (received_if s done c.args.at.now.moment c.args.until) c.args.self.now.table.rows) (sym (serials_more picked i row within c.row-item.is)),
      omega (arith, c.loop-row.invariant.1, c.receive_row.ensures.reserved),
    )
