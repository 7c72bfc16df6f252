use Rattle.std.proofs.Common.{rules, ◌≡◌, ◌∙◌, ap, sym, map, take, true, false}
use Rattle.sq_base.specs.declared.row.Row.{Row}
use Rattle.sq_places.specs.inside.RowStates.{raised, has_serial_of}
use Rattle.sq_places.proofs.IndexLaws.{looked_none, look_more, look_again}
use Rattle.sq_places.proofs.home_rows.HomeRows.receive_all.Goals as goal
use Rattle.sq_places.proofs.home_rows.HomeRows.receive_all.Goals.{then-not-has_serial, else-not-has_serial}

pub loop-index-init : goal.loop-index-init
loop-index-init c = sym (looked_none c.args.self.now)

pub loop-index-preserved : goal.loop-index-preserved
loop-index-preserved c =
    let row = c.index-picked-index.result in
    let picked = c.args.picked.now in
    let i = c.loop-index.index in
    elim c.if-not-has_serial.branch [
      | then-not-has_serial w ↦
          let new : has_serial_of row.serial (take i picked) ≡ false = search rules in
          w.self-is ∙ w.receive.ensures ∙ ap (λ (r : Row). map (raised r.serial) c.loop-index.self) (sym c.index-picked-index.is) ∙ ap (map (raised row.serial)) c.loop-index.invariant ∙ look_more picked i row c.loop-index-test.true c.index-picked-index.is new c.args.self.now
      | else-not-has_serial w ↦
          let was : has_serial_of row.serial (take i picked) ≡ true = search rules in
          w.self-is ∙ c.loop-index.invariant ∙ look_again picked i row c.loop-index-test.true c.index-picked-index.is was c.args.self.now
    ]
