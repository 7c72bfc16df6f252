use Rattle.std.proofs.Common.{arith, ℕ, ◌≡◌, ◌+◌, ◌-◌, ◌^◌, min, length, take, map, ◌∙◌, ap}
use Rattle.std.proofs.lemmas.List.{length-map, length-append}
use Rattle.std.proofs.lemmas.List.Elements.{All-more}
use Rattle.sq_history.specs.Histories.{IsKept}
use Rattle.sq_model.specs.Systems.{OfHome}
use Rattle.sq_audit.specs.SystemNow.{events_of, by_part}
use Rattle.sq_audit.proofs.PartLaws.{by_part_more}
use Rattle.sq_audit.proofs.by_stamp.count.Goals as goal

-- a least number that was taken early
min_sum : (a b m : ℕ) → min (min a m + b) m ≡ min (a + b) m
min_sum a b m = omega arith

pub loop-home-preserved : goal.loop-home-preserved
loop-home-preserved c =
    let events = c.args.directory.now.events in
    let moved = c.args.ledger.now.history.events in
    let homes = c.args.homes.now in
    let at = c.loop-home.home-index in
    let home = c.home-item.result in
    let before = by_part events moved (events_of (take at homes)) in
    let more : length (by_part events moved (events_of (take (at + 1) homes))) ≡ length before + length home.events =
    rw (by_part_more events moved homes at home (omega arith) c.home-item.is) (length-append before (map (λ e. OfHome at e) home.events) ∙ ap (λ n. length before + n) (length-map home.events (λ e. OfHome at e))) in
    record {
      count = rw (more, c.saturating_add-count-in-loop-home.ensures, c.loop-home.invariant.count, c.len-in-loop-home.ensures, c.events-in-loop-home.ensures.items) (min_sum (length before) (length home.events) (2 ^ 64 - 1));
      directory = c.loop-home.invariant.directory;
      ledger = c.loop-home.invariant.ledger;
      homes = All-more IsKept homes at home (omega arith) c.loop-home.invariant.homes (rw (← c.home-item.is) c.events-in-loop-home.ensures.kept);
    }
