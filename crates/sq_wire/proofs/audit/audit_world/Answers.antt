use Rattle.std.proofs.Common.{map}
use Rattle.sq_model.specs.Matches.{IsMatched, IsPaired}
use Rattle.sq_model.specs.Merges.{IsMerged}
use Rattle.sq_model.specs.Systems.{IsRun, IsOnePlace}
use Rattle.sq_audit.specs.SystemNow.{events_of, system_now, opening_now}
use Rattle.sq_audit.specs.HomeHistories.{histories_of}
use Rattle.sq_wire.proofs.audit.audit_world.Goals as goal

pub returns-in-Ok-clause-listed : goal.returns-in-Ok-clause-listed
returns-in-Ok-clause-listed c =
    let w = c.args.world in
    let run = c.in_ok-run.run' in
    let are = c.parts-parts.ensures.parts in
    let matched : IsMatched w.directory.events w.ledger.events (histories_of w.homes) w.journals = rw (are.directory, are.ledger, are.homes, are.records) at c.in_ok-run.ensures.matched in
    let paired : IsPaired w.ledger.events (histories_of w.homes) = rw (are.ledger, are.homes) at c.in_ok-run.ensures.paired in
    let merged : IsMerged w.directory.events w.ledger.events (events_of w.homes) run = rw (are.directory, are.ledger, are.homes) at c.in_ok-run.ensures.merged in
    let is_run : IsRun (opening_now w.directory w.ledger w.homes) run (system_now w.directory w.ledger w.homes) = rw (are.directory, are.ledger, are.homes) at c.in_ok-run.ensures.run in
    let one_place : IsOnePlace (map (λ h. h.site) w.homes) = rw are.homes at c.in_ok-run.ensures.one_place in
    record {
      run = run;
      matched = matched;
      paired = paired;
      merged = merged;
      is_run = is_run;
      actors = c.in_ok-run.ensures.actors;
      parts = c.in_ok-run.ensures.parts;
      numbered = rw are.homes at c.in_ok-run.ensures.numbered;
      one_place = one_place;
      tells = c.in-Ok.ensures.listed (opening_now w.directory w.ledger w.homes) (system_now w.directory w.ledger w.homes) is_run.steps one_place;
    }
