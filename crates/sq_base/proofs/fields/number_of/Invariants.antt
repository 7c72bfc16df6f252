use Rattle.std.proofs.Common.{◌≡◌, ◌<◌, ◌^◌, drop}
use Rattle.sq_base.specs.Fields.{number_after}
use Rattle.sq_base.proofs.fields.number_of.Given as goal

abbrev pub invariant-loop-b : goal.invariant-loop-b
invariant-loop-b l = record {
  value : number_after 0 l.digits ≡ number_after l.number (drop l.b-index l.digits);
  bound : l.number < 16 ^ l.b-index;
}
