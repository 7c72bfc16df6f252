-- Records as they are lent, and as they are kept.
use Rattle.sq_model.specs.RecordValues.{RecordValue, OfDirectory, OfLedger, OfHome}
use Rattle.sq_steps.specs.declared.record.Record.{Record}
use Rattle.sq_steps.specs.declared.record.Record.TheVariants as lent
use Rattle.sq_steps.specs.declared.records.Kept.TheVariants.{Home}
use Rattle.sq_steps.specs.declared.records.Other.TheVariants.{Directory, Ledger}

abbrev pub value_of_record : Record → RecordValue
value_of_record (lent.Directory n) = OfDirectory n.now
value_of_record (lent.Ledger n) = OfLedger n.now
value_of_record (lent.Home n) = OfHome n
