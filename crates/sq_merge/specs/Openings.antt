-- The world that a service begins as.
use Rattle.std.specs.Prelude.{◌*◌, []}
use Rattle.sq_base.specs.Stamps.{start}
use Rattle.sq_merge.specs.WorldValue.{WorldValue}
use Rattle.sq_model.specs.declared.options.Options.{Options}
use Rattle.sq_model.specs.Options.{limits_of}
use Rattle.sq_history.specs.HomeIds.{never_opened_homes}
use Rattle.sq_model.specs.Directories.{opening_directory}
use Rattle.sq_model.specs.Ledgers.{opening_ledger}

-- no queue is made yet, and nothing was done
unfoldable pub new_world : Options → WorldValue
new_world o = record {
  directory = record { directory = opening_directory o.queues; last = start; events = []; spare = 0 };
  ledger = record { ledger = opening_ledger o.transit; last = start; events = []; spare = 0; spare_tasks = 0 };
  per_queue = o.homes;
  sample = o.sample;
  homes = never_opened_homes o.homes (limits_of o) (o.queues * o.homes);
  journals = [];
  progress = [];
}
