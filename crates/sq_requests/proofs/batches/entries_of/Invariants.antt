use Rattle.std.proofs.Common.{◌≡◌, drop, length, map, take, true, vec_len, vec_capacity}
use Rattle.std.specs.List.{list_all}
use Rattle.sq_base.specs.Names.{is_name}
use Rattle.sq_requests.specs.inside.Batches.{entry_by}
use Rattle.sq_requests.proofs.batches.entries_of.Given as goal

abbrev pub invariant-loop-members : goal.invariant-loop-members
invariant-loop-members l = record {
  ids : list_all (λ entry. is_name entry.id.now) (drop l.members-index l.read) ≡ true;
  made : l.entries.items ≡ map entry_by (take l.members-index l.read);
  many : vec_len l.entries ≡ l.members-index;
  spare : vec_capacity l.entries ≡ length l.read;
}
