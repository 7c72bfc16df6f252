use Rattle.std.proofs.Common.{◌≡◌, ◌<◌, ℕ, Some, slice_get}
use Rattle.sq_base.specs.Stamps.{Below}
use Rattle.sq_model.specs.Systems.{DirectoryEvent}
use Rattle.sq_model.specs.Matches.{IsCreate}
use Rattle.sq_audit.proofs.names.is_named_by_any.Given as goal

abbrev pub invariant-loop-index : goal.invariant-loop-index
invariant-loop-index l = (k : ℕ) → k < l.index → (e : DirectoryEvent) → slice_get l.directory.events k ≡ Some e → Below e.stamp l.kept.stamp → IsCreate e l.name l.kept.home.queue → ⊥
