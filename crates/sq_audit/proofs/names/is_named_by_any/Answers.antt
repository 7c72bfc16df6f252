use Rattle.std.proofs.Common.{rules, ◌≡◌, ◌<◌, length, Some, slice_get, subst, sym, ◌∙◌}
use Rattle.std.proofs.lemmas.Option.{slice_get_within}
use Rattle.sq_base.specs.Stamps.{Below}
use Rattle.sq_model.specs.Systems.{DirectoryEvent}
use Rattle.sq_model.specs.Matches.{IsCreate}
use Rattle.sq_model.proofs.ElementLaws.{some_same, below_more}
use Rattle.sq_audit.proofs.names.is_named_by_any.Goals as goal

pub loop-index-preserved : goal.loop-index-preserved
loop-index-preserved c =
    let d = c.args.directory.now.events in
    let stamp = c.args.kept.now.stamp in
    let queue = c.args.kept.now.home.queue in
    let event = c.index.result.now in
    let in_list : slice_get d c.loop-index.index ≡ Some event = search rules in
    let other : Below event.stamp stamp → IsCreate event c.args.name.now queue → ⊥ = λ b k. let t = c.is_named_by.ensures.1 (b, k) in search rules in
    below_more (λ k. (e : DirectoryEvent) → slice_get d k ≡ Some e → Below e.stamp stamp → IsCreate e c.args.name.now queue → ⊥) c.loop-index.index c.loop-index.invariant
    (λ e too. subst (λ (x : DirectoryEvent). Below x.stamp stamp → IsCreate x c.args.name.now queue → ⊥) (some_same (sym in_list ∙ too)) other)

pub returns : goal.returns
returns c = (
  λ e. absurd cc,
  λ h. absurd (c.loop-index.invariant h.0 (let lt : h.0 < length c.args.directory.now.events = slice_get_within c.args.directory.now.events h.0 h.1 h.2 in search rules) h.1 h.2 h.3 h.4),
)
