use Rattle.std.proofs.Common.{◌∙◌, ap, sym, refl}
use Rattle.std.specs.Map.{values_of}
use Rattle.std.specs.Option.{option_copied_mut}
use Rattle.sq_directory.specs.Stored.{with_purge}
use Rattle.sq_directory.proofs.StoredLaws.{change_is, change_named, change_none}
use Rattle.sq_directory.proofs.stored.NamedQueues.set_purge.Goals as goal
use Rattle.sq_directory.proofs.stored.NamedQueues.set_purge.Goals.{in-Some, in_default}

pub invariant_of-self : goal.invariant_of-self
invariant_of-self c = elim c.match-get_mut.branch [
  | in-Some w ↦
      let found = sym c.get_mut.ensures.value ∙ ap option_copied_mut w.in-Some.is in
      rw (w.self-inside-is, (c.get_mut.follows.holds _).0)
      (change_named c.args.name.now w.in-Some.queue.now (with_purge c.args.moment w.in-Some.queue.now) c.self.inside.queues.entries c.self.invariant found refl)
  | in_default w ↦ rw (w.self-inside-is, c.get_mut.follows.holds-at-none) c.self.invariant
]

pub returns-clause-queues : goal.returns-clause-queues
returns-clause-queues c = elim c.match-get_mut.branch [
  | in-Some w ↦
      let found = sym c.get_mut.ensures.value ∙ ap option_copied_mut w.in-Some.is in
      rw (← c.self.view_is, w.self-inside-is) (ap values_of (c.get_mut.follows.holds _).0
      ∙ change_is c.args.name.now (with_purge c.args.moment) w.in-Some.queue.now c.self.inside.queues.entries c.self.invariant c.get_mut.ensures.unique found)
  | in_default w ↦
      let none = sym c.get_mut.ensures.value ∙ ap option_copied_mut w.in_default.is in
      rw (← c.self.view_is, w.self-inside-is, c.get_mut.follows.holds-at-none)
      (sym (change_none c.args.name.now (with_purge c.args.moment) c.self.inside.queues.entries c.self.invariant none))
]
