use Rattle.std.proofs.Common.{◌∙◌, ap, sym, refl}
use Rattle.std.specs.Option.{option_copied_mut}
use Rattle.sq_directory.specs.Stored.{with_given}
use Rattle.sq_directory.proofs.StoredLaws.{change_is, change_named, change_none, lookup_is}
use Rattle.sq_directory.proofs.stored.NamedQueues.give.Goals as goal
use Rattle.sq_directory.proofs.stored.NamedQueues.give.Goals.{in-Some, in_default+in-None-1, in_default+in-Some+in-None-1, in_default+in-Some+in-Some-given-2+in-AllowAll-1, in_default+in-Some+in-Some-given-2+in-ByQueue-1}

pub invariant_of-self : goal.invariant_of-self
invariant_of-self c = elim c.match-get_mut.branch [
  | in-Some w ↦
      let found = sym c.get_mut.ensures.value ∙ ap option_copied_mut w.in-Some.is in
      rw (w.self-inside-is, (c.get_mut.follows.holds _).0, w.give.ensures)
      (change_named c.args.name.now w.in-Some.queue.now (with_given c.args.given c.args.redrive w.in-Some.queue.now) c.self.inside.queues.entries c.self.invariant found refl)
  | in_default+in-None-1 w ↦ rw (w.self-inside-is, c.get_mut.follows.holds-at-none) c.self.invariant
  | in_default+in-Some+in-None-1 w ↦ rw (w.self-inside-is, c.get_mut.follows.holds-at-none) c.self.invariant
  | in_default+in-Some+in-Some-given-2+in-AllowAll-1 w ↦ rw (w.self-inside-is, c.get_mut.follows.holds-at-none) c.self.invariant
  | in_default+in-Some+in-Some-given-2+in-ByQueue-1 w ↦ rw (w.self-inside-is, c.get_mut.follows.holds-at-none) c.self.invariant
]

pub returns-clause-queues : goal.returns-clause-queues
returns-clause-queues c = elim c.match-get_mut.branch [
  | in-Some w ↦
      let found = sym c.get_mut.ensures.value ∙ ap option_copied_mut w.in-Some.is in
      rw (← c.self.view_is, w.self-inside-is, (c.get_mut.follows.holds _).0, w.give.ensures)
      (change_is c.args.name.now (with_given c.args.given c.args.redrive) w.in-Some.queue.now c.self.inside.queues.entries c.self.invariant c.get_mut.ensures.unique found)
  | in_default+in-None-1 w ↦
      rw (← c.self.view_is, w.self-inside-is, c.get_mut.follows.holds-at-none)
      (sym (change_none c.args.name.now (with_given c.args.given c.args.redrive) c.self.inside.queues.entries c.self.invariant (sym c.get_mut.ensures.value ∙ ap option_copied_mut w.in_default.is)))
  | in_default+in-Some+in-None-1 w ↦
      rw (← c.self.view_is, w.self-inside-is, c.get_mut.follows.holds-at-none)
      (sym (change_none c.args.name.now (with_given c.args.given c.args.redrive) c.self.inside.queues.entries c.self.invariant (sym c.get_mut.ensures.value ∙ ap option_copied_mut w.in_default.is)))
  | in_default+in-Some+in-Some-given-2+in-AllowAll-1 w ↦
      rw (← c.self.view_is, w.self-inside-is, c.get_mut.follows.holds-at-none)
      (sym (change_none c.args.name.now (with_given c.args.given c.args.redrive) c.self.inside.queues.entries c.self.invariant (sym c.get_mut.ensures.value ∙ ap option_copied_mut w.in_default.is)))
  | in_default+in-Some+in-Some-given-2+in-ByQueue-1 w ↦
      rw (← c.self.view_is, w.self-inside-is, c.get_mut.follows.holds-at-none)
      (sym (change_none c.args.name.now (with_given c.args.given c.args.redrive) c.self.inside.queues.entries c.self.invariant (sym c.get_mut.ensures.value ∙ ap option_copied_mut w.in_default.is)))
]

pub give-requires : goal.give-requires
give-requires c =
    let found = sym c.get_mut.ensures.value ∙ ap option_copied_mut c.in-Some.is in
    c.requires c.in-Some.queue.now (rw (← c.self.view_is) (sym (lookup_is c.args.name.now c.self.inside.queues.entries c.self.invariant) ∙ found))
