use Rattle.std.proofs.Common.{rules, ◌≡◌, ◌∙◌, ◌<◌, ap, sym, length, subst, Some, None, slice_set}
use Rattle.std.specs.Prelude.{position}
use Rattle.sq_model.specs.RecordValues.{place_of_record}
use Rattle.sq_steps.specs.Journals.{is_of_actor, journal_of, without_record, without_record_of, AreDistinct}
use Rattle.sq_steps.proofs.DropLaws.{without_distinct, without_found, without_lost, recorded_found, recorded_lost}
use Rattle.sq_steps.proofs.JournalListLaws.{found_is}
use Rattle.sq_steps.proofs.journals.Journals.drop_record.Goals as goal

place_is : (c : goal.After-self-1) → position (is_of_actor c.args.actor) c.self.inside.journals.items ≡ Some c.in-Some.at
place_is c = sym (rw c.deref.ensures.value at c.in-Some.ensures.index)

mine : (c : goal.After-self-1) → c.index_mut.result.now ≡ journal_of c.args.actor c.self.inside.journals.items
mine c =
    let lt : c.in-Some.at < length c.self.inside.journals.items = search rules in
    found_is c.self.inside.journals.items c.args.actor c.in-Some.at c.index_mut.result.now (place_is c) lt c.index_mut.ensures.value

changed : (c : goal.After-self-1) → slice_set c.self.inside.journals.items c.in-Some.at c.drop_record.new.self ≡ without_record_of c.args.actor c.args.place c.self.inside.journals.items
changed c =
    let journals = c.self.inside.journals.items in
    ap (slice_set journals c.in-Some.at) (c.drop_record.ensures.dropped ∙ ap (without_record c.args.place) (mine c)) ∙ without_found c.args.actor c.args.place journals c.in-Some.at c.self.invariant (place_is c)

pub invariant_of-self : goal.invariant_of-self
invariant_of-self c = subst AreDistinct (sym (changed c)) (without_distinct c.args.actor c.args.place c.self.inside.journals.items c.self.invariant)

pub returns-in-Some-clause-answered : goal.returns-in-Some-clause-answered
returns-in-Some-clause-answered c =
    rw (← c.self.view_is, c.drop_record.ensures.answered, mine c) (recorded_found c.args.actor c.args.place c.self.inside.journals.items c.in-Some.at c.self.invariant (place_is c))

pub returns-in-Some-clause-dropped : goal.returns-in-Some-clause-dropped
returns-in-Some-clause-dropped c = rw (← c.self.view_is) (changed c)

pub returns-in-None-clause-answered : goal.returns-in-None-clause-answered
returns-in-None-clause-answered c =
    let lost : position (is_of_actor c.args.actor) c.self.inside.journals.items ≡ None = sym (rw c.deref.ensures.value at c.in-None.ensures.index) in
    rw (← c.self.view_is) (λ e. absurd cc, λ x. absurd (recorded_lost c.args.actor c.self.inside.journals.items (λ n. place_of_record n ≡ c.args.place) lost x))

pub returns-in-None-clause-dropped : goal.returns-in-None-clause-dropped
returns-in-None-clause-dropped c =
    let lost : position (is_of_actor c.args.actor) c.self.inside.journals.items ≡ None = sym (rw c.deref.ensures.value at c.in-None.ensures.index) in
    rw (← c.self.view_is) (sym (without_lost c.args.actor c.args.place c.self.inside.journals.items lost))
