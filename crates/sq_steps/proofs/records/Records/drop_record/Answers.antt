use Rattle.std.proofs.Common.{◌∙◌, Bool, ap, sym, refl}
use Rattle.std.specs.Prelude.{◌==◌}
use Rattle.sq_steps.specs.declared.records.Kept.{Kept}
use Rattle.sq_steps.specs.inside.Records.{place_of_kept, values_of_kept}
use Rattle.sq_steps.proofs.RecordLaws.{any_places, first_out, first_there, none_out, without_places}
use Rattle.sq_steps.proofs.records.Records.drop_record.Goals as goal

pub returns-in-Some-clause-answered : goal.returns-in-Some-clause-answered
returns-in-Some-clause-answered c =
    let others = c.self.inside.others.items in
    let kept = c.self.inside.kept.items in
    let p : Kept → Bool = λ n. place_of_kept others n == c.args.place in
    rw (← c.self.view_is) (sym (any_places others c.self.inside.names.names c.args.place kept ∙ first_there p kept c.in-Some.at c.in-Some.ensures.found))

pub returns-in-Some-clause-dropped : goal.returns-in-Some-clause-dropped
returns-in-Some-clause-dropped c =
    let others = c.self.inside.others.items in
    let kept = c.self.inside.kept.items in
    let p : Kept → Bool = λ n. place_of_kept others n == c.args.place in
    rw (← c.self.view_is, c.remove.ensures.items, first_out p kept c.in-Some.at c.in-Some.ensures.found) (without_places others c.self.inside.names.names c.args.place kept)

pub returns-in-None-clause-answered : goal.returns-in-None-clause-answered
returns-in-None-clause-answered c =
    let others = c.self.inside.others.items in
    rw (← c.self.view_is) (sym (any_places others c.self.inside.names.names c.args.place c.self.inside.kept.items ∙ c.in-None.ensures.none refl))

pub returns-in-None-clause-dropped : goal.returns-in-None-clause-dropped
returns-in-None-clause-dropped c =
    let others = c.self.inside.others.items in
    let kept = c.self.inside.kept.items in
    let p : Kept → Bool = λ n. place_of_kept others n == c.args.place in
    rw (← c.self.view_is) (ap (values_of_kept others c.self.inside.names.names) (sym (none_out p kept (c.in-None.ensures.none refl))) ∙ without_places others c.self.inside.names.names c.args.place kept)
