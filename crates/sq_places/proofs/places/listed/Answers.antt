use Rattle.std.proofs.Common.{rules, ◌≡◌, ◌∙◌, ap, sym}
use Rattle.std.specs.List.{fold}
use Rattle.std.specs.Prelude.{Option}
use Rattle.sq_model.specs.declared.place.Place.{Place}
use Rattle.sq_audit.proofs.IdOrder.{lookup_id}
use Rattle.sq_places.specs.inside.AllPlaces.{after_move}
use Rattle.sq_places.proofs.places.listed.Goals as goal

pub returns-clause-listed : goal.returns-clause-listed
returns-clause-listed c =
    let all : c.in_ok-collect.field-0.items ≡ c.put_places-2.new.places.entries = search rules in
    record {
      rising = search rules;
      each = λ x. rw all (sym (lookup_id x c.put_places-2.new.places.entries) ∙ c.in_ok-put_places-2.ensures.each x
          ∙ ap (λ (p : Option Place). fold (after_move x) p c.args.ends.now) (c.in_ok-put_places.ensures.each x ∙ ap (λ (p : Option Place). fold (after_move x) p c.args.moves.now) (c.in_ok-places.ensures.each x)));
    }
