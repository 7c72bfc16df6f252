use Rattle.std.proofs.Common.{rules, ◌≡◌, ◌∙◌, ap, length, map}
use Rattle.std.proofs.lemmas.List.{length-map}
use Rattle.sq_history.specs.HomeIds.{home_id}
use Rattle.sq_queue.proofs.PlaceLaws.{placed_more}
use Rattle.sq_queue.proofs.service.each_under_lock.Goals as goal

pub loop-home-preserved : goal.loop-home-preserved
loop-home-preserved c =
    let places = c.loop-home.places.items in
    let many : c.loop-home.index ≡ length (map (λ place. place.id) places) = search (rules, length-map) in record {
      left = search rules;
      all = search rules;
      spare = search rules;
      index = search rules;
      placed = rw c.push_reserved.ensures.items (placed_more c.args.per_queue (λ place. place.id) places c.new.result c.loop-home.invariant.placed (c.new.ensures ∙ c.id_at.ensures ∙ ap (home_id c.args.per_queue) many));
    }
