use Rattle.std.proofs.Common.{rules, refl, length, sym, ◌∙◌}
use Rattle.std.proofs.lemmas.Option.{slice_get_read}
use Rattle.sq_queue.proofs.PlaceLaws.{place_of}
use Rattle.sq_queue.proofs.service.Serving+C+G+D+T+SlotStore.place.Goals as goal

pub returns-in-Some-clause-found : goal.returns-in-Some-clause-found
returns-in-Some-clause-found g c =
    let items = c.args.self.now.homes.items in
    let there = slice_get_read items (length items) c.in-Some.index c.index.result.now refl (search rules) c.index.ensures in
    place_of c.args.self.now.per_queue c.len.result (λ place. place.id) items c.index.result.now c.args.id.now c.in-Some.index c.args.self.now.placed c.home_index.ensures.queue (sym c.home_index.ensures.index ∙ c.in-Some.is) there
