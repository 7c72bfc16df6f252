use Rattle.std.proofs.Common.{rules, ◌≡◌}
use Rattle.std.specs.Prelude.{vec_len}
use Rattle.sq_server.specs.Verdicts.{AreLeftBy}
use Rattle.sq_server.proofs.ending.parts_of.Goals as goal

pub returns : goal.returns
returns g c =
    let homes : vec_len c.into_inner.result.homes ≡ vec_len c.args.service.service.value.homes = search rules in
    let sessions : c.in-Ok.sessions.items ≡ c.args.clients.items = c.in-Ok.ensures in
    let left : AreLeftBy (vec_len c.args.service.service.value.homes) c.args.clients.items c.in_ok-parts.parts = rw (homes, sessions) at c.in_ok-parts.ensures in
    search (rules, left)
