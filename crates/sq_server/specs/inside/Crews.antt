-- The threads of a server and of a race.
use Rattle.std.specs.Prelude.{ℕ, List, ◌++◌, replicate}
use Rattle.sq_server.specs.declared.crew.Role.{Role}
use Rattle.sq_server.specs.declared.crew.Role.TheVariants.{Call, Move}

-- so many movers, and then so many threads that call, for clients or for connections
abbrev pub roles_of : ℕ → ℕ → List Role
roles_of callers movers = replicate movers Move ++ replicate callers Call
