use Rattle.std.proofs.Common.{◌≡◌, ◌+◌, ◌≤◌, map, drop}
use Rattle.json.specs.Tape.{node_token}
use Rattle.sq_json.specs.inside.Fits.{fits}
use Rattle.sq_json.proofs.line.are_read.Given as goal

abbrev pub invariant-loop-node : goal.invariant-loop-node
invariant-loop-node l =
    (l.depth_left ≤ 127 + l.node-index) × (fits 127 (map node_token l.nodes) ≡ fits l.depth_left (map node_token (drop l.node-index l.nodes)))
