use Rattle.std.proofs.Common.{◌≡◌, ◌+◌, ◌≤◌, length, map}
use Rattle.std.specs.Prelude.{vec_len, vec_capacity}
use Rattle.std.specs.Vec.Iter.{into_iter_items, into_iter_len}
use Rattle.sq_queue.specs.LockedParts.{ArePlaced}
use Rattle.sq_queue.proofs.service.each_under_lock.Given as goal

abbrev pub invariant-loop-home : goal.invariant-loop-home
invariant-loop-home l = record {
  left : into_iter_len l.home-iterator ≡ length (into_iter_items l.home-iterator);
  all : vec_len l.places + into_iter_len l.home-iterator ≡ length l.fn.homes.items;
  spare : vec_len l.places + into_iter_len l.home-iterator ≤ vec_capacity l.places;
  index : l.index ≡ vec_len l.places;
  placed : ArePlaced l.per_queue (map (λ place. place.id) l.places.items);
}
