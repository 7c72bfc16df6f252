use Rattle.std.proofs.Common.{◌≡◌, take}
use Rattle.sq_sample.proofs.sampler.home_numbers.Given as goal

abbrev pub invariant-loop-number : goal.invariant-loop-number
invariant-loop-number l = l.homes.items ≡ take l.number-index l.numbers
