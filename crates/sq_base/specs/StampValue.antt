-- What contracts see of a stamp: a moment in ms, and the place among what has this moment. Own.
use Rattle.std.specs.Prelude.{ℕ}

pub record StampValue : Type 0 where
  pub moment : ℕ
  pub count : ℕ
