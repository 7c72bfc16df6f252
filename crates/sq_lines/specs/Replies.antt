-- Replies that wait, and what goes out of them.
use Rattle.std.specs.Prelude.{ℕ, suc, ◌+◌, ◌≡◌, ◌≤◌, ◌⊎◌, List, [], ◌∷◌, ◌++◌, length, map, take, drop, Option, Some, slice_get}
use Rattle.std.specs.Io.KnownBytes.{Appends}
use Rattle.sq_lines.specs.Lines.{with_feeds}

-- texts of these lengths, of which each has a line feed behind it
abbrev pub texts_of : List ℕ → List ℕ → List (List ℕ)
texts_of [] bytes = []
texts_of (n ∷ lengths) bytes = take n bytes ∷ texts_of lengths (drop (n + 1) bytes)

-- these bytes are the texts of these lengths, each with a line feed, and nothing else
pub record AreTexts (lengths bytes : List ℕ) : Type 0 where
  pub all : bytes ≡ with_feeds (texts_of lengths bytes)
  pub each : lengths ≡ map length (texts_of lengths bytes)

-- the first of these texts went out, each with a line feed, and those behind them wait
pub record PutsFirst (old new : Option (List ℕ)) (texts waiting : List (List ℕ)) : Type 0 where
  pub gone : List (List ℕ)
  pub parts : texts ≡ gone ++ waiting
  pub appends : Appends old new (with_feeds gone)

-- so many of these texts went out, each with a line feed, and no more than a front of the next one
pub record PutsPart (old new : Option (List ℕ)) (texts : List (List ℕ)) (n : ℕ) : Type 0 where
  pub text : List ℕ
  pub part : ℕ
  pub next : slice_get texts n ≡ Some text
  pub appends : Appends old new (with_feeds (take n texts) ++ take part (text ++ 10 ∷ []))

-- the next one did not go out whole, or it is the last, and the flush behind it failed
pub record PutsShort (old new : Option (List ℕ)) (texts : List (List ℕ)) (n : ℕ) : Type 0 where
  pub puts : PutsPart old new texts n
  pub short : (puts.part ≤ length puts.text) ⊎ (suc n ≡ length texts)
