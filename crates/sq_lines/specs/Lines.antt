-- Lines of an input.
use Rattle.std.specs.Prelude.{ℕ, List, [], ◌∷◌, ◌++◌, ◌==◌, ◌||◌, Bool, false, if◌then◌else◌, Option, option_map, ◌<◌, ◌≤◌, ◌≡◌, ◌+◌, min, length}

-- a byte before the first of the lines
abbrev pub longer : ℕ → List (List ℕ) → List (List ℕ)
longer b [] = (b ∷ []) ∷ []
longer b (l ∷ ls) = (b ∷ l) ∷ ls

-- the bytes up to each line feed, and what is left where bytes remain
unfoldable pub lines_of : List ℕ → List (List ℕ)
lines_of [] = []
lines_of (b ∷ bs) = if b == 10 then [] ∷ lines_of bs else longer b (lines_of bs)

-- these texts, each with a line feed behind it
abbrev pub with_feeds : List (List ℕ) → List ℕ
with_feeds [] = []
with_feeds (text ∷ texts) = text ++ 10 ∷ with_feeds texts

-- the lines of what was read and what is still to come, where that is known
abbrev pub lines_left : List ℕ → Option (List ℕ) → Option (List (List ℕ))
lines_left read known = option_map (λ xs. lines_of (read ++ xs)) known

-- what was read and not yet given out: the front of the next line, and what was read behind it
pub record LinesValue : Type 0 where
  pub begun : List ℕ
  pub ahead : List ℕ

abbrev pub read_of : LinesValue → List ℕ
read_of l = l.begun ++ l.ahead

abbrev pub none_read : LinesValue
none_read = record { begun = []; ahead = [] }

-- whether a line feed is among the bytes
unfoldable pub has_feed : List ℕ → Bool
has_feed [] = false
has_feed (b ∷ bs) = b == 10 || has_feed bs

-- the first of the lines is there, and longer than n
abbrev pub FirstIsOver : ℕ → List (List ℕ) → Type 0
FirstIsOver n [] = ⊥
FirstIsOver n (line ∷ lines) = n < length line

-- the first of the lines is there, and no longer than n
abbrev pub FirstIsWithin : ℕ → List (List ℕ) → Type 0
FirstIsWithin n [] = ⊥
FirstIsWithin n (line ∷ lines) = length line ≤ n

-- a line that was begun goes on with these bytes: the first of them is there, and no line feed
abbrev pub GoesOn : List ℕ → Type 0
GoesOn [] = ⊥
GoesOn (b ∷ bs) = (b == 10) ≡ false

-- a count of failed calls is one more, or stands at its end
abbrev pub OneMore : ℕ → ℕ → Type 0
OneMore before after = after ≡ min (before + 1) 18446744073709551615
