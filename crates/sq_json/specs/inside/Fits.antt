-- What `read` asks of tokens beyond the grammar.
use Rattle.std.specs.Prelude.{ℕ, zero, suc, List, [], ◌∷◌, Bool, true, false, ◌&&◌, is_some}
use Rattle.json.specs.Token.{Token}
use Rattle.serde_json.specs.Read.{number_of}

-- Each number is in range, and at most `depth_left` brackets are open at once.
abbrev pub fits : ℕ → List Token → Bool
fits depth_left [] = true
fits zero (Token.begin_object ∷ ts) = false
fits (suc depth_left) (Token.begin_object ∷ ts) = fits depth_left ts
fits depth_left (Token.end_object ∷ ts) = fits (suc depth_left) ts
fits zero (Token.begin_array ∷ ts) = false
fits (suc depth_left) (Token.begin_array ∷ ts) = fits depth_left ts
fits depth_left (Token.end_array ∷ ts) = fits (suc depth_left) ts
fits depth_left (Token.key s ∷ ts) = fits depth_left ts
fits depth_left (Token.string s ∷ ts) = fits depth_left ts
fits depth_left (Token.number s ∷ ts) = is_some (number_of s) && fits depth_left ts
fits depth_left (Token.boolean b ∷ ts) = fits depth_left ts
fits depth_left (Token.null ∷ ts) = fits depth_left ts
fits depth_left (Token.bad ∷ ts) = false
