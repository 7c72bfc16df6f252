-- What the private functions that write replies have written: tokens of JSON.
use Rattle.std.specs.Prelude.{◌≡◌, ℕ, List, [], ◌∷◌, ◌++◌, codes, Option, Some, None, Result, OnOk}
use Rattle.json.specs.Token.{Token}
use Rattle.json.specs.Token as token
use Rattle.json.specs.Tree.{json_tokens}
use Rattle.serde_json.specs.Data.{Data}
use Rattle.serde_json.specs.Written.{outline}

-- these were written after what stood there
abbrev pub Adds : {E : Type 0} → Result (Unit {0}) E → List Token → List Token → List Token → Type 0
Adds r old new ts = OnOk r (new ≡ old ++ ts)

abbrev pub tokens_of : Data → List Token
tokens_of d = json_tokens (outline d)

-- all of these, one after the other
abbrev pub all_tokens : List Data → List Token
all_tokens [] = []
all_tokens (d ∷ ds) = tokens_of d ++ all_tokens ds

-- a member, where it has a value
abbrev pub value_tokens : List ℕ → Option Data → List Token
value_tokens name None = []
value_tokens name (Some d) = token.key name ∷ tokens_of d

-- those that have a value, in order
abbrev pub values_tokens : List (List ℕ × Option Data) → List Token
values_tokens [] = []
values_tokens (v ∷ rest) = value_tokens v.0 v.1 ++ values_tokens rest

-- the same of texts
abbrev pub text_tokens : List ℕ → Option (List ℕ) → List Token
text_tokens name None = []
text_tokens name (Some text) = token.key name ∷ token.string text ∷ []

abbrev pub texts_tokens : List (List ℕ × Option (List ℕ)) → List Token
texts_tokens [] = []
texts_tokens (t ∷ rest) = text_tokens t.0 t.1 ++ texts_tokens rest

-- the members of a message but its attributes, and the end of its object
abbrev pub parts_tokens : List ℕ → List ℕ → List ℕ → List ℕ → List Token
parts_tokens body digest id handle =
    token.key (codes "Body") ∷ token.string body
    ∷ token.key (codes "MD5OfBody") ∷ token.string digest
    ∷ token.key (codes "MessageId") ∷ token.string id
    ∷ token.key (codes "ReceiptHandle") ∷ token.string handle
    ∷ token.end_object ∷ []
