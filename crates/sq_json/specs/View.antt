-- The data that tokens begin with.
use Rattle.std.specs.Prelude.{ℕ, List, [], ◌∷◌, length, Bool, true, false, IsSome, option_and_then, unwrap_or}
use Rattle.json.specs.Token.{Token}
use Rattle.json.specs.Json as json
use Rattle.json.specs.Find.{BeginsWith, InItems, InMembers, as_object}
use Rattle.json.specs.Strict.{keys}
use Rattle.serde_json.specs.Data.{Data, null, Items, no_items, Members, no_members, member}
use Rattle.serde_json.specs.Read.{of_json, of_items}
use Rattle.serde_json.specs.Find.{as_array}

-- A value nests no deeper than it has tokens.
unfoldable pub view : List Token → Data
view ts = unwrap_or (option_and_then (λ p. of_json p.0) (json.value (length ts) ts)) null

-- the items up to the bracket that closes their array
unfoldable pub items_view : List Token → Items
items_view ts = unwrap_or (as_array (view (Token.begin_array ∷ ts))) no_items

-- the tokens begin with a value whose numbers are all in range
abbrev pub HasData : List Token → Type 0
HasData ts = (j : json.Json) × BeginsWith ts j × IsSome (of_json j)

-- the same of items and the closing bracket
abbrev pub HasItems : List Token → Type 0
HasItems ts = (js : json.Items) × InItems ts js × IsSome (of_items js)

abbrev pub has_any : Members → Bool
has_any no_members = false
has_any (member k d ms) = true

abbrev pub names_of : Members → List (List ℕ)
names_of no_members = []
names_of (member name d rest) = name ∷ names_of rest

-- the names of an object's members as its text has them, up to the closing bracket
unfoldable pub names_view : List Token → List (List ℕ)
names_view ts = keys (unwrap_or (option_and_then (λ p. as_object p.0) (json.value (length (Token.begin_object ∷ ts)) (Token.begin_object ∷ ts))) json.no_members)

abbrev pub HasNames : List Token → Type 0
HasNames ts = (ms : json.Members) × InMembers ts ms
