-- The items of a list in a line.
use Rattle.std.specs.Prelude.{List, Bool, true, false, ◌&&◌, ◌||◌, Option, Some, None, unwrap_or}
use Rattle.json.specs.Token.{Token}
use Rattle.serde_json.specs.Data.{Data, Items, no_items, item}
use Rattle.serde_json.specs.Find.{as_array}
use Rattle.sq_json.specs.View.{view}

-- those of a value; none where it is no list
abbrev pub listed_items : List Token → Items
listed_items ts = unwrap_or (as_array (view ts)) no_items

-- those of a list that may be there
abbrev pub listed_if : Option (List Token) → Items
listed_if None = no_items
listed_if (Some ts) = listed_items ts

-- whether one of them is so, or each
abbrev pub any_item : (Data → Bool) → Items → Bool
any_item test no_items = false
any_item test (item d rest) = test d || any_item test rest

abbrev pub all_items : (Data → Bool) → Items → Bool
all_items test no_items = true
all_items test (item d rest) = test d && all_items test rest
