-- What the texts of flags say: numbers in their bounds, or their defaults, an address, and the flag without a value.
use Rattle.std.specs.Prelude.{ℕ, Bool, IsTrue, ◌≡◌, ◌≢◌, ◌≤◌, ◌↔◌, List, Option, Some, None, min, codes}
use Rattle.std.specs.Str.Parse.{IsNumeral, digits_value, without_leading_plus}
use Rattle.std.specs.Net.Grammar.{IsSocketText}
use Rattle.std.specs.declared.net.socket_addr.SocketAddr.{SocketAddr}
use Rattle.clap.specs.Words.{Text}
use Rattle.sq_model.specs.declared.options.Options.{Options}
use Rattle.sq_model.specs.declared.options.TheConstants.{MOST_HOMES, MOST_QUEUES, MOST_ROWS, MOST_FLIGHTS, MOST_TRANSIT}

-- a text is decimal digits, perhaps behind a plus, and n is their value
pub record IsWholeNumber (text : List ℕ) (n : ℕ) : Type 0 where
  pub digits : IsNumeral 10 (without_leading_plus text)
  pub value : n ≡ digits_value 10 (without_leading_plus text)

-- n is the number of a flag with this text, or the default of one with none, and within bounds
pub record IsNumberOf (of_flag : Option Text) (least greatest default n : ℕ) : Type 0 where
  pub when_set : (text : Text) → of_flag ≡ Some text → IsWholeNumber text n
  pub when_unset : of_flag ≡ None → n ≡ default
  pub from : least ≤ n
  pub up_to : n ≤ greatest

-- n is the number of a flag that must be given, by this text, and within bounds
pub record IsGivenNumber (of_flag : Option Text) (least greatest n : ℕ) : Type 0 where
  pub is_set : of_flag ≢ None
  pub when_set : (text : Text) → of_flag ≡ Some text → IsWholeNumber text n
  pub from : least ≤ n
  pub up_to : n ≤ greatest

-- the IP address and port that a text writes, or none where it writes none
abbrev pub IsAddressIn : Text → Option SocketAddr → Type 0
IsAddressIn text (Some address) = IsSocketText text address
IsAddressIn text None = (address : SocketAddr) → ¬ IsSocketText text address

-- the address of a flag that must be given, by this text
pub record IsAddressOf (of_flag : Option Text) (address : Option SocketAddr) : Type 0 where
  pub is_set : of_flag ≢ None
  pub when_set : (text : Text) → of_flag ≡ Some text → IsAddressIn text address

-- the options are those of the flags, where `text_of` gives each one's text by its name
pub record AreOptionsOf (text_of : Text → Option Text) (o : Options) : Type 0 where
  pub homes : IsNumberOf (text_of (codes "homes")) 1 MOST_HOMES 4 o.homes
  pub sample : IsNumberOf (text_of (codes "sample")) 1 MOST_HOMES (min o.homes 2) o.sample
  pub queues : IsNumberOf (text_of (codes "queues")) 1 MOST_QUEUES 64 o.queues
  pub rows : IsNumberOf (text_of (codes "rows")) 1 MOST_ROWS MOST_ROWS o.rows
  pub flights : IsNumberOf (text_of (codes "flights")) 1 MOST_FLIGHTS MOST_FLIGHTS o.flights
  pub transit : IsNumberOf (text_of (codes "transit")) 1 MOST_TRANSIT 10000 o.transit
  pub seed : IsNumberOf (text_of (codes "seed")) 0 18446744073709551615 0 o.seed

-- a flag without a value stands among the words: clap gives it this text
abbrev pub IsFlagOf : Option Text → Bool → Type 0
IsFlagOf text is_set = IsTrue is_set ↔ (text ≡ Some (codes "true"))
