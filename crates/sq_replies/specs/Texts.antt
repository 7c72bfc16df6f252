-- The bytes of a reply's text.
use Rattle.std.specs.Prelude.{ℕ, List}
use Rattle.sq_replies.specs.declared.text.Kept.{Kept}
use Rattle.sq_replies.specs.declared.text.Kept.TheVariants.{Made, Fixed}

abbrev pub kept_bytes : Kept → List ℕ
kept_bytes (Made text) = text.items
kept_bytes (Fixed text) = text.now
