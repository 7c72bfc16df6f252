-- What the words ask for, by the subcommand that they name and its flags.
use Rattle.std.specs.Prelude.{◌≡◌, ◌≢◌, ◌⊎◌, ⊤, List, [], ◌∷◌, Option, Some, Result, Ok, Err, codes}
use Rattle.clap.specs.Words.{IsAmong, Kinds, Row, Text, fault_of, first_of, kind_of, subcommand_of}
use Rattle.clap.specs.declared.error.kind.ErrorKind.{ErrorKind}
use Rattle.clap.specs.declared.error.kind.ErrorKind.TheVariants.{DisplayHelp, DisplayVersion, OutOfMemory}
use Rattle.clap.specs.declared.error.Error.{Error}
use Rattle.sq_flags.specs.CommandLine.{program_app}
use Rattle.sq_flags.specs.Values.{AreOptionsOf, IsAddressOf, IsFlagOf, IsGivenNumber, IsNumberOf}
use Rattle.sq_flags.specs.declared.flags.ScriptMode.{ScriptMode}
use Rattle.sq_flags.specs.declared.flags.ServeMode.{ServeMode}
use Rattle.sq_flags.specs.declared.flags.RaceMode.{RaceMode}
use Rattle.sq_flags.specs.declared.flags.Mode.{Mode}
use Rattle.sq_flags.specs.declared.flags.Mode.TheVariants.{Script, Serve, Race}
use Rattle.sq_flags.specs.declared.flags.Refused.{Refused}
use Rattle.sq_flags.specs.declared.flags.Refused.TheVariants as refused

-- the flags of `script`, where `text_of` gives each one's text by its name
pub record IsScriptOf (text_of : Text → Option Text) (mode : ScriptMode) : Type 0 where
  pub options : AreOptionsOf text_of mode.options
  pub audit : IsFlagOf (text_of (codes "audit")) mode.audit

-- those of `serve`: where and how many connections must be given
pub record IsServeOf (text_of : Text → Option Text) (mode : ServeMode) : Type 0 where
  pub options : AreOptionsOf text_of mode.options
  pub address : IsAddressOf (text_of (codes "listen")) mode.address
  pub connections : IsGivenNumber (text_of (codes "connections")) 1 1024 mode.connections
  pub idle : IsNumberOf (text_of (codes "idle")) 1 86400 300 mode.idle
  pub movers : IsNumberOf (text_of (codes "movers")) 0 8 1 mode.movers

-- those of `race`: how many clients and calls must be given
pub record IsRaceOf (text_of : Text → Option Text) (mode : RaceMode) : Type 0 where
  pub options : AreOptionsOf text_of mode.options
  pub clients : IsGivenNumber (text_of (codes "clients")) 1 64 mode.clients
  pub calls : IsGivenNumber (text_of (codes "calls")) 0 1000000 mode.calls
  pub movers : IsNumberOf (text_of (codes "movers")) 0 8 1 mode.movers

-- the subcommand that was met has this name, and its flags give what is asked for
pub record IsMet (met : Option (Text × List Row)) (name : Text) (Gives : (Text → Option Text) → Type 0) : Type 0 where
  pub rows : List Row
  pub named : met ≡ Some (name, rows)
  pub gives : Gives (λ id. first_of id rows)

-- what the subcommand that was met asks for
abbrev pub IsModeAt : Option (Text × List Row) → Mode → Type 0
IsModeAt met (Script mode) = IsMet met (codes "script") (λ text_of. IsScriptOf text_of mode)
IsModeAt met (Serve mode) = IsMet met (codes "serve") (λ text_of. IsServeOf text_of mode)
IsModeAt met (Race mode) = IsMet met (codes "race") (λ text_of. IsRaceOf text_of mode)

-- what the words ask for: clap has no fault in them, and they name a subcommand whose flags give it
pub record IsModeOf (words : List Text) (mode : Mode) : Type 0 where
  pub taken : fault_of program_app words ≡ []
  pub met : IsModeAt (subcommand_of program_app words) mode

-- help or the version
abbrev pub IsTextKind : ErrorKind → Type 0
IsTextKind kind = (kind ≡ DisplayHelp) ⊎ (kind ≡ DisplayVersion)

-- a kind of error that is a mistake, and no text that was asked for
abbrev pub IsMistake : ErrorKind → Type 0
IsMistake kind = (kind ≢ DisplayHelp) × (kind ≢ DisplayVersion)

-- the words ask for a text, which the error tells: help or the version as clap finds them in the words
abbrev pub AsksForText : List Text → Error → Type 0
AsksForText words error = IsTextKind (kind_of error) × IsAmong (kind_of error) (fault_of program_app words)

-- a kind is one that clap finds in the words, or the program's own where clap finds none
abbrev pub IsKindFor : Kinds → ErrorKind → Type 0
IsKindFor [] kind = ⊤
IsKindFor (k ∷ ks) kind = IsAmong kind (k ∷ ks)

-- the words ask for nothing to be done, and the error tells a mistake of theirs
abbrev pub AreMistaken : List Text → Error → Type 0
AreMistaken words error = ((mode : Mode) → ¬ IsModeOf words mode) × IsMistake (kind_of error) × IsKindFor (fault_of program_app words) (kind_of error)

-- what the words ask for, or that there was no memory to tell
abbrev pub ParsesTo : List Text → Result Mode Refused → Type 0
ParsesTo words (Ok mode) = IsModeOf words mode
ParsesTo words (Err (refused.Text error)) = AsksForText words error
ParsesTo words (Err (refused.Mistake error)) = AreMistaken words error
ParsesTo words (Err refused.NoMemory) = ⊤

-- an error of clap as a refusal
abbrev pub IsRefusalOf : Error → Refused → Type 0
IsRefusalOf error refused.NoMemory = kind_of error ≡ OutOfMemory
IsRefusalOf error (refused.Text e) = (e ≡ error) × IsTextKind (kind_of error)
IsRefusalOf error (refused.Mistake e) = (e ≡ error) × (kind_of error ≢ OutOfMemory) × IsMistake (kind_of error)
