-- What the words ask for, from what clap found in them.
use Rattle.std.proofs.Common.{◌≡◌, ◌∙◌, ◌⊎◌, ℕ, List, [], ◌∷◌, Option, Some, None, Result, Ok, Err, true, sym, subst, ap, ap₂, option_map, unwrap_or, slice_index, codes, inl, inr, arith}
use Rattle.std.specs.Result.{IsErrAnd}
use Rattle.clap.specs.Words.{App, HasKind, HasMatchesOf, IsAmong, Kinds, Row, Text, app_of, fault_of, first_of, first_value, found_of, is_simple, is_simple_and_free, kind_of, rows_of, subcommand_name_of, subcommand_of, subcommand_rows, subcommand_rows_of}
use Rattle.clap.specs.declared.builder.command.Command.{Command}
use Rattle.clap.specs.declared.error.Error.{Error}
use Rattle.clap.specs.declared.error.kind.ErrorKind.{ErrorKind}
use Rattle.clap.specs.declared.error.kind.ErrorKind.TheVariants.{DisplayHelp, DisplayVersion, OutOfMemory}
use Rattle.clap.specs.declared.parser.matches.ArgMatches.{ArgMatches}
use Rattle.clap.specs.declared.parser.matches.ArgMatches.TheViews.{out-ArgMatches, out-SubCommand}
use Rattle.clap.specs.declared.parser.matches.SubCommand.{SubCommand}
use Rattle.std.specs.Box.{box_value}
use Rattle.std.specs.Prelude.{Box}
use Rattle.clap.proofs.WalkLemmas.{first_value-rows}
use Rattle.sq_flags.specs.CommandLine.{program_app}
use Rattle.sq_flags.specs.Flags.{IsScriptOf, IsServeOf, IsRaceOf, IsMet, IsModeAt, IsModeOf, ParsesTo, IsKindFor, IsMistake, IsRefusalOf}
use Rattle.sq_flags.specs.declared.flags.ScriptMode.{ScriptMode}
use Rattle.sq_flags.specs.declared.flags.ServeMode.{ServeMode}
use Rattle.sq_flags.specs.declared.flags.RaceMode.{RaceMode}
use Rattle.sq_flags.specs.declared.flags.Mode.{Mode}
use Rattle.sq_flags.specs.declared.flags.Mode.TheVariants.{Script, Serve, Race}
use Rattle.sq_flags.specs.declared.flags.Refused.{Refused}
use Rattle.sq_flags.specs.declared.flags.Refused.TheVariants as refused
use Rattle.sq_flags.proofs.FlagLaws.{program_is_free, program_is_simple, same_script, same_serve, same_race}

-- ---- what clap says of the program's command

pub no_fault : (command : Command) (words : List Text) → app_of command ≡ program_app
    → (is_simple_and_free (app_of command) ≡ true → fault_of (app_of command) words ≡ []) → fault_of program_app words ≡ []
no_fault command words e h = subst (λ (a : App). fault_of a words ≡ []) e (h (ap is_simple_and_free e ∙ program_is_free))

pub a_fault : (command : Command) (words : List Text) (error : Error) → app_of command ≡ program_app
    → (is_simple_and_free (app_of command) ≡ true → HasKind (fault_of (app_of command) words) error) → HasKind (fault_of program_app words) error
a_fault command words error e h = subst (λ (a : App). HasKind (fault_of a words) error) e (h (ap is_simple_and_free e ∙ program_is_free))

pub entered : (command : Command) (words : List Text) (m : ArgMatches) → app_of command ≡ program_app → HasMatchesOf (app_of command) words m
    → subcommand_rows_of m ≡ subcommand_of program_app words
entered command words m e h = (h (ap is_simple e ∙ program_is_simple)).1 ∙ ap (λ (a : App). subcommand_of a words) e

-- ---- the subcommand

some_same : {X : Type 0} (a b : X) → Some a ≡ Some b → a ≡ b
some_same {X} a b e = ap (λ (o : Option X). unwrap_or o a) e

none≢some : {X : Type 0} {x : X} → None ≡ Some x → ⊥
none≢some {X} e = absurd (cc)

module _ {Z : Type 0} where
  named : (sub : Option (Box SubCommand Z)) (name : Text) (rows : List Row) → option_map (λ b. (out-SubCommand (box_value b)).name.now) sub ≡ Some name
      → option_map (λ p. p.1) (subcommand_rows sub) ≡ Some rows → subcommand_rows sub ≡ Some (name, rows)
  named None name rows n r = absurd (none≢some n)
  named (Some b) name rows n r = ap₂ (λ (x : Text) (y : List Row). Some (x, y)) (some_same _ _ n) (some_same _ _ r)

  unnamed : (sub : Option (Box SubCommand Z)) (name : Text) (rows : List Row) → subcommand_rows sub ≡ Some (name, rows)
      → option_map (λ b. (out-SubCommand (box_value b)).name.now) sub ≡ Some name
  unnamed None name rows e = absurd (none≢some e)
  unnamed (Some b) name rows e = ap (option_map (λ p. p.0)) e

-- two ways to tell the texts of flags give the same
abbrev Carries : ((Text → Option Text) → Type 0) → Type 0
Carries Gives = (f g : Text → Option Text) → ((name : Text) → f name ≡ g name) → Gives f → Gives g

-- clap found the subcommand of this name, with its flags
met : (m found : ArgMatches) (name : Text) (Gives : (Text → Option Text) → Type 0) → Carries Gives → subcommand_name_of m ≡ Some name
    → option_map (λ p. p.1) (subcommand_rows_of m) ≡ Some (rows_of (found_of found)) → Gives (first_value (found_of found)) → IsMet (subcommand_rows_of m) name Gives
met m found name Gives carries is rows gives = record {
  rows = rows_of (found_of found);
  named = named (out-ArgMatches m).subcommand name (rows_of (found_of found)) is rows;
  gives = carries (first_value (found_of found)) (λ id. first_of id (rows_of (found_of found))) (first_value-rows (found_of found)) gives;
}

-- it found none of this name
other : (m : ArgMatches) (name : Text) (Gives : (Text → Option Text) → Type 0) → (subcommand_name_of m ≡ Some name → ⊥) → ¬ IsMet (subcommand_rows_of m) name Gives
other m name Gives differs h = differs (unnamed (out-ArgMatches m).subcommand name h.rows h.named)

-- it found one whose flags do not give this
unmet : (m found : ArgMatches) (name : Text) (Gives : (Text → Option Text) → Type 0) → Carries Gives
    → option_map (λ p. p.1) (subcommand_rows_of m) ≡ Some (rows_of (found_of found)) → ¬ Gives (first_value (found_of found)) → ¬ IsMet (subcommand_rows_of m) name Gives
unmet m found name Gives carries rows none h =
    let same : h.rows ≡ rows_of (found_of found) = some_same _ _ (sym (ap (option_map (λ p. p.1)) h.named) ∙ rows) in
    let picked : Gives (λ id. first_of id (rows_of (found_of found))) = subst (λ (r : List Row). Gives (λ id. first_of id r)) same h.gives in
    none (carries (λ id. first_of id (rows_of (found_of found))) (first_value (found_of found)) (λ id. sym (first_value-rows (found_of found) id)) picked)

-- ---- the three subcommands

abbrev second : Text → ℕ
second text = slice_index text 1

differ : (m : ArgMatches) (a b : Text) → (second a ≡ second b → ⊥) → subcommand_name_of m ≡ Some a → subcommand_name_of m ≡ Some b → ⊥
differ m a b differs x y = differs (ap second (some_same a b (sym x ∙ y)))

script≢serve : second (codes "script") ≡ second (codes "serve") → ⊥
script≢serve e = let bad : 99 ≡ 101 = e in absurd (omega arith)

script≢race : second (codes "script") ≡ second (codes "race") → ⊥
script≢race e = let bad : 99 ≡ 97 = e in absurd (omega arith)

serve≢race : second (codes "serve") ≡ second (codes "race") → ⊥
serve≢race e = let bad : 101 ≡ 97 = e in absurd (omega arith)

pub is_script : (m found : ArgMatches) (mode : ScriptMode) → subcommand_name_of m ≡ Some (codes "script") → option_map (λ p. p.1) (subcommand_rows_of m) ≡ Some (rows_of (found_of found))
    → IsScriptOf (first_value (found_of found)) mode → IsModeAt (subcommand_rows_of m) (Script mode)
is_script m found mode is rows gives = met m found (codes "script") (λ t. IsScriptOf t mode) (λ f g e. same_script f g mode e) is rows gives

pub is_serve : (m found : ArgMatches) (mode : ServeMode) → subcommand_name_of m ≡ Some (codes "serve") → option_map (λ p. p.1) (subcommand_rows_of m) ≡ Some (rows_of (found_of found))
    → IsServeOf (first_value (found_of found)) mode → IsModeAt (subcommand_rows_of m) (Serve mode)
is_serve m found mode is rows gives = met m found (codes "serve") (λ t. IsServeOf t mode) (λ f g e. same_serve f g mode e) is rows gives

pub is_race : (m found : ArgMatches) (mode : RaceMode) → subcommand_name_of m ≡ Some (codes "race") → option_map (λ p. p.1) (subcommand_rows_of m) ≡ Some (rows_of (found_of found))
    → IsRaceOf (first_value (found_of found)) mode → IsModeAt (subcommand_rows_of m) (Race mode)
is_race m found mode is rows gives = met m found (codes "race") (λ t. IsRaceOf t mode) (λ f g e. same_race f g mode e) is rows gives

-- flags that cannot be read ask for nothing
pub no_script : (m found : ArgMatches) → subcommand_name_of m ≡ Some (codes "script") → option_map (λ p. p.1) (subcommand_rows_of m) ≡ Some (rows_of (found_of found))
    → ((mode : ScriptMode) → ¬ IsScriptOf (first_value (found_of found)) mode) → (mode : Mode) → ¬ IsModeAt (subcommand_rows_of m) mode
no_script m found is rows none (Script mode) = unmet m found (codes "script") (λ t. IsScriptOf t mode) (λ f g e. same_script f g mode e) rows (none mode)
no_script m found is rows none (Serve mode) = other m (codes "serve") (λ t. IsServeOf t mode) (differ m _ _ script≢serve is)
no_script m found is rows none (Race mode) = other m (codes "race") (λ t. IsRaceOf t mode) (differ m _ _ script≢race is)

pub no_serve : (m found : ArgMatches) → subcommand_name_of m ≡ Some (codes "serve") → option_map (λ p. p.1) (subcommand_rows_of m) ≡ Some (rows_of (found_of found))
    → ((mode : ServeMode) → ¬ IsServeOf (first_value (found_of found)) mode) → (mode : Mode) → ¬ IsModeAt (subcommand_rows_of m) mode
no_serve m found is rows none (Script mode) = other m (codes "script") (λ t. IsScriptOf t mode) (λ x. differ m _ _ script≢serve x is)
no_serve m found is rows none (Serve mode) = unmet m found (codes "serve") (λ t. IsServeOf t mode) (λ f g e. same_serve f g mode e) rows (none mode)
no_serve m found is rows none (Race mode) = other m (codes "race") (λ t. IsRaceOf t mode) (differ m _ _ serve≢race is)

pub no_race : (m found : ArgMatches) → subcommand_name_of m ≡ Some (codes "race") → option_map (λ p. p.1) (subcommand_rows_of m) ≡ Some (rows_of (found_of found))
    → ((mode : RaceMode) → ¬ IsRaceOf (first_value (found_of found)) mode) → (mode : Mode) → ¬ IsModeAt (subcommand_rows_of m) mode
no_race m found is rows none (Script mode) = other m (codes "script") (λ t. IsScriptOf t mode) (λ x. differ m _ _ script≢race x is)
no_race m found is rows none (Serve mode) = other m (codes "serve") (λ t. IsServeOf t mode) (λ x. differ m _ _ serve≢race x is)
no_race m found is rows none (Race mode) = unmet m found (codes "race") (λ t. IsRaceOf t mode) (λ f g e. same_race f g mode e) rows (none mode)

-- nor does another subcommand, or none
pub no_name : (m : ArgMatches) → (subcommand_name_of m ≡ Some (codes "script") → ⊥) → (subcommand_name_of m ≡ Some (codes "serve") → ⊥) → (subcommand_name_of m ≡ Some (codes "race") → ⊥)
    → (mode : Mode) → ¬ IsModeAt (subcommand_rows_of m) mode
no_name m script serve race (Script mode) = other m (codes "script") (λ t. IsScriptOf t mode) script
no_name m script serve race (Serve mode) = other m (codes "serve") (λ t. IsServeOf t mode) serve
no_name m script serve race (Race mode) = other m (codes "race") (λ t. IsRaceOf t mode) race

-- ---- the words

pub parses : (words : List Text) (m : ArgMatches) (mode : Mode) → fault_of program_app words ≡ [] → subcommand_rows_of m ≡ subcommand_of program_app words
    → IsModeAt (subcommand_rows_of m) mode → IsModeOf words mode
parses words m mode taken walked at = record { taken = taken; met = subst (λ (x : Option (Text × List Row)). IsModeAt x mode) walked at }

pub asks_for_nothing : (words : List Text) (m : ArgMatches) → subcommand_rows_of m ≡ subcommand_of program_app words
    → ((mode : Mode) → ¬ IsModeAt (subcommand_rows_of m) mode) → (mode : Mode) → ¬ IsModeOf words mode
asks_for_nothing words m walked none mode h = none mode (subst (λ (x : Option (Text × List Row)). IsModeAt x mode) (sym walked) h.met)

-- ---- refusals

no_kind : (kinds : Kinds) (kind : ErrorKind) → IsAmong kind kinds → kinds ≡ [] → ⊥
no_kind kinds kind h e = subst (λ (ks : Kinds). IsAmong kind ks) e h

found_kind : (kinds : Kinds) (kind : ErrorKind) → IsAmong kind kinds → IsKindFor kinds kind
found_kind [] kind h = tt
found_kind (k ∷ ks) kind h = h

no_text : (kind : ErrorKind) → (kind ≡ DisplayHelp) ⊎ (kind ≡ DisplayVersion) → kind ≡ OutOfMemory → ⊥
no_text kind (inl help) memory = absurd (cc)
no_text kind (inr version) memory = absurd (cc)

refuses_for_clap : (words : List Text) (error : Error) (e : Refused) → HasKind (fault_of program_app words) error → IsRefusalOf error e → ParsesTo words (Err e)
refuses_for_clap words error refused.NoMemory h is = tt
refuses_for_clap words error (refused.Text e) h is = rw is.0 (elim h [
  | inl memory ↦ absurd (no_text (kind_of error) is.1 memory)
  | inr kind ↦ (is.1, kind)
])
refuses_for_clap words error (refused.Mistake e) h is = rw is.0 (elim h [
  | inl memory ↦ absurd (is.1 memory)
  | inr kind ↦ (λ mode parsed. no_kind _ _ kind parsed.taken, is.2, found_kind _ _ kind)
])

pub refuses_for_own : (words : List Text) (error : Error) (e : Refused) → fault_of program_app words ≡ [] → IsMistake (kind_of error)
    → ((mode : Mode) → ¬ IsModeOf words mode) → IsRefusalOf error e → ParsesTo words (Err e)
refuses_for_own words error refused.NoMemory taken mistake none is = tt
refuses_for_own words error (refused.Text e) taken mistake none is = elim is.1 [
  | inl help ↦ absurd (mistake.0 help)
  | inr version ↦ absurd (mistake.1 version)
]
refuses_for_own words error (refused.Mistake e) taken mistake none is = rw is.0 (none, is.2, subst (λ (ks : Kinds). IsKindFor ks (kind_of error)) (sym taken) tt)

-- an error that was passed up
passed_up : (words : List Text) (P : Refused → Type 0) → ((e : Refused) → P e → ParsesTo words (Err e)) → (r : Result Mode Refused) → IsErrAnd r P → ParsesTo words r
passed_up words P f (Ok mode) h = absurd h
passed_up words P f (Err e) h = f e h

pub passed_up_for_clap : (words : List Text) (error : Error) (r : Result Mode Refused) → HasKind (fault_of program_app words) error → IsErrAnd r (IsRefusalOf error) → ParsesTo words r
passed_up_for_clap words error r fails h = passed_up words (IsRefusalOf error) (λ e. refuses_for_clap words error e fails) r h
