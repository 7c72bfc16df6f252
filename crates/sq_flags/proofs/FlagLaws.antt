-- The flags that were found, and the words.
use Rattle.std.proofs.Common.{◌≡◌, ◌∙◌, ℕ, Bool, Option, Some, None, Result, Ok, Err, IfErr, true, refl, sym, subst, ap, min, codes}
use Rattle.clap.specs.Words.{Text, is_simple, is_simple_and_free}
use Rattle.clap.proofs.OnLiterals.{clap_on_literals}
use Rattle.sq_model.specs.declared.options.Options.{Options}
use Rattle.sq_model.specs.declared.options.TheConstants.{MOST_HOMES}
use Rattle.std.specs.declared.net.socket_addr.SocketAddr.{SocketAddr}
use Rattle.sq_flags.specs.CommandLine.{program_app}
use Rattle.sq_flags.specs.Flags.{IsScriptOf, IsServeOf, IsRaceOf}
use Rattle.sq_flags.specs.Values.{IsNumberOf, IsGivenNumber, IsAddressOf, IsFlagOf, AreOptionsOf}
use Rattle.sq_flags.specs.declared.flags.ScriptMode.{ScriptMode}
use Rattle.sq_flags.specs.declared.flags.ServeMode.{ServeMode}
use Rattle.sq_flags.specs.declared.flags.RaceMode.{RaceMode}

pub program_is_simple : is_simple program_app ≡ true
unfolding clap_on_literals
program_is_simple = refl

pub program_is_free : is_simple_and_free program_app ≡ true
unfolding clap_on_literals
program_is_free = refl

same_number : (a b : Option Text) (least greatest default n : ℕ) → a ≡ b → IsNumberOf a least greatest default n → IsNumberOf b least greatest default n
same_number a b least greatest default n e h = subst (λ (g : Option Text). IsNumberOf g least greatest default n) e h

same_given : (a b : Option Text) (least greatest n : ℕ) → a ≡ b → IsGivenNumber a least greatest n → IsGivenNumber b least greatest n
same_given a b least greatest n e h = subst (λ (g : Option Text). IsGivenNumber g least greatest n) e h

same_address : (a b : Option Text) (address : Option SocketAddr) → a ≡ b → IsAddressOf a address → IsAddressOf b address
same_address a b address e h = subst (λ (g : Option Text). IsAddressOf g address) e h

-- two ways to tell the text of a flag
pub same_options : (f g : Text → Option Text) (o : Options) → ((name : Text) → f name ≡ g name) → AreOptionsOf f o → AreOptionsOf g o
same_options f g o e h = record {
  homes = same_number _ _ _ _ _ _ (e _) h.homes;
  sample = same_number _ _ _ _ _ _ (e _) h.sample;
  queues = same_number _ _ _ _ _ _ (e _) h.queues;
  rows = same_number _ _ _ _ _ _ (e _) h.rows;
  flights = same_number _ _ _ _ _ _ (e _) h.flights;
  transit = same_number _ _ _ _ _ _ (e _) h.transit;
  seed = same_number _ _ _ _ _ _ (e _) h.seed;
}

-- a text gives one number at most
pub one_number : (of_flag : Option Text) (least greatest default n m : ℕ) → IsNumberOf of_flag least greatest default n → IsNumberOf of_flag least greatest default m → n ≡ m
one_number None least greatest default n m a b = a.when_unset refl ∙ sym (b.when_unset refl)
one_number (Some text) least greatest default n m a b = (a.when_set text refl).value ∙ sym ((b.when_set text refl).value)

-- the sample has its default from the homes that are asked for
pub no_sample : (text_of : Text → Option Text) (homes default : ℕ) → IsNumberOf (text_of (codes "homes")) 1 MOST_HOMES 4 homes → default ≡ min homes 2
    → ((n : ℕ) → ¬ IsNumberOf (text_of (codes "sample")) 1 MOST_HOMES default n) → (o : Options) → ¬ AreOptionsOf text_of o
no_sample text_of homes default found is refused o h =
    let same : min o.homes 2 ≡ default = ap (λ x. min x 2) (one_number _ _ _ _ _ _ h.homes found) ∙ sym is in
    refused o.sample (subst (λ (d : ℕ). IsNumberOf (text_of (codes "sample")) 1 MOST_HOMES d o.sample) same h.sample)

same_flag : (a b : Option Text) (is_set : Bool) → a ≡ b → IsFlagOf a is_set → IsFlagOf b is_set
same_flag a b is_set e h = subst (λ (g : Option Text). IsFlagOf g is_set) e h

-- two ways to tell the texts of a subcommand's flags
pub same_script : (f g : Text → Option Text) (mode : ScriptMode) → ((name : Text) → f name ≡ g name) → IsScriptOf f mode → IsScriptOf g mode
same_script f g mode e h = record {
  options = same_options f g mode.options e h.options;
  audit = same_flag _ _ mode.audit (e _) h.audit;
}

pub same_serve : (f g : Text → Option Text) (mode : ServeMode) → ((name : Text) → f name ≡ g name) → IsServeOf f mode → IsServeOf g mode
same_serve f g mode e h = record {
  options = same_options f g mode.options e h.options;
  address = same_address _ _ mode.address (e _) h.address;
  connections = same_given _ _ _ _ _ (e _) h.connections;
  idle = same_number _ _ _ _ _ _ (e _) h.idle;
  movers = same_number _ _ _ _ _ _ (e _) h.movers;
}

pub same_race : (f g : Text → Option Text) (mode : RaceMode) → ((name : Text) → f name ≡ g name) → IsRaceOf f mode → IsRaceOf g mode
same_race f g mode e h = record {
  options = same_options f g mode.options e h.options;
  clients = same_given _ _ _ _ _ (e _) h.clients;
  calls = same_given _ _ _ _ _ (e _) h.calls;
  movers = same_number _ _ _ _ _ _ (e _) h.movers;
}

-- no options at all are those of the flags
pub no_options : {T E : Type 0} (text_of : Text → Option Text) → ((o : Options) → ¬ AreOptionsOf text_of o) → (r : Result T E) → IfErr r (λ _. (o : Options) → ¬ AreOptionsOf text_of o)
no_options text_of none (Ok x) = tt
no_options text_of none (Err e) = none

-- nothing at all is what was asked for
pub nothing : {T E M : Type 0} (Gives : M → Type 0) → ((m : M) → ¬ Gives m) → (r : Result T E) → IfErr r (λ _. (m : M) → ¬ Gives m)
nothing Gives none (Ok x) = tt
nothing Gives none (Err e) = none
