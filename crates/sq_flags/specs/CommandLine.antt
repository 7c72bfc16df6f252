-- The command line: the subcommands and their flags, in the words of `clap`.
use Rattle.std.specs.Prelude.{ℕ, Some, codes, true}
use Rattle.clap.specs.Words.{App, Rule, Text, new_app, new_rule, with_rule, with_subcommand}
use Rattle.clap.specs.declared.builder.action.ArgAction.TheVariants.{SetTrue}
use Rattle.sq_model.specs.declared.options.TheConstants.{MOST_HOMES, MOST_QUEUES, MOST_ROWS, MOST_FLIGHTS, MOST_TRANSIT}
use Rattle.clap.specs.declared.builder.value_parser.ValueParser.TheVariants.{Unsigned}

-- a flag that takes a whole number within bounds
abbrev pub number_rule : Text → ℕ → ℕ → Rule
number_rule name least greatest = record (new_rule name) { long = Some name; value_names = 1; parser = Some (Unsigned least greatest) }

-- a flag that must be given
abbrev pub needed : Rule → Rule
needed rule = record rule { required = true }

-- the flag that says where connections are taken
abbrev pub address_rule : Rule
address_rule = needed (record (new_rule (codes "listen")) { long = Some (codes "listen"); value_names = 1 })

-- a flag without a value: `true` where it stands among the words, and else `false`
abbrev pub audit_rule : Rule
audit_rule = record (new_rule (codes "audit")) { long = Some (codes "audit"); action = Some SetTrue }

abbrev pub with_number : Text → ℕ → ℕ → App → App
with_number name least greatest app = with_rule app (number_rule name least greatest)

abbrev pub with_needed : Text → ℕ → ℕ → App → App
with_needed name least greatest app = with_rule app (needed (number_rule name least greatest))

-- the flag of the threads that move messages
abbrev pub with_movers : App → App
with_movers app = with_number (codes "movers") 0 8 app

-- the flag of the seconds that a connection is waited for
abbrev pub with_idle : App → App
with_idle app = with_number (codes "idle") 1 86400 app

-- the flags of the options
abbrev pub with_options : App → App
with_options app =
    with_number (codes "seed") 0 18446744073709551615
    (with_number (codes "transit") 1 MOST_TRANSIT
    (with_number (codes "flights") 1 MOST_FLIGHTS
    (with_number (codes "rows") 1 MOST_ROWS
    (with_number (codes "queues") 1 MOST_QUEUES
    (with_number (codes "sample") 1 MOST_HOMES
    (with_number (codes "homes") 1 MOST_HOMES app))))))

-- each subcommand and its flags
abbrev pub script_app : App
script_app = with_rule (with_options (new_app (codes "script"))) audit_rule

abbrev pub serve_app : App
serve_app = with_options (with_movers (with_idle (with_needed (codes "connections") 1 1024 (with_rule (new_app (codes "serve")) address_rule))))

abbrev pub race_app : App
race_app = with_options (with_movers (with_needed (codes "calls") 0 1000000 (with_needed (codes "clients") 1 64 (new_app (codes "race")))))

abbrev pub with_required : App → App
with_required app = record app { top = record app.top { subcommand_required = true } }

abbrev pub program_app : App
program_app = with_subcommand (with_subcommand (with_subcommand (with_required (new_app (codes "sqd"))) script_app.top) serve_app.top) race_app.top
