-- What the words of a command line ask for, by what a parse of them finds.
use Rattle.std.specs.Str.{bytes_eq}
use Rattle.std.specs.List.{list_all}
use Rattle.std.specs.Prelude.{◌≡◌, ◌≤◌, ◌==◌, ◌&&◌, not, ℕ, Bool, List, [], ◌∷◌, Option, Some, None, Result, IfOk, true, false, codes, decimal, if◌then◌else◌, length, map, option_map, string_bytes}
use Rattle.clap.specs.Faults.{fault_of}
use Rattle.clap.specs.Simple.{App, app_of, new_app, new_rule, on_top, subcommand_of, with_rule, with_subcommand}
use Rattle.clap.specs.Walk.{Row, Rule, Text, first_of}
use Rattle.process_packet.specs.declared.underlay.Underlay.{Underlay}
use Rattle.text_values.specs.Address.{underlay_of}
use Rattle.std.specs.declared.alloc.AllocError.{AllocError}
use Rattle.clap.specs.declared.builder.command.Command.{Command}
use Rattle.clap.specs.declared.builder.command.Command.TheViews.{out-Command as fields_of}
use Rattle.clap.specs.declared.builder.action.ArgAction.TheVariants.{Set, SetTrue}
use Rattle.cli_words.specs.declared.import_words.ImportWords.{ImportWords}
use Rattle.cli_words.specs.declared.words.Subcommand.{Subcommand}
use Rattle.cli_words.specs.declared.words.Subcommand.TheVariants as order

-- The command, where there was memory for it, takes these words, and has no option that its orders share.
abbrev pub IsGrammar : App → Result Command AllocError → Type 0
IsGrammar app made = IfOk made (λ c. (app_of c ≡ app) × ((fields_of c).has_globals ≡ false))

-- `--name VALUE`, which has to be there
abbrev pub wanted : Text → Rule
wanted name = record (new_rule name) { long = Some name; value_names = 1; action = Some Set; required = true }

-- `--name VALUE`, which may be there
abbrev pub offered : Text → Rule
offered name = record (new_rule name) { long = Some name; value_names = 1; action = Some Set }

-- `--name`, which may be there
abbrev pub flag : Text → Rule
flag name = record (new_rule name) { long = Some name; action = Some SetTrue }

-- `route --config FILE --link N --now S [--from ADDR]`
abbrev pub route : App
route =
    with_rule (with_rule (with_rule (with_rule (new_app (codes "route")) (wanted (codes "config"))) (wanted (codes "link"))) (wanted (codes "now")))
    (offered (codes "from"))

-- `replay --config FILE`, and others that take more
abbrev pub alone : Text → App
alone name = with_rule (new_app name) (wanted (codes "config"))

-- `run --config FILE [--metrics ADDR]`
abbrev pub run : App
run = with_rule (alone (codes "run")) (offered (codes "metrics"))

-- `check --config FILE [--strict] [--bind]`
abbrev pub check : App
check = with_rule (with_rule (alone (codes "check")) (flag (codes "strict"))) (flag (codes "bind"))

-- `import --topology FILE --router NAME --keys DIR [--out FILE] [--port-range] [--strict]`
abbrev pub importing : App
importing =
    with_rule (with_rule (with_rule
    (with_rule (with_rule (with_rule (new_app (codes "import")) (wanted (codes "topology"))) (wanted (codes "router"))) (wanted (codes "keys")))
    (offered (codes "out"))) (flag (codes "port-range"))) (flag (codes "strict"))

-- the program, whose words begin after its name
abbrev pub router : App
router =
    with_subcommand
    (with_subcommand
    (with_subcommand
    (with_subcommand
    (with_subcommand (on_top (λ top. record top { has_version = true; no_binary_name = true; subcommand_required = true }) (new_app (codes "router"))) route.top)
    (alone (codes "replay")).top)
    run.top)
    check.top)
    importing.top

-- what a parse finds of an option without a value
abbrev pub is_given : Option Text → Bool
is_given None = false
is_given (Some text) = bytes_eq text (codes "true")

-- the address that a word names, if it is one; no word names none
abbrev pub address_of : Option Text → Option (Option Underlay)
address_of None = Some None
address_of (Some text) = option_map (λ u. Some u) (underlay_of text)

-- what is asked of an import
pub record ImportAsked : Type 0 where
  pub topology : Text
  pub border_router : Text
  pub keys : Text
  pub out : Option Text
  pub port_range : Bool
  pub strict : Bool

-- what is asked for
pub data Asked : Type 0 where
  Routes : Text → ℕ → ℕ → Option Underlay → Asked  -- the configuration, the link, the moment, the source
  Replays : Text → Asked  -- the configuration
  Runs : Text → Option Underlay → Asked  -- the configuration, where the counts are shown
  Checks : Text → Bool → Bool → Asked  -- the configuration, whether a warning is a fault, whether sockets are opened
  ChecksNet : List Text → Asked  -- the configurations
  Imports : ImportAsked → Asked

abbrev pub import_asked : ImportWords → ImportAsked
import_asked w = record {
  topology = w.topology.now;
  border_router = w.border_router.now;
  keys = w.keys.now;
  out = option_map (λ path. path.now) w.out;
  port_range = w.port_range;
  strict = w.strict;
}

abbrev pub asked_of : Subcommand → Asked
asked_of (order.Route config link now from) = Routes config.now link now from
asked_of (order.Replay config) = Replays config.now
asked_of (order.Run config metrics) = Runs config.now metrics
asked_of (order.Check config strict bind) = Checks config.now strict bind
asked_of (order.CheckNet files) = ChecksNet (map string_bytes files.now)
asked_of (order.Import words) = Imports (import_asked words)

-- The options of `route` have these values. A number stands there as its decimal digits.
pub record AsksRoute (rows : List Row) (config : Text) (link now : ℕ) (from : Option Underlay) : Type 0 where
  pub config_is : first_of (codes "config") rows ≡ Some config
  pub link_is : first_of (codes "link") rows ≡ Some (decimal link)
  pub now_is : first_of (codes "now") rows ≡ Some (decimal now)
  pub from_is : address_of (first_of (codes "from") rows) ≡ Some from
  pub link_fits : link ≤ 65535
  pub now_fits : now ≤ 1099511627775

-- The options of `run` have these values.
pub record AsksRun (rows : List Row) (config : Text) (metrics : Option Underlay) : Type 0 where
  pub config_is : first_of (codes "config") rows ≡ Some config
  pub metrics_is : address_of (first_of (codes "metrics") rows) ≡ Some metrics

-- The options of `check` have these values.
pub record AsksCheck (rows : List Row) (config : Text) (strict bind : Bool) : Type 0 where
  pub config_is : first_of (codes "config") rows ≡ Some config
  pub strict_is : strict ≡ is_given (first_of (codes "strict") rows)
  pub bind_is : bind ≡ is_given (first_of (codes "bind") rows)

-- The options of `import` have these values.
pub record AsksImport (rows : List Row) (asked : ImportAsked) : Type 0 where
  pub topology_is : first_of (codes "topology") rows ≡ Some asked.topology
  pub router_is : first_of (codes "router") rows ≡ Some asked.border_router
  pub keys_is : first_of (codes "keys") rows ≡ Some asked.keys
  pub out_is : first_of (codes "out") rows ≡ asked.out
  pub port_range_is : asked.port_range ≡ is_given (first_of (codes "port-range") rows)
  pub strict_is : asked.strict ≡ is_given (first_of (codes "strict") rows)

-- a subcommand and its options ask for it
abbrev pub Asks : Text × List Row → Asked → Type 0
Asks entered (Routes config link now from) = (entered.0 ≡ codes "route") × AsksRoute entered.1 config link now from
Asks entered (Replays config) = (entered.0 ≡ codes "replay") × (first_of (codes "config") entered.1 ≡ Some config)
Asks entered (Runs config metrics) = (entered.0 ≡ codes "run") × AsksRun entered.1 config metrics
Asks entered (Checks config strict bind) = (entered.0 ≡ codes "check") × AsksCheck entered.1 config strict bind
Asks entered (ChecksNet files) = ⊥
Asks entered (Imports asked) = (entered.0 ≡ codes "import") × AsksImport entered.1 asked

abbrev pub AsksOf : Option (Text × List Row) → Asked → Type 0
AsksOf None asked = ⊥
AsksOf (Some entered) asked = Asks entered asked

-- ---- `check --net FILE..`, which is read before the grammar

-- a word that is no option
abbrev pub is_file : Text → Bool
is_file [] = false
is_file (byte ∷ bytes) = not (byte == 45)

abbrev pub are_net : Text → Text → List Text → Bool
are_net command option files = bytes_eq command (codes "check") && bytes_eq option (codes "--net") && not (length files == 0) && list_all is_file files

abbrev pub files_of : Text → Text → List Text → Option (List Text)
files_of command option files = if are_net command option files then Some files else None

-- the files that the words name so
abbrev pub net_files : List Text → Option (List Text)
net_files [] = None
net_files (command ∷ []) = None
net_files (command ∷ (option ∷ files)) = files_of command option files

-- ---- all words

-- The words are taken by the grammar, and ask for it.
pub record OrdersByGrammar (words : List Text) (asked : Asked) : Type 0 where
  pub taken : fault_of router words ≡ []
  pub asks : AsksOf (subcommand_of router words) asked

abbrev pub OrdersBy : Option (List Text) → List Text → Asked → Type 0
OrdersBy None words asked = OrdersByGrammar words asked
OrdersBy (Some files) words asked = asked ≡ ChecksNet files

-- The words ask for it.
abbrev pub Orders : List Text → Asked → Type 0
Orders words asked = OrdersBy (net_files words) words asked
