-- What the getters of a parse's matches read of the subcommand that was entered.
use Rattle.std.proofs.Common.{◌≡◌, ◌≤◌, ℕ, List, Option, Some, None, Result, Ok, Err, option_map, Bor, sym, ap, ap₂, ◌∙◌, codes, decimal, refl, true, false, subst, [], inl, inr}
use Rattle.std.specs.Prelude.{◌≢◌, IfErr, IfOk, IfSome, IfNone}
use Rattle.std.specs.Option.{IsSomeAnd}
use Rattle.std.specs.List.{list_all}
use Rattle.std.specs.declared.alloc.Global.{Global}
use Rattle.std.specs.Str.{bytes_eq}
use Rattle.std.proofs.lemmas.List.{length-map}
use Rattle.std.proofs.lemmas.List.Folds.{list_all-map}
use Rattle.std.specs.declared.alloc.AllocError.{AllocError}
use Rattle.clap.specs.declared.builder.command.Command.{Command}
use Rattle.clap.specs.declared.builder.command.Command.TheViews.{out-Command as fields_of}
use Rattle.std.proofs.lemmas.Bool.{false≢true}
use Rattle.std.proofs.lemmas.Slice.Eq.{bytes_eq-Decides}
use Rattle.clap.specs.Matches.{first_value}
use Rattle.clap.specs.Walk.{Row, Text, first_of, rows_of}
use Rattle.clap.specs.declared.parser.matches.Found.{Found}
use Rattle.clap.specs.Faults.{fault_of, is_simple_and_free}
use Rattle.clap.specs.Kinds.{HasKind}
use Rattle.clap.specs.Values.{kind_of}
use Rattle.clap.specs.Simple.{App, HasMatchesOf, app_of, app_of_fields, is_simple, subcommand_of, subcommand_rows, subcommand_rows_of}
use Rattle.clap.specs.declared.error.Error.{Error}
use Rattle.clap.specs.declared.error.kind.ErrorKind.{ErrorKind}
use Rattle.clap.specs.declared.error.kind.ErrorKind.TheVariants.{OutOfMemory}
use Rattle.clap.specs.declared.parser.matches.ArgMatches.{ArgMatches}
use Rattle.clap.proofs.OnLiterals.{clap_on_literals}
use Rattle.clap.specs.declared.parser.matches.SubCommand.{SubCommand}
use Rattle.clap.specs.declared.parser.matches.ArgMatches.TheViews.{out-SubCommand}
use Rattle.std.specs.Box.{box_value}
use Rattle.std.specs.Prelude.{Box, String, Bool, ◌==◌, ◌&&◌, not, if◌then◌else◌, length, map, string_bytes}
use Rattle.clap.proofs.WalkLemmas.{first_value-rows}
use Rattle.process_packet.specs.declared.underlay.Underlay.{Underlay}
use Rattle.cli_words.specs.Words.{Asked, Routes, Replays, Runs, Checks, ChecksNet, Imports, Asks, AsksImport, AsksOf, AsksRoute, AsksRun, ImportAsked, Orders, OrdersBy, OrdersByGrammar, address_of, are_net, asked_of, files_of, is_file, is_given, net_files, router}
use Rattle.cli_words.specs.declared.words.Subcommand.{Subcommand}

-- names that differ
route_replay : codes "route" ≢ codes "replay"
route_replay same = false≢true ((bytes_eq-Decides (codes "route") (codes "replay")).1 same)

route_run : codes "route" ≢ codes "run"
route_run same = false≢true ((bytes_eq-Decides (codes "route") (codes "run")).1 same)

route_check : codes "route" ≢ codes "check"
route_check same = false≢true ((bytes_eq-Decides (codes "route") (codes "check")).1 same)

replay_run : codes "replay" ≢ codes "run"
replay_run same = false≢true ((bytes_eq-Decides (codes "replay") (codes "run")).1 same)

replay_check : codes "replay" ≢ codes "check"
replay_check same = false≢true ((bytes_eq-Decides (codes "replay") (codes "check")).1 same)

run_check : codes "run" ≢ codes "check"
run_check same = false≢true ((bytes_eq-Decides (codes "run") (codes "check")).1 same)

route_import : codes "route" ≢ codes "import"
route_import same = false≢true ((bytes_eq-Decides (codes "route") (codes "import")).1 same)

replay_import : codes "replay" ≢ codes "import"
replay_import same = false≢true ((bytes_eq-Decides (codes "replay") (codes "import")).1 same)

run_import : codes "run" ≢ codes "import"
run_import same = false≢true ((bytes_eq-Decides (codes "run") (codes "import")).1 same)

check_import : codes "check" ≢ codes "import"
check_import same = false≢true ((bytes_eq-Decides (codes "check") (codes "import")).1 same)

abbrev pub Entered : Type 0
Entered = Option (Text × List Row)

pub text_read : (found : Found) (id : Text) (got : Option (Bor Text)) → option_map (λ (t : Bor Text). t.now) got ≡ first_value found id → first_of id (rows_of found) ≡ option_map (λ (t : Bor Text). t.now) got
text_read found id got read = sym (first_value-rows found id) ∙ sym read

pub asks_along : (s t : Entered) (asked : Asked) → s ≡ t → AsksOf s asked → AsksOf t asked
asks_along s t asked same asks = let P : Entered → Type 0 = λ x. AsksOf x asked in subst P same asks

route_asked : (rows : List Row) (asked : Asked) → ((config : Text) (link now : ℕ) (from : Option Underlay) → ¬ AsksRoute rows config link now from) → ¬ Asks (codes "route", rows) asked
route_asked rows (Routes config link now from) none asks = none config link now from asks.1
route_asked rows (Replays config) none asks = route_replay asks.0
route_asked rows (Runs config metrics) none asks = route_run asks.0
route_asked rows (Checks config strict bind) none asks = route_check asks.0
route_asked rows (ChecksNet files) none asks = asks
route_asked rows (Imports asked) none asks = route_import asks.0

replay_asked : (rows : List Row) (asked : Asked) → ((config : Text) → first_of (codes "config") rows ≢ Some config) → ¬ Asks (codes "replay", rows) asked
replay_asked rows (Routes config link now from) none asks = route_replay (sym asks.0)
replay_asked rows (Replays config) none asks = none config asks.1
replay_asked rows (Runs config metrics) none asks = replay_run asks.0
replay_asked rows (Checks config strict bind) none asks = replay_check asks.0
replay_asked rows (ChecksNet files) none asks = asks
replay_asked rows (Imports asked) none asks = replay_import asks.0

run_asked : (rows : List Row) (asked : Asked) → ((config : Text) (metrics : Option Underlay) → ¬ AsksRun rows config metrics) → ¬ Asks (codes "run", rows) asked
run_asked rows (Routes config link now from) none asks = route_run (sym asks.0)
run_asked rows (Replays config) none asks = replay_run (sym asks.0)
run_asked rows (Runs config metrics) none asks = none config metrics asks.1
run_asked rows (Checks config strict bind) none asks = run_check asks.0
run_asked rows (ChecksNet files) none asks = asks
run_asked rows (Imports asked) none asks = run_import asks.0

check_asked : (rows : List Row) (asked : Asked) → ((config : Text) → first_of (codes "config") rows ≢ Some config) → ¬ Asks (codes "check", rows) asked
check_asked rows (Routes config link now from) none asks = route_check (sym asks.0)
check_asked rows (Replays config) none asks = replay_check (sym asks.0)
check_asked rows (Runs config metrics) none asks = run_check (sym asks.0)
check_asked rows (Checks config strict bind) none asks = none config asks.1.config_is
check_asked rows (ChecksNet files) none asks = asks
check_asked rows (Imports asked) none asks = check_import asks.0

import_asked_none : (rows : List Row) (asked : Asked) → ((values : ImportAsked) → ¬ AsksImport rows values) → ¬ Asks (codes "import", rows) asked
import_asked_none rows (Routes config link now from) none asks = route_import (sym asks.0)
import_asked_none rows (Replays config) none asks = replay_import (sym asks.0)
import_asked_none rows (Runs config metrics) none asks = run_import (sym asks.0)
import_asked_none rows (Checks config strict bind) none asks = check_import (sym asks.0)
import_asked_none rows (ChecksNet files) none asks = asks
import_asked_none rows (Imports values) none asks = none values asks.1

pub name_read : {Z : Type 0} → (o : Option (Box SubCommand Z)) → option_map (λ (p : Text × List Row). p.0) (subcommand_rows o) ≡ option_map (λ (b : Box SubCommand Z). (out-SubCommand (box_value b)).name.now) o
name_read None = refl
name_read (Some b) = refl

-- no options ask for what is missing, or for a number that the text is not
pub no_config : (s : List Row) (config : Text) (link now : ℕ) (from : Option Underlay) → first_of (codes "config") s ≡ None → AsksRoute s config link now from → ⊥
no_config s config link now from gone asks = let there = asks.config_is in cc

pub no_link : (s : List Row) (config : Text) (link now : ℕ) (from : Option Underlay) → first_of (codes "link") s ≡ None → AsksRoute s config link now from → ⊥
no_link s config link now from gone asks = let there = asks.link_is in cc

pub no_now : (s : List Row) (config : Text) (link now : ℕ) (from : Option Underlay) → first_of (codes "now") s ≡ None → AsksRoute s config link now from → ⊥
no_now s config link now from gone asks = let there = asks.now_is in cc

pub other_link : (s : List Row) (config text : Text) (link now : ℕ) (from : Option Underlay) → first_of (codes "link") s ≡ Some text → ((n : ℕ) → n ≤ 65535 → text ≢ decimal n) → AsksRoute s config link now from → ⊥
other_link s config text link now from there other asks = let wanted = asks.link_is in let same : text ≡ decimal link = cc in other link asks.link_fits same

pub other_now : (s : List Row) (config text : Text) (link now : ℕ) (from : Option Underlay) → first_of (codes "now") s ≡ Some text → ((n : ℕ) → n ≤ 1099511627775 → text ≢ decimal n) → AsksRoute s config link now from → ⊥
other_now s config text link now from there other asks = let wanted = asks.now_is in let same : text ≡ decimal now = cc in other now asks.now_fits same

pub other_from : (s : List Row) (config : Text) (link now : ℕ) (from : Option Underlay) (word : Option Text) → first_of (codes "from") s ≡ word → address_of word ≡ None
    → AsksRoute s config link now from → ⊥
other_from s config link now from word there none asks =
    let wanted = asks.from_is in let no-way : None ≡ Some from = sym (ap address_of there ∙ none) ∙ wanted in absurd cc

-- no options ask to run without a configuration, or to show the counts at what is no address
pub no_run : (s : List Row) (config : Text) (metrics : Option Underlay) → first_of (codes "config") s ≡ None → AsksRun s config metrics → ⊥
no_run s config metrics gone asks = let there = asks.config_is in cc

pub other_metrics : (s : List Row) (config : Text) (metrics : Option Underlay) (word : Option Text) → first_of (codes "metrics") s ≡ word → address_of word ≡ None → AsksRun s config metrics → ⊥
other_metrics s config metrics word there none asks =
    let wanted = asks.metrics_is in let no-way : None ≡ Some metrics = sym (ap address_of there ∙ none) ∙ wanted in absurd cc

pub no_topology : (s : List Row) (asked : ImportAsked) → first_of (codes "topology") s ≡ None → AsksImport s asked → ⊥
no_topology s asked gone asks = let there = asks.topology_is in cc

pub no_router : (s : List Row) (asked : ImportAsked) → first_of (codes "router") s ≡ None → AsksImport s asked → ⊥
no_router s asked gone asks = let there = asks.router_is in cc

pub no_keys : (s : List Row) (asked : ImportAsked) → first_of (codes "keys") s ≡ None → AsksImport s asked → ⊥
no_keys s asked gone asks = let there = asks.keys_is in cc

-- ---- which subcommand was entered

pub entered : (s : Entered) (name : Text) (rows : List Row) → option_map (λ (p : Text × List Row). p.0) s ≡ Some name → option_map (λ (p : Text × List Row). p.1) s ≡ Some rows → s ≡ Some (name, rows)
entered None name rows named read = absurd cc
entered (Some p) name rows named read =
    let first : p.0 ≡ name = cc in
    let second : p.1 ≡ rows = cc in
    ap (λ (n : Text). Some (n, p.1)) first ∙ ap (λ (r : List Row). Some (name, r)) second

pub asks_found : (s : Entered) (e : Text × List Row) (r : Option Subcommand) → s ≡ Some e → IfSome r (λ o. Asks e (asked_of o)) → IfSome r (λ o. AsksOf s (asked_of o))
asks_found s e None same found = tt
asks_found s e (Some o) same found = let P : Entered → Type 0 = λ x. AsksOf x (asked_of o) in subst P (sym same) found

pub route_none : (s : Entered) (rows : List Row) (r : Option Subcommand) → s ≡ Some (codes "route", rows) → IfNone r ((config : Text) (link now : ℕ) (from : Option Underlay) → ¬ AsksRoute rows config link now from)
    → IfNone r ((asked : Asked) → ¬ AsksOf s asked)
route_none s rows (Some o) same none = tt
route_none s rows None same none = λ asked asks. route_asked rows asked none (asks_along s (Some (codes "route", rows)) asked same asks)

pub replay_none : (s : Entered) (rows : List Row) (r : Option Subcommand) → s ≡ Some (codes "replay", rows) → IfNone r ((config : Text) → first_of (codes "config") rows ≢ Some config)
    → IfNone r ((asked : Asked) → ¬ AsksOf s asked)
replay_none s rows (Some o) same none = tt
replay_none s rows None same none = λ asked asks. replay_asked rows asked none (asks_along s (Some (codes "replay", rows)) asked same asks)

pub run_none : (s : Entered) (rows : List Row) (r : Option Subcommand) → s ≡ Some (codes "run", rows) → IfNone r ((config : Text) (metrics : Option Underlay) → ¬ AsksRun rows config metrics)
    → IfNone r ((asked : Asked) → ¬ AsksOf s asked)
run_none s rows (Some o) same none = tt
run_none s rows None same none = λ asked asks. run_asked rows asked none (asks_along s (Some (codes "run", rows)) asked same asks)

pub check_none : (s : Entered) (rows : List Row) (r : Option Subcommand) → s ≡ Some (codes "check", rows) → IfNone r ((config : Text) → first_of (codes "config") rows ≢ Some config)
    → IfNone r ((asked : Asked) → ¬ AsksOf s asked)
check_none s rows (Some o) same none = tt
check_none s rows None same none = λ asked asks. check_asked rows asked none (asks_along s (Some (codes "check", rows)) asked same asks)

pub import_none : (s : Entered) (rows : List Row) (r : Option Subcommand) → s ≡ Some (codes "import", rows) → IfNone r ((values : ImportAsked) → ¬ AsksImport rows values)
    → IfNone r ((asked : Asked) → ¬ AsksOf s asked)
import_none s rows (Some o) same none = tt
import_none s rows None same none = λ asked asks. import_asked_none rows asked none (asks_along s (Some (codes "import", rows)) asked same asks)

pub no_order : (s : Entered) (name : Option Text) → option_map (λ (p : Text × List Row). p.0) s ≡ name → name ≢ Some (codes "route") → name ≢ Some (codes "replay") → name ≢ Some (codes "run")
    → name ≢ Some (codes "check") → name ≢ Some (codes "import") → (asked : Asked) → ¬ AsksOf s asked
no_order None name named route replay run check imports asked asks = absurd asks
no_order (Some p) name named route replay run check imports (Routes config link now from) asks = route (sym named ∙ ap (λ (n : Text). Some n) asks.0)
no_order (Some p) name named route replay run check imports (Replays config) asks = replay (sym named ∙ ap (λ (n : Text). Some n) asks.0)
no_order (Some p) name named route replay run check imports (Runs config metrics) asks = run (sym named ∙ ap (λ (n : Text). Some n) asks.0)
no_order (Some p) name named route replay run check imports (Checks config strict bind) asks = check (sym named ∙ ap (λ (n : Text). Some n) asks.0)
no_order (Some p) name named route replay run check imports (ChecksNet files) asks = absurd asks
no_order (Some p) name named route replay run check imports (Imports values) asks = imports (sym named ∙ ap (λ (n : Text). Some n) asks.0)

-- ---- `check --net`

abbrev Word : Type 0
Word = String Global

abbrev texts_of : List Word → List Text
texts_of words = map (λ (w : Word). string_bytes w) words

abbrev is_net : Text → Text → List Word → Bool
is_net command option files =
    bytes_eq command (codes "check") && bytes_eq option (codes "--net") && not (length files == 0) && list_all (λ (w : Word). is_file (string_bytes w)) files

same_test : (command option : Text) (files : List Word) → is_net command option files ≡ are_net command option (texts_of files)
same_test command option files =
    ap₂ (λ (n : ℕ) (all : Bool). bytes_eq command (codes "check") && bytes_eq option (codes "--net") && not (n == 0) && all)
    (sym (length-map files (λ (w : Word). string_bytes w))) (sym (list_all-map is_file (λ (w : Word). string_bytes w) files))

pub files_taken : (command option : Text) (files : List Word) (b : Bool) → b ≡ is_net command option files → b ≡ true → Some (texts_of files) ≡ files_of command option (texts_of files)
files_taken command option files b test is = sym (ap (λ (t : Bool). if t then Some (texts_of files) else None) (sym (test ∙ same_test command option files) ∙ is))

pub files_left : (command option : Text) (files : List Word) (b : Bool) → b ≡ is_net command option files → b ≡ false → None ≡ files_of command option (texts_of files)
files_left command option files b test is = sym (ap (λ (t : Bool). if t then Some (texts_of files) else None) (sym (test ∙ same_test command option files) ∙ is))

pub net_ordered : (words files : List Text) → Some files ≡ net_files words → Orders words (ChecksNet files)
net_ordered words files is = subst (λ (o : Option (List Text)). OrdersBy o words (ChecksNet files)) is refl

-- what the grammar orders is ordered, where the words name no files so
pub grammar_ordered : {E : Type 0} (r : Result Subcommand E) (words : List Text) → None ≡ net_files words → IfOk r (λ o. OrdersByGrammar words (asked_of o)) → IfOk r (λ o. Orders words (asked_of o))
grammar_ordered (Ok o) words is ordered = subst (λ (files : Option (List Text)). OrdersBy files words (asked_of o)) is ordered
grammar_ordered (Err e) words is ordered = tt

pub by_grammar : (words : List Text) (asked : Asked) → None ≡ net_files words → Orders words asked → OrdersByGrammar words asked
by_grammar words asked is orders = subst (λ (files : Option (List Text)). OrdersBy files words asked) (sym is) orders

pub grammar_refused : {A E : Type 0} (P : E → Type 0) (r : Result A E) (words : List Text) → None ≡ net_files words → IfErr r (λ e. (asked : Asked) → OrdersByGrammar words asked → P e)
    → IfErr r (λ e. (asked : Asked) → Orders words asked → P e)
grammar_refused P (Ok x) words is refused = tt
grammar_refused P (Err e) words is refused = λ asked orders. refused asked (by_grammar words asked is orders)

-- ---- the parse of the words

simple : is_simple router ≡ true
unfolding clap_on_literals
simple = refl

simple_and_free : is_simple_and_free router ≡ true
unfolding clap_on_literals
simple_and_free = refl

-- where the grammar takes the words, a refusal is for want of memory
pub memory_alone : (a : App) (words : List Text) (e : Error) → a ≡ router → fault_of router words ≡ []
    → (is_simple_and_free a ≡ true → HasKind (fault_of a words) e) → kind_of e ≡ OutOfMemory
memory_alone a words e is taken fails =
    let refused = fails (ap is_simple_and_free is ∙ simple_and_free) in
    let none : fault_of a words ≡ [] = ap (λ (b : App). fault_of b words) is ∙ taken in
    let P : List ErrorKind → Type 0 = λ kinds. HasKind kinds e in
    elim (subst P none refused) [ inl memory ↦ memory | inr no_kind ↦ absurd no_kind ]

pub words_taken : (a : App) (words : List Text) → a ≡ router → (is_simple_and_free a ≡ true → fault_of a words ≡ []) → fault_of router words ≡ []
words_taken a words is taken = ap (λ (b : App). fault_of b words) (sym is) ∙ taken (ap is_simple_and_free is ∙ simple_and_free)

pub rows_found : (a : App) (words : List Text) (m : ArgMatches) → a ≡ router → HasMatchesOf a words m → subcommand_rows_of m ≡ subcommand_of router words
rows_found a words m is found = (found (ap is_simple is ∙ simple)).1 ∙ ap (λ (b : App). subcommand_of b words) is

-- a command that is given the name in its usage takes the same words
pub named_alike : (r : Result Command AllocError) (old : Command) (top : App) → app_of old ≡ top
    → IfOk r (λ c. (fields_of c ≡ record (fields_of old) { bin_name = (fields_of c).bin_name }) × IsSomeAnd (fields_of c).bin_name (λ s. s.bytes.items ≡ codes "router"))
    → IfOk r (λ c. app_of c ≡ top)
named_alike (Ok c) old top is named = ap app_of_fields named.0 ∙ is
named_alike (Err e) old top is named = tt

-- an option without a value, as it is read
pub flag_read : (found : Found) (id : Text) (got : Option (Bor Text)) (word : Option Text) → option_map (λ (t : Bor Text). t.now) got ≡ first_value found id
    → option_map (λ (t : Bor Text). t.now) got ≡ word → is_given word ≡ is_given (first_of id (rows_of found))
flag_read found id got word read is = ap is_given (sym (text_read found id got read ∙ is))
