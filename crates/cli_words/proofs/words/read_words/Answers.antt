use Rattle.std.proofs.Common.{◌≡◌, ◌∙◌, List, Bor, Some, None, ap, map, option_map, string_bytes, sym}
use Rattle.std.specs.Prelude.{String}
use Rattle.std.specs.declared.alloc.Global.{Global}
use Rattle.cli_words.specs.declared.words.WordsFault.TheVariants.{Memory}
use Rattle.cli_words.proofs.WordsLemmas.{grammar_ordered, grammar_refused, net_ordered}
use Rattle.cli_words.proofs.words.read_words.Goals as goal

pub returns-in-Some : goal.returns-in-Some
returns-in-Some c =
    let found = sym (ap (option_map (λ (files : Bor (List (String Global))). map string_bytes files.now)) c.in-Some.is) ∙ c.net_files.ensures in
    record { order = net_ordered (map string_bytes c.args.words.now) (map string_bytes c.in-Some.files.now) found; fault = tt }

pub returns-in-None : goal.returns-in-None
returns-in-None c =
    let none = sym (ap (option_map (λ (files : Bor (List (String Global))). map string_bytes files.now)) c.in-None.is) ∙ c.net_files.ensures in
    record {
      order = grammar_ordered c.read_by_grammar.result (map string_bytes c.args.words.now) none c.read_by_grammar.ensures.order;
      fault = grammar_refused (λ fault. fault ≡ Memory) c.read_by_grammar.result (map string_bytes c.args.words.now) none c.read_by_grammar.ensures.fault;
    }
