use Rattle.std.proofs.Common.{◌≡◌, ◌∙◌, ℕ, List, Some, None, Bor, ap, option_map}
use Rattle.clap.specs.Matches.{found_of}
use Rattle.cli_words.proofs.WordsLemmas.{flag_read}
use Rattle.cli_words.proofs.words.is_given.Goals as goal

pub returns-in-Some : goal.returns-in-Some
returns-in-Some c =
    let there = ap (λ got. option_map (λ (t : Bor (List ℕ)). t.now) got) c.in-Some.is in
    c.eq.ensures ∙ flag_read (found_of c.args.matches.now) c.args.name.now c.get_str.result (Some c.in-Some.word.now) c.get_str.ensures there

pub returns-in-None : goal.returns-in-None
returns-in-None c =
    let there = ap (λ got. option_map (λ (t : Bor (List ℕ)). t.now) got) c.in-None.is in
    flag_read (found_of c.args.matches.now) c.args.name.now c.get_str.result None c.get_str.ensures there
