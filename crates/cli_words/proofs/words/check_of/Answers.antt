use Rattle.std.proofs.Common.{◌≡◌, Some, None, codes, refl, sym, ◌∙◌}
use Rattle.clap.specs.Matches.{found_of}
use Rattle.clap.specs.Walk.{first_of, rows_of}
use Rattle.cli_words.proofs.WordsLemmas.{text_read}
use Rattle.cli_words.proofs.words.check_of.Goals as goal

pub returns-in-Some-clause-found : goal.returns-in-Some-clause-found
returns-in-Some-clause-found c = (
  refl,
  record {
    config_is = rw c.in-Some.is at (text_read (found_of c.args.check.now) (codes "config") c.get_str.result c.get_str.ensures);
    strict_is = c.is_given-strict.ensures;
    bind_is = c.is_given-bind.ensures;
  },
)

pub returns-in-None-clause-none : goal.returns-in-None-clause-none
returns-in-None-clause-none c = λ config there.
    let gone : first_of (codes "config") (rows_of (found_of c.args.check.now)) ≡ None = rw c.in-None.is at (text_read (found_of c.args.check.now) (codes "config") c.get_str.result c.get_str.ensures) in
    let no-way : None ≡ Some config = sym gone ∙ there in absurd cc
