use Rattle.std.proofs.Common.{map, sym, string_bytes}
use Rattle.cli_words.proofs.WordsLemmas.{asks_along, memory_alone, rows_found, words_taken}
use Rattle.cli_words.proofs.words.parse.Goals as goal

pub returns-in-Err-clause-fault : goal.returns-in-Err-clause-fault
returns-in-Err-clause-fault c = λ asked orders.
    c.fault_of.ensures.memory (memory_alone _ _ c.in-Err.error c.requires orders.taken c.in-Err.ensures.kinds)

pub returns-in-Some-clause-order : goal.returns-in-Some-clause-order
returns-in-Some-clause-order c =
    let rows = rows_found _ (map string_bytes c.args.words.now) c.in-Ok.matches c.requires c.in-Ok.ensures.ok.2 in
    record {
      taken = words_taken _ (map string_bytes c.args.words.now) c.requires c.in-Ok.ensures.kinds;
      asks = asks_along _ _ _ rows c.in-Some.ensures.found;
    }

pub returns-clause-fault : goal.returns-clause-fault
returns-clause-fault c = λ asked orders.
    let rows = rows_found _ (map string_bytes c.args.words.now) c.in-Ok.matches c.requires c.in-Ok.ensures.ok.2 in
    absurd (c.in-None.ensures.none asked (asks_along _ _ _ (sym rows) orders.asks))
