use Rattle.std.proofs.Common.{Option, Some, None, ◌≡◌, ◌*◌, ℕ, ap, ◌∙◌, arith}
use Rattle.scion_packet.specs.Fault.{Fault}
use Rattle.scion_packet.specs.Path.{path_fault, path_of}
use Rattle.scion_packet.proofs.Parts.{path_between, path_lies}
use Rattle.scmp_answer.proofs.parsed_packet.ParsedPacket.after_header.Goals as goal

not_both : (o : Option Fault) (f : Fault) → o ≡ None → o ≡ Some f → ⊥
not_both o f none some = cc

pub returns-clause-path : goal.returns-clause-path
returns-clause-path c =
    let bytes = c.args.bytes.now in
    let lies = path_lies bytes _ c.requires.are c.requires.sound c.requires.header in
    let begin = c.front_len-begin.ensures ∙ lies.begin in
    let end = ap (λ (n : ℕ). 4 * n) c.from-payload.ensures ∙ lies.end in
    c.in-Ok.ensures.path ∙ ap path_of (path_between bytes _ _ begin end)

pub returns-clause-inside : goal.returns-clause-inside
returns-clause-inside c =
    let bytes = c.args.bytes.now in
    let lies = path_lies bytes _ c.requires.are c.requires.sound c.requires.header in
    omega (arith, lies.end, lies.inside, c.from-payload.ensures)

pub unreachable-requires : goal.unreachable-requires
unreachable-requires c =
    let bytes = c.args.bytes.now in
    let lies = path_lies bytes _ c.requires.are c.requires.sound c.requires.header in
    let begin = c.front_len-begin.ensures ∙ lies.begin in
    let end = ap (λ (n : ℕ). 4 * n) c.from-payload.ensures ∙ lies.end in
    not_both _ _ (ap path_fault (path_between bytes _ _ begin end) ∙ c.requires.path) c.in_default.ensures.fault
