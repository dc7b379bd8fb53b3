use Rattle.std.proofs.Common.{[], ◌∷◌, false, arith}
use Rattle.std.specs.Fmt.{digits}
use Rattle.text_values.proofs.ShownLemmas.{added, four_digits, one_digit, three_digits, two_digits}
use Rattle.text_values.proofs.shown.push_group.Goals as goal

pub returns-then-group-lt16 : goal.returns-then-group-lt16
returns-then-group-lt16 c =
    added c.extend_from_slice.result c.args.text.now.items c.extend_from_slice.new.self.items (c.hex_digit-last.result ∷ []) (digits 16 false c.args.group) c.extend_from_slice.ensures.items
    (rw (c.hex_digit-last.ensures) (one_digit c.args.group c.if-group-lt16.true))

pub returns-then-group-lt256 : goal.returns-then-group-lt256
returns-then-group-lt256 c =
    added c.extend_from_slice-then-group-lt256.result c.args.text.now.items c.extend_from_slice-then-group-lt256.new.self.items (c.hex_digit-third.result ∷ c.hex_digit-last.result ∷ []) (digits 16 false c.args.group) c.extend_from_slice-then-group-lt256.ensures.items
    (rw (c.hex_digit-third.ensures, c.hex_digit-last.ensures) (two_digits c.args.group c.if-group-lt16.false c.if-group-lt256.true))

pub returns-then-group-lt4096 : goal.returns-then-group-lt4096
returns-then-group-lt4096 c =
    added c.extend_from_slice-then-group-lt4096.result c.args.text.now.items c.extend_from_slice-then-group-lt4096.new.self.items (c.hex_digit-second.result ∷ c.hex_digit-third.result ∷ c.hex_digit-last.result ∷ []) (digits 16 false c.args.group) c.extend_from_slice-then-group-lt4096.ensures.items
    (rw (c.hex_digit-second.ensures, c.hex_digit-third.ensures, c.hex_digit-last.ensures) (three_digits c.args.group c.if-group-lt256.false c.if-group-lt4096.true))

pub returns-else-group-lt4096 : goal.returns-else-group-lt4096
returns-else-group-lt4096 c =
    added c.extend_from_slice-else-group-lt4096.result c.args.text.now.items c.extend_from_slice-else-group-lt4096.new.self.items (c.hex_digit-first.result ∷ c.hex_digit-second.result ∷ c.hex_digit-third.result ∷ c.hex_digit-last.result ∷ []) (digits 16 false c.args.group) c.extend_from_slice-else-group-lt4096.ensures.items
    (rw (c.hex_digit-first.ensures, c.hex_digit-second.ensures, c.hex_digit-third.ensures, c.hex_digit-last.ensures) (four_digits c.args.group c.if-group-lt4096.false (omega arith)))
