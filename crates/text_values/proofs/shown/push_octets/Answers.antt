use Rattle.text_values.specs.Shown.{dotted, octet, octets_text}
use Rattle.text_values.proofs.ShownLemmas.{four_added}
use Rattle.text_values.proofs.shown.push_octets.Goals as goal

pub returns : goal.returns
unfolding octets_text
returns c =
    four_added c.push_dotted-3.result c.args.text.now.items c.push_decimal.new.text.items c.push_dotted.new.text.items c.push_dotted-2.new.text.items c.push_dotted-3.new.text.items
    (octet c.args.octets.now 0) (dotted c.args.octets.now 1) (dotted c.args.octets.now 2) (dotted c.args.octets.now 3)
    c.in_ok-push_decimal.ensures c.in_ok-push_dotted.ensures c.in_ok-push_dotted-2.ensures c.push_dotted-3.ensures
