use Rattle.config_text.proofs.TextLemmas.{then_more}
use Rattle.config_text.proofs.text.push_ports.Goals as goal

pub returns : goal.returns
returns c =
    let told =
    then_more c.args.text.now.items c.extend_from_slice.new.self.items c.extend_from_slice-3.new.self.items _ _ c.in_ok-extend_from_slice.ensures.items
    (then_more c.extend_from_slice.new.self.items c.push_decimal.new.text.items c.extend_from_slice-3.new.self.items _ _ c.in_ok-push_decimal.ensures
    (then_more c.push_decimal.new.text.items c.extend_from_slice-2.new.self.items c.extend_from_slice-3.new.self.items _ _ c.in_ok-extend_from_slice-2.ensures.items
    (then_more c.extend_from_slice-2.new.self.items c.push_decimal-2.new.text.items c.extend_from_slice-3.new.self.items _ _ c.in_ok-push_decimal-2.ensures
    c.in_ok-extend_from_slice-3.ensures.items))) in
    rw c.in-Some.is told
