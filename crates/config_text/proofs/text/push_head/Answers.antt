use Rattle.config_text.proofs.TextLemmas.{then_more}
use Rattle.config_text.specs.Text.{head_text}
use Rattle.config_text.proofs.text.push_head.Goals as goal

pub returns : goal.returns
unfolding head_text
returns c =
    let isd_as = rw c.as_bytes.ensures.value at c.in_ok-push_text.ensures in
    let told =
    then_more c.args.text.now.items c.extend_from_slice.new.self.items c.push_ports.new.text.items _ _ c.in_ok-extend_from_slice.ensures.items
    (then_more c.extend_from_slice.new.self.items c.push_text.new.text.items c.push_ports.new.text.items _ _ isd_as
    (then_more c.push_text.new.text.items c.push_text-2.new.text.items c.push_ports.new.text.items _ _ c.in_ok-push_text-2.ensures
    (then_more c.push_text-2.new.text.items c.push_address.new.text.items c.push_ports.new.text.items _ _ c.in_ok-push_address.ensures
    (then_more c.push_address.new.text.items c.extend_from_slice-2.new.self.items c.push_ports.new.text.items _ _ c.in_ok-extend_from_slice-2.ensures.items
    c.in_ok-push_ports.ensures)))) in
    told
