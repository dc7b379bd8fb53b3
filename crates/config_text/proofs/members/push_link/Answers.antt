use Rattle.config_text.proofs.TextLemmas.{then_more}
use Rattle.config_text.specs.Members.{link_text}
use Rattle.config_text.proofs.members.push_link.Goals as goal

pub returns : goal.returns
unfolding link_text
returns c =
    let kind = rw c.kind_word.ensures at c.in_ok-push_text.ensures in
    let neighbor = rw c.as_bytes.ensures.value at c.in_ok-push_text-2.ensures in
    let told =
    then_more c.args.text.now.items c.extend_from_slice.new.self.items c.push_bfd.new.text.items _ _ c.in_ok-extend_from_slice.ensures.items
    (then_more c.extend_from_slice.new.self.items c.push_number.new.text.items c.push_bfd.new.text.items _ _ c.in_ok-push_number.ensures
    (then_more c.push_number.new.text.items c.push_text.new.text.items c.push_bfd.new.text.items _ _ kind
    (then_more c.push_text.new.text.items c.push_address.new.text.items c.push_bfd.new.text.items _ _ c.in_ok-push_address.ensures
    (then_more c.push_address.new.text.items c.push_address-2.new.text.items c.push_bfd.new.text.items _ _ c.in_ok-push_address-2.ensures
    (then_more c.push_address-2.new.text.items c.extend_from_slice-2.new.self.items c.push_bfd.new.text.items _ _ c.in_ok-extend_from_slice-2.ensures.items
    (then_more c.extend_from_slice-2.new.self.items c.push_text-2.new.text.items c.push_bfd.new.text.items _ _ neighbor
    c.in_ok-push_bfd.ensures)))))) in
    told
