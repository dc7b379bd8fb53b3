use Rattle.config_text.proofs.TextLemmas.{then_more}
use Rattle.config_text.specs.Members.{sibling_text}
use Rattle.config_text.proofs.members.push_sibling.Goals as goal

pub returns : goal.returns
unfolding sibling_text
returns c =
    let kind = rw c.kind_word.ensures at c.in_ok-push_text.ensures in
    let told =
    then_more c.args.text.now.items c.extend_from_slice.new.self.items c.push_address.new.text.items _ _ c.in_ok-extend_from_slice.ensures.items
    (then_more c.extend_from_slice.new.self.items c.push_number.new.text.items c.push_address.new.text.items _ _ c.in_ok-push_number.ensures
    (then_more c.push_number.new.text.items c.push_text.new.text.items c.push_address.new.text.items _ _ kind
    c.in_ok-push_address.ensures)) in
    told
