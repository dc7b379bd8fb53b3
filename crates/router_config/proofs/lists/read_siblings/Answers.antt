use Rattle.std.proofs.Common.{◌≡◌, ◌∙◌, ◌+◌, ◌<◌, ◌++◌, ◌∷◌, [], drop, get_or, length, length-append, map, inr, rules, sym, ap}
use Rattle.toml.specs.View.{items_view, view}
use Rattle.process_packet.specs.Neighbours.{is_sibling, link_id}
use Rattle.router_config.specs.Neighbours.{members_from, sibling_of, taken}
use Rattle.router_config.proofs.ListLemmas.{bad_member, distinct_push, last_member, next_member, not_too_many, sibling_push, too_many, whole_push}
use Rattle.router_config.proofs.lists.read_siblings.Goals as goal

pub returns-then-len-gt-MOST_SIBLINGS-clause-value : goal.returns-then-len-gt-MOST_SIBLINGS-clause-value
returns-then-len-gt-MOST_SIBLINGS-clause-value c = inr (too_many 256 (sibling_of (map link_id c.args.links.now)) c.args.members.now.items (search rules))

pub returns-in-Err-clause-value : goal.returns-in-Err-clause-value
returns-in-Err-clause-value c =
    let few = not_too_many 256 (sibling_of (map link_id c.args.links.now)) c.args.members.now.items (search rules) in
    let member = ap (λ v. sibling_of (map link_id c.args.links.now) c.loop-member.siblings.items (view v)) (c.member-item.is ∙ ap (λ vs. get_or vs c.loop-member.member-index c.member-item.result) c.deref-member-items.ensures.value) in
    let read = rw c.as_slice.ensures.value at c.in-Err.ensures.value in
    let here : c.loop-member.member-index < length c.args.members.now.items = search rules in
    inr (few ∙ c.loop-member.invariant.rest
    ∙ bad_member (sibling_of (map link_id c.args.links.now)) c.loop-member.siblings.items c.args.members.now.items c.loop-member.member-index c.in-Err.fault c.member-item.result here (read ∙ member))

pub loop-member-preserved : goal.loop-member-preserved
loop-member-preserved c =
    let member = ap (λ v. sibling_of (map link_id c.args.links.now) c.loop-member.siblings.items (view v)) (c.member-item.is ∙ ap (λ vs. get_or vs c.loop-member.member-index c.member-item.result) c.deref-member-items.ensures.value) in
    let read = rw c.as_slice.ensures.value at c.in-Ok.ensures.value in
    let fresh = rw c.as_slice.ensures.value at c.in-Ok.ensures.fresh in
    let here : c.loop-member.member-index < length c.args.members.now.items = search rules in
    let pushed : c.push.new.self.items ≡ c.loop-member.siblings.items ++ c.in-Ok.sibling ∷ [] = search rules in
    record {
      rest = c.loop-member.invariant.rest ∙ next_member (sibling_of (map link_id c.args.links.now)) c.loop-member.siblings.items c.args.members.now.items c.loop-member.member-index c.in-Ok.sibling c.member-item.result here (read ∙ member)
          ∙ ap (λ found. members_from (sibling_of (map link_id c.args.links.now)) found (items_view (drop (c.loop-member.member-index + 1) c.args.members.now.items))) (sym pushed);
      count = ap length pushed ∙ length-append c.loop-member.siblings.items (c.in-Ok.sibling ∷ []) ∙ ap (λ n. n + 1) c.loop-member.invariant.count;
      whole = rw pushed (whole_push is_sibling c.loop-member.siblings.items c.in-Ok.sibling c.loop-member.invariant.whole c.in-Ok.ensures.whole);
      distinct = rw (pushed, sibling_push c.args.links.now c.loop-member.siblings.items c.in-Ok.sibling) (distinct_push (taken c.args.links.now c.loop-member.siblings.items) c.in-Ok.sibling.id c.loop-member.invariant.distinct fresh);
    }

pub returns-clause-value : goal.returns-clause-value
returns-clause-value c =
    let few = not_too_many 256 (sibling_of (map link_id c.args.links.now)) c.args.members.now.items (search rules) in
    few ∙ c.loop-member.invariant.rest ∙ last_member (sibling_of (map link_id c.args.links.now)) c.loop-member.siblings.items c.args.members.now.items c.loop-member.member-index (search rules)
