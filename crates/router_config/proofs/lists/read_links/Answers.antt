use Rattle.std.proofs.Common.{◌≡◌, ◌∙◌, ◌+◌, ◌<◌, ◌++◌, ◌∷◌, [], drop, get_or, length, length-append, map, inr, rules, sym, ap, arith}
use Rattle.toml.specs.View.{items_view, view}
use Rattle.process_packet.specs.Neighbours.{is_link, link_id}
use Rattle.router_config.specs.Neighbours.{link_after, link_of, link_values, members_from, taken}
use Rattle.router_config.proofs.ListLemmas.{bad_member, distinct_push, last_member, link_beside, link_push, next_member, no_links, not_too_many, some_links, too_many, values_push, whole_push}
use Rattle.router_config.proofs.lists.read_links.Goals as goal

pub returns-then-count-eq0-clause-value : goal.returns-then-count-eq0-clause-value
returns-then-count-eq0-clause-value c = inr (no_links c.args.version c.args.own c.args.members.now.items (search rules))

pub returns-then-count-gt-MOST_LINKS-clause-value : goal.returns-then-count-gt-MOST_LINKS-clause-value
returns-then-count-gt-MOST_LINKS-clause-value c =
    inr (some_links c.args.version c.args.own c.args.members.now.items (search rules) ∙ too_many 32 (link_after c.args.version c.args.own) c.args.members.now.items (search rules))

pub returns-in-Err-clause-value : goal.returns-in-Err-clause-value
returns-in-Err-clause-value c =
    let few = (some_links c.args.version c.args.own c.args.members.now.items (search rules) ∙ not_too_many 32 (link_after c.args.version c.args.own) c.args.members.now.items (let n = c.len-count.ensures in let f = c.if-count-gt-MOST_LINKS.false in omega arith)) in
    let member = ap (λ v. link_of c.args.version c.args.own (map link_id c.loop-member.links.items) (view v)) (c.member-item.is ∙ ap (λ vs. get_or vs c.loop-member.member-index c.member-item.result) c.deref-member-items.ensures.value) in
    let read = rw c.as_slice.ensures.value at c.in-Err.ensures.value in
    let here : c.loop-member.member-index < length c.args.members.now.items = search rules in
    let beside = link_beside c.args.version c.args.own c.loop-member.links.items _ _ (read ∙ member) in
    inr (few ∙ c.loop-member.invariant.rest
    ∙ bad_member (link_after c.args.version c.args.own) (map link_values c.loop-member.links.items) c.args.members.now.items c.loop-member.member-index c.in-Err.fault c.member-item.result here beside)

pub loop-member-preserved : goal.loop-member-preserved
loop-member-preserved c =
    let member = ap (λ v. link_of c.args.version c.args.own (map link_id c.loop-member.links.items) (view v)) (c.member-item.is ∙ ap (λ vs. get_or vs c.loop-member.member-index c.member-item.result) c.deref-member-items.ensures.value) in
    let read = rw c.as_slice.ensures.value at c.in-Ok.ensures.value in
    let fresh = rw c.as_slice.ensures.value at c.in-Ok.ensures.fresh in
    let here : c.loop-member.member-index < length c.args.members.now.items = search rules in
    let beside = link_beside c.args.version c.args.own c.loop-member.links.items _ _ (read ∙ member) in
    let pushed : c.push.new.self.items ≡ c.loop-member.links.items ++ c.in-Ok.link ∷ [] = search rules in
    record {
      rest = c.loop-member.invariant.rest
          ∙ next_member (link_after c.args.version c.args.own) (map link_values c.loop-member.links.items) c.args.members.now.items c.loop-member.member-index (link_values c.in-Ok.link) c.member-item.result here beside
          ∙ ap (λ found. members_from (link_after c.args.version c.args.own) found (items_view (drop (c.loop-member.member-index + 1) c.args.members.now.items)))
          (sym (ap (map link_values) pushed ∙ values_push c.loop-member.links.items c.in-Ok.link));
      count = ap length pushed ∙ length-append c.loop-member.links.items (c.in-Ok.link ∷ []) ∙ ap (λ n. n + 1) c.loop-member.invariant.count;
      whole = rw pushed (whole_push is_link c.loop-member.links.items c.in-Ok.link c.loop-member.invariant.whole c.in-Ok.ensures.whole);
      distinct = rw (pushed, link_push c.loop-member.links.items c.in-Ok.link) (distinct_push (taken c.loop-member.links.items []) c.in-Ok.link.id c.loop-member.invariant.distinct fresh);
    }

pub returns-clause-value : goal.returns-clause-value
returns-clause-value c =
    let few = (some_links c.args.version c.args.own c.args.members.now.items (search rules) ∙ not_too_many 32 (link_after c.args.version c.args.own) c.args.members.now.items (let n = c.len-count.ensures in let f = c.if-count-gt-MOST_LINKS.false in omega arith)) in
    few ∙ c.loop-member.invariant.rest ∙ last_member (link_after c.args.version c.args.own) (map link_values c.loop-member.links.items) c.args.members.now.items c.loop-member.member-index (search rules)
