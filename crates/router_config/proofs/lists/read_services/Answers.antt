use Rattle.std.proofs.Common.{◌≡◌, ◌∙◌, ◌+◌, ◌<◌, ◌++◌, ◌∷◌, [], drop, get_or, length, length-append, map, inr, rules, sym, ap}
use Rattle.toml.specs.View.{items_view, view}
use Rattle.process_packet.specs.Neighbours.{is_service, service_number}
use Rattle.router_config.specs.Neighbours.{members_from, service_of}
use Rattle.router_config.proofs.ListLemmas.{bad_member, distinct_push, last_member, next_member, not_too_many, number_push, too_many, whole_push}
use Rattle.router_config.proofs.lists.read_services.Goals as goal

pub returns-then-len-gt-MOST_SERVICES-clause-value : goal.returns-then-len-gt-MOST_SERVICES-clause-value
returns-then-len-gt-MOST_SERVICES-clause-value c = inr (too_many 64 service_of c.args.members.now.items (search rules))

pub returns-in-Err-clause-value : goal.returns-in-Err-clause-value
returns-in-Err-clause-value c =
    let few = not_too_many 64 service_of c.args.members.now.items (search rules) in
    let member = ap (λ v. service_of c.loop-member.services.items (view v)) (c.member-item.is ∙ ap (λ vs. get_or vs c.loop-member.member-index c.member-item.result) c.deref-member-items.ensures.value) in
    let read = rw c.as_slice.ensures.value at c.in-Err.ensures.value in
    let here : c.loop-member.member-index < length c.args.members.now.items = search rules in
    inr (few ∙ c.loop-member.invariant.rest
    ∙ bad_member (service_of) c.loop-member.services.items c.args.members.now.items c.loop-member.member-index c.in-Err.fault c.member-item.result here (read ∙ member))

pub loop-member-preserved : goal.loop-member-preserved
loop-member-preserved c =
    let member = ap (λ v. service_of c.loop-member.services.items (view v)) (c.member-item.is ∙ ap (λ vs. get_or vs c.loop-member.member-index c.member-item.result) c.deref-member-items.ensures.value) in
    let read = rw c.as_slice.ensures.value at c.in-Ok.ensures.value in
    let fresh = rw c.as_slice.ensures.value at c.in-Ok.ensures.fresh in
    let here : c.loop-member.member-index < length c.args.members.now.items = search rules in
    let pushed : c.push.new.self.items ≡ c.loop-member.services.items ++ c.in-Ok.service ∷ [] = search rules in
    record {
      rest = c.loop-member.invariant.rest ∙ next_member (service_of) c.loop-member.services.items c.args.members.now.items c.loop-member.member-index c.in-Ok.service c.member-item.result here (read ∙ member)
          ∙ ap (λ found. members_from (service_of) found (items_view (drop (c.loop-member.member-index + 1) c.args.members.now.items))) (sym pushed);
      count = ap length pushed ∙ length-append c.loop-member.services.items (c.in-Ok.service ∷ []) ∙ ap (λ n. n + 1) c.loop-member.invariant.count;
      whole = rw pushed (whole_push is_service c.loop-member.services.items c.in-Ok.service c.loop-member.invariant.whole c.in-Ok.ensures.whole);
      distinct = rw (pushed, number_push service_number c.loop-member.services.items c.in-Ok.service) (distinct_push (map service_number c.loop-member.services.items) c.in-Ok.service.number c.loop-member.invariant.distinct fresh);
    }

pub returns-clause-value : goal.returns-clause-value
returns-clause-value c =
    let few = not_too_many 64 service_of c.args.members.now.items (search rules) in
    few ∙ c.loop-member.invariant.rest ∙ last_member (service_of) c.loop-member.services.items c.args.members.now.items c.loop-member.member-index (search rules)
