-- The router's rules are lawful.
use Rattle.std.proofs.Common.{◌≡◌, ◌<◌, ℕ, sym, subst, ◌∙◌}
use Rattle.std.proofs.Math.Nat.{mod-lt}
use Rattle.order_laws.specs.Item.{Arrival}
use Rattle.order_laws.specs.Rules.{Replies, Sends}
use Rattle.process_packet.specs.Laws.{NothingElseChanges, OnlyLawfulWays}
use Rattle.process_packet.specs.OneHopLaws.{DecidedByKind, OneHopsEnter, OneHopsKeepTheRest, OneHopsLeave}
use Rattle.process_packet.specs.declared.config.Config.{Config}
use Rattle.process_packet.specs.declared.decision.Problem.{Problem}
use Rattle.router_rules.specs.Datagram.{Parcel}
use Rattle.router_rules.specs.Laws.{AreLawful}
use Rattle.router_rules.specs.Links.{link_count, link_index}
use Rattle.router_rules.specs.Rules.{Arrives, decided, kinds, replied}
use Rattle.router_rules.proofs.DecisionLemmas.{keeps_band, leaves_by_link, refused_is_dropped}
use Rattle.router_rules.proofs.FlowLemmas.{one_flow}
use Rattle.router_rules.proofs.LinkLemmas.{index_within}
use Rattle.router_rules.proofs.ReplyLemmas.{answer_leaves_by}

below : (c : Config) (l k : ℕ) → l ≡ k → k < link_count c → l < link_count c
below c l k same within = subst (λ (n : ℕ). n < link_count c) (sym same) within

sent_within : OnlyLawfulWays → OneHopsLeave → OneHopsEnter → DecidedByKind → (c : Config) (x : Arrival kinds) (l : ℕ) (y : Parcel) → decided c x.datagram ≡ Sends l y → l < link_count c
sent_within only leave enter kind c x l y is =
    let way = leaves_by_link only leave enter kind c x.datagram l y is in
    below c l (link_index c way.0) way.1 (index_within c way.0 way.2)

replied_within : (c : Config) (x : Arrival kinds) (p : Problem) (l : ℕ) (y : Parcel) → Arrives c x → replied c x.datagram p ≡ Replies l y → l < link_count c
replied_within c x p l y arrives is =
    below c l x.link (answer_leaves_by c x.datagram p l y is ∙ arrives.0) arrives.1

pub are_lawful : OnlyLawfulWays → NothingElseChanges → OneHopsLeave → OneHopsEnter → OneHopsKeepTheRest → DecidedByKind → AreLawful
are_lawful only nothing leave enter rest kind c = record {
  processors = λ k. mod-lt _ c.some_processors;
  keys = one_flow;
  faults = λ x why arrives is. refused_is_dropped c x.datagram why is;
  sends = λ x l y arrives is. sent_within only leave enter kind c x l y is;
  replies = λ x p l y arrives asks is. replied_within c x p l y arrives is;
  bands = λ x l y arrives is. keeps_band nothing rest c x.datagram l y is;
}
