-- Offers to the links' pipes.
use Rattle.std.proofs.Common.{◌≡◌, inr, ℕ, ◌+◌, ◌*◌, ◌<◌, Bool, true, false, cond, ◌&&◌, List, ap, subst, ◌∙◌, arith}
use Rattle.packet_ledger.specs.Share.{Held, counting, with_fate}
use Rattle.order_laws.specs.Item.{Outgoing}
use Rattle.process_packet.specs.declared.cause.Cause.TheVariants as cause
use Rattle.process_packet.specs.declared.config.Config.{Config}
use Rattle.router_rules.specs.Links.{has_two_bands, link_count}
use Rattle.router_rules.specs.Rules.{is_urgent, kinds}
use Rattle.ruled_pipe.specs.Producer.{Sender}
use Rattle.worker_parts.specs.Outlet.{Offering}
use Rattle.worker_parts.specs.Outlets.{KeptAt}
use Rattle.worker_parts.specs.GivingBack.{GaveBack}
use Rattle.worker_processor.specs.Exits.{SentAs, pipe_for}

two_below : (l n : ℕ) (b : Bool) → l < n → 2 * l + cond b 1 0 < 2 * n
two_below l n true lt = omega arith
two_below l n false lt = omega arith

pub pipe_below : (c : Config) (o : Outgoing kinds) (at long : ℕ) → o.link < link_count c → at ≡ pipe_for c o → long ≡ 2 * link_count c → at < long
pipe_below c o at long lt is all = let b = two_below o.link (link_count c) (has_two_bands c o.link && is_urgent o.parcel.bytes) lt in omega arith

-- what was refused is dropped
pub sent_not : (c : Config) (links after : List (Offering (Outgoing kinds))) (free back : List (Sender (List ℕ))) (share counted : Held) (o p : Outgoing kinds) (at link : ℕ) → at ≡ pipe_for c o → KeptAt at o links after → p ≡ o → link ≡ p.arrived → (b : List ℕ) → GaveBack link b free back
    → counted ≡ counting share (with_fate cause.LinkFull share.counts)
    → SentAs o (record { config = c; links = links; free = free; share = share }) (record { config = c; links = after; free = back; share = counted })
sent_not c links after free back share counted o p at link is kept same arrived b gave counts =
    inr (
      subst (λ (k : ℕ). KeptAt k o links after) is kept,
      ((b, subst (λ (k : ℕ). GaveBack k b free back) (arrived ∙ ap (λ (q : Outgoing kinds). q.arrived) same) gave), ap (λ (s : Held). record { config = c; links = after; free = back; share = s }) counts),
    )
