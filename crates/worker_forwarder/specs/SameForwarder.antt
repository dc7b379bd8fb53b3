-- What stays the same of a forwarder from its first turn to its last.
use Rattle.std.specs.Prelude.{◌≡◌, ℕ, false}
use Rattle.std.proofs.Common.{refl, ap, ◌∙◌}
use Rattle.process_packet.specs.declared.config.Config.{Config}
use Rattle.router_rules.specs.Links.{has_two_bands}
use Rattle.worker_parts.specs.Same.{IsSameTaker, taker_self, taker_then}
use Rattle.worker_forwarder.specs.Forwarding.{Forwarding, is_two}

-- its configuration and link, its sink, its ends of its pipes, how often its sink had failed when it began, and the place of its row
-- in the book; of a link with one band the high band's pipe is as it was
pub record IsSameForwarder {K : Type 0} (same : K → K → Type 0) (old new : Forwarding K) : Type 0 where
  pub config : new.side.config ≡ old.side.config
  pub link : new.link ≡ old.link
  pub sink : same old.side.sink new.side.sink
  pub began : new.began ≡ old.began
  pub low : IsSameTaker old.low.taker new.low.taker
  pub high : IsSameTaker old.high.taker new.high.taker
  pub unused : is_two old ≡ false → new.high ≡ old.high
  pub place : new.side.share.place ≡ old.side.share.place

module _ {K : Type 0} (same : K → K → Type 0) where
  pub forwarder_self : ((k : K) → same k k) → (f : Forwarding K) → IsSameForwarder same f f
  forwarder_self itself f = record { config = refl; link = refl; sink = itself f.side.sink; began = refl; low = taker_self f.low.taker; high = taker_self f.high.taker; unused = λ e. refl; place = refl }

  pub forwarder_then : ((x y z : K) → same x y → same y z → same x z) → (a b c : Forwarding K) → IsSameForwarder same a b → IsSameForwarder same b c → IsSameForwarder same a c
  forwarder_then further a b c p q = record {
    config = q.config ∙ p.config;
    link = q.link ∙ p.link;
    sink = further a.side.sink b.side.sink c.side.sink p.sink q.sink;
    began = q.began ∙ p.began;
    low = taker_then a.low.taker b.low.taker c.low.taker p.low q.low;
    high = taker_then a.high.taker b.high.taker c.high.taker p.high q.high;
    unused = λ e. q.unused (ap (λ (g : Config). has_two_bands g b.link) p.config ∙ ap (λ (l : ℕ). has_two_bands a.side.config l) p.link ∙ e) ∙ p.unused e;
    place = q.place ∙ p.place;
  }
