-- What stays the same of a processor from its first turn to its last, and what is known at its end.
use Rattle.std.specs.Prelude.{◌≡◌, true, None}
use Rattle.std.proofs.Common.{refl, subst, ◌∙◌}
use Rattle.process_packet.specs.declared.config.Config.{Config}
use Rattle.worker_parts.specs.Outlets.{HaveEnded, are_used}
use Rattle.worker_parts.specs.Same.{AreSameEnds, IsSameEnd, IsSameTaker, end_self, end_then, ends_self, ends_then, taker_self, taker_then}
use Rattle.worker_processor.specs.Working.{Working, IsDone}

-- its configuration and number, its end of its own pipe, and of the pipes into which it offers, and the place of its row in the
-- book; a high band's pipe of a link with one band is never used
pub record IsSameProcessor {G : Type 0} (old new : Working G) : Type 0 where
  pub config : new.side.config ≡ old.side.config
  pub index : new.index ≡ old.index
  pub taker : IsSameTaker old.taker new.taker
  pub slow : IsSameEnd old.slow.sender new.slow.sender
  pub links : AreSameEnds (are_used old.side.config) old.side.links new.side.links
  pub place : new.side.share.place ≡ old.side.share.place

module _ {G : Type 0} where
  pub processor_self : (w : Working G) → IsSameProcessor w w
  processor_self w = record { config = refl; index = refl; taker = taker_self w.taker; slow = end_self w.slow.sender; links = ends_self (are_used w.side.config) w.side.links; place = refl }

  pub processor_then : (a b c : Working G) → IsSameProcessor a b → IsSameProcessor b c → IsSameProcessor a c
  processor_then a b c p q = record {
    config = q.config ∙ p.config;
    index = q.index ∙ p.index;
    taker = taker_then a.taker b.taker c.taker p.taker q.taker;
    slow = end_then a.slow.sender b.slow.sender c.slow.sender p.slow q.slow;
    links = ends_then (are_used a.side.config) a.side.links b.side.links c.side.links p.links (subst (λ (g : Config). AreSameEnds (are_used g) b.side.links c.side.links) p.config q.links);
    place = q.place ∙ p.place;
  }

-- each end mark of its pipe was taken, nothing is in its hand, and all its own are there
pub record ProcessorEnded {G : Type 0} (w : Working G) : Type 0 where
  pub done : IsDone w
  pub hand : w.hand ≡ None
  pub slow : w.slow.ended ≡ true
  pub links : HaveEnded (are_used w.side.config) w.side.links
