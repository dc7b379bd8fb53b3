-- What stays the same of the slow path from its first turn to its last, and what is known at its end.
use Rattle.std.specs.Prelude.{◌≡◌}
use Rattle.std.proofs.Common.{refl, subst, ◌∙◌}
use Rattle.process_packet.specs.declared.config.Config.{Config}
use Rattle.worker_parts.specs.Outlets.{HaveEnded, are_used}
use Rattle.worker_parts.specs.Same.{AreSameEnds, IsSameTaker, ends_self, ends_then, taker_self, taker_then}
use Rattle.worker_processor.specs.Answering.{Answering, IsDone}

-- its configuration, its end of its own pipe, and of the pipes into which it offers, and the place of its row in the book; a high
-- band's pipe of a link with one band is never used
pub record IsSameSlowPath (old new : Answering) : Type 0 where
  pub config : new.side.config ≡ old.side.config
  pub taker : IsSameTaker old.taker new.taker
  pub links : AreSameEnds (are_used old.side.config) old.side.links new.side.links
  pub place : new.side.share.place ≡ old.side.share.place

pub slow_self : (a : Answering) → IsSameSlowPath a a
slow_self a = record { config = refl; taker = taker_self a.taker; links = ends_self (are_used a.side.config) a.side.links; place = refl }

pub slow_then : (a b c : Answering) → IsSameSlowPath a b → IsSameSlowPath b c → IsSameSlowPath a c
slow_then a b c p q = record {
  config = q.config ∙ p.config;
  taker = taker_then a.taker b.taker c.taker p.taker q.taker;
  links = ends_then (are_used a.side.config) a.side.links b.side.links c.side.links p.links (subst (λ (g : Config). AreSameEnds (are_used g) b.side.links c.side.links) p.config q.links);
  place = q.place ∙ p.place;
}

pub record SlowPathEnded (a : Answering) : Type 0 where
  pub done : IsDone a
  pub links : HaveEnded (are_used a.side.config) a.side.links
