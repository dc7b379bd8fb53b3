-- What stays the same of a receiver from its first turn to its last, and what is known at its end.
use Rattle.std.specs.Prelude.{◌≡◌, true}
use Rattle.std.proofs.Common.{refl, ◌∙◌}
use Rattle.worker_parts.specs.Outlets.{HaveEnded}
use Rattle.worker_parts.specs.Same.{AreSameEnds, ends_self, ends_then}
use Rattle.worker_receiver.specs.Receiving.{Receiving}

-- its configuration and link, its source, its ends of the processors' pipes, and the place of its row in the book
pub record IsSameReceiver {S : Type 0} (same : S → S → Type 0) (old new : Receiving S) : Type 0 where
  pub config : new.side.config ≡ old.side.config
  pub link : new.side.link ≡ old.side.link
  pub interface : new.side.interface ≡ old.side.interface
  pub source : same old.source new.source
  pub processors : AreSameEnds (λ j. true) old.side.processors new.side.processors
  pub place : new.side.share.place ≡ old.side.share.place

module _ {S : Type 0} (same : S → S → Type 0) where
  pub receiver_self : ((s : S) → same s s) → (r : Receiving S) → IsSameReceiver same r r
  receiver_self itself r = record { config = refl; link = refl; interface = refl; source = itself r.source; processors = ends_self (λ j. true) r.side.processors; place = refl }

  pub receiver_then : ((x y z : S) → same x y → same y z → same x z) → (a b c : Receiving S) → IsSameReceiver same a b → IsSameReceiver same b c → IsSameReceiver same a c
  receiver_then further a b c p q = record {
    config = q.config ∙ p.config;
    link = q.link ∙ p.link;
    interface = q.interface ∙ p.interface;
    source = further a.source b.source c.source p.source q.source;
    processors = ends_then (λ j. true) a.side.processors b.side.processors c.side.processors p.processors q.processors;
    place = q.place ∙ p.place;
  }

-- all its end marks are there
pub record ReceiverEnded {S : Type 0} (r : Receiving S) : Type 0 where
  pub ended : r.ended ≡ true
  pub processors : HaveEnded (λ j. true) r.side.processors
