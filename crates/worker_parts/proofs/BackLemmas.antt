-- A buffer that goes back leaves as many ends.
use Rattle.std.proofs.Common.{◌≡◌, inl, inr, ℕ, ◌<◌, List, [], ◌∷◌, length, slice_index_or, ap, ◌∙◌, arith}
use Rattle.ruled_pipe.specs.declared.entry.Load.TheVariants.{Payload}
use Rattle.ruled_pipe.specs.Producer.{Sender, entry, offered, refused}
use Rattle.worker_laws.proofs.Works.{set_length}
use Rattle.worker_parts.specs.GivingBack.{GaveBack}

pub back_long : (k : ℕ) (b : List ℕ) (old new : List (Sender (List ℕ))) → k < length old → GaveBack k b old new → length new ≡ length old
back_long k b [] new lt g = absurd (omega arith)
back_long k b (s ∷ old) new lt (inl g) = ap length (g s) ∙ set_length (s ∷ old) k (offered (slice_index_or (s ∷ old) k s) (entry (slice_index_or (s ∷ old) k s).number (Payload b)))
back_long k b (s ∷ old) new lt (inr g) = ap length (g s) ∙ set_length (s ∷ old) k (refused (slice_index_or (s ∷ old) k s) (entry (slice_index_or (s ∷ old) k s).number (Payload b)))
