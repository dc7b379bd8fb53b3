-- What becomes of a page that is shown again and again.
use Rattle.std.specs.Prelude.{◌≡◌}
use Rattle.std.proofs.Common.{refl, ◌∙◌, le_refl, le_trans}
use Rattle.packet_ledger.specs.Amounts.{count_at}
use Rattle.packet_ledger.specs.Shown.{HasGrown, Shown as Look}
use Rattle.counts_page.specs.CountsPage.{Shown}

-- no count of the look that it shows is less than it was, and its version and start are as they were
pub record Becomes (old new : Shown) : Type 0 where
  pub grown : HasGrown old.look new.look
  pub version : new.version ≡ old.version
  pub start : new.start ≡ old.start

grown_self : (l : Look) → HasGrown l l
grown_self l = (λ i. le_refl _, record { inputs = λ k. le_refl _; outputs = λ k. le_refl _ })

grown_then : (a b c : Look) → HasGrown a b → HasGrown b c → HasGrown a c
grown_then a b c p q =
    (λ i. le_trans (p.0 i) (q.0 i), record { inputs = λ k. le_trans (p.1.inputs k) (q.1.inputs k); outputs = λ k. le_trans (p.1.outputs k) (q.1.outputs k) })

pub becomes_self : (p : Shown) → Becomes p p
becomes_self p = record { grown = grown_self p.look; version = refl; start = refl }

pub becomes_then : (a b c : Shown) → Becomes a b → Becomes b c → Becomes a c
becomes_then a b c p q = record { grown = grown_then a.look b.look c.look p.grown q.grown; version = q.version ∙ p.version; start = q.start ∙ p.start }
