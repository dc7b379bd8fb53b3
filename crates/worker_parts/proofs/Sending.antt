-- One call of a sink over a list.
use Rattle.std.proofs.Common.{◌≡◌, inl, inr, Bool, true, false, not, refl, sym, ap, subst, ◌∙◌}
use Rattle.worker_parts.specs.Told.{Told}
use Rattle.worker_parts.specs.ListSink.{Kept, Notes, Sends, called, failing, is_among}

same_fails : (kept : Bool) (t : Told) (old new : Kept) → Notes kept t old new → (new.fails ≡ old.fails) × (new.calls ≡ old.calls)
same_fails true t old new (inl n) = (ap (λ k. k.fails) n.1, ap (λ k. k.calls) n.1)
same_fails true t old new (inr n) = (ap (λ k. k.fails) n.2, ap (λ k. k.calls) n.2)
same_fails false t old new n = (ap (λ k. k.fails) n.2, ap (λ k. k.calls) n.2)

not_both : (b : Bool) → b ≡ true → b ≡ false → ⊥
not_both b p q = absurd (let e : true ≡ false = sym p ∙ q in cc)

was_among : (b : Bool) → false ≡ not b → b ≡ true
was_among true e = refl
was_among false e = absurd cc

module _ (kept : Bool) (t : Told) (old asked noted : Kept) (is : asked ≡ called asked.calls old) (notes : Notes kept t asked noted) where
  fails_are : noted.fails ≡ old.fails
  fails_are = (same_fails kept t asked noted notes).0 ∙ ap (λ k. k.fails) is

  calls_are : noted.calls ≡ asked.calls
  calls_are = (same_fails kept t asked noted notes).1

  among_is : is_among noted.calls old.fails ≡ is_among asked.calls old.fails
  among_is = ap (λ n. is_among n old.fails) calls_are

  -- at a call of its list
  pub sends_chosen : (new : Kept) → false ≡ not (is_among asked.calls old.fails) → new ≡ failing noted → Sends false old new
  sends_chosen new among fails =
      subst (λ (k : Kept). Sends false old k) (sym fails)
      (fails_are, λ e. refl, λ e. absurd (not_both (is_among asked.calls old.fails) (was_among (is_among asked.calls old.fails) among) (sym among_is ∙ e)))
