use Rattle.std.proofs.Common.{◌≡◌, ◌||◌, ℕ, Bool, true, false, refl, sym, ap, ap₂, ◌∙◌}
use Rattle.hop_check.specs.Expiry as expiry
use Rattle.scion_packet.specs.Path.{HopField, InfoField}
use Rattle.process_packet.specs.declared.cause.Cause.TheVariants as cause
use Rattle.process_packet.specs.OneHopRows as row
use Rattle.process_packet.specs.OneHopRows.{dropped_where}
use Rattle.process_packet.specs.OneHopState.{OneHopState, first, info, is_ahead, is_expired}
use Rattle.process_packet.proofs.one_hop_view.OneHopView.wrong_time.Goals as goal
use Rattle.process_packet.proofs.one_hop_view.OneHopView.wrong_time.Goals.{then-expired-via-then-expired, then-expired-via-else-expired+then-is_ahead}

-- the row, by both of its tests
by_tests : (s : OneHopState) (i : InfoField) (hop : HopField) (moment : ℕ) (over ahead : Bool) → i ≡ info s → hop ≡ first s → moment ≡ s.moment
    → expiry.is_expired i hop moment ≡ over → is_ahead s ≡ ahead → row.wrong_time s ≡ dropped_where (over || ahead) cause.OneHopField
by_tests s i hop moment over ahead info-is hop-is moment-is is-over is-ahead =
    let same : is_expired s ≡ expiry.is_expired i hop moment =
    sym (ap₂ (λ (j : InfoField) (h : HopField). expiry.is_expired j h moment) info-is hop-is ∙ ap (λ (m : ℕ). expiry.is_expired (info s) (first s) m) moment-is) in
    ap₂ (λ (a b : Bool). dropped_where (a || b) cause.OneHopField) (same ∙ is-over) is-ahead

pub returns-then-expired : goal.returns-then-expired
returns-then-expired c bytes s shows =
    let v = c.args.self.now in
    elim c.then-expired.branch [
      | then-expired-via-then-expired w ↦
          by_tests s _ _ v.moment true (is_ahead s) shows.info shows.first shows.moment (sym c.expired.ensures ∙ w.if-expired.true) refl
      | then-expired-via-else-expired+then-is_ahead w ↦
          by_tests s _ _ v.moment false true shows.info shows.first shows.moment (sym c.expired.ensures ∙ w.if-expired.false)
          (sym (w.is_ahead.ensures bytes s shows) ∙ w.if-is_ahead.true)
    ]

pub returns : goal.returns
returns c bytes s shows =
    by_tests s _ _ c.args.self.now.moment false false shows.info shows.first shows.moment (sym c.expired.ensures ∙ c.if-expired.false)
    (sym (c.is_ahead.ensures bytes s shows) ∙ c.if-is_ahead.false)
