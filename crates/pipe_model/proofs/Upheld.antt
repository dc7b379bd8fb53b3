-- What some steps led to keeps what the headline says.
use Rattle.std.proofs.Common.{◌≡◌, inl, inr, Bool, true, false, get_or, refl, sym, subst}
use Rattle.std.proofs.lemmas.Bool.{false≢true}
use Rattle.replay_laws.specs.ByRules.{IsCaused, IsCauseOf, IsRuleCauseOf}
use Rattle.order_laws.specs.Item.{Arrival}
use Rattle.order_laws.specs.Kinds.{Kinds}
use Rattle.order_laws.specs.Rules.{IsLawful, Rules}
use Rattle.replay_laws.specs.Start.{HasArrival, IsLawfulFor}
use Rattle.order_laws.specs.Cause.{Cause}
use Rattle.order_laws.specs.Fate.{Fate}
use Rattle.replay_laws.specs.World.{World}
use Rattle.replay_laws.proofs.ByRules.{keeps_rules}
use Rattle.replay_laws.proofs.Close.{keeps_close}
use Rattle.replay_laws.proofs.Full.{keeps_full_law}
use Rattle.replay_laws.proofs.Once.{keeps_once}
use Rattle.replay_laws.proofs.Order.{keeps_order}
use Rattle.replay_laws.proofs.Place.{keeps_place}
use Rattle.replay_laws.proofs.Sent.{keeps_sent}
use Rattle.replay_laws.proofs.Totals.{keeps_totals}
use Rattle.process_packet.specs.declared.cause.Cause.{Cause as RouterCause}
use Rattle.process_packet.specs.declared.cause.Cause.TheVariants as cause
use Rattle.process_packet.specs.declared.config.Config.{Config}
use Rattle.router_rules.specs.Laws.{AreLawful, CausesAreApart, is_decided, is_withheld}
use Rattle.router_rules.specs.Rules.{Arrives, kinds, rules}
use Rattle.pipe_model.specs.Headline.{IsHeadline, IsReached, IsSaid, IsToldBy, IsWayGood}

-- rules that are lawful for what may arrive are so for what does
pub lawful_for_fewer : {K : Kinds} (R : Rules K) (A B : Arrival K → Type 0) → ((x : Arrival K) → B x → A x) → IsLawful R A → IsLawful R B
lawful_for_fewer R A B f h = record {
  processors = h.processors;
  keys = h.keys;
  faults = λ x c b e. h.faults x c (f x b) e;
  sends = λ x l y b e. h.sends x l y (f x b) e;
  replies = λ x p l y b e r. h.replies x p l y (f x b) e r;
  bands = λ x l y b e. h.bands x l y (f x b) e;
}

pub lawful_there : AreLawful → (c : Config) (w : World kinds) (r : IsReached c w) → IsLawfulFor (rules c) w r.way
lawful_there lawful c w r = lawful_for_fewer (rules c) (Arrives c) (HasArrival r.way.start) r.arrives (lawful c)

pub headline : AreLawful → (c : Config) (w : World kinds) → IsReached c w → IsHeadline c w
headline lawful c w r =
    let h = lawful_there lawful c w r in
    record {
      order = keeps_order kinds (rules c) w r.way h;
      place = keeps_place kinds (rules c) w r.way h;
      once = keeps_once kinds (rules c) w r.way h;
      totals = keeps_totals kinds (rules c) w r.way h;
    }

-- ---- causes

apart : (why : RouterCause) → is_decided why ≡ true → is_withheld why ≡ false
apart cause.Short is = refl
apart cause.Version is = refl
apart cause.PathType is = refl
apart cause.Header is = refl
apart cause.Path is = refl
apart cause.Peering is = refl
apart cause.UnderlaySource is = refl
apart cause.PathEnd is = refl
apart cause.NoAnswer is = absurd (false≢true is)
apart cause.NoWayBack is = absurd (false≢true is)
apart cause.TooLong is = refl
apart cause.ProcessorFull is = absurd (false≢true is)
apart cause.LinkFull is = absurd (false≢true is)
apart cause.AnswerFull is = absurd (false≢true is)
apart cause.NoMemory is = absurd (false≢true is)
apart cause.Closed is = absurd (false≢true is)
apart cause.SendFailed is = absurd (false≢true is)
apart cause.NoBuffer is = absurd (false≢true is)
apart cause.OneHopEnds is = refl
apart cause.OneHopField is = refl
apart cause.OneHopHost is = refl

said : CausesAreApart → (c : Config) (x : Arrival kinds) (why : RouterCause) → IsRuleCauseOf (rules c) x why → IsSaid (is_withheld why) c x why
said causes c x why (inl drops) = subst (λ (b : Bool). IsSaid b c x why) (sym (apart why ((causes c).decision x.datagram why drops))) drops
said causes c x why (inr withheld) = subst (λ (b : Bool). IsSaid b c x why) (sym ((causes c).reply x.datagram withheld.0 why withheld.2)) withheld

told_by : CausesAreApart → (c : Config) (s : World kinds) (f : Fate kinds) → IsCaused (rules c) s f → IsToldBy c s f
told_by causes c s f caused why is =
    let of : IsCauseOf (rules c) s f (Cause.Ruled why) = subst (IsCauseOf (rules c) s f) is caused in
    (of.0, of.1, of.2, of.3, said causes c of.0 why of.4)

pub way_good : AreLawful → CausesAreApart → (c : Config) (w : World kinds) (r : IsReached c w) → IsWayGood c w r
way_good lawful causes c w r =
    let h = lawful_there lawful c w r in
    record {
      made = keeps_rules kinds (rules c) w r.way h;
      causes = λ k d there. told_by causes c r.way.start (get_or w.fates k d) ((keeps_rules kinds (rules c) w r.way h).fates k d there);
      full = keeps_full_law kinds (rules c) w r.way h;
      close = keeps_close kinds (rules c) w r.way h;
      sent = λ l i. keeps_sent kinds (rules c) w r.way h l i;
    }
