-- A hop field that follows another one over a link was made after it, or before it.
use Rattle.std.proofs.Common.{◌≡◌, ℕ, suc, true, false, List, ◌∷◌, slice_get, Some, None, sym, ap, ◌∙◌, arith}
use Rattle.std.proofs.lemmas.Bool.{ne_eqb}
use Rattle.scion_packet.specs.Path.{InfoField}
use Rattle.process_packet.specs.Chaining.{FollowsOn}
use Rattle.process_packet.specs.PacketState.{PacketState, hop, info, is_along}
use Rattle.net_laws.specs.Configured.{AreNumbered}
use Rattle.net_laws.specs.Net.{Agrees, Net, Router}
use Rattle.net_laws.specs.PathSegments.{PathSegment}
use Rattle.path_authorisation.specs.Beaconed.{AreAllBeaconed, IsAfter, IsMade, LooksAt, NoIdentifierCollides, NoMacIsForged}
use Rattle.path_authorisation.specs.Chained.{AreChained, AreConsecutive, WalksGoAsBeaconed}
use Rattle.path_authorisation.specs.Sendings.{IsOnItsWay, IsOnLongPath, IsSending, IsWalk, Sending, at_entry, at_exit}
use Rattle.path_authorisation.proofs.AcceptedLemmas.{carries_entry, carries_exit, comes_by, follows_on, leaves_by}
use Rattle.path_authorisation.proofs.MacLemmas.{chains_to, is_before, is_next}
use Rattle.path_authorisation.proofs.WalkLemmas.{long_at}

module _ (net : Net) (set : List PathSegment) (agrees : Agrees net) (numbered : AreNumbered net) (beaconed : AreAllBeaconed net set) (first : Sending) (rest : List Sending)
    (is : IsWalk net (first ∷ rest)) (long : IsOnLongPath first) (unforged : NoMacIsForged set (first ∷ rest)) where
  abbrev walk : List Sending
  walk = first ∷ rest

  module _ (i : ℕ) (s t : Sending) (at_s : slice_get walk i ≡ Some s) (at_t : slice_get walk (suc i) ≡ Some t) (none : s.to ≡ None) (more : IsOnItsWay (at_exit s)) where
    here : IsSending net s
    here = is.sent i s at_s

    next : IsSending net t
    next = is.sent (suc i) t at_t

    here_long : IsOnLongPath s
    here_long = long_at net first rest is long i s at_s

    next_long : IsOnLongPath t
    next_long = long_at net first rest is long (suc i) t at_t

    follows : FollowsOn (at_exit s) (at_entry t)
    follows = follows_on net agrees numbered s t here next here_long (is.next i s t at_s at_t) none (ne_eqb _ _ (λ last. absurd (omega arith)))

    exit_made : IsMade set s.here (info (at_exit s)) (hop (at_exit s))
    exit_made = unforged i s (at_exit s) at_s LooksAt.where_it_leaves (carries_exit net s here here_long)

    entry_made : IsMade set t.here (info (at_entry t)) (hop (at_entry t))
    entry_made = unforged (suc i) t (at_entry t) at_t LooksAt.where_it_comes (carries_entry net t next next_long)

    pub along : is_along (at_exit s) ≡ true → AreChained set s.here t.here (at_exit s) (at_entry t)
    along forward =
        let a = exit_made in
        let b = entry_made in
        let same = follows.along forward in
        record {
          from = a;
          to = b;
          identifier = sym (chains_to net a.segment a.number s.router s.here (info (at_exit s)) (hop (at_exit s)) (beaconed a.segment a.beaconed) here.here_is a.entry (carries_exit net s here here_long))
              ∙ sym (ap (λ (f : InfoField). f.segment_id) same) ∙ b.entry.identifier;
          timestamp = sym a.entry.timestamp ∙ sym (ap (λ (f : InfoField). f.timestamp) same) ∙ b.entry.timestamp;
        }

    pub against : is_along (at_exit s) ≡ false → AreChained set t.here s.here (at_entry t) (at_exit s)
    against backward =
        let a = exit_made in
        let b = entry_made in
        let same = follows.against backward in
        record {
          from = b;
          to = a;
          identifier = sym (chains_to net b.segment b.number t.router t.here (info (at_entry t)) (hop (at_entry t)) (beaconed b.segment b.beaconed) next.here_is b.entry (carries_entry net t next next_long))
              ∙ sym (ap (λ (f : InfoField). f.segment_id) same) ∙ a.entry.identifier;
          timestamp = sym b.entry.timestamp ∙ sym (ap (λ (f : InfoField). f.timestamp) same) ∙ a.entry.timestamp;
        }

consecutive : (set : List PathSegment) (x y : Router) (u v : PacketState) → NoIdentifierCollides set → AreChained set x y u v → AreConsecutive set x y u v
consecutive set x y u v apart c =
    let a = c.from in
    let b = c.to in
    let after : IsAfter a.segment b.segment a.number b.number = apart a.segment b.segment a.number b.number a.beaconed b.beaconed c.timestamp a.entry.there b.entry.there c.identifier in
    record {
      segment = b.segment;
      beaconed = b.beaconed;
      number = after.before;
      first = is_before a.segment b.segment a.number b.number c.timestamp after x (info u) (hop u) b.entry.there a.entry;
      second = is_next a.segment b.segment a.number b.number c.timestamp after y (info v) (hop v) b.entry;
    }

pub as_beaconed : WalksGoAsBeaconed
as_beaconed net set s walk agrees numbered beaconed is long unforged = record {
  comes_by = λ i a at outside. comes_by net a (is.sent i a at) (long_at net s walk is long i a at) outside;
  leaves_by = λ i a at none. leaves_by net a (is.sent i a at) (long_at net s walk is long i a at) none;
  along = along net set agrees numbered beaconed s walk is long unforged;
  against = against net set agrees numbered beaconed s walk is long unforged;
  consecutive_along = λ apart i a t at next none more forward.
      consecutive set a.here t.here (at_exit a) (at_entry t) apart (along net set agrees numbered beaconed s walk is long unforged i a t at next none more forward);
  consecutive_against = λ apart i a t at next none more backward.
      consecutive set t.here a.here (at_entry t) (at_exit a) apart (against net set agrees numbered beaconed s walk is long unforged i a t at next none more backward);
}
