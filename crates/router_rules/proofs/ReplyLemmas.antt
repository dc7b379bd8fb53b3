-- What becomes of a packet that is to be answered.
use Rattle.std.proofs.Common.{◌≡◌, ◌≢◌, ◌==◌, ℕ, Bool, true, false, if◌then◌else◌, List, Option, Some, None, refl, ap, subst, ◌∙◌}
use Rattle.std.proofs.lemmas.Bool.{cond-false, ne_eqb}
use Rattle.packet_answer.specs.Answer.{answered, bfd_outcome}
use Rattle.order_laws.specs.Rules.{Replies, Withholds}
use Rattle.process_packet.specs.declared.cause.Cause.{Cause}
use Rattle.process_packet.specs.declared.cause.Cause.TheVariants.{NoAnswer, NoWayBack}
use Rattle.process_packet.specs.declared.config.Config.{Config}
use Rattle.process_packet.specs.declared.decision.Problem.{Problem}
use Rattle.process_packet.specs.declared.underlay.Underlay.{Underlay}
use Rattle.scion_packet.specs.Header.{HostAddress}
use Rattle.scion_packet.specs.OneHop.{OneHopPacket, one_hop_spelling}
use Rattle.scion_packet.specs.Packet.{packet_of}
use Rattle.scmp_answer.specs.Outcome.{Leaves, Outcome, Stays, outcome}
use Rattle.scmp_answer.specs.Reply.{Dropped, Reply, Sent, is_left_unanswered, local_address, reply}
use Rattle.scmp_answer.specs.WayBack.{has_no_way_back}
use Rattle.router_rules.specs.Datagram.{Datagram, Parcel}
use Rattle.router_rules.specs.Laws.{is_withheld}
use Rattle.router_rules.specs.Links.{link_index}
use Rattle.router_rules.specs.Rules.{by_outcome, replied}

-- an answer leaves by the link; a drop has a cause of its own
abbrev Goes : ℕ → Outcome → Type 0
Goes link (Leaves out to bytes) = out ≡ link
Goes link (Stays why) = is_withheld why ≡ true

record GoesBack (link : ℕ) (o : Outcome) : Type 0 where
  is : Goes link o

withheld : (link : ℕ) (why : Cause) → is_withheld why ≡ true → GoesBack link (Stays why)
withheld link why h = record { is = h }

returned : (link : ℕ) (to : Option Underlay) (bytes : List ℕ) → GoesBack link (Leaves link to bytes)
returned link to bytes = record { is = refl }

-- ---- by SCMP

either : (link : ℕ) (b : Bool) (r s : Reply) → GoesBack link (outcome r) → GoesBack link (outcome s) → GoesBack link (outcome (if b then r else s))
either link true r s h k = h
either link false r s h k = k

by_scmp : (here : HostAddress) (link : ℕ) (source : Underlay) (bytes : List ℕ) (problem : Problem) → GoesBack link (outcome (reply here link source bytes problem))
unfolding reply
by_scmp here link source bytes problem =
    either link (is_left_unanswered (packet_of bytes) problem) _ _ (withheld link NoAnswer refl)
    (either link (has_no_way_back link (packet_of bytes).path) _ _ (withheld link NoWayBack refl) (returned link _ _))

-- ---- by BFD

by_bfd : (link : ℕ) (o : Option OneHopPacket) → GoesBack link (bfd_outcome link o)
by_bfd link None = withheld link NoAnswer refl
by_bfd link (Some p) = returned link None (one_hop_spelling p)

either_way : (link : ℕ) (b : Bool) (o p : Outcome) → GoesBack link o → GoesBack link p → GoesBack link (if b then o else p)
either_way link true o p h k = h
either_way link false o p h k = k

goes_back : (c : Config) (link : ℕ) (source : Underlay) (now : ℕ) (bytes : List ℕ) (problem : Problem) → GoesBack link (answered c link source now bytes problem)
unfolding answered
goes_back c link source now bytes problem = either_way link _ _ _ (by_bfd link _) (by_scmp (local_address c) link source bytes problem)

pub scmp_answers : (c : Config) (link : ℕ) (source : Underlay) (now : ℕ) (bytes : List ℕ) (problem : Problem) → problem.kind ≢ 203
    → answered c link source now bytes problem ≡ outcome (reply (local_address c) link source bytes problem)
unfolding answered
scmp_answers c link source now bytes problem other = cond-false (problem.kind == 203) _ _ (ne_eqb problem.kind 203 other)

-- ---- as the rules see it

left_by : (c : Config) (link : ℕ) (o : Outcome) (l : ℕ) (y : Parcel) → GoesBack link o → by_outcome c link o ≡ Replies l y → l ≡ link_index c link
left_by c link (Leaves out to bytes) l y back is = let e : l ≡ link_index c out = cc in e ∙ ap (link_index c) back.is
left_by c link (Stays why) l y back is = absurd cc

ruled_by : (c : Config) (link : ℕ) (o : Outcome) (why : Cause) → GoesBack link o → by_outcome c link o ≡ Withholds why → is_withheld why ≡ true
ruled_by c link (Leaves out to bytes) why back is = absurd cc
ruled_by c link (Stays other) why back is = let e : other ≡ why = cc in subst (λ (x : Cause). is_withheld x ≡ true) e back.is

pub answer_leaves_by : (c : Config) (d : Datagram) (problem : Problem) (l : ℕ) (y : Parcel) → replied c d problem ≡ Replies l y → l ≡ link_index c d.interface
answer_leaves_by c d problem l y is = left_by c d.interface _ l y (goes_back c d.interface d.source _ d.bytes problem) is

pub reply_withholds : (c : Config) (d : Datagram) (problem : Problem) (why : Cause) → replied c d problem ≡ Withholds why → is_withheld why ≡ true
reply_withholds c d problem why is = ruled_by c d.interface _ why (goes_back c d.interface d.source _ d.bytes problem) is
