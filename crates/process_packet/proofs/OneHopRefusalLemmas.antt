-- Reason by reason, for which cause a packet on a path of one hop is dropped.
use Rattle.std.proofs.Common.{◌≡◌, ◌≢◌, ◌≤◌, ℕ, Bool, false, not, List, ◌∷◌, drop, length, Option, Some, None, refl, ap, ◌∙◌, arith, if◌then◌else◌}
use Rattle.scion_packet.specs.Header.{header_fault_as, one_hop_path}
use Rattle.scion_packet.proofs.OneHopLaws.{one_hop_both_pass}
use Rattle.process_packet.specs.declared.cause.Cause.{Cause}
use Rattle.process_packet.specs.declared.cause.Cause.TheVariants as cause
use Rattle.process_packet.specs.declared.underlay.Underlay.{Underlay}
use Rattle.process_packet.specs.Conditions.{AsksByBfd}
use Rattle.process_packet.specs.HostPort.{host_port_of}
use Rattle.process_packet.specs.LinkControl.{control_answer, is_answered}
use Rattle.process_packet.specs.OneHopRefusals.{HasItsExit, IsBetweenItsEnds, IsForAHost, IsForItsNeighbor, IsFromItsRouter, IsFromThisAs, IsOneHopRefusedSo, IsRead, IsRefusedFromInside, IsRefusedFromOutside, IsTimelyFromInside, IsTimelyFromOutside, IsWhole, OneHopsAreRefusedSo}
use Rattle.process_packet.specs.OneHopRows as row
use Rattle.process_packet.specs.OneHopRows.{Answered, Dropped, OneHopRow, OneHopVerdict, Sent, controlled, delivered, faulty}
use Rattle.process_packet.specs.OneHopState.{OneHopState, chained, completed, exit, is_external, one_hop_arrives}
use Rattle.process_packet.specs.OneHopTable.{one_hop_ends_as, one_hop_table, one_hop_verdict, tried}
use Rattle.process_packet.specs.Rows.{cause_of}
use Rattle.process_packet.proofs.ConditionLemmas.{refuted}
use Rattle.process_packet.proofs.HostLemmas.{unreached}
use Rattle.process_packet.proofs.OneHopConditionLemmas.{asks_by_bfd}
use Rattle.process_packet.proofs.OneHopLemmas.{one_ends, one_passed}
use Rattle.process_packet.proofs.OneHopTestLemmas.{drops, ends, ends_asked_inside, ends_asked_outside, exit_asked, far_end_asked, has_other_ends, has_other_exit, has_other_mac, has_other_time, host_asked, inside, is_for_other, is_from_other, is_link_control, is_not_whole, is_too_long, lets, lets_other, mac_asked, outside, router_asked, short_asked, time_asked, whole_asked}
use Rattle.process_packet.proofs.RefusalLemmas.{caused}

abbrev pub rest : ℕ → List OneHopRow
rest k = drop k one_hop_table

module _ (s : OneHopState) where
  abbrev pub Reaches : ℕ → Type 0
  Reaches k = tried s one_hop_table ≡ tried s (rest k)

  abbrev ended : OneHopVerdict
  ended = one_hop_ends_as (tried s one_hop_table)

  -- the row that it reached drops it
  dropped : (r : OneHopRow) (rows : List OneHopRow) (why : Cause) → tried s one_hop_table ≡ tried s (r ∷ rows) → r s ≡ Some (Dropped why) → ended ≡ Dropped why
  dropped r rows why reached drop = ap one_hop_ends_as (reached ∙ one_ends s r rows (Dropped why) drop)

  -- ---- the datagram

  fits : length s.bytes ≤ 9216 → Reaches 1
  fits short = one_passed s row.too_long (rest 1) (lets (is_too_long s) _ (short_asked s) short)

  headed : length s.bytes ≤ 9216 → header_fault_as one_hop_path s.bytes ≡ None → Reaches 2
  headed short none = fits short ∙ one_passed s row.faulty_header (rest 2) (ap faulty none)

  read : IsRead s → Reaches 3
  read is = let both = one_hop_both_pass s.bytes is.1 in headed is.0 both.0 ∙ one_passed s row.faulty_path (rest 3) (ap faulty both.1)

  whole : IsWhole s → Reaches 4
  whole is = read is.0 ∙ one_passed s row.wrong_payload_length (rest 4) (lets (is_not_whole s) _ (whole_asked s) is.1)

  -- ---- from outside

  module _ (other : s.link ≢ 0) where
    from_router : IsFromItsRouter s → Reaches 5
    from_router is = whole is.0 ∙ one_passed s row.wrong_underlay_source (rest 5) (lets (is_from_other s) _ (router_asked s other) is.1)

    pub between : IsBetweenItsEnds s → Reaches 6
    between is = from_router is.0 ∙ one_passed s row.wrong_ends (rest 6) (lets (has_other_ends s) _ (ends_asked_outside s other) is.1)

    not_inside : not (is_external s) ≡ false
    not_inside = ap not (outside s other)

    to_host : IsForAHost s → Reaches 9
    to_host is =
        between is.0
        ∙ one_passed s row.link_control (rest 7) (lets (is_link_control s) _ (host_asked s other) is.1)
        ∙ one_passed s row.wrong_exit (rest 8) (lets_other (not (is_external s)) _ _ not_inside)
        ∙ one_passed s row.wrong_far_end (rest 9) (lets_other (not (is_external s)) _ _ not_inside)

    timely_outside : IsTimelyFromOutside s → Reaches 12
    timely_outside is =
        to_host is.0
        ∙ one_passed s row.wrong_time (rest 10) (lets (has_other_time s) _ (time_asked s) is.1)
        ∙ one_passed s row.wrong_mac (rest 11) (lets_other (not (is_external s)) _ _ not_inside)
        ∙ one_passed s row.leave (rest 12) (ap (λ (b : Bool). if b then None else Some (Sent (exit s) None (chained s))) (outside s other))

    -- a control packet that doesn't ask
    no_answer : (AsksByBfd s.network s.link s.packet.header.flow_id s.packet.payload → ⊥) → controlled s ≡ Dropped cause.OneHopHost
    no_answer quiet =
        let h = s.packet.header in
        let asks = asks_by_bfd s.network s.link h.flow_id s.packet.payload in
        ap (λ (b : Bool). if b then Answered (control_answer s.link) else Dropped cause.OneHopHost)
        (refuted (is_answered s.network s.link h.flow_id s.packet.payload) (λ e. quiet (asks.0 e)))

    refused_outside : IsRefusedFromOutside s ended
    refused_outside = record {
      other_router = λ is never. dropped row.wrong_underlay_source (rest 5) cause.UnderlaySource (whole is) (drops (is_from_other s) cause.UnderlaySource (router_asked s other) never);
      other_ends = λ is never. dropped row.wrong_ends (rest 6) cause.OneHopEnds (from_router is) (drops (has_other_ends s) cause.OneHopEnds (ends_asked_outside s other) never);
      link_control = λ is bfd quiet.
          dropped row.link_control (rest 7) cause.OneHopHost (between is)
          (ends (is_link_control s) (controlled s) (host_asked s other) (λ not-bfd. not-bfd bfd) ∙ ap Some (no_answer quiet));
      other_time = λ is never. dropped row.wrong_time (rest 10) cause.OneHopField (to_host is) (drops (has_other_time s) cause.OneHopField (time_asked s) never);
      no_host = λ is never.
          dropped row.complete (rest 13) cause.OneHopHost (timely_outside is)
          (ap (λ (o : Option Underlay). Some (delivered (completed s) o))
          (unreached s.network (host_port_of s.network s.packet.header.next_header s.packet.payload) s.packet.header.destination never));
    }

  -- ---- from inside

  module _ (zero : s.link ≡ 0) where
    from_within : IsWhole s → Reaches 5
    from_within is = whole is ∙ one_passed s row.wrong_underlay_source (rest 5) (lets_other (is_external s) _ _ (inside s zero))

    from_here : IsFromThisAs s → Reaches 7
    from_here is =
        from_within is.0
        ∙ one_passed s row.wrong_ends (rest 6) (lets (has_other_ends s) _ (ends_asked_inside s zero) is.1)
        ∙ one_passed s row.link_control (rest 7) (lets_other (is_external s) _ _ (inside s zero))

    with_exit : HasItsExit s → Reaches 8
    with_exit is = from_here is.0 ∙ one_passed s row.wrong_exit (rest 8) (lets (has_other_exit s) _ (exit_asked s zero) is.1)

    to_neighbor : IsForItsNeighbor s → Reaches 9
    to_neighbor is = with_exit is.0 ∙ one_passed s row.wrong_far_end (rest 9) (lets (is_for_other s) _ (far_end_asked s zero) is.1)

    timely_inside : IsTimelyFromInside s → Reaches 10
    timely_inside is = to_neighbor is.0 ∙ one_passed s row.wrong_time (rest 10) (lets (has_other_time s) _ (time_asked s) is.1)

    refused_inside : IsRefusedFromInside s ended
    refused_inside = record {
      other_source = λ is never. dropped row.wrong_ends (rest 6) cause.OneHopEnds (from_within is) (drops (has_other_ends s) cause.OneHopEnds (ends_asked_inside s zero) never);
      other_exit = λ is never. dropped row.wrong_exit (rest 8) cause.OneHopField (from_here is) (drops (has_other_exit s) cause.OneHopField (exit_asked s zero) never);
      other_destination = λ is never. dropped row.wrong_far_end (rest 9) cause.OneHopEnds (with_exit is) (drops (is_for_other s) cause.OneHopEnds (far_end_asked s zero) never);
      other_time = λ is never. dropped row.wrong_time (rest 10) cause.OneHopField (to_neighbor is) (drops (has_other_time s) cause.OneHopField (time_asked s) never);
      other_mac = λ is never. dropped row.wrong_mac (rest 11) cause.OneHopField (timely_inside is) (drops (has_other_mac s) cause.OneHopField (mac_asked s zero) never);
    }

  -- ---- all reasons

  refused_so : IsOneHopRefusedSo s ended
  refused_so = record {
    too_long = λ long. dropped row.too_long (rest 1) cause.TooLong refl (drops (is_too_long s) cause.TooLong (short_asked s) (λ fits. absurd (omega (arith, long, fits))));
    faulty_header = λ f c short fault is. dropped row.faulty_header (rest 2) (cause_of f) (fits short) (ap faulty fault) ∙ ap Dropped (caused f c is);
    faulty_path = λ f c short none fault is. dropped row.faulty_path (rest 3) (cause_of f) (headed short none) (ap faulty fault) ∙ ap Dropped (caused f c is);
    not_whole = λ is other. dropped row.wrong_payload_length (rest 4) cause.Header (read is) (drops (is_not_whole s) cause.Header (whole_asked s) other);
    from_outside = refused_outside;
    from_inside = refused_inside;
  }

pub refused_one_hops : OneHopsAreRefusedSo
unfolding one_hop_verdict
refused_one_hops n link source moment bytes = refused_so (one_hop_arrives n link source moment bytes)
