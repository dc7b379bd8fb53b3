-- What leaves of a datagram on a SCION path: a lawful packet, whose bytes differ from those that came in five at most.
use Rattle.std.specs.Prelude.{ℕ, ◌≡◌, ◌≢◌, ◌⊎◌, ◌<◌, ◌+◌, List, None, Option, length, slice_index}
use Rattle.field_rows.specs.Place.{IsBytes}
use Rattle.scion_packet.specs.Header.{front_end, one_hop_path}
use Rattle.scion_packet.specs.Lengths.{info_place, segment_count}
use Rattle.scion_packet.specs.Packet.{Packet, first_fault, packet_of, path_bytes}
use Rattle.scion_packet.specs.Path.{current_info, lengths_of}
use Rattle.process_packet.specs.declared.decision.Decision.TheVariants as decision
use Rattle.process_packet.specs.declared.underlay.Underlay.{Underlay}
use Rattle.process_packet.specs.Decide.{decide, moved, verdict}
use Rattle.process_packet.specs.Network.{Network}
use Rattle.process_packet.specs.Rows.{Sent, Verdict}

-- ---- the bytes that may differ

-- where a segment's identifier stands in a datagram: the first of its two bytes
abbrev pub id_place : List ℕ → ℕ → ℕ
id_place bytes segment = front_end bytes + (info_place segment + 2)

-- None of five places: the cursor's byte, and those of the identifiers of two segments.
pub record IsElsewhere (bytes : List ℕ) (one other i : ℕ) : Type 0 where
  pub cursor : i ≢ front_end bytes
  pub one_high : i ≢ id_place bytes one
  pub one_low : i ≢ id_place bytes one + 1
  pub other_high : i ≢ id_place bytes other
  pub other_low : i ≢ id_place bytes other + 1

-- As many bytes, and the same but for these five: the segment by which the packet came is the cursor's, the one by which it
-- leaves is that or the next one, and both are there.
pub record DiffersInFive (came left : List ℕ) : Type 0 where
  pub count : length left ≡ length came
  pub entered : ℕ
  pub exit : ℕ
  pub entered_is : entered ≡ current_info (path_bytes came)
  pub near : (exit ≡ entered) ⊎ (exit ≡ entered + 1)
  pub there : exit < segment_count (lengths_of (path_bytes came))
  pub same : (i : ℕ) → IsElsewhere came entered exit i → slice_index left i ≡ slice_index came i

-- ---- the law

-- The next reader finds no fault, and reads just the packet that the decision sends.
pub record LeavesWhole (v : Verdict) (out : ℕ) (to : Option Underlay) (came left : List ℕ) : Type 0 where
  pub packet : Packet
  pub verdict : v ≡ Sent out to packet
  pub read : packet_of left ≡ packet
  pub sound : first_fault left ≡ None
  pub are : IsBytes left
  pub few : DiffersInFive came left

abbrev pub WhatLeavesIsLawful : Type 0
WhatLeavesIsLawful =
    (n : Network) (link : ℕ) (source : Underlay) (moment : ℕ) (bytes : List ℕ) (out : ℕ) (to : Option Underlay) → IsBytes bytes
    → slice_index bytes 8 ≢ one_hop_path → decide n link source moment bytes ≡ decision.Send out to
    → LeavesWhole (verdict n link source moment bytes) out to bytes (moved n link source moment bytes)
