-- What is read of a datagram before its rows: where its path lies, and the path's meta header.
use Rattle.std.specs.Prelude.{◌≡◌, ◌≤◌, ℕ, List, None, length}
use Rattle.field_rows.specs.Place.{IsBytes}
use Rattle.scion_packet.specs.Header.{front_end, header_end, header_fault}
use Rattle.scion_packet.specs.Packet.{path_bytes}
use Rattle.process_packet.specs.declared.parsed_headers.ParsedHeaders.{ParsedHeaders}
use Rattle.process_packet.specs.PathHop.{IsMetaOf}

pub record AreHeadersOf (f : ParsedHeaders) (bytes : List ℕ) : Type 0 where
  pub are : IsBytes bytes
  pub sound : header_fault bytes ≡ None
  pub begin : f.path_begin ≡ front_end bytes
  pub end : f.path_end ≡ header_end bytes
  pub order : f.path_begin ≤ f.path_end
  pub inside : f.path_end ≤ length bytes
  pub meta : IsMetaOf f.meta (path_bytes bytes)
