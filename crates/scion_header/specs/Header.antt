-- The plain record of a header.
use Rattle.scion_packet.specs.Header.{HeaderFields, scion_path}
use Rattle.scion_header.specs.Address.{host_address}
use Rattle.scion_header.specs.declared.header.Header.{Header}

abbrev pub header_fields : Header → HeaderFields
header_fields h = record {
  traffic_class = h.traffic_class;
  flow_id = h.flow_id;
  next_header = h.next_header;
  header_length = h.header_length;
  payload_length = h.payload_length;
  path_type = scion_path;
  reserved = h.reserved;
  destination = host_address h.destination;
  source = host_address h.source;
}
