-- The plain records of an info field and of a hop field.
use Rattle.std.specs.Prelude.{false, replicate}
use Rattle.scion_packet.specs.Path.{HopField, InfoField}
use Rattle.path_fields.specs.declared.fields.Info.{Info}
use Rattle.path_fields.specs.declared.fields.Hop.{Hop}

abbrev pub info_field : Info → InfoField
info_field i = record {
  reserved_flags = i.reserved_flags;
  along = i.along;
  reserved = i.reserved;
  segment_id = i.segment_id;
  timestamp = i.timestamp;
}

abbrev pub hop_field : Hop → HopField
hop_field h = record {
  reserved_flags = h.reserved_flags;
  ingress_alert = h.ingress_alert;
  egress_alert = h.egress_alert;
  expiry = h.expiry;
  construction_ingress = h.construction_ingress;
  construction_egress = h.construction_egress;
  mac = h.mac;
}

-- the fields of which each bit is 0
abbrev pub no_info : InfoField
no_info = record { reserved_flags = 0; along = false; reserved = 0; segment_id = 0; timestamp = 0 }

abbrev pub no_hop : HopField
no_hop = record {
  reserved_flags = 0;
  ingress_alert = false;
  egress_alert = false;
  expiry = 0;
  construction_ingress = 0;
  construction_egress = 0;
  mac = replicate 6 0;
}
