-- A configuration of version 2, as TOML.
use Rattle.std.specs.Prelude.{ℕ, List, [], ◌++◌, Option, Some, None, codes, decimal}
use Rattle.process_packet.specs.declared.port_range.PortRange.{PortRange}
use Rattle.topology.specs.Topology.{ListValues, TopologyValues}
use Rattle.config_text.specs.Lines.{address_line, text_line}
use Rattle.config_text.specs.Members.{links_text, services_text, siblings_text}

abbrev pub ports_text : Option PortRange → List ℕ
ports_text None = []
ports_text (Some range) = codes "dispatched_ports = [" ++ (decimal range.first ++ (codes ", " ++ (decimal range.last ++ codes "]\n")))

-- one band, the port of the hosts' dispatcher, and sizes
abbrev pub usual : List ℕ
usual = codes "internal_bands = 1\nhost_port = 30041\nprocessors = 1\ncapacity = 1024\nseed = 0\nbuffers = 2048\n"

-- what stands above the lists, with a key in hex digits
unfoldable pub head_text : TopologyValues → List ℕ → Option PortRange → List ℕ
head_text t key ports = codes "version = 2\n"
    ++ (text_line (codes "isd_as") t.isd_as
    ++ (text_line (codes "key") key
    ++ (address_line (codes "internal") t.internal
    ++ (usual
    ++ ports_text ports))))

unfoldable pub around_text : ListValues → List ℕ
around_text t = links_text t.links ++ (siblings_text t.siblings ++ services_text t.services)

-- a configuration; what is left out isn't told
abbrev pub config_text : TopologyValues → List ℕ → Option PortRange → List ℕ
config_text t key ports = head_text t key ports ++ around_text t.lists
