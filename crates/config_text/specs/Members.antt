-- The members of a configuration's lists.
use Rattle.std.specs.Prelude.{ℕ, Bool, true, false, List, [], ◌∷◌, ◌++◌, codes}
use Rattle.process_packet.specs.declared.neighbours.Service.{Service}
use Rattle.process_packet.specs.declared.neighbours.Sibling.{Sibling}
use Rattle.segment_switch.specs.declared.kind.LinkKind.{LinkKind}
use Rattle.segment_switch.specs.declared.kind.LinkKind.TheVariants.{Core, Parent, Child}
use Rattle.topology.specs.Interface.{LinkValues}
use Rattle.config_text.specs.Lines.{address_line, number_line, text_line}

abbrev pub kind_word : LinkKind → List ℕ
kind_word Core = codes "core"
kind_word Parent = codes "parent"
kind_word Child = codes "child"

abbrev pub bfd_line : Bool → List ℕ
bfd_line true = codes "bfd = true\n"
bfd_line false = []

-- a link; it has one band
unfoldable pub link_text : LinkValues → List ℕ
link_text l = codes "\n[[link]]\n"
    ++ (number_line (codes "id") l.id
    ++ (text_line (codes "kind") (kind_word l.kind)
    ++ (address_line (codes "local") l.local
    ++ (address_line (codes "remote") l.remote
    ++ (codes "bands = 1\n"
    ++ (text_line (codes "neighbor") l.neighbor
    ++ bfd_line l.bfd))))))

abbrev pub links_text : List LinkValues → List ℕ
links_text [] = []
links_text (l ∷ links) = link_text l ++ links_text links

unfoldable pub sibling_text : Sibling → List ℕ
sibling_text s = codes "\n[[sibling]]\n"
    ++ (number_line (codes "id") s.id
    ++ (text_line (codes "kind") (kind_word s.kind)
    ++ address_line (codes "at") s.at))

abbrev pub siblings_text : List Sibling → List ℕ
siblings_text [] = []
siblings_text (s ∷ siblings) = sibling_text s ++ siblings_text siblings

unfoldable pub service_text : Service → List ℕ
service_text s = codes "\n[[service]]\n"
    ++ (number_line (codes "number") s.number
    ++ address_line (codes "at") s.at)

abbrev pub services_text : List Service → List ℕ
services_text [] = []
services_text (s ∷ services) = service_text s ++ services_text services
