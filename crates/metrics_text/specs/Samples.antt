-- A family's head, and its samples.
use Rattle.std.specs.Prelude.{ℕ, ◌==◌, if◌then◌else◌, List, [], ◌∷◌, ◌++◌, codes, decimal}
use Rattle.process_packet.specs.declared.cause.Cause.{Cause}
use Rattle.process_packet.specs.declared.totals.Totals.{Totals}
use Rattle.process_packet.specs.Cause.{number_of}
use Rattle.process_packet.specs.Totals.{dropped_for}
use Rattle.metrics_text.specs.declared.link_counts.Figure.{Figure}
use Rattle.metrics_text.specs.declared.link_counts.Figure.TheVariants.{Input, Output, Closed}
use Rattle.metrics_text.specs.declared.link_counts.LinkCounts.{LinkCounts}
use Rattle.metrics_text.specs.Reasons.{reason_of}

abbrev pub tail_text : List ℕ → List ℕ
tail_text tail = codes " " ++ (tail ++ codes "\n")

abbrev pub line_text : List ℕ → List ℕ → List ℕ → List ℕ
line_text head name tail = head ++ (name ++ tail_text tail)

-- what a family is, and its type
abbrev pub heading : List ℕ → List ℕ → List ℕ → List ℕ
heading name help kind = line_text (codes "# HELP ") name help ++ line_text (codes "# TYPE ") name kind

-- a sample without labels
abbrev pub plain_text : List ℕ → ℕ → List ℕ
plain_text name n = name ++ (codes " " ++ (decimal n ++ codes "\n"))

-- what ends the last label's value, and the sample's value
abbrev pub value_text : ℕ → List ℕ
value_text n = codes "\"} " ++ (decimal n ++ codes "\n")

-- ---- links

unfoldable pub interface_text : ℕ → List ℕ
interface_text interface = codes "{interface=\"" ++ decimal interface

-- a sample of the link of an interface
abbrev pub link_text : List ℕ → ℕ → ℕ → List ℕ
link_text name interface n = name ++ (interface_text interface ++ value_text n)

-- what a family tells of a link
abbrev pub figure_of : Figure → LinkCounts → ℕ
figure_of Input l = l.input
figure_of Output l = l.output
figure_of Closed l = if l.closed then 1 else 0

-- one for each link
abbrev pub links_text : List ℕ → Figure → List LinkCounts → List ℕ
links_text name figure [] = []
links_text name figure (l ∷ ls) = link_text name l.interface (figure_of figure l) ++ links_text name figure ls

-- ---- causes

abbrev pub cause_text : Cause → List ℕ
cause_text cause = decimal (number_of cause) ++ (codes "\",reason=\"" ++ reason_of cause)

unfoldable pub dropped_text : Cause → ℕ → List ℕ
dropped_text cause n = codes "router_dropped_pkts_total{cause=\"" ++ (cause_text cause ++ value_text n)

-- one for each cause
abbrev pub drops_of : Totals → List Cause → List ℕ
drops_of t [] = []
drops_of t (c ∷ cs) = dropped_text c (dropped_for t c) ++ drops_of t cs

-- ---- a label's value

-- a backslash, a quote and a line's end are escaped
abbrev pub escape : ℕ → List ℕ
escape b = if b == 92 then codes "\\\\" else if b == 34 then codes "\\\"" else if b == 10 then codes "\\n" else b ∷ []

abbrev pub escaped : List ℕ → List ℕ
escaped [] = []
escaped (b ∷ bs) = escape b ++ escaped bs
