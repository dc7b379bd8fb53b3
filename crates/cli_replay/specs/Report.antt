-- What a replay prints: the lines whose steps weren't possible, and the report of what each link sent, and of the counts.
use Rattle.std.specs.Prelude.{ℕ, if◌then◌else◌, List, [], ◌∷◌, ◌++◌, codes, decimal}
use Rattle.std.specs.List.{flat_map, range_with_len}
use Rattle.cli_io.specs.Counts.{count_text, drops_text}
use Rattle.process_packet.specs.declared.totals.Totals.{Totals}
use Rattle.router_rules.specs.Links.{interface_at, link_count}
use Rattle.pipe_model.specs.Pipeline.{Pipeline}
use Rattle.pipe_model.specs.Shown.{sent_by, totals_of, waiting_of}
use Rattle.router_rules.specs.declared.outgoing.Outgoing.{Outgoing}

-- the step of this line wasn't possible
abbrev pub not_now_text : ℕ → List ℕ
not_now_text line = codes "not now " ++ (decimal line ++ codes "\n")

-- ---- what was sent

-- a packet by its arriving link and its number there, an answer with an `a` after it
abbrev pub name_text : Outgoing → List ℕ
name_text o = decimal o.arrived ++ (codes "." ++ (decimal o.number ++ (if o.answer then codes "a" else [])))

-- each after a blank
abbrev pub names_text : List (Outgoing × List ℕ) → List ℕ
names_text [] = []
names_text (o ∷ os) = codes " " ++ (name_text o.0 ++ names_text os)

abbrev pub or_dash : List (Outgoing × List ℕ) → List ℕ
or_dash [] = codes " -"
or_dash (o ∷ os) = names_text (o ∷ os)

-- what the link of an interface sent, in order, or `-`
abbrev pub link_text : ℕ → List (Outgoing × List ℕ) → List ℕ
link_text id sent = codes "link " ++ (decimal id ++ (codes " sent" ++ (or_dash sent ++ codes "\n")))

abbrev pub link_line : Pipeline → ℕ → List ℕ
link_line p l = link_text (interface_at p.config l) (sent_by p (interface_at p.config l))

-- ---- counts

abbrev pub counts_text : Totals → ℕ → List ℕ
counts_text t waiting = count_text (codes "received") t.received ++ (count_text (codes "sent") t.sent ++ (count_text (codes "answered") t.answered ++ count_text (codes "waiting") waiting))

-- ---- all of it, the links in ascending order

unfoldable pub report : Pipeline → List ℕ
report p = flat_map (link_line p) (range_with_len 0 (link_count p.config)) ++ (counts_text (totals_of p) (waiting_of p) ++ drops_text 1 (totals_of p).dropped)
