-- A router's teams, before their workers.
use Rattle.std.specs.Prelude.{ℕ}
use Rattle.worker_threads.specs.Teams.{IsFor, Seated}

-- no worker yet of a router with these numbers of links and processors, and room for all
abbrev pub AreTeamsFor : {A B C : Type 0} → ℕ → ℕ → Seated A → Seated B → Seated C → Type 0
AreTeamsFor links processors a b c = IsFor links a × IsFor processors b × IsFor links c
