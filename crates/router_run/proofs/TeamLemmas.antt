-- Teams for numbers by other names.
use Rattle.std.proofs.Common.{◌≡◌, ℕ, sym, ◌∙◌}
use Rattle.router_run.specs.Teams.{AreTeamsFor}
use Rattle.worker_threads.specs.Teams.{IsFor, Seated}

pub for_as : {W : Type 0} (n m : ℕ) (t : Seated W) → IsFor n t → m ≡ n → IsFor m t
for_as n m t is e = (is.0, is.1 ∙ sym e, is.2 ∙ sym e)

pub teams_as : {A B C : Type 0} (links links' processors processors' : ℕ) (a : Seated A) (b : Seated B) (c : Seated C) → AreTeamsFor links processors a b c → links' ≡ links → processors' ≡ processors → AreTeamsFor links' processors' a b c
teams_as links links' processors processors' a b c are l p = (for_as links links' a are.0 l, for_as processors processors' b are.1 p, for_as links links' c are.2 l)
