use Rattle.std.proofs.Common.{◌≡◌, ◌∙◌, IfOk, List, Option, ap, ap₂, map, string_bytes, subst, sym, ℕ}
use Rattle.net_check.specs.Words as words
use Rattle.net_check.proofs.words.words_of.Goals as goal

pub returns-in-Routers : goal.returns-in-Routers
returns-in-Routers c =
    let configs = c.args.net.now.configs.items in
    let names = map string_bytes c.args.names.now in
    let there = ap₂ (λ (one other : Option words.Router). words.of_routers one other c.in-Routers.what) c.named_at-one.ensures c.named_at-other.ensures in
    let told = there ∙ sym (ap (words.words_of configs names) c.in-Routers.is) in
    subst (λ (t : List ℕ). IfOk c.of_routers.result (λ text. string_bytes text ≡ t)) told c.of_routers.ensures
