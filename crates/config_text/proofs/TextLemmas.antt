-- Texts that are added one after the other.
use Rattle.std.proofs.Common.{◌≡◌, List, ◌++◌, ap, ◌∙◌, append_assoc}

pub then_more : {A : Type 0} (a b c p q : List A) → b ≡ a ++ p → c ≡ b ++ q → c ≡ a ++ (p ++ q)
then_more a b c p q first rest = rest ∙ ap (λ l. l ++ q) first ∙ append_assoc a p q
