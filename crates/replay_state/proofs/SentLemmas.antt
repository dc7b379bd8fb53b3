-- What is kept of what was sent.
use Rattle.std.proofs.Common.{◌≡◌, ℕ, List, [], ◌∷◌, ◌++◌, map, length, if◌then◌else◌, Bool, true, refl, ap, ◌∙◌, arith}
use Rattle.order_laws.specs.Item.{Outgoing}
use Rattle.router_rules.specs.Rules.{kinds}
use Rattle.replay_state.specs.Sent.{joined, rejoined}
use Rattle.replay_state.specs.Sent.{left}
use Rattle.router_rules.specs.declared.outgoing.Outgoing.{Outgoing as Left}
use Rattle.replay_state.specs.declared.sent.Way.{Way}

-- the entries are what the public type has of them
pub map_joined : (ws : List Way) (es : List (Left × List ℕ)) → length ws ≡ length es → es ≡ map left (joined ws es)
map_joined [] [] h = refl
map_joined [] (e ∷ es) h = absurd (omega (arith, h))
map_joined (w ∷ ws) [] h = absurd (omega (arith, h))
map_joined (w ∷ ws) (e ∷ es) h = ap (λ (xs : List (Left × List ℕ)). e ∷ xs) (map_joined ws es (omega (arith, h)))

pub joined_push : (ws : List Way) (es : List (Left × List ℕ)) (w : Way) (e : Left × List ℕ) → length ws ≡ length es → joined (ws ++ w ∷ []) (es ++ e ∷ []) ≡ joined ws es ++ rejoined w e ∷ []
joined_push [] [] w e h = refl
joined_push [] (x ∷ es) w e h = absurd (omega (arith, h))
joined_push (x ∷ ws) [] w e h = absurd (omega (arith, h))
joined_push (x ∷ ws) (y ∷ es) w e h = ap (λ (os : List (Outgoing kinds)). rejoined x y ∷ os) (joined_push ws es w e (omega (arith, h)))

-- one more is sent
pub joined_pushed :
    (ws vs : List Way) (es fs : List (Left × List ℕ)) (w : Way) (e : Left × List ℕ) (b : Bool) (os : List (Outgoing kinds)) →
    length ws ≡ length es → vs ≡ ws ++ w ∷ [] → b ≡ true → fs ≡ (if b then es ++ e ∷ [] else es) → joined ws es ≡ os → joined vs fs ≡ os ++ rejoined w e ∷ []
joined_pushed ws vs es fs w e b os h n k m v =
    let grown : fs ≡ es ++ e ∷ [] = m ∙ ap (λ (z : Bool). if z then es ++ e ∷ [] else es) k in
    rw (n, grown, ← v) (joined_push ws es w e h)
