-- The first place at which a packet stands, looked for along the hands, the pipes and the fates.
use Rattle.std.proofs.Common.{◌≡◌, ℕ, ◌+◌, ◌<◌, ◌≤◌, Bool, true, false, cond, ◌||◌, List, [], ◌∷◌, ◌++◌, length, drop, get_or, refl, ◌∙◌, ap, arith}
use Rattle.std.specs.Prelude.{Some, None, option_map}
use Rattle.std.specs.Option.{option_or}
use Rattle.std.specs.List.{flat_map}
use Rattle.std.proofs.lemmas.List.{at_drop_all, at_drop_more, drop-map, drop_more}
use Rattle.order_laws.specs.Item.{Item, Outgoing}
use Rattle.replay_laws.specs.Marks.{is_named}
use Rattle.replay_laws.specs.Pipe.{Entry, Pipe, items}
use Rattle.replay_laws.specs.Place.{Place, InHand, Dropped, here_if, in_fates, in_hands, in_pipe, in_pipes, in_sent, place_at, worker_at}
use Rattle.order_laws.specs.Rules.{Rules}
use Rattle.order_laws.specs.Fate.{Fate}
use Rattle.replay_laws.specs.World.{Hand, Empty, Got, Owes}
use Rattle.router_rules.specs.Rules.{kinds}
use Rattle.pipe_model.specs.Finding.{has_in_hand, has_in_pipe, is_among}
use Rattle.replay_state.specs.Sent.{place_of_sent}
use Rattle.replay_state.specs.Sent.{joined}
use Rattle.replay_state.specs.Sent.{first}
use Rattle.router_rules.specs.declared.outgoing.Outgoing.{Outgoing as Left}
use Rattle.replay_state.specs.declared.sent.Way.{Way}

pub first-append : {X : Type 0} (xs ys : List X) → first (xs ++ ys) ≡ option_or (first xs) (first ys)
first-append [] ys = refl
first-append (x ∷ xs) ys = refl

-- a chain of four lists, of which three have nothing
pub last_of_four : {X Y : Type 0} (f : X → Y) (ks ls ms ns : List X) → option_map f (first ks) ≡ None → option_map f (first ls) ≡ None → option_map f (first ms) ≡ None → option_map f (first (ks ++ ls ++ ms ++ ns)) ≡ option_map f (first ns)
last_of_four f (k ∷ ks) ls ms ns e g h = cc
last_of_four f [] (l ∷ ls) ms ns e g h = cc
last_of_four f [] [] (m ∷ ms) ns e g h = cc
last_of_four f [] [] [] ns e g h = refl

module _ (R : Rules kinds) (named : ℕ → ℕ → Bool) where
  -- ---- hands

  hand_found : (j : ℕ) (h : Hand kinds) (hs : List (Hand kinds)) → has_in_hand named h ≡ true → first (in_hands R named j (h ∷ hs)) ≡ Some (InHand (worker_at R j))
  hand_found j Empty hs e = cc
  hand_found j (Got x) hs e = ap (λ (b : Bool). first (here_if b (InHand (worker_at R j)) ++ in_hands R named (j + 1) hs)) e
  hand_found j (Owes x) hs e = ap (λ (b : Bool). first (here_if b (InHand (worker_at R j)) ++ in_hands R named (j + 1) hs)) e

  hand_passed : (j : ℕ) (h : Hand kinds) (hs : List (Hand kinds)) → has_in_hand named h ≡ false → first (in_hands R named j (h ∷ hs)) ≡ first (in_hands R named (j + 1) hs)
  hand_passed j Empty hs e = refl
  hand_passed j (Got x) hs e = ap (λ (b : Bool). first (here_if b (InHand (worker_at R j)) ++ in_hands R named (j + 1) hs)) e
  hand_passed j (Owes x) hs e = ap (λ (b : Bool). first (here_if b (InHand (worker_at R j)) ++ in_hands R named (j + 1) hs)) e

  pub hands_found : (hs : List (Hand kinds)) (j : ℕ) → j < length hs → has_in_hand named (get_or hs j Empty) ≡ true → first (in_hands R named j (drop j hs)) ≡ Some (InHand (worker_at R j))
  hands_found hs j h e = at_drop_more (λ xs. first (in_hands R named j xs)) hs j Empty h ∙ hand_found j (get_or hs j Empty) (drop (j + 1) hs) e

  pub hands_passed : (hs : List (Hand kinds)) (j : ℕ) → j < length hs → has_in_hand named (get_or hs j Empty) ≡ false → first (in_hands R named j (drop j hs)) ≡ first (in_hands R named (j + 1) (drop (j + 1) hs))
  hands_passed hs j h e = at_drop_more (λ xs. first (in_hands R named j xs)) hs j Empty h ∙ hand_passed j (get_or hs j Empty) (drop (j + 1) hs) e

  pub hands_end : (hs : List (Hand kinds)) (j : ℕ) → length hs ≤ j → first (in_hands R named j (drop j hs)) ≡ None
  hands_end hs j h = at_drop_all (λ xs. first (in_hands R named j xs)) hs j h

  -- ---- pipes

  first_among : (at : Place kinds) (es : List (Entry kinds)) (rest : List (Place kinds)) → first (in_pipe named at (items es) ++ rest) ≡ cond (is_among named es) (Some at) (first rest)
  first_among at [] rest = refl
  first_among at (e ∷ es) rest = go (first_among at es rest) (is_named named e.item)
    where
      go : first (in_pipe named at (items es) ++ rest) ≡ cond (is_among named es) (Some at) (first rest) → (b : Bool) → first ((here_if b at ++ in_pipe named at (items es)) ++ rest) ≡ cond (b || is_among named es) (Some at) (first rest)
      go more true = refl
      go more false = more

  pipe_first : (q : ℕ) (p : Pipe kinds) (ps : List (Pipe kinds)) → first (in_pipes R named q (p ∷ ps)) ≡ cond (has_in_pipe named p) (Some (place_at R q)) (first (in_pipes R named (q + 1) ps))
  pipe_first q p ps =
      let held_is = drop-map (λ (e : Entry kinds). e.item) p.taken p.history in
      ap (λ (xs : List (Item kinds)). first (in_pipe named (place_at R q) xs ++ in_pipes R named (q + 1) ps)) held_is
      ∙ first_among (place_at R q) (drop p.taken p.history) (in_pipes R named (q + 1) ps)

  pub pipes_first : (ps : List (Pipe kinds)) (a i : ℕ) (d : Pipe kinds) (b : Bool) → i < length ps → has_in_pipe named (get_or ps i d) ≡ b → first (in_pipes R named (a + i) (drop i ps)) ≡ cond b (Some (place_at R (a + i))) (first (in_pipes R named (a + (i + 1)) (drop (i + 1) ps)))
  pipes_first ps a i d b h e =
      let next : a + i + 1 ≡ a + (i + 1) = omega arith in
      at_drop_more (λ xs. first (in_pipes R named (a + i) xs)) ps i d h
      ∙ (
      pipe_first (a + i) (get_or ps i d) (drop (i + 1) ps)
      ∙ (
      ap (λ (v : Bool). cond v (Some (place_at R (a + i))) (first (in_pipes R named (a + i + 1) (drop (i + 1) ps)))) e
      ∙ ap (λ (k : ℕ). cond b (Some (place_at R (a + i))) (first (in_pipes R named k (drop (i + 1) ps)))) next
      )
      )

  pub pipes_end : (ps : List (Pipe kinds)) (q i : ℕ) → length ps ≤ i → first (in_pipes R named q (drop i ps)) ≡ None
  pipes_end ps q i h = at_drop_all (λ xs. first (in_pipes R named q xs)) ps i h

module _ (named : ℕ → ℕ → Bool) where
  -- ---- fates

  pub fates_first : (F : List (Fate kinds)) (i : ℕ) (d : Fate kinds) (b : Bool) → i < length F → named (get_or F i d).link (get_or F i d).number ≡ b → first (in_fates named (drop i F)) ≡ cond b (Some (Dropped (get_or F i d).cause)) (first (in_fates named (drop (i + 1) F)))
  fates_first F i d b h e =
      let f = get_or F i d in
      at_drop_more (λ xs. first (in_fates named xs)) F i d h ∙ (ap (λ (v : Bool). first (here_if v (Dropped f.cause) ++ in_fates named (drop (i + 1) F))) e ∙ go b)
    where
      go : (v : Bool) → first (here_if v (Dropped (get_or F i d).cause) ++ in_fates named (drop (i + 1) F)) ≡ cond v (Some (Dropped (get_or F i d).cause)) (first (in_fates named (drop (i + 1) F)))
      go true = refl
      go false = refl

  pub fates_end : (F : List (Fate kinds)) (i : ℕ) → length F ≤ i → first (in_fates named (drop i F)) ≡ None
  fates_end F i h = at_drop_all (λ xs. first (in_fates named xs)) F i h

  -- ---- what was sent

  pub sent_first : (ws : List Way) (es : List (Left × List ℕ)) (i : ℕ) (w : Way) (e : Left × List ℕ) (b : Bool) → length ws ≡ length es → i < length ws → named (get_or ws i w).arrived (get_or es i e).0.number ≡ b → first (in_sent named (joined (drop i ws) (drop i es))) ≡ cond b (Some (place_of_sent (get_or es i e).0.answer)) (first (in_sent named (joined (drop (i + 1) ws) (drop (i + 1) es))))
  sent_first ws es i w e b n h same =
      let at = place_of_sent (get_or es i e).0.answer in
      let rest = in_sent named (joined (drop (i + 1) ws) (drop (i + 1) es)) in
      ap (λ (xs : List Way). first (in_sent named (joined xs (drop i es)))) (drop_more ws i w h)
      ∙ (
      ap (λ (xs : List (Left × List ℕ)). first (in_sent named (joined (get_or ws i w ∷ drop (i + 1) ws) xs))) (drop_more es i e (omega arith))
      ∙ (ap (λ (v : Bool). first (here_if v at ++ rest)) same ∙ go at rest b)
      )
    where
      go : (at : Place kinds) (rest : List (Place kinds)) (v : Bool) → first (here_if v at ++ rest) ≡ cond v (Some at) (first rest)
      go at rest true = refl
      go at rest false = refl

  pub sent_end : (ws : List Way) (es : List (Left × List ℕ)) (i : ℕ) → length ws ≤ i → first (in_sent named (joined (drop i ws) (drop i es))) ≡ None
  sent_end ws es i h = at_drop_all (λ xs. first (in_sent named (joined xs (drop i es)))) ws i h

  pub outboxes_first : (bs : List (List (Outgoing kinds))) (i : ℕ) (d : List (Outgoing kinds)) → i < length bs → first (flat_map (in_sent named) (drop i bs)) ≡ option_or (first (in_sent named (get_or bs i d))) (first (flat_map (in_sent named) (drop (i + 1) bs)))
  outboxes_first bs i d h = at_drop_more (λ xs. first (flat_map (in_sent named) xs)) bs i d h ∙ first-append (in_sent named (get_or bs i d)) (flat_map (in_sent named) (drop (i + 1) bs))

  pub outboxes_end : (bs : List (List (Outgoing kinds))) (i : ℕ) → length bs ≤ i → first (flat_map (in_sent named) (drop i bs)) ≡ None
  outboxes_end bs i h = at_drop_all (λ xs. first (flat_map (in_sent named) xs)) bs i h
