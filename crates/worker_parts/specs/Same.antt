-- Ends of pipes that are the same ones, whatever went through them.
use Rattle.std.specs.Prelude.{◌≡◌, ℕ, suc, Bool, true, false, List, [], ◌∷◌}
use Rattle.ruled_pipe.specs.Producer.{Sender}
use Rattle.ruled_pipe.specs.Consumer.{Taker}
use Rattle.worker_parts.specs.Outlet.{Offering}
use Rattle.std.proofs.Common.{refl, ◌∙◌}

module _ {T : Type 0} where
  -- the same producer of the same pipe
  abbrev pub IsSameEnd : Sender T → Sender T → Type 0
  IsSameEnd a b = (b.pipe ≡ a.pipe) × (b.number ≡ a.number) × (b.producers ≡ a.producers) × (b.capacity ≡ a.capacity)

  -- where the end is used; another is as it was
  abbrev pub IsSameWhere : Bool → Offering T → Offering T → Type 0
  IsSameWhere true a b = IsSameEnd a.sender b.sender
  IsSameWhere false a b = b ≡ a

  -- one by one; a test picks the places of the ends that are used
  abbrev pub AreSameEnds : (ℕ → Bool) → List (Offering T) → List (Offering T) → Type 0
  AreSameEnds used [] [] = Unit {0}
  AreSameEnds used (a ∷ xs) (b ∷ ys) = IsSameWhere (used 0) a b × AreSameEnds (λ j. used (suc j)) xs ys
  AreSameEnds used _ _ = ⊥

  -- the same consumer of the same pipe
  abbrev pub IsSameTaker : Taker T → Taker T → Type 0
  IsSameTaker a b = (b.pipe ≡ a.pipe) × (b.producers ≡ a.producers) × (b.capacity ≡ a.capacity)

  -- each is the same as itself, and as what is the same as the same
  pub end_self : (s : Sender T) → IsSameEnd s s
  end_self s = (refl, refl, refl, refl)

  pub end_then : (a b c : Sender T) → IsSameEnd a b → IsSameEnd b c → IsSameEnd a c
  end_then a b c p q = (q.0 ∙ p.0, q.1 ∙ p.1, q.2 ∙ p.2, q.3 ∙ p.3)

  pub taker_self : (t : Taker T) → IsSameTaker t t
  taker_self t = (refl, refl, refl)

  pub taker_then : (a b c : Taker T) → IsSameTaker a b → IsSameTaker b c → IsSameTaker a c
  taker_then a b c p q = (q.0 ∙ p.0, q.1 ∙ p.1, q.2 ∙ p.2)

  pub where_self : (b : Bool) (o : Offering T) → IsSameWhere b o o
  where_self true o = end_self o.sender
  where_self false o = refl

  where_then : (b : Bool) (x y z : Offering T) → IsSameWhere b x y → IsSameWhere b y z → IsSameWhere b x z
  where_then true x y z p q = end_then x.sender y.sender z.sender p q
  where_then false x y z p q = q ∙ p

  pub ends_self : (used : ℕ → Bool) (xs : List (Offering T)) → AreSameEnds used xs xs
  ends_self used [] = tt
  ends_self used (x ∷ xs) = (where_self (used 0) x, ends_self (λ j. used (suc j)) xs)

  pub ends_then : (used : ℕ → Bool) (xs ys zs : List (Offering T)) → AreSameEnds used xs ys → AreSameEnds used ys zs → AreSameEnds used xs zs
  ends_then used [] [] zs p q = q
  ends_then used [] (y ∷ ys) zs p q = absurd p
  ends_then used (x ∷ xs) [] zs p q = absurd p
  ends_then used (x ∷ xs) (y ∷ ys) [] p q = absurd q
  ends_then used (x ∷ xs) (y ∷ ys) (z ∷ zs) p q = (where_then (used 0) x y z p.0 q.0, ends_then (λ j. used (suc j)) xs ys zs p.1 q.1)
