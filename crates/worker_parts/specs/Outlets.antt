-- A worker's ends of many pipes.
use Rattle.std.specs.Prelude.{◌≡◌, ℕ, zero, suc, Bool, true, false, MatchBool, List, [], ◌∷◌, map, length, Some, slice_get, slice_index_or, slice_set}
use Rattle.process_packet.specs.declared.config.Config.{Config}
use Rattle.ruled_pipe.specs.Producer.{Sender}
use Rattle.router_rules.specs.Links.{has_two_bands}
use Rattle.worker_parts.specs.Outlet.{Offering, Tried, gave, kept}

module _ {T : Type 0} where
  abbrev pub senders : List (Offering T) → List (Sender T)
  senders ends = map (λ (o : Offering T). o.sender) ends

  -- no end mark is there yet
  abbrev pub AreUnended : List (Offering T) → Type 0
  AreUnended [] = Unit {0}
  AreUnended (o ∷ ends) = (o.ended ≡ false) × AreUnended ends

  -- nothing was pushed yet
  abbrev pub AreFresh : List (Offering T) → Type 0
  AreFresh [] = Unit {0}
  AreFresh (o ∷ ends) = (o.ended ≡ false) × (o.sender.offers ≡ []) × (o.sender.refusals ≡ []) × AreFresh ends

  -- the end at a place made one offer, which was accepted or refused, and the others none
  abbrev pub GaveAt : ℕ → T → List (Offering T) → List (Offering T) → Type 0
  GaveAt k x old new = (d : Offering T) → new ≡ slice_set old k (gave (slice_index_or old k d) x)

  abbrev pub KeptAt : ℕ → T → List (Offering T) → List (Offering T) → Type 0
  KeptAt k x old new = (d : Offering T) → new ≡ slice_set old k (kept (slice_index_or old k d) x)

  -- the end at a place tried the end mark that it owed
  pub record TriedAt (k : ℕ) (old new : List (Offering T)) (there : Bool) : Type 0 where
    pub end : Offering T
    pub tried : (d : Offering T) → Tried (slice_index_or old k d) end
    pub others : new ≡ slice_set old k end
    pub is_there : there ≡ end.ended

  abbrev pub TriedIf : Bool → Offering T → Offering T → Type 0
  TriedIf true s t = Tried s t
  TriedIf false s t = t ≡ s

  -- the ends at the places that a test picks tried the end marks that they owed, and the others nothing
  abbrev pub TriedWhere : (ℕ → Bool) → List (Offering T) → List (Offering T) → Type 0
  TriedWhere picks old new = (length new ≡ length old) × ((j : ℕ) (t : Offering T) → slice_get new j ≡ Some t → (s : Offering T) × (slice_get old j ≡ Some s) × TriedIf (picks j) s t)

  abbrev pub HaveEnded : (ℕ → Bool) → List (Offering T) → Type 0
  HaveEnded picks ends = (j : ℕ) (t : Offering T) → slice_get ends j ≡ Some t → picks j ≡ true → t.ended ≡ true

  -- so far, of the ends at these places; and whether all their end marks are there
  pub record Trying (picks : ℕ → Bool) (old new : List (Offering T)) (all : Bool) : Type 0 where
    pub tried : TriedWhere picks old new
    pub there : MatchBool all (HaveEnded picks new) (HaveEnded picks new → ⊥)

-- the links' pipes that are used, two of each link: of each the low band's, and the high band's where it has two
abbrev pub is_used : (ℕ → Bool) → ℕ → Bool
is_used two zero = true
is_used two (suc zero) = two zero
is_used two (suc (suc j)) = is_used (λ l. two (suc l)) j

-- in a router with this configuration
abbrev pub are_used : Config → ℕ → Bool
are_used c = is_used (has_two_bands c)
