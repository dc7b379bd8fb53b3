-- Ends of many pipes, one step more.
use Rattle.std.proofs.Common.{◌≡◌, ◌⊎◌, inl, inr, ℕ, zero, suc, ◌+◌, ◌<◌, nat_lt, Bool, true, false, eqb, ◌||◌, ◌&&◌, MatchBool, List, [], ◌∷◌, length, Some, get_or, slice_get, slice_index_or, slice_set, refl, sym, ap, subst, ◌∙◌, arith}
use Rattle.std.proofs.lemmas.Bool.{cases_eq, ne_eqb, eq-eqb}
use Rattle.ruled_pipe.specs.declared.entry.Load.TheVariants.{Payload}
use Rattle.ruled_pipe.specs.declared.entry.Mark.TheVariants.{End}
use Rattle.ruled_pipe.specs.Producer.{Sender, entry, offered, refused}
use Rattle.worker_laws.specs.Works.{SentOn, TurnedAway}
use Rattle.worker_laws.specs.Marks.{HasTried, EachHasTried}
use Rattle.worker_laws.proofs.Works.{set_length, got_same, got_other}
use Rattle.worker_parts.specs.Outlet.{Offering, Tried, offering, gave, kept}
use Rattle.worker_parts.specs.Outlets.{senders, AreFresh, AreUnended, GaveAt, KeptAt, TriedAt, TriedIf, TriedWhere, HaveEnded, Trying}

or_false : (b : Bool) → (b || false) ≡ b
or_false true = refl
or_false false = refl

or_true : (b : Bool) → (b || true) ≡ true
or_true true = refl
or_true false = refl

module _ {T : Type 0} where
  pub open_at : (ends : List (Offering T)) (k : ℕ) (d : Offering T) → AreUnended ends → k < length ends → (get_or ends k d).ended ≡ false
  open_at [] k d is lt = absurd (omega arith)
  open_at (o ∷ ends) zero d is lt = is.0
  open_at (o ∷ ends) (suc k) d is lt = open_at ends k d is.1 (omega arith)

  open_set : (ends : List (Offering T)) (k : ℕ) (t : Offering T) → t.ended ≡ false → AreUnended ends → AreUnended (slice_set ends k t)
  open_set [] k t e is = tt
  open_set (o ∷ ends) zero t e is = (e, is.1)
  open_set (o ∷ ends) (suc k) t e is = (is.0, open_set ends k t e is.1)

  open_or : (ends : List (Offering T)) (k : ℕ) (d : Offering T) → AreUnended ends → d.ended ≡ false → (slice_index_or ends k d).ended ≡ false
  open_or [] k d is e = e
  open_or (o ∷ ends) zero d is e = is.0
  open_or (o ∷ ends) (suc k) d is e = open_or ends k d is.1 e

  pub gave_open : (k : ℕ) (x : T) (old new : List (Offering T)) → 0 < length old → AreUnended old → GaveAt k x old new → AreUnended new
  gave_open k x [] new some is g = absurd (omega arith)
  gave_open k x (o ∷ old) new some is g = subst (λ (xs : List (Offering T)). AreUnended xs) (sym (g o)) (open_set (o ∷ old) k (gave (slice_index_or (o ∷ old) k o) x) (open_or (o ∷ old) k o is is.0) is)

  pub kept_open : (k : ℕ) (x : T) (old new : List (Offering T)) → 0 < length old → AreUnended old → KeptAt k x old new → AreUnended new
  kept_open k x [] new some is g = absurd (omega arith)
  kept_open k x (o ∷ old) new some is g = subst (λ (xs : List (Offering T)). AreUnended xs) (sym (g o)) (open_set (o ∷ old) k (kept (slice_index_or (o ∷ old) k o) x) (open_or (o ∷ old) k o is is.0) is)

  pub fresh_open : (ends : List (Offering T)) → AreFresh ends → AreUnended ends
  fresh_open [] is = tt
  fresh_open (o ∷ ends) is = (is.0, fresh_open ends is.3)

  pub fresh_senders : (ends : List (Offering T)) → AreFresh ends → (i : ℕ) (s : Sender T) → slice_get (senders ends) i ≡ Some s → (s.offers ≡ []) × (s.refusals ≡ [])
  fresh_senders [] is i s e = absurd cc
  fresh_senders (o ∷ ends) is zero s e = let z : o.sender ≡ s = cc in (ap (λ (x : Sender T). x.offers) (sym z) ∙ is.1, ap (λ (x : Sender T). x.refusals) (sym z) ∙ is.2)
  fresh_senders (o ∷ ends) is (suc i) s e = fresh_senders ends is.3 i s e

  senders_set : (ends : List (Offering T)) (k : ℕ) (t : Offering T) → senders (slice_set ends k t) ≡ slice_set (senders ends) k t.sender
  senders_set [] k t = refl
  senders_set (o ∷ ends) zero t = refl
  senders_set (o ∷ ends) (suc k) t = ap (λ xs. o.sender ∷ xs) (senders_set ends k t)

  senders_at : (ends : List (Offering T)) (k : ℕ) (d : Offering T) → slice_index_or (senders ends) k d.sender ≡ (slice_index_or ends k d).sender
  senders_at [] k d = refl
  senders_at (o ∷ ends) zero d = refl
  senders_at (o ∷ ends) (suc k) d = senders_at ends k d

  pub senders_long : (ends : List (Offering T)) → length (senders ends) ≡ length ends
  senders_long [] = refl
  senders_long (o ∷ ends) = let r = senders_long ends in omega arith

  -- an offer is one of the producers
  pub gave_sent : (k : ℕ) (x : T) (old new : List (Offering T)) → GaveAt k x old new → SentOn k x (senders old) (senders new)
  gave_sent k x old new g = λ d.
      let o : Offering T = offering d false false in
      ap senders (g o) ∙ senders_set old k (gave (slice_index_or old k o) x) ∙ ap (λ (s : Sender T). slice_set (senders old) k (offered s (entry s.number (Payload x)))) (sym (senders_at old k o))

  pub kept_away : (k : ℕ) (x : T) (old new : List (Offering T)) → KeptAt k x old new → TurnedAway k x (senders old) (senders new)
  kept_away k x old new g = λ d.
      let o : Offering T = offering d false false in
      ap senders (g o) ∙ senders_set old k (kept (slice_index_or old k o) x) ∙ ap (λ (s : Sender T). slice_set (senders old) k (refused s (entry s.number (Payload x)))) (sym (senders_at old k o))

  pub gave_long : (k : ℕ) (x : T) (old new : List (Offering T)) → k < length old → GaveAt k x old new → length new ≡ length old
  gave_long k x [] new lt g = absurd (omega arith)
  gave_long k x (o ∷ old) new lt g = ap length (g o) ∙ set_length (o ∷ old) k (gave (slice_index_or (o ∷ old) k o) x)

  pub kept_long : (k : ℕ) (x : T) (old new : List (Offering T)) → k < length old → KeptAt k x old new → length new ≡ length old
  kept_long k x [] new lt g = absurd (omega arith)
  kept_long k x (o ∷ old) new lt g = ap length (g o) ∙ set_length (o ∷ old) k (kept (slice_index_or (o ∷ old) k o) x)

  -- ---- end marks

  pub trying_first : (ends : List (Offering T)) → Trying (λ j. false) ends ends true
  trying_first ends = record { tried = (refl, λ j t at. (t, at, refl)); there = λ j t at is. absurd cc }

  got_below : (xs : List (Offering T)) (j : ℕ) (t : Offering T) → slice_get xs j ≡ Some t → j < length xs
  got_below [] j t e = absurd cc
  got_below (x ∷ xs) zero t e = omega arith
  got_below (x ∷ xs) (suc j) t e = let r = got_below xs j t e in omega arith

  pub trying_as : (p q : ℕ → Bool) (old new : List (Offering T)) (all : Bool) → ((j : ℕ) → j < length old → p j ≡ q j) → Trying p old new all → Trying q old new all
  trying_as p q old new all same is = record {
    tried = (is.tried.0, λ j t at. let u = is.tried.1 j t at in (u.0, u.1, subst (λ (b : Bool). TriedIf b u.0 t) (same j (got_below old j u.0 u.1)) u.2));
    there = go all is.there;
  }
    where
      here : (j : ℕ) (t : Offering T) → slice_get new j ≡ Some t → p j ≡ q j
      here j t at = let u = is.tried.1 j t at in same j (got_below old j u.0 u.1)

      onward : HaveEnded p new → HaveEnded q new
      onward h = λ j t at picked. h j t at (here j t at ∙ picked)

      back : HaveEnded q new → HaveEnded p new
      back h = λ j t at picked. h j t at (sym (here j t at) ∙ picked)

      go : (b : Bool) → MatchBool b (HaveEnded p new) (HaveEnded p new → ⊥) → MatchBool b (HaveEnded q new) (HaveEnded q new → ⊥)
      go true h = onward h
      go false h = λ e. h (back e)

  -- one end mark more is tried
  module _ (p : ℕ → Bool) (k : ℕ) (old mid new : List (Offering T)) (all there : Bool) (fresh : p k ≡ false) (lt : k < length mid) (so_far : Trying p old mid all) (is : TriedAt k mid new there) where
    abbrev q : ℕ → Bool
    q j = p j || eqb j k

    one : (j : ℕ) (t : Offering T) → slice_get new j ≡ Some t → (j ≡ k) ⊎ (j ≡ k → ⊥) → (s : Offering T) × (slice_get old j ≡ Some s) × TriedIf (q j) s t
    one j t at (inl same) =
        let got = got_same mid k is.end t is.end (subst (λ (xs : List (Offering T)). slice_get xs k ≡ Some t) is.others (subst (λ (i : ℕ). slice_get new i ≡ Some t) same at)) in
        let u = so_far.tried.1 k (slice_index_or mid k is.end) got.1 in
        let untouched : slice_index_or mid k is.end ≡ u.0 = subst (λ (b : Bool). TriedIf b u.0 (slice_index_or mid k is.end)) fresh u.2 in
        let tried = subst (λ (s : Offering T). Tried s is.end) untouched (is.tried is.end) in
        let P : Bool → Type 0 = λ b. TriedIf b u.0 t in
        let here : q j ≡ true = ap (λ (b : Bool). p j || b) (eq-eqb j k same) ∙ or_true (p j) in
        (u.0, subst (λ (i : ℕ). slice_get old i ≡ Some u.0) (sym same) u.1, subst P (sym here) (subst (λ (e : Offering T). Tried u.0 e) got.0 tried))
    one j t at (inr other) =
        let u = so_far.tried.1 j t (got_other mid k j is.end t other (subst (λ (xs : List (Offering T)). slice_get xs j ≡ Some t) is.others at)) in
        let here : q j ≡ p j = ap (λ (b : Bool). p j || b) (ne_eqb j k other) ∙ or_false (p j) in
        (u.0, u.1, subst (λ (b : Bool). TriedIf b u.0 t) (sym here) u.2)

    got_set : (xs : List (Offering T)) (i : ℕ) (x : Offering T) → i < length xs → slice_get (slice_set xs i x) i ≡ Some x
    got_set [] i x small = absurd (omega arith)
    got_set (y ∷ xs) zero x small = refl
    got_set (y ∷ xs) (suc i) x small = got_set xs i x (omega arith)

    set_other : (xs : List (Offering T)) (i j : ℕ) (x t : Offering T) → (j ≡ i → ⊥) → slice_get xs j ≡ Some t → slice_get (slice_set xs i x) j ≡ Some t
    set_other [] i j x t n e = e
    set_other (y ∷ xs) zero zero x t n e = absurd (n refl)
    set_other (y ∷ xs) zero (suc j) x t n e = e
    set_other (y ∷ xs) (suc i) zero x t n e = e
    set_other (y ∷ xs) (suc i) (suc j) x t n e = set_other xs i j x t (λ z. n (ap suc z)) e

    at_new : slice_get new k ≡ Some is.end
    at_new = subst (λ (xs : List (Offering T)). slice_get xs k ≡ Some is.end) (sym is.others) (got_set mid k is.end lt)

    -- those before, and this one
    both : HaveEnded p mid → is.end.ended ≡ true → HaveEnded q new
    both before here = λ j t at picked. go j t at picked (cases_eq j k)
      where
        go : (j : ℕ) (t : Offering T) → slice_get new j ≡ Some t → q j ≡ true → (j ≡ k) ⊎ (j ≡ k → ⊥) → t.ended ≡ true
        go j t at picked (inl same) =
            let e : is.end ≡ t = (got_same mid k is.end t is.end (subst (λ (xs : List (Offering T)). slice_get xs k ≡ Some t) is.others (subst (λ (i : ℕ). slice_get new i ≡ Some t) same at))).0 in
            subst (λ (o : Offering T). o.ended ≡ true) e here
        go j t at picked (inr other) =
            before j t (got_other mid k j is.end t other (subst (λ (xs : List (Offering T)). slice_get xs j ≡ Some t) is.others at)) (sym (or_false (p j)) ∙ ap (λ (b : Bool). p j || b) (sym (ne_eqb j k other)) ∙ picked)

    earlier : HaveEnded q new → HaveEnded p mid
    earlier h = λ j t at picked. go j t at picked (cases_eq j k)
      where
        go : (j : ℕ) (t : Offering T) → slice_get mid j ≡ Some t → p j ≡ true → (j ≡ k) ⊎ (j ≡ k → ⊥) → t.ended ≡ true
        go j t at picked (inl same) = absurd (let z : true ≡ false = sym picked ∙ ap p same ∙ fresh in cc)
        go j t at picked (inr other) = h j t (subst (λ (xs : List (Offering T)). slice_get xs j ≡ Some t) (sym is.others) (set_other mid k j is.end t other at)) (ap (λ (b : Bool). b || eqb j k) picked)

    this : HaveEnded q new → is.end.ended ≡ true
    this h = h k is.end at_new (ap (λ (b : Bool). p k || b) (eq-eqb k k refl) ∙ or_true (p k))

    ended : (a b : Bool) → b ≡ is.end.ended → MatchBool a (HaveEnded p mid) (HaveEnded p mid → ⊥) → MatchBool (a && b) (HaveEnded q new) (HaveEnded q new → ⊥)
    ended true true e before = both before (sym e)
    ended true false e before = λ h. absurd (let z : true ≡ false = sym (this h) ∙ sym e in cc)
    ended false b e before = λ h. before (earlier h)

    pub trying_next : Trying q old new (all && there)
    trying_next = record {
      tried = (ap length is.others ∙ set_length mid k is.end ∙ so_far.tried.0, λ j t at. one j t at (cases_eq j k));
      there = ended all there is.is_there so_far.there;
    }

  -- marks that were tried are no deeds
  has_tried : (b : Bool) (s t : Offering T) → TriedIf b s t → HasTried s.sender t.sender
  has_tried false s t is = inl (ap (λ (o : Offering T). o.sender) is)
  has_tried true s t (inl is) = inl (ap (λ (o : Offering T). o.sender) is.1)
  has_tried true s t (inr (inl is)) = inr (End, inl (ap (λ (o : Offering T). o.sender) is.1))
  has_tried true s t (inr (inr is)) = inr (End, inr (ap (λ (o : Offering T). o.sender) is.1))

  pub tried_once : (s t : Offering T) → Tried s t → HasTried s.sender t.sender
  tried_once s t is = has_tried true s t is

  of_sender : (ends : List (Offering T)) (j : ℕ) (s : Sender T) → slice_get (senders ends) j ≡ Some s → (o : Offering T) × (slice_get ends j ≡ Some o) × (o.sender ≡ s)
  of_sender [] j s e = absurd cc
  of_sender (o ∷ ends) zero s e = (o, refl, cc)
  of_sender (o ∷ ends) (suc j) s e = of_sender ends j s e

  sender_at : (ends : List (Offering T)) (j : ℕ) (o : Offering T) → slice_get ends j ≡ Some o → slice_get (senders ends) j ≡ Some o.sender
  sender_at [] j o e = absurd cc
  sender_at (x ∷ ends) zero o e = let z : x ≡ o = cc in ap (λ (y : Offering T). Some y.sender) z
  sender_at (x ∷ ends) (suc j) o e = sender_at ends j o e

  pub tried_each : (p : ℕ → Bool) (old new : List (Offering T)) → TriedWhere p old new → EachHasTried (senders old) (senders new)
  tried_each p old new is = (
    senders_long new ∙ is.0 ∙ sym (senders_long old),
    λ j s at. let o = of_sender new j s at in let u = is.1 j o.0 o.1 in
        (u.0.sender, sender_at old j u.0 u.1, subst (λ (x : Sender T). HasTried u.0.sender x) o.2 (has_tried (p j) u.0 o.0 u.2)),
  )

pub lt_next : (j k : ℕ) → (nat_lt j k || eqb j k) ≡ nat_lt j (k + 1)
lt_next j k = grind arith

pub lt_true : (j k : ℕ) → j < k → nat_lt j k ≡ true
lt_true j k lt = grind arith

pub lt_none : (j : ℕ) → nat_lt j 0 ≡ false
lt_none j = grind arith

pub lt_same : (k : ℕ) → nat_lt k k ≡ false
lt_same k = grind arith
