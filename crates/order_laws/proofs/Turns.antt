-- What one turn does to a worker's law.
use Rattle.std.proofs.Common.{◌≡◌, ℕ, Bool, true, false, ◌||◌, cond, ◌+◌, List, [], ◌∷◌, ◌++◌, length, refl, sym, ◌∙◌, ap, ap₂, arith, append-nil}
use Rattle.std.specs.List.{flat_map}
use Rattle.std.proofs.lemmas.Grind.{flat_map-append}
use Rattle.std.proofs.lemmas.List.{map-append}
use Rattle.order_laws.specs.Kinds.{Kinds}
use Rattle.order_laws.specs.Item.{Arrival}
use Rattle.order_laws.specs.Deeds.{Pushed, Each, Deed, done_items, payload_of, payloads, closes, before_mark, from_mark, has_mark, accepted, refused, Tells}
use Rattle.order_laws.specs.Settled.{AreNumbered}

module _ {A B : Type 0} where
  one_more : (g : A → List B) (xs : List A) (x : A) → flat_map g (xs ++ x ∷ []) ≡ flat_map g xs ++ g x
  one_more g xs x = flat_map-append g xs (x ∷ []) ∙ ap (λ (ys : List B). flat_map g xs ++ ys) (append-nil (g x))

module _ {C X Y : Type 0} where
  -- one deed more: what its end of a pipe gained is what was made of the item
  pub tells_more : (makes : X → List Y) (log : List (Deed C X)) (d : Deed C X) (offers more : List (Pushed Y)) (refusals told : List Y) → Tells makes log offers refusals
      → payloads more ≡ accepted makes d → told ≡ refused makes d → Tells makes (log ++ d ∷ []) (offers ++ more) (refusals ++ told)
  tells_more makes log d offers more refusals told t a r = (
    flat_map-append (λ (e : Pushed Y). payload_of e.load) offers more ∙ rw (t.0, a) refl ∙ sym (one_more (accepted makes) log d),
    ap₂ (λ (ys zs : List Y). ys ++ zs) t.1 r ∙ sym (one_more (refused makes) log d),
  )

  -- a deed that makes nothing for this pipe
  pub tells_same : (makes : X → List Y) (log : List (Deed C X)) (d : Deed C X) (offers : List (Pushed Y)) (refusals : List Y) → Tells makes log offers refusals
      → accepted makes d ≡ [] → refused makes d ≡ [] → Tells makes (log ++ d ∷ []) offers refusals
  tells_same makes log d offers refusals t a r =
      (t.0 ∙ sym (one_more (accepted makes) log d ∙ rw a (append-nil (flat_map (accepted makes) log))), t.1 ∙ sym (one_more (refused makes) log d ∙ rw r (append-nil (flat_map (refused makes) log))))

  -- a mark, offered or refused, is no deed
  pub tells_mark : (makes : X → List Y) (log : List (Deed C X)) (offers more : List (Pushed Y)) (refusals told : List Y) → Tells makes log offers refusals
      → payloads more ≡ [] → told ≡ [] → Tells makes log (offers ++ more) (refusals ++ told)
  tells_mark makes log offers more refusals told t a r = (
    flat_map-append (λ (e : Pushed Y). payload_of e.load) offers more ∙ rw (a) (append-nil (payloads offers) ∙ t.0),
    ap (λ (ys : List Y). refusals ++ ys) r ∙ (append-nil refusals ∙ t.1),
  )

module _ {C X : Type 0} where
  -- one payload taken is one deed more
  pub took_more : (log : List (Deed C X)) (d : Deed C X) (taken : List (Pushed X)) (e : Pushed X) → payloads taken ≡ done_items log → payload_of e.load ≡ d.item ∷ [] → payloads (taken ++ e ∷ []) ≡ done_items (log ++ d ∷ [])
  took_more log d taken e t is = one_more (λ (e : Pushed X). payload_of e.load) taken e ∙ rw (t, is) (sym (map-append (λ (d : Deed C X). d.item) log (d ∷ [])))

  pub took_mark : (log : List (Deed C X)) (taken : List (Pushed X)) (e : Pushed X) → payloads taken ≡ done_items log → payload_of e.load ≡ [] → payloads (taken ++ e ∷ []) ≡ done_items log
  took_mark log taken e t is = one_more (λ (e : Pushed X). payload_of e.load) taken e ∙ rw (is) (append-nil (payloads taken) ∙ t)

module _ {X : Type 0} where
  pub each_more : (P : X → Type 0) (xs : List X) (x : X) → Each P xs → P x → Each P (xs ++ x ∷ [])
  each_more P [] x e p = (p, tt)
  each_more P (y ∷ ys) x e p = (e.0, each_more P ys x e.1 p)

-- the next number
pub numbered_more : {K : Kinds} (a n : ℕ) (xs : List (Arrival K)) (x : Arrival K) → AreNumbered a n xs → x.link ≡ a → x.number ≡ n + length xs → AreNumbered a n (xs ++ x ∷ [])
numbered_more a n [] x num link at = (link, omega arith, tt)
numbered_more a n (y ∷ ys) x num link at = (num.0, num.1, numbered_more a (n + 1) ys x num.2 link (omega arith))

module _ {T : Type 0} where
  -- a forwarder's take, before a mark and after one
  pub shut_more : (es : List (Pushed T)) (e : Pushed T) → has_mark (es ++ e ∷ []) ≡ (has_mark es || closes e.load)
  shut_more [] e = go (closes e.load)
    where
      go : (b : Bool) → (b || false) ≡ b
      go true = refl
      go false = refl
  shut_more (x ∷ es) e = go (closes x.load) (shut_more es e)
    where
      go : (b : Bool) → has_mark (es ++ e ∷ []) ≡ (has_mark es || closes e.load) → (b || has_mark (es ++ e ∷ [])) ≡ ((b || has_mark es) || closes e.load)
      go true r = refl
      go false r = r

  pub before_more : (es : List (Pushed T)) (e : Pushed T) → before_mark (es ++ e ∷ []) ≡ cond (has_mark es) (before_mark es) (before_mark es ++ cond (closes e.load) [] (e ∷ []))
  before_more [] e = refl
  before_more (x ∷ es) e = go (closes x.load) (has_mark es) (before_more es e)
    where
      go : (b c : Bool) → before_mark (es ++ e ∷ []) ≡ cond c (before_mark es) (before_mark es ++ cond (closes e.load) [] (e ∷ []))
          → cond b [] (x ∷ before_mark (es ++ e ∷ [])) ≡ cond (b || c) (cond b [] (x ∷ before_mark es)) (cond b [] (x ∷ before_mark es) ++ cond (closes e.load) [] (e ∷ []))
      go true c r = refl
      go false true r = ap (λ (ys : List (Pushed T)). x ∷ ys) r
      go false false r = ap (λ (ys : List (Pushed T)). x ∷ ys) r

  pub from_more : (es : List (Pushed T)) (e : Pushed T) → from_mark (es ++ e ∷ []) ≡ cond (has_mark es || closes e.load) (from_mark es ++ e ∷ []) []
  from_more [] e = go (closes e.load)
    where
      go : (b : Bool) → cond b (e ∷ []) [] ≡ cond (false || b) (e ∷ []) []
      go true = refl
      go false = refl
  from_more (x ∷ es) e = go (closes x.load) (from_more es e)
    where
      go : (b : Bool) → from_mark (es ++ e ∷ []) ≡ cond (has_mark es || closes e.load) (from_mark es ++ e ∷ []) []
          → cond b (x ∷ (es ++ e ∷ [])) (from_mark (es ++ e ∷ [])) ≡ cond ((b || has_mark es) || closes e.load) (cond b (x ∷ es) (from_mark es) ++ e ∷ []) []
      go true r = refl
      go false r = r
