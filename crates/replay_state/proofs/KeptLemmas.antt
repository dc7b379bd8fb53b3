-- What a pipe keeps, as its history grows and is taken.
use Rattle.std.proofs.Common.{◌≡◌, ℕ, zero, suc, ◌+◌, ◌≤◌, ◌<◌, Bool, true, false, ◌||◌, ◌&&◌, if◌then◌else◌, List, [], ◌∷◌, ◌++◌, length, take, refl, sym, ◌∙◌, ap, arith, slice_get, slice_index_or}
use Rattle.std.specs.Prelude.{IsSome}
use Rattle.order_laws.specs.Item.{Item}
use Rattle.replay_laws.specs.Marks.{ends, has_close, is_close, is_end}
use Rattle.replay_laws.specs.Pipe.{Entry, items}
use Rattle.replay_laws.specs.Worker.{Worker, same_worker}
use Rattle.std.proofs.lemmas.List.Folds.{list_any-append}
use Rattle.router_rules.specs.Rules.{kinds}
use Rattle.replay_places.specs.WorkerIndex.{worker_of}
use Rattle.replay_state.specs.Ended.{has_ended, has_entry}
use Rattle.replay_places.specs.declared.worker_index.WorkerIndex.{WorkerIndex}

or_false : (b : Bool) → (b || false) ≡ b
or_false true = refl
or_false false = refl

or_assoc : (a b c : Bool) → (a || (b || c)) ≡ ((a || b) || c)
or_assoc true b c = refl
or_assoc false b c = refl

-- one more is pushed
close_push : (xs : List (Entry kinds)) (e : Entry kinds) → has_close (items (xs ++ e ∷ [])) ≡ (has_close (items xs) || is_close e.item)
close_push [] e = or_false (is_close e.item)
close_push (x ∷ xs) e = ap (λ (b : Bool). is_close x.item || b) (close_push xs e) ∙ or_assoc (is_close x.item) (has_close (items xs)) (is_close e.item)

pub has_close_pushed : (xs ys : List (Entry kinds)) (e : Entry kinds) → ys ≡ xs ++ e ∷ [] → has_close (items ys) ≡ (has_close (items xs) || is_close e.item)
has_close_pushed xs ys e h = rw h (close_push xs e)

-- what was taken stays so
take_push : (t : ℕ) (xs : List (Entry kinds)) (e : Entry kinds) → t ≤ length xs → take t (items (xs ++ e ∷ [])) ≡ take t (items xs)
take_push zero xs e h = refl
take_push (suc t) [] e h = absurd (omega (arith, h))
take_push (suc t) (x ∷ xs) e h = ap (λ (ys : List (Item kinds)). x.item ∷ ys) (take_push t xs e (omega (arith, h)))

pub take_pushed : (t : ℕ) (xs ys : List (Entry kinds)) (e : Entry kinds) → ys ≡ xs ++ e ∷ [] → t ≤ length xs → take t (items ys) ≡ take t (items xs)
take_pushed t xs ys e h m = rw h (take_push t xs e m)

-- one more is taken
close_suc : (t : ℕ) (xs : List (Entry kinds)) (e : Entry kinds) → t < length xs → has_close (take (suc t) (items xs)) ≡ (has_close (take t (items xs)) || is_close (slice_index_or xs t e).item)
close_suc zero [] e h = absurd (omega (arith, h))
close_suc zero (x ∷ xs) e h = or_false (is_close x.item)
close_suc (suc t) [] e h = absurd (omega (arith, h))
close_suc (suc t) (x ∷ xs) e h =
    ap (λ (b : Bool). is_close x.item || b) (close_suc t xs e (omega (arith, h))) ∙ or_assoc (is_close x.item) (has_close (take t (items xs))) (is_close (slice_index_or xs t e).item)

pub has_close_taken : (t : ℕ) (xs : List (Entry kinds)) (e : Entry kinds) → t < length xs → e ≡ slice_index_or xs t e → has_close (take (t + 1) (items xs)) ≡ (has_close (take t (items xs)) || is_close e.item)
has_close_taken t xs e h m =
    let k : t + 1 ≡ suc t = omega arith in
    let n : is_close (slice_index_or xs t e).item ≡ is_close e.item = ap (λ (x : Entry kinds). is_close x.item) (sym m) in
    rw (k, ← n) (close_suc t xs e h)

abbrev one_if : Bool → ℕ
one_if b = if b then 1 else 0

ends_suc : (t : ℕ) (xs : List (Entry kinds)) (e : Entry kinds) → t < length xs → ends (take (suc t) (items xs)) ≡ ends (take t (items xs)) + one_if (is_end (slice_index_or xs t e).item)
ends_suc zero [] e h = absurd (omega (arith, h))
ends_suc zero (x ∷ xs) e h = omega arith
ends_suc (suc t) [] e h = absurd (omega (arith, h))
ends_suc (suc t) (x ∷ xs) e h =
    let more = ends_suc t xs e (omega (arith, h)) in
    omega (arith, more)

pub ends_taken : (t : ℕ) (xs : List (Entry kinds)) (e : Entry kinds) (b : Bool) → t < length xs → e ≡ slice_index_or xs t e → is_end e.item ≡ b → ends (take (t + 1) (items xs)) ≡ ends (take t (items xs)) + (if b then 1 else 0)
ends_taken t xs e b h m f =
    let k : t + 1 ≡ suc t = omega arith in
    let n : is_end (slice_index_or xs t e).item ≡ b = ap (λ (x : Entry kinds). is_end x.item) (sym m) ∙ f in
    rw (k, ← n) (ends_suc t xs e h)

one_few : (b : Bool) → one_if b ≤ 1
one_few true = omega arith
one_few false = omega arith

-- there are no more end marks than items
pub ends_few : (t : ℕ) (xs : List (Item kinds)) → ends (take t xs) ≤ t
ends_few zero xs = omega arith
ends_few (suc t) [] = omega arith
ends_few (suc t) (x ∷ xs) = omega (arith, ends_few t xs, one_few (is_end x))

-- the fields that a push leaves
pub marked_pushed : (m r : Bool) (xs ys : List (Entry kinds)) (e : Entry kinds) → m ≡ has_close (items xs) → r ≡ is_close e.item → ys ≡ xs ++ e ∷ [] → (m || r) ≡ has_close (items ys)
marked_pushed m r xs ys e k n h = rw (k, n) (sym (has_close_pushed xs ys e h))

pub shut_taken : (m r : Bool) (t : ℕ) (xs : List (Entry kinds)) (e : Entry kinds) → m ≡ has_close (take t (items xs)) → r ≡ is_close e.item → t < length xs → e ≡ slice_index_or xs t e → (m || r) ≡ has_close (take (t + 1) (items xs))
shut_taken m r t xs e k n h i = rw (k, n) (sym (has_close_taken t xs e h i))

-- what would be taken is there
pub front_within : (t : ℕ) (xs : List (Entry kinds)) → IsSome (slice_get (items xs) t) → t < length xs
front_within t [] h = cc
front_within zero (x ∷ xs) h = omega arith
front_within (suc t) (x ∷ xs) h = let more = front_within t xs h in omega arith

-- whose end marks were pushed, once one more item is
pub ended_pushed :
    (vs bs : List WorkerIndex) (a : WorkerIndex) (k : Bool) (xs ys : List (Entry kinds)) (e : Entry kinds) (W : Worker) →
    bs ≡ (if k && is_end e.item then vs ++ a ∷ [] else vs) → k ≡ true → worker_of a ≡ e.from → ys ≡ xs ++ e ∷ [] → has_ended vs W ≡ has_entry xs W → has_ended bs W ≡ has_entry ys W
ended_pushed vs bs a k xs ys e W h n f g m = rw (g, list_any-append (λ (d : Entry kinds). is_end d.item && same_worker W d.from) xs (e ∷ []), ← m) (go (is_end e.item) grown)
  where
    grown : bs ≡ (if is_end e.item then vs ++ a ∷ [] else vs)
    grown = h ∙ ap (λ (z : Bool). if z && is_end e.item then vs ++ a ∷ [] else vs) n

    go : (b : Bool) → bs ≡ (if b then vs ++ a ∷ [] else vs) → has_ended bs W ≡ (has_ended vs W || ((b && same_worker W e.from) || false))
    go true i = rw (i, list_any-append (λ (v : WorkerIndex). same_worker W (worker_of v)) vs (a ∷ []), f) refl
    go false i = rw i (sym (or_false (has_ended vs W)))
