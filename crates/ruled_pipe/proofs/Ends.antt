-- Lists of producers' ends.
use Rattle.std.proofs.Common.{◌≡◌, ℕ, zero, suc, ◌+◌, List, [], ◌∷◌, ◌++◌, length, Some, slice_get, map, sym, refl, ap, ◌∙◌, subst, ⊎_elim, length-append, arith}
use Rattle.std.proofs.lemmas.List.{length-map}
use Rattle.atomic_table.specs.Seated.{TableId}
use Rattle.ruled_pipe.specs.declared.entry.Entry.{Entry}
use Rattle.ruled_pipe.specs.declared.rule.Left.{Left}
use Rattle.ruled_pipe.specs.declared.rule.Size.{Size}
use Rattle.ruled_pipe.specs.declared.rule.View.{View}
use Rattle.ruled_pipe.specs.Rule.{size_of, consumer, keeper, both_of, left, Ended}
use Rattle.ruled_pipe.specs.Producer.{Sender, AllFull, new_sender}
use Rattle.ruled_pipe.specs.Consumer.{Taker}
use Rattle.ruled_pipe.specs.Pipe.{Keeping, keeping, sender_of, took_back, IsNext, AreLeft, AreNew}
use Rattle.ruled_pipe.specs.Gathered.{IsWhole}
use Rattle.ruled_pipe.proofs.Moves.{get_snoc, get_more}

module _ {X : Type 0} where
  -- the first of the rest stands after those so far
  get_next : (xs ys : List X) (y : X) → slice_get (xs ++ y ∷ ys) (length xs) ≡ Some y
  get_next [] ys y = refl
  get_next (x ∷ xs) ys y = get_next xs ys y

  -- what comes next of a list stands after what came so far
  pub next_stands : (yielded rest items initial all : List X) (x : X) → rest ≡ x ∷ items → yielded ++ rest ≡ initial → initial ≡ all → slice_get all (length yielded) ≡ Some x
  next_stands yielded rest items initial all x step whole given =
      let P : List X → Type 0 = λ l. slice_get l (length yielded) ≡ Some x in
      subst P (ap (λ (l : List X). yielded ++ l) (sym step) ∙ whole ∙ given) (get_next yielded items x)

module _ {T : Type 0} where
  pub one_more_new : (pipe : TableId) (capacity producers n : ℕ) (senders : List (Sender T)) (s : Sender T) → AreNew pipe capacity producers n senders → s ≡ new_sender pipe n producers capacity
      → AreNew pipe capacity producers (n + 1) (senders ++ s ∷ [])
  one_more_new pipe capacity producers n senders s old is = (
    (let l = old.0 in omega (arith, length-append senders (s ∷ []))),
    λ k t at. ⊎_elim (λ (x : slice_get senders k ≡ Some t). old.1 k t x)
        (λ (x : (k ≡ length senders) × (s ≡ t)). sym x.1 ∙ is ∙ ap (λ (j : ℕ). new_sender pipe j producers capacity) (sym (x.0 ∙ old.0))) (get_snoc senders s t k at),
  )

  map_snoc : (f : Left T → Sender T) (xs : List (Left T)) (x : Left T) → map f (xs ++ x ∷ []) ≡ map f xs ++ f x ∷ []
  map_snoc f [] x = refl
  map_snoc f (y ∷ xs) x = ap (λ (l : List (Sender T)). f y ∷ l) (map_snoc f xs x)

  get_map : (f : Left T → Sender T) (xs : List (Left T)) (k : ℕ) (s : Sender T) → slice_get (map f xs) k ≡ Some s → (l : Left T) × (slice_get xs k ≡ Some l) × (f l ≡ s)
  get_map f [] k s at = cc
  get_map f (x ∷ xs) zero s at = (x, refl, cc)
  get_map f (x ∷ xs) (suc k) s at = get_map f xs k s at

  map_none : (f : Left T → Sender T) (xs : List (Left T)) → map f xs ≡ [] → xs ≡ []
  map_none f [] e = refl
  map_none f (x ∷ xs) e = let n = ap length e in absurd (omega arith)

  -- none was taken back
  pub none_back : (pipe : TableId) (producers capacity made : ℕ) (known : List (Left T)) (seen : Keeping T) → keeping pipe producers capacity made known ≡ seen → seen.senders ≡ [] → known ≡ []
  none_back pipe producers capacity made known seen is none = map_none (sender_of pipe producers capacity) known (ap (λ (k : Keeping T). k.senders) is ∙ none)

  pub senders_snoc : (pipe : TableId) (producers capacity : ℕ) (xs : List (Left T)) (s : Sender T) → (s.pipe ≡ pipe) × (s.producers ≡ producers) × (s.capacity ≡ capacity)
      → map (sender_of pipe producers capacity) (xs ++ left s.number s.offers s.refusals ∷ []) ≡ map (sender_of pipe producers capacity) xs ++ s ∷ []
  senders_snoc pipe producers capacity xs s own = map_snoc (sender_of pipe producers capacity) xs (left s.number s.offers s.refusals)
      ∙ ap (λ (x : Sender T). map (sender_of pipe producers capacity) xs ++ x ∷ [])
      (λ i. record { pipe = sym own.0 i; number = s.number; producers = sym own.1 i; capacity = sym own.2 i; offers = s.offers; refusals = s.refusals })

  -- what is kept after one more producer has left
  pub took_next : (pipe : TableId) (producers capacity made : ℕ) (v w : View T) (s : Sender T) (seen : Keeping T) → keeping pipe producers capacity made v.known ≡ seen → IsNext seen s
      → w ≡ keeper v.made v.size (v.known ++ left s.number s.offers s.refusals ∷ []) → keeping pipe producers capacity made w.known ≡ took_back seen s
  took_next pipe producers capacity made v w s seen is next then =
      let P : Keeping T → Type 0 = λ k. IsNext k s in
      let own = subst P (sym is) next in
      ap (λ (l : List (Left T)). keeping pipe producers capacity made l) (ap (λ (u : View T). u.known) then)
      ∙ ap (λ (l : List (Sender T)). record { pipe = pipe; producers = producers; capacity = capacity; made = made; senders = l }) (senders_snoc pipe producers capacity v.known s (own.0, own.2, own.3))
      ∙ ap (λ (k : Keeping T). took_back k s) is

  -- the keeper's view after one more producer has left
  pub known_next : (made : ℕ) (n : Size) (l : Left T) (v w : View T) → v ≡ keeper made n v.known → w ≡ keeper v.made v.size (v.known ++ l ∷ []) → w ≡ keeper made n w.known
  known_next made n l v w is then =
      let a : v.made ≡ made = ap (λ (u : View T). u.made) is in
      let b : v.size ≡ n = ap (λ (u : View T). u.size) is in
      let d : w.known ≡ v.known ++ l ∷ [] = ap (λ (u : View T). u.known) then in then ∙ (λ i. keeper (a i) (b i) (sym d i))

  pub left_next : (pipe : TableId) (producers capacity made : ℕ) (v w : View T) (s : Sender T) (seen : Keeping T) → keeping pipe producers capacity made v.known ≡ seen → IsNext seen s → AllFull s.producers s.number s.capacity s.offers s.refusals
      → AreLeft producers capacity v.known → w ≡ keeper v.made v.size (v.known ++ left s.number s.offers s.refusals ∷ []) → AreLeft producers capacity w.known
  left_next pipe producers capacity made v w s seen is next full olds then =
      let N : Keeping T → Type 0 = λ k. IsNext k s in
      let own = subst N (sym is) next in
      let at : s.number ≡ length v.known = own.1 ∙ length-map v.known (sender_of pipe producers capacity) in
      let F : ℕ → Left T → Type 0 = λ k l. (l.number ≡ k) × AllFull producers l.number capacity l.offers l.refusals in
      let P : ℕ → Type 0 = λ n. AllFull n s.number s.capacity s.offers s.refusals in
      let Q : ℕ → Type 0 = λ n. AllFull producers s.number n s.offers s.refusals in
      let R : List (Left T) → Type 0 = λ xs. AreLeft producers capacity xs in
      subst R (sym (ap (λ (u : View T). u.known) then)) (get_more F v.known (left s.number s.offers s.refusals) olds (at, subst Q own.3 (subst P own.2 full)))

  -- what the keeper learned, once it has taken back all, is the whole pipe
  whole_for : (pipe : TableId) (producers capacity : ℕ) (known : List (Left T)) (taken held : List (Entry T)) → AreLeft producers capacity known → Ended producers capacity known taken held
      → length (map (sender_of pipe producers capacity) known) ≡ producers → IsWhole capacity (map (sender_of pipe producers capacity) known) taken held
  whole_for pipe producers capacity known taken held lefts ended all = record {
    room = ended.0;
    ordered = λ p s at. let l = get_map (sender_of pipe producers capacity) known p s at in ended.1 p l.0 l.1 ∙ ap (λ (x : Sender T). x.offers) l.2;
    carried = λ p le. ended.2 p (omega arith);
    refused = λ p s at.
        let l = get_map (sender_of pipe producers capacity) known p s at in
        let fine = lefts p l.0 l.1 in
        let P : ℕ → Type 0 = λ n. AllFull n p capacity s.offers s.refusals in
        let Q : ℕ → Type 0 = λ n. AllFull producers n capacity s.offers s.refusals in
        let R : Sender T → Type 0 = λ x. AllFull producers l.0.number capacity x.offers x.refusals in
        subst P (sym all) (subst Q fine.0 (subst R l.2 fine.1));
  }

  pub whole_of : (pipe : TableId) (producers capacity made : ℕ) (n : Size) (v w u : View T) (taken held : List (Entry T)) (seen : Keeping T) → v ≡ keeper made (size_of capacity producers) v.known → w ≡ consumer n taken
      → u ≡ both_of v.made v.size w.taken v.known → AreLeft producers capacity v.known → Ended u.made u.size.capacity u.known u.taken held → keeping pipe producers capacity made v.known ≡ seen
      → (seen.made ≡ seen.producers) × (length seen.senders ≡ seen.producers) → IsWhole seen.capacity seen.senders taken held
  whole_of pipe producers capacity made n v w u taken held seen is took then lefts told same all =
      let P : View T → Type 0 = λ x. Ended x.made x.size.capacity x.known x.taken held in
      let Q : View T → Type 0 = λ x. Ended x.made x.size.capacity v.known w.taken held in
      let R : List (Entry T) → Type 0 = λ l. Ended made capacity v.known l held in
      let S : ℕ → Type 0 = λ m. Ended m capacity v.known taken held in
      let U : Keeping T → Type 0 = λ k. (k.made ≡ k.producers) × (length k.senders ≡ k.producers) → IsWhole k.capacity k.senders taken held in
      let ended : Ended made capacity v.known taken held = subst R (ap (λ (x : View T). x.taken) took) (subst Q is (subst P then told)) in
      subst U same (λ every. whole_for pipe producers capacity v.known taken held lefts (subst S every.0 ended) every.1) all

  -- the same, by other names of the keeper and the consumer
  pub whole_as : (k seen : Keeping T) (t taker : Taker T) (held : List (Entry T)) → k ≡ seen → t ≡ taker → taker.capacity ≡ seen.capacity → IsWhole seen.capacity seen.senders taker.taken held → IsWhole t.capacity k.senders t.taken held
  whole_as k seen t taker held same own e whole =
      let P : ℕ → Type 0 = λ n. IsWhole n seen.senders taker.taken held in
      let Q : Keeping T → Type 0 = λ x. IsWhole taker.capacity x.senders taker.taken held in
      let R : Taker T → Type 0 = λ x. IsWhole x.capacity k.senders x.taken held in
      subst R (sym own) (subst Q (sym same) (subst P (sym e) whole))
