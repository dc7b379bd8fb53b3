-- Lists of two, for the examples of the tests.
use Rattle.std.specs.Prelude.{IfOk, Ok, Option, Result, option_to_list}
use Rattle.std.proofs.Common.{◌≡◌, ℕ, zero, suc, List, [], ◌∷◌, ◌++◌, length, Some, slice_get, sym, refl, ap, ◌∙◌, subst, length-append, arith}
use Rattle.ruled_pipe.specs.declared.entry.Load.TheVariants.{Payload, Marked}
use Rattle.ruled_pipe.specs.declared.entry.Mark.TheVariants.{Close, End}
use Rattle.ruled_pipe.specs.Producer.{Sender, entry, new_sender, offered, refused}
use Rattle.ruled_pipe.specs.Consumer.{Taker, looked, new_taker, took}
use Rattle.ruled_pipe.specs.Pipe.{AreNew}
use Rattle.ruled_pipe.specs.Gathered.{EndsWithMark, EachEndsWithMark, ends_in}
use Rattle.ruled_pipe.specs.Gathered.{Views}
use Rattle.pipeline_tests.specs.Pipe.{IsExample}
use Rattle.ruled_pipe.proofs.Drained.{all_taken, no_entry}
use Rattle.atomic_table.specs.Seated.{TableId}

module _ {A E : Type 0} where
  -- of the value what is known of the result
  pub of_ok : (P : A → Type 0) (r : Result A E) (x : A) → r ≡ Ok x → IfOk r P → P x
  of_ok P r x is all = subst (λ (s : Result A E). IfOk s P) is all

module _ {X : Type 0} where
  pub popped : (old new : List X) (o : Option X) (x : X) → old ≡ new ++ option_to_list o → o ≡ Some x → old ≡ new ++ x ∷ []
  popped old new o x is some = is ∙ ap (λ (p : Option X). new ++ option_to_list p) some

  -- the last two of a list of two
  pub last_two : (l m rest : List X) (a b : X) → length l ≡ 2 → l ≡ m ++ b ∷ [] → m ≡ rest ++ a ∷ [] → l ≡ a ∷ b ∷ []
  last_two l m rest a b two last before =
      let n = ap length last in let k = ap length before in
      let none : rest ≡ [] = no_entry rest (omega (arith, length-append m (b ∷ []), length-append rest (a ∷ []))) in
      last ∙ ap (λ (s : List X). s ++ b ∷ []) (before ∙ ap (λ (s : List X). s ++ a ∷ []) none)

module _ {T : Type 0} where
  pub two_new : (pipe : TableId) (capacity : ℕ) (senders : List (Sender T)) (a b : Sender T) → AreNew pipe capacity 2 2 senders → senders ≡ a ∷ b ∷ [] → (a ≡ new_sender pipe 0 2 capacity) × (b ≡ new_sender pipe 1 2 capacity)
  two_new pipe capacity senders a b new is =
      let Q : List (Sender T) → Type 0 = λ l. AreNew pipe capacity 2 2 l in
      let all = (subst Q is new).1 in (all 0 a refl, all 1 b refl)

abbrev EndsOf : Sender ℕ → Type 0
EndsOf s = EndsWithMark s.offers

each_of : (P : Sender ℕ → Type 0) (a b : Sender ℕ) → P a → P b → (k : ℕ) (s : Sender ℕ) → slice_get (a ∷ b ∷ []) k ≡ Some s → P s
each_of P a b pa pb zero s at = let e : a ≡ s = cc in subst P e pa
each_of P a b pa pb (suc zero) s at = let e : b ≡ s = cc in subst P e pb
each_of P a b pa pb (suc (suc k)) s at = cc

abbrev first_after : TableId → Sender ℕ
first_after pipe = offered (refused (offered (new_sender pipe 0 2 2) (entry 0 (Payload 10))) (entry 0 (Payload 12))) (entry 0 (Marked Close))

abbrev second_after : TableId → Sender ℕ
second_after pipe = offered (new_sender pipe 1 2 2) (entry 1 (Payload 11))

abbrev taker_after : TableId → Taker ℕ
taker_after pipe = looked (took (took (took (new_taker pipe 2 2) (entry 0 (Payload 10))) (entry 1 (Payload 11))) (entry 0 (Marked Close)))

pub is_example : (pipe : TableId) → IsExample (record { senders = first_after pipe ∷ second_after pipe ∷ []; taker = taker_after pipe })
is_example pipe = record {
  senders = refl;
  taken = refl;
  looks = refl;
  empty = λ held whole. all_taken 2 (first_after pipe ∷ second_after pipe ∷ []) (taker_after pipe).taken held whole refl;
}

pub example_of : (pipe : TableId) (v : Views ℕ) (a0 a1 a2 b0 b1 : Sender ℕ) (c0 c1 : Taker ℕ)
    → a0 ≡ new_sender pipe 0 2 2 → a1 ≡ refused (offered a0 (entry a0.number (Payload 10))) (entry a0.number (Payload 12)) → a2 ≡ offered a1 (entry a1.number (Marked Close))
    → b0 ≡ new_sender pipe 1 2 2 → b1 ≡ offered b0 (entry b0.number (Payload 11))
    → c0 ≡ new_taker pipe 2 2 → c1 ≡ looked (took (took (took c0 (entry 0 (Payload 10))) (entry 1 (Payload 11))) (entry 0 (Marked Close)))
    → v.senders ≡ a2 ∷ b1 ∷ [] → v.taker ≡ c1 → IsExample v
example_of pipe v a0 a1 a2 b0 b1 c0 c1 isA thenA lastA isB thenB isC thenC senders taker =
    let one : a1 ≡ refused (offered (new_sender pipe 0 2 2) (entry 0 (Payload 10))) (entry 0 (Payload 12)) = thenA ∙ ap (λ (s : Sender ℕ). refused (offered s (entry s.number (Payload 10))) (entry s.number (Payload 12))) isA in
    let two : a2 ≡ first_after pipe = lastA ∙ ap (λ (s : Sender ℕ). offered s (entry s.number (Marked Close))) one in
    let other : b1 ≡ second_after pipe = thenB ∙ ap (λ (s : Sender ℕ). offered s (entry s.number (Payload 11))) isB in
    let taken : c1 ≡ taker_after pipe = thenC ∙ ap (λ (t : Taker ℕ). looked (took (took (took t (entry 0 (Payload 10))) (entry 1 (Payload 11))) (entry 0 (Marked Close)))) isC in
    let all : v.senders ≡ first_after pipe ∷ second_after pipe ∷ [] = senders ∙ (λ i. two i ∷ other i ∷ []) in
    let end : v.taker ≡ taker_after pipe = taker ∙ taken in
    let P : List (Sender ℕ) × Taker ℕ → Type 0 = λ p. IsExample (record { senders = p.0; taker = p.1 }) in
    subst P (λ i. (sym all i, sym end i)) (is_example pipe)

-- both producers ended, and both end marks were taken
pub ended_of : (pipe : TableId) (senders : List (Sender ℕ)) (a0 a1 b0 b1 : Sender ℕ) → a0 ≡ new_sender pipe 0 2 2 → a1 ≡ offered (offered a0 (entry a0.number (Payload 10))) (entry a0.number (Marked End))
    → b0 ≡ new_sender pipe 1 2 2 → b1 ≡ offered b0 (entry b0.number (Marked End)) → senders ≡ a1 ∷ b1 ∷ [] → EachEndsWithMark senders
ended_of pipe senders a0 a1 b0 b1 isA thenA isB thenB all =
    let first : Sender ℕ = offered (offered (new_sender pipe 0 2 2) (entry 0 (Payload 10))) (entry 0 (Marked End)) in
    let second : Sender ℕ = offered (new_sender pipe 1 2 2) (entry 1 (Marked End)) in
    let one : a1 ≡ first = thenA ∙ ap (λ (s : Sender ℕ). offered (offered s (entry s.number (Payload 10))) (entry s.number (Marked End))) isA in
    let two : b1 ≡ second = thenB ∙ ap (λ (s : Sender ℕ). offered s (entry s.number (Marked End))) isB in
    let is : senders ≡ first ∷ second ∷ [] = all ∙ (λ i. one i ∷ two i ∷ []) in
    subst EachEndsWithMark (sym is) (each_of EndsOf first second (entry 0 (Payload 10) ∷ [], entry 0 (Marked End), refl, refl, refl) ([], entry 1 (Marked End), refl, refl, refl))

pub ends_taken : (pipe : TableId) (senders : List (Sender ℕ)) (a b : Sender ℕ) (c0 c1 v : Taker ℕ) → c0 ≡ new_taker pipe 2 2
    → c1 ≡ took (took (took c0 (entry 0 (Payload 10))) (entry 0 (Marked End))) (entry 1 (Marked End)) → v ≡ c1 → senders ≡ a ∷ b ∷ [] → ends_in v.taken ≡ length senders
ends_taken pipe senders a b c0 c1 v isC thenC taker all =
    let taken : v ≡ took (took (took (new_taker pipe 2 2) (entry 0 (Payload 10))) (entry 0 (Marked End))) (entry 1 (Marked End)) =
    taker ∙ thenC ∙ ap (λ (t : Taker ℕ). took (took (took t (entry 0 (Payload 10))) (entry 0 (Marked End))) (entry 1 (Marked End))) isC in
    ap (λ (t : Taker ℕ). ends_in t.taken) taken ∙ ap length (sym all)
