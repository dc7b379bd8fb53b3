-- Pipes of free buffers, filled one after another.
use Rattle.std.proofs.Common.{◌≡◌, ℕ, suc, ◌+◌, List, [], ◌∷◌, ◌++◌, length, sym, ◌∙◌, ap, subst, length-append}
use Rattle.std.proofs.lemmas.Grind.{flat_map-append}
use Rattle.std.proofs.lemmas.List.{map-append}
use Rattle.order_laws.specs.Deeds.{Pushed, payload_of, payloads}
use Rattle.ruled_pipe.specs.declared.entry.Entry.{Entry}
use Rattle.ruled_pipe.specs.declared.entry.Load.TheVariants.{Payload}
use Rattle.ruled_pipe.specs.Producer.{Sender, entry, offered}
use Rattle.ruled_pipe.specs.Pipe.{IsEndOf, Shape}
use Rattle.worker_laws.specs.Ends.{pushed_in, pushes}
use Rattle.run_ends.specs.Rows.{fresh_ends}
use Rattle.run_ends.specs.Opened.{AreMadeOf}
use Rattle.run_pipes.specs.Filling.{HasPut}

-- one payload more
pub payload_more : {T : Type 0} (es : List (Entry T)) (n : ℕ) (x : T) → length (payloads (pushes (es ++ entry n (Payload x) ∷ []))) ≡ length (payloads (pushes es)) + 1
payload_more {T = T} es n x =
    let more : pushes (es ++ entry n (Payload x) ∷ []) ≡ pushes es ++ pushed_in (entry n (Payload x)) ∷ [] = map-append pushed_in es (entry n (Payload x) ∷ []) in
    ap (λ (ps : List (Pushed T)). length (payloads ps)) more ∙ (ap length (flat_map-append (λ (e : Pushed T). payload_of e.load) (pushes es) (pushed_in (entry n (Payload x)) ∷ [])) ∙ length-append (payloads (pushes es)) (x ∷ []))

-- one buffer more
pub put_more : (n : ℕ) (e s t : Sender (List ℕ)) (x : List ℕ) → t ≡ offered s (entry s.number (Payload x)) → HasPut n e s → HasPut (n + 1) e t
put_more n e s t x more put = subst (λ (v : Sender (List ℕ)). HasPut (n + 1) e v) (sym more) (put.0, payload_more s.offers s.number x ∙ ap (λ (m : ℕ). m + 1) put.1)

pub filled : (number buffers k : ℕ) (ss : List Shape) (fs : List (Sender (List ℕ))) → AreMadeOf (λ _ s f. HasPut buffers s f) k (fresh_ends number ss) fs → AreMadeOf (λ _ s f. IsEndOf s number f × (length (payloads (pushes f.offers)) ≡ buffers)) k ss fs
filled number buffers k [] [] all = tt
filled number buffers k [] (f ∷ fs) all = absurd all
filled number buffers k (s ∷ ss) [] all = absurd all
filled number buffers k (s ∷ ss) (f ∷ fs) all = (all.0, filled number buffers (suc k) ss fs all.1)
