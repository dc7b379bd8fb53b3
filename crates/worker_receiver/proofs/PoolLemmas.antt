-- A mark more that is passed over.
use Rattle.std.proofs.Common.{◌≡◌, inl, inr, ℕ, ◌+◌, None, Some, List, [], ◌∷◌, ◌++◌, length, append_assoc, length-append, ap, ◌∙◌}
use Rattle.ruled_pipe.specs.declared.entry.Entry.{Entry}
use Rattle.ruled_pipe.specs.Consumer.{Taker, took}
use Rattle.worker_receiver.specs.Pool.{Stock, AreMarks, Another, Found, FoundNone, buffer_in, passed}

marks_more : (es : List (Entry (List ℕ))) (e : Entry (List ℕ)) → AreMarks es → buffer_in e.load ≡ None → AreMarks (es ++ e ∷ [])
marks_more [] e are is = (is, tt)
marks_more (x ∷ es) e are is = (are.0, marks_more es e are.1 is)

pub passed_more : (old mid new : Taker (List ℕ)) (e : Entry (List ℕ)) → ((marks : List (Entry (List ℕ))) × AreMarks marks × (mid ≡ passed old marks)) → buffer_in e.load ≡ None → new ≡ took mid e
    → (marks : List (Entry (List ℕ))) × AreMarks marks × (new ≡ passed old marks)
passed_more old mid new e so_far is step = (
  so_far.0 ++ e ∷ [],
  marks_more so_far.0 e so_far.1 is,
  step ∙ ap (λ (t : Taker (List ℕ)). took t e) so_far.2 ∙ ap (λ (es : List (Entry (List ℕ))). record { pipe = old.pipe; producers = old.producers; capacity = old.capacity; taken = es; looks = old.looks }) (append_assoc old.taken so_far.0 (e ∷ [])),
)

-- a look that found nothing is one empty look, and a buffer that was found none
pub found_looks : (b : List ℕ) (old new : Taker (List ℕ)) → Found b old new → length new.looks ≡ length old.looks
found_looks b old new f = ap (λ (t : Taker (List ℕ)). length t.looks) f.4

pub none_looks : (old new : Taker (List ℕ)) → FoundNone old new → length new.looks ≡ length old.looks + 1
none_looks old new f = ap (λ (t : Taker (List ℕ)). length t.looks) f.2 ∙ length-append old.looks (length (passed old f.0).taken ∷ [])

pub another_looks : (b : List ℕ) (old new : Stock) → Another old (Some b) new → length new.free.looks ≡ length old.free.looks
another_looks b old new (inl a) = ap (λ (s : Stock). length s.free.looks) a.1
another_looks b old new (inr a) = found_looks b old.free new.free a.2
