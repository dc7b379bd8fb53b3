-- Some packets of one arriving link on their way to one leaving link, read as one line of all that is under way:
-- the forwarder's pipe, the processor's hand, its pipe, the receiver's hand, the arrivals still to come.
use Rattle.std.proofs.Common.{◌≡◌, ◌⊎◌, inl, inr, ℕ, Bool, true, false, ◌&&◌, ◌≤◌, List, [], ◌∷◌, ◌++◌, length, refl, sym, ◌∙◌, ap, ap₂, eqb, append_assoc}
use Rattle.std.specs.Prelude.{Some}
use Rattle.std.specs.List.{flat_map}
use Rattle.std.proofs.lemmas.List.{append-nil}
use Rattle.std.proofs.lemmas.List.Concat.{flat_map-append}
use Rattle.order_laws.specs.Expected.{Departure, only, sent_to}
use Rattle.order_laws.specs.Item.{Arrived, Request, Close, End, Item, Out, Packet}
use Rattle.replay_laws.specs.Marks.{before_close}
use Rattle.order_laws.specs.Kinds.{Kinds}
use Rattle.order_laws.specs.Departures.{sends_of}
use Rattle.replay_laws.specs.Pipe.{Pipe, front, gone, held, is_shut, items, one_taken, passed, pushed}
use Rattle.order_laws.specs.Rules.{Rules}
use Rattle.replay_laws.specs.Worker.{Worker}
use Rattle.replay_laws.specs.World.{Empty, Got, Hand, Owes, World, hand, pipe, with_hand, with_pipe}
use Rattle.replay_laws.proofs.Parts.{hand_cases, pipe_cases, held_front, gone_front, held_pushed, gone_pushed, before_open, before_all, before_shut}

module _ {K : Kinds} where
  module _ (R : Rules K) (a l : ℕ) (wanted : ℕ → Bool) where
    -- what an item is to become on this thread
    abbrev pub adds : Item K → List (Departure K)
    adds (Arrived x) = only (eqb x.link a && wanted x.number) (sent_to l x.number (R.decide x))
    adds (Packet x) = only (eqb x.link a && wanted x.number) (sent_to l x.number (R.decide x))
    adds (Request x n) = []
    adds (Out o) = only (eqb o.link l) (sends_of a wanted (Out o))
    adds Close = []
    adds End = []

    abbrev pub in_hand : Hand K → List (Departure K)
    in_hand Empty = []
    in_hand (Got x) = adds x
    in_hand (Owes x) = adds x

    abbrev pub on_way : List (Item K) → List (Departure K)
    on_way xs = flat_map adds xs

    -- what seat i has in its hand and in the pipe of the same place: a receiver or a processor
    abbrev pub has : World K → ℕ → List (Departure K)
    has w i = in_hand (hand w i) ++ on_way (held (pipe w i))

    -- what went through a pipe for sending, and what it holds
    abbrev pub had : World K → ℕ → List (Departure K)
    had w q = on_way (passed (pipe w q)) ++ on_way (held (pipe w q))

    -- of receiver a, the processor's seat S, and the pipe Q of the leaving link
    abbrev pub line : (S Q : ℕ) → World K → List (Departure K)
    line S Q w = had w Q ++ (has w S ++ has w a)

    pub has_same : (w v : World K) (i : ℕ) → in_hand (hand v i) ≡ in_hand (hand w i) → on_way (held (pipe v i)) ≡ on_way (held (pipe w i)) → has v i ≡ has w i
    has_same w v i h p = ap₂ (λ (ys zs : List (Departure K)). ys ++ zs) h p

    pub had_same : (w v : World K) (q : ℕ) → pipe v q ≡ pipe w q → had v q ≡ had w q
    had_same w v q e = ap (λ (p : Pipe K). on_way (passed p) ++ on_way (held p)) e

    pub line_same : (S Q : ℕ) (w v : World K) → had v Q ≡ had w Q → has v S ≡ has w S → has v a ≡ has w a → line S Q v ≡ line S Q w
    line_same S Q w v h2 h1 h0 = ap₂ (λ (ys zs : List (Departure K)). ys ++ zs) h2 (ap₂ (λ (ys zs : List (Departure K)). ys ++ zs) h1 h0)

    -- a hand that has the same for the line
    pub hand_line : (S Q : ℕ) (w : World K) (j : ℕ) (h : Hand K) → in_hand h ≡ in_hand (hand w j) → line S Q (with_hand w j h) ≡ line S Q w
    hand_line S Q w j h e = line_same S Q w (with_hand w j h) refl (has_same w (with_hand w j h) S (go S (hand_cases w j h S)) refl) (has_same w (with_hand w j h) a (go a (hand_cases w j h a)) refl)
      where
        go : (i : ℕ) → (hand (with_hand w j h) i ≡ hand w i) ⊎ ((i ≡ j) × (hand (with_hand w j h) i ≡ h)) → in_hand (hand (with_hand w j h) i) ≡ in_hand (hand w i)
        go i (inl k) = ap in_hand k
        go i (inr k) = ap in_hand k.1 ∙ (e ∙ ap (λ (n : ℕ). in_hand (hand w n)) (sym k.0))

    -- a pipe that has the same for the line
    pub pipe_line : (S Q : ℕ) (w : World K) (q : ℕ) (p : Pipe K) → on_way (held p) ≡ on_way (held (pipe w q)) → on_way (passed p) ≡ on_way (passed (pipe w q)) → line S Q (with_pipe w q p) ≡ line S Q w
    pipe_line S Q w q p e f =
        let v = with_pipe w q p in
        line_same S Q w v
        (ap₂ (λ (ys zs : List (Departure K)). ys ++ zs) (past Q (pipe_cases w q p Q)) (go Q (pipe_cases w q p Q)))
        (has_same w v S refl (go S (pipe_cases w q p S)))
        (has_same w v a refl (go a (pipe_cases w q p a)))
      where
        go : (i : ℕ) → (pipe (with_pipe w q p) i ≡ pipe w i) ⊎ ((i ≡ q) × (pipe (with_pipe w q p) i ≡ p)) → on_way (held (pipe (with_pipe w q p) i)) ≡ on_way (held (pipe w i))
        go i (inl k) = ap (λ (z : Pipe K). on_way (held z)) k
        go i (inr k) = ap (λ (z : Pipe K). on_way (held z)) k.1 ∙ (e ∙ ap (λ (n : ℕ). on_way (held (pipe w n))) (sym k.0))

        past : (i : ℕ) → (pipe (with_pipe w q p) i ≡ pipe w i) ⊎ ((i ≡ q) × (pipe (with_pipe w q p) i ≡ p)) → on_way (passed (pipe (with_pipe w q p) i)) ≡ on_way (passed (pipe w i))
        past i (inl k) = ap (λ (z : Pipe K). on_way (passed z)) k
        past i (inr k) = ap (λ (z : Pipe K). on_way (passed z)) k.1 ∙ (f ∙ ap (λ (n : ℕ). on_way (passed (pipe w n))) (sym k.0))

    -- the first of a pipe
    pub way_front : (p : Pipe K) (x : Item K) → front p ≡ Some x → on_way (held p) ≡ adds x ++ on_way (held (one_taken p))
    way_front p x e = ap on_way (held_front p x e)

    kept : (x : Item K) → on_way (before_close (x ∷ [])) ≡ adds x
    kept (Arrived x) = append-nil _
    kept (Packet x) = append-nil _
    kept (Request x n) = refl
    kept (Out o) = append-nil _
    kept Close = refl
    kept End = refl

    pub had_taken : (p : Pipe K) (x : Item K) → front p ≡ Some x → is_shut p ≡ false → on_way (passed (one_taken p)) ++ on_way (held (one_taken p)) ≡ on_way (passed p) ++ on_way (held p)
    had_taken p x e unshut =
        let e1 : passed (one_taken p) ≡ gone p ++ before_close (x ∷ []) = ap before_close (gone_front p x e) ∙ before_open (gone p) x unshut in
        let e2 : passed p ≡ gone p = before_all (gone p) unshut in
        let e3 = way_front p x e in
        let e4 : on_way (passed (one_taken p)) ≡ on_way (gone p) ++ on_way (before_close (x ∷ [])) = ap on_way e1 ∙ flat_map-append adds (gone p) (before_close (x ∷ [])) in
        ap (λ (ys : List (Departure K)). ys ++ on_way (held (one_taken p))) (e4 ∙ ap (λ (ys : List (Departure K)). on_way (gone p) ++ ys) (kept x))
        ∙ (append_assoc (on_way (gone p)) (adds x) (on_way (held (one_taken p)))
        ∙ ap₂ (λ (ys zs : List (Departure K)). ys ++ zs) (ap on_way (sym e2)) (sym e3))

    -- a sweep
    pub had_swept : (p : Pipe K) (x : Item K) → front p ≡ Some x → is_shut p ≡ true → passed (one_taken p) ≡ passed p
    had_swept p x e shut = ap before_close (gone_front p x e) ∙ before_shut (gone p) x shut

    -- a push
    pub way_pushed : (p : Pipe K) (from : Worker) (x : Item K) → p.taken ≤ length (items p.history) → on_way (held (pushed p from x)) ≡ on_way (held p) ++ adds x
    way_pushed p from x h = ap on_way (held_pushed p from x h) ∙ (flat_map-append adds (held p) (x ∷ []) ∙ ap (λ (ys : List (Departure K)). on_way (held p) ++ ys) (append-nil (adds x)))

    pub passed_pushed : (p : Pipe K) (from : Worker) (x : Item K) → p.taken ≤ length (items p.history) → passed (pushed p from x) ≡ passed p
    passed_pushed p from x h = ap before_close (gone_pushed p from x h)
