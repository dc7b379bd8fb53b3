-- What arrives, link by link: one more datagram, and the pipeline that begins with all of them.
use Rattle.std.proofs.Common.{◌≡◌, ◌≢◌, ◌<◌, ℕ, zero, suc, ◌+◌, eqb, true, List, [], ◌∷◌, ◌++◌, length, map, refl, sym, ap, subst, ◌∙◌, arith, inl, inr, add-zero}
use Rattle.std.specs.Prelude.{slice_set, slice_index_or}
use Rattle.std.specs.List.{range_with_len}
use Rattle.std.specs.declared.alloc.Global.{Global}
use Rattle.std.specs.declared.vec.Vec.{Vec}
use Rattle.std.proofs.lemmas.Bool.{cases_Bool}
use Rattle.std.proofs.lemmas.Bool.Decides.{Decides-eqb}
use Rattle.process_packet.specs.declared.arrival.Arrival.{Arrival as Came}
use Rattle.process_packet.specs.declared.config.Config.{Config}
use Rattle.replay_laws.specs.Pipe.{Entry, Pipe}
use Rattle.pipe_model.specs.Begun.{AreArrivals, AreFrom, AreNumbered, begun}
use Rattle.replay_state.specs.Arrivals.{datagram_of, source, source_entry, sources_from}
use Rattle.router_rules.specs.Datagram.{Datagram}
use Rattle.router_rules.specs.Links.{link_index}
use Rattle.router_rules.specs.Rules.{kinds}
use Rattle.cli_replay.specs.Gathered.{AreGathered, AreOf, entry, numbered, source_of, starting}

-- ---- one more list, with nothing in it

pub one_more_list : (c : Config) (a : ℕ) (lists : List (Vec Came Global)) (xs : Vec Came Global) → xs.items ≡ [] → AreOf c [] a lists → AreOf c [] a (lists ++ xs ∷ [])
one_more_list c a [] xs empty so_far =
    let P : List Came → Type 0 = λ ys. AreNumbered c a 1 ys in
    (ap (λ (ys : List Came). map (source_entry a) ys) empty, subst P (sym empty) tt, tt)
one_more_list c a (ys ∷ lists) xs empty so_far = (so_far.0, so_far.1, one_more_list c (a + 1) lists xs empty so_far.2)

-- ---- one more datagram

numbered_more : (c : Config) (a n : ℕ) (ds : List Datagram) (d : Datagram) → link_index c d.interface ≡ a
    → numbered c a n (ds ++ d ∷ []) ≡ numbered c a n ds ++ entry a (n + length (numbered c a n ds)) d ∷ []
numbered_more c a n [] d here =
    let hit : eqb (link_index c d.interface) a ≡ true = (Decides-eqb (link_index c d.interface) a).1 here in
    rw (hit, add-zero) refl
numbered_more c a n (e ∷ ds) d here = elim (cases_Bool (eqb (link_index c e.interface) a)) [
  | inl hit ↦
      let rest = numbered_more c a (n + 1) ds d here in
      let one : (n + 1) + length (numbered c a (n + 1) ds) ≡ n + suc (length (numbered c a (n + 1) ds)) = omega arith in
      rw hit (ap (λ (xs : List (Entry kinds)). entry a n e ∷ xs) (rest ∙ ap (λ k. numbered c a (n + 1) ds ++ entry a k d ∷ []) one))
  | inr miss ↦ rw miss (numbered_more c a n ds d here)
]

numbered_same : (c : Config) (a n : ℕ) (ds : List Datagram) (d : Datagram) → link_index c d.interface ≢ a → numbered c a n (ds ++ d ∷ []) ≡ numbered c a n ds
numbered_same c a n [] d other = elim (cases_Bool (eqb (link_index c d.interface) a)) [
  | inl hit ↦ absurd (other ((Decides-eqb (link_index c d.interface) a).0 hit))
  | inr miss ↦ rw miss refl
]
numbered_same c a n (e ∷ ds) d other = elim (cases_Bool (eqb (link_index c e.interface) a)) [
  | inl hit ↦ rw hit (ap (λ (xs : List (Entry kinds)). entry a n e ∷ xs) (numbered_same c a (n + 1) ds d other))
  | inr miss ↦ rw miss (numbered_same c a n ds d other)
]

one_more_numbered : (c : Config) (a n : ℕ) (xs : List Came) (x : Came) → link_index c x.link ≡ a → x.number ≡ n + length xs → AreNumbered c a n xs → AreNumbered c a n (xs ++ x ∷ [])
one_more_numbered c a n [] x here number so_far = (here, number ∙ add-zero n, tt)
one_more_numbered c a n (y ∷ xs) x here number so_far =
    let next : x.number ≡ (n + 1) + length xs = omega (arith, number) in
    (so_far.0, so_far.1, one_more_numbered c a (n + 1) xs x here next so_far.2)

map_more : (a : ℕ) (xs : List Came) (x : Came) → map (source_entry a) (xs ++ x ∷ []) ≡ map (source_entry a) xs ++ source_entry a x ∷ []
map_more a [] x = refl
map_more a (y ∷ xs) x = ap (λ (es : List (Entry kinds)). source_entry a y ∷ es) (map_more a xs x)

length_mapped : (a : ℕ) (xs : List Came) → length (map (source_entry a) xs) ≡ length xs
length_mapped a [] = refl
length_mapped a (x ∷ xs) = ap suc (length_mapped a xs)

-- the lists of other links
others : (c : Config) (ds : List Datagram) (d : Datagram) (a : ℕ) (lists : List (Vec Came Global)) → link_index c d.interface < a → AreOf c ds a lists → AreOf c (ds ++ d ∷ []) a lists
others c ds d a [] before so_far = tt
others c ds d a (xs ∷ lists) before so_far =
    let other : link_index c d.interface ≢ a = omega arith in
    let later : link_index c d.interface < a + 1 = omega arith in
    (so_far.0 ∙ sym (numbered_same c a 1 ds d other), so_far.1, others c ds d (a + 1) lists later so_far.2)

-- the datagram after those of its link
pub record IsNext (c : Config) (xs ys : List Came) (x : Came) (d : Datagram) : Type 0 where
  pub same : datagram_of x ≡ d
  pub number : x.number ≡ 1 + length xs
  pub after : ys ≡ xs ++ x ∷ []

here_list : (c : Config) (ds : List Datagram) (d : Datagram) (a : ℕ) (xs ys : List Came) (x : Came) → link_index c d.interface ≡ a → IsNext c xs ys x d
    → map (source_entry a) xs ≡ numbered c a 1 ds → AreNumbered c a 1 xs → (map (source_entry a) ys ≡ numbered c a 1 (ds ++ d ∷ [])) × AreNumbered c a 1 ys
here_list c ds d a xs ys x here next so_far numbers =
    let count : length (numbered c a 1 ds) ≡ length xs = sym (ap length so_far) ∙ length_mapped a xs in
    let number : 1 + length (numbered c a 1 ds) ≡ x.number = ap (λ k. 1 + k) count ∙ sym next.number in
    let last : entry a (1 + length (numbered c a 1 ds)) d ≡ source_entry a x = ap (λ k. entry a k d) number ∙ ap (λ (e : Datagram). entry a x.number e) (sym next.same) in
    let link : link_index c x.link ≡ a = ap (λ (e : Datagram). link_index c e.interface) next.same ∙ here in
    let P : List Came → Type 0 = λ zs. AreNumbered c a 1 zs in (
      ap (λ (zs : List Came). map (source_entry a) zs) next.after ∙ map_more a xs x ∙ ap (λ (es : List (Entry kinds)). es ++ source_entry a x ∷ []) so_far
          ∙ ap (λ (e : Entry kinds). numbered c a 1 ds ++ e ∷ []) (sym last) ∙ sym (numbered_more c a 1 ds d here),
      subst P (sym next.after) (one_more_numbered c a 1 xs x link next.number numbers),
    )

add_at : (c : Config) (ds : List Datagram) (d : Datagram) (x : Came) (a j : ℕ) (lists : List (Vec Came Global)) (v w : Vec Came Global) → link_index c d.interface ≡ a + j → j < length lists
    → IsNext c (slice_index_or lists j w).items v.items x d → AreOf c ds a lists → AreOf c (ds ++ d ∷ []) a (slice_set lists j v)
add_at c ds d x a j [] v w here within next so_far = absurd (omega (arith, within))
add_at c ds d x a zero (xs ∷ lists) v w here within next so_far =
    let here_now : link_index c d.interface ≡ a = here ∙ add-zero a in
    let later : link_index c d.interface < a + 1 = omega (arith, here_now) in
    let both = here_list c ds d a xs.items v.items x here_now next so_far.0 so_far.1 in
    (both.0, both.1, others c ds d (a + 1) lists later so_far.2)
add_at c ds d x a (suc j) (xs ∷ lists) v w here within next so_far =
    let other : link_index c d.interface ≢ a = omega (arith, here) in
    let there : link_index c d.interface ≡ (a + 1) + j = omega (arith, here) in
    let inside : j < length lists = omega (arith, within) in
    (so_far.0 ∙ sym (numbered_same c a 1 ds d other), so_far.1, add_at c ds d x (a + 1) j lists v w there inside next so_far.2)

length_set : (lists : List (Vec Came Global)) (j : ℕ) (v : Vec Came Global) → length (slice_set lists j v) ≡ length lists
length_set [] j v = refl
length_set (xs ∷ lists) zero v = refl
length_set (xs ∷ lists) (suc j) v = ap suc (length_set lists j v)

pub added : (c : Config) (ds : List Datagram) (d : Datagram) (x : Came) (j : ℕ) (lists : List (Vec Came Global)) (v w : Vec Came Global) → j ≡ link_index c d.interface → j < length lists
    → w ≡ slice_index_or lists j w → IsNext c w.items v.items x d → AreGathered c ds lists → AreGathered c (ds ++ d ∷ []) (slice_set lists j v)
added c ds d x j lists v w is within here next so_far =
    let at : link_index c d.interface ≡ 0 + j = omega (arith, is) in
    let P : Vec Came Global → Type 0 = λ u. IsNext c u.items v.items x d in
    record {
      count = length_set lists j v ∙ so_far.count;
      lists_are = add_at c ds d x 0 j lists v w at within (subst P here next) so_far.lists_are;
    }

-- ---- the pipeline that begins with them

sources_are : (c : Config) (ds : List Datagram) (a : ℕ) (lists : List (Vec Came Global)) → AreOf c ds a lists → sources_from a lists ≡ map (source_of c ds) (range_with_len a (length lists))
sources_are c ds a [] so_far = refl
sources_are c ds a (xs ∷ lists) so_far =
    let first : source a xs.items ≡ source_of c ds a = ap (λ (h : List (Entry kinds)). record { history = h; taken = 0; capacity = 0; refusals = [] }) so_far.0 in
    ap (λ (p : Pipe kinds). p ∷ sources_from (a + 1) lists) first ∙ ap (λ (ps : List (Pipe kinds)). source_of c ds a ∷ ps) (sources_are c ds (a + 1) lists so_far.2)

are_from : (c : Config) (ds : List Datagram) (a : ℕ) (lists : List (Vec Came Global)) → AreOf c ds a lists → AreFrom c a lists
are_from c ds a [] so_far = tt
are_from c ds a (xs ∷ lists) so_far = (so_far.1, are_from c ds (a + 1) lists so_far.2)

pub arrivals_are : (c : Config) (ds : List Datagram) (lists : List (Vec Came Global)) → AreGathered c ds lists → AreArrivals c lists
arrivals_are c ds lists so_far = (so_far.count, are_from c ds 0 lists so_far.lists_are)

pub begins : (c : Config) (ds : List Datagram) (lists : List (Vec Came Global)) → AreGathered c ds lists → begun c lists ≡ starting c ds
unfolding starting
begins c ds lists so_far = rw (sources_are c ds 0 lists so_far.lists_are, so_far.count) refl
