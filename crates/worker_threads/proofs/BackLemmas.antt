-- Lists of workers that go into threads and come back, taken from their ends.
use Rattle.std.proofs.Common.{◌≡◌, ◌+◌, List, [], ◌∷◌, ◌++◌, length, map, reverse, refl, sym, ap, subst, ◌∙◌, arith, append_assoc, append-nil, length-append}
use Rattle.std.proofs.lemmas.List.{length-reverse, map-append, reverse-append, reverse-reverse}
use Rattle.worker_parts.specs.Back.{AreBack}

module _ {X : Type 0} where
  pub turned_long : (xs ys : List X) → ys ≡ reverse xs → length ys ≡ length xs
  turned_long xs ys is = ap length is ∙ length-reverse xs

  pub one_popped : (old new : List X) (x : X) → old ≡ new ++ x ∷ [] → length old ≡ length new + 1
  one_popped old new x is = ap length is ∙ length-append new (x ∷ [])

  -- the one that is popped comes first
  first_of : (old new : List X) (x : X) → old ≡ new ++ x ∷ [] → reverse old ≡ x ∷ reverse new
  first_of old new x is = ap reverse is ∙ reverse-append new (x ∷ [])

  -- one more at the end of some, before others
  one_later : (xs ys : List X) (x : X) → (xs ++ x ∷ []) ++ ys ≡ xs ++ x ∷ ys
  one_later xs ys x = append_assoc xs (x ∷ []) ys

  pub none_of : (xs : List X) → length xs ≡ 0 → xs ≡ []
  none_of [] e = refl
  none_of (x ∷ xs) e = absurd (omega arith)

-- what is known of those that have threads, and those that have none yet
module _ {H X : Type 0} (f : H → X) where
  pub none_made : (hs : List H) (ws all : List X) → hs ≡ [] → ws ≡ reverse all → map f hs ++ reverse ws ≡ all
  none_made hs ws all none is = ap (λ (l : List H). map f l ++ reverse ws) none ∙ (ap reverse is ∙ reverse-reverse all)

  pub more_made : (hs more : List H) (old new all : List X) → map f more ++ reverse new ≡ map f hs ++ reverse old → map f hs ++ reverse old ≡ all → map f more ++ reverse new ≡ all
  more_made hs more old new all same was = same ∙ was

  -- the next of them has one
  pub one_made : (hs more : List H) (old new : List X) (h : H) (x : X) → more ≡ hs ++ h ∷ [] → old ≡ new ++ x ∷ [] → f h ≡ x → map f more ++ reverse new ≡ map f hs ++ reverse old
  one_made hs more old new h x pushed popped is =
      ap (λ (l : List H). map f l ++ reverse new) pushed ∙ (ap (λ (l : List X). l ++ reverse new) (map-append f hs (h ∷ []))
      ∙ (one_later (map f hs) (reverse new) (f h) ∙ (ap (λ (y : X). map f hs ++ y ∷ reverse new) is ∙ sym (ap (λ (l : List X). map f hs ++ l) (first_of old new x popped)))))

  pub all_made : (hs : List H) (ws all : List X) → map f hs ++ reverse ws ≡ all → ws ≡ [] → map f hs ≡ all
  all_made hs ws all was none = sym (append-nil (map f hs)) ∙ (ap (λ (l : List X). map f hs ++ reverse l) (sym none) ∙ was)

-- those that came back, and those that are still to come
module _ {X Y H : Type 0} (R : X → Y → Type 0) (f : H → X) where
  pub back_first : (hs left : List H) (bs : List Y) (all : List X) → left ≡ reverse hs → map f hs ≡ all → bs ≡ [] → (ys : List Y) → AreBack R (map f (reverse left)) ys → AreBack R all (bs ++ ys)
  back_first hs left bs all turned are none ys rest =
      subst (λ (l : List Y). AreBack R all (l ++ ys)) (sym none) (subst (λ (l : List X). AreBack R l ys) are (subst (λ (l : List H). AreBack R (map f l) ys) (ap reverse turned ∙ reverse-reverse hs) rest))

  pub back_next : (old new : List H) (bs more : List Y) (h : H) (b : Y) (all : List X) → ((ys : List Y) → AreBack R (map f (reverse old)) ys → AreBack R all (bs ++ ys)) → old ≡ new ++ h ∷ [] → R (f h) b → more ≡ bs ++ b ∷ [] → (ys : List Y) → AreBack R (map f (reverse new)) ys → AreBack R all (more ++ ys)
  back_next old new bs more h b all was is back pushed ys rest =
      subst (λ (l : List Y). AreBack R all l) (sym (ap (λ (l : List Y). l ++ ys) pushed ∙ one_later bs ys b))
      (was (b ∷ ys) (subst (λ (l : List H). AreBack R (map f l) (b ∷ ys)) (sym (first_of old new h is)) (back, rest)))

  pub back_last : (hs : List H) (bs : List Y) (all : List X) → length hs ≡ 0 → ((ys : List Y) → AreBack R (map f (reverse hs)) ys → AreBack R all (bs ++ ys)) → AreBack R all bs
  back_last hs bs all none was =
      subst (λ (l : List Y). AreBack R all l) (append-nil bs) (was [] (subst (λ (l : List H). AreBack R (map f (reverse l)) []) (sym (none_of hs none)) tt))
