-- A segment identifier set: what stays, and what is read then.
use Rattle.std.proofs.Common.{◌≡◌, ◌≢◌, ◌<◌, ◌+◌, ℕ, zero, suc, List, [], ◌∷◌, length, take, refl, sym, ap, ◌∙◌, arith, Option, Some, None}
use Rattle.std.proofs.lemmas.List.Sums.{sum_by-cons}
use Rattle.path_fields.specs.InPlace.{with_segment_id}
use Rattle.scion_packet.specs.Path.{InfoField, Place, Segment, count_hops, hops_in, place_at}
use Rattle.scion_packet.specs.Places.{hop_there, info_there}
use Rattle.process_packet.specs.PacketView.{IsAlike, IsWhole, with_id}
use Rattle.process_packet.specs.PathHop.{IsPathHop}
use Rattle.process_packet.specs.declared.path_hop.PathHop.{PathHop}

-- an info field with another identifier
abbrev pub with_id_of : ℕ → InfoField → InfoField
with_id_of id i = record i { segment_id = id }

len_set : (ss : List Segment) (k id : ℕ) → length (with_segment_id ss k id) ≡ length ss
len_set [] k id = refl
len_set (s ∷ ss) zero id = refl
len_set (s ∷ ss) (suc k) id = ap suc (len_set ss k id)

total_set : (ss : List Segment) (k id : ℕ) → count_hops (with_segment_id ss k id) ≡ count_hops ss
total_set [] k id = refl
total_set (s ∷ ss) zero id = refl
total_set (s ∷ ss) (suc k) id =
    sum_by-cons (λ (t : Segment). length t.hops) s (with_segment_id ss k id) ∙ ap (λ (n : ℕ). length s.hops + n) (total_set ss k id)
    ∙ sym (sum_by-cons (λ (t : Segment). length t.hops) s ss)

hops_set : (ss : List Segment) (k id j : ℕ) → hops_in (with_segment_id ss k id) j ≡ hops_in ss j
hops_set [] k id j = refl
hops_set (s ∷ ss) zero id zero = refl
hops_set (s ∷ ss) zero id (suc j) = refl
hops_set (s ∷ ss) (suc k) id zero = refl
hops_set (s ∷ ss) (suc k) id (suc j) = hops_set ss k id j

before_set : (ss : List Segment) (k id j : ℕ) → count_hops (take j (with_segment_id ss k id)) ≡ count_hops (take j ss)
before_set [] k id j = refl
before_set (s ∷ ss) k id zero = refl
before_set (s ∷ ss) zero id (suc j) = refl
before_set (s ∷ ss) (suc k) id (suc j) =
    sum_by-cons (λ (t : Segment). length t.hops) s (take j (with_segment_id ss k id)) ∙ ap (λ (n : ℕ). length s.hops + n) (before_set ss k id j)
    ∙ sym (sum_by-cons (λ (t : Segment). length t.hops) s (take j ss))

hop_set : (ss : List Segment) (k id j i : ℕ) → hop_there (with_segment_id ss k id) (place_at j i) ≡ hop_there ss (place_at j i)
hop_set [] k id j i = refl
hop_set (s ∷ ss) zero id zero i = refl
hop_set (s ∷ ss) zero id (suc j) i = refl
hop_set (s ∷ ss) (suc k) id zero i = refl
hop_set (s ∷ ss) (suc k) id (suc j) i = hop_set ss k id j i

pub along_set : (ss : List Segment) (k id j i : ℕ) → (info_there (with_segment_id ss k id) (place_at j i)).along ≡ (info_there ss (place_at j i)).along
along_set [] k id j i = refl
along_set (s ∷ ss) zero id zero i = refl
along_set (s ∷ ss) zero id (suc j) i = refl
along_set (s ∷ ss) (suc k) id zero i = refl
along_set (s ∷ ss) (suc k) id (suc j) i = along_set ss k id j i

info_other : (ss : List Segment) (k id j i : ℕ) → j ≢ k → info_there (with_segment_id ss k id) (place_at j i) ≡ info_there ss (place_at j i)
info_other [] k id j i other = refl
info_other (s ∷ ss) zero id zero i other = absurd (other refl)
info_other (s ∷ ss) zero id (suc j) i other = refl
info_other (s ∷ ss) (suc k) id zero i other = refl
info_other (s ∷ ss) (suc k) id (suc j) i other = info_other ss k id j i (λ same. other (ap suc same))

pub info_set : (ss : List Segment) (k id i : ℕ) → k < length ss → info_there (with_segment_id ss k id) (place_at k i) ≡ with_id_of id (info_there ss (place_at k i))
info_set [] k id i there = absurd (omega arith)
info_set (s ∷ ss) zero id i there = refl
info_set (s ∷ ss) (suc k) id i there = info_set ss k id i (omega arith)

pub alike_set : (ss : List Segment) (k id : ℕ) → IsAlike k ss (with_segment_id ss k id)
alike_set ss k id = record {
  count = len_set ss k id;
  total = total_set ss k id;
  hops = hops_set ss k id;
  number = λ at. ap (λ (n : ℕ). n + at.position) (before_set ss k id at.segment);
  hop = λ at. hop_set ss k id at.segment at.position;
  info = λ at other. info_other ss k id at.segment at.position other;
}

pub alike_same : (ss : List Segment) (k : ℕ) → IsAlike k ss ss
alike_same ss k = record { count = refl; total = refl; hops = λ j. refl; number = λ at. refl; hop = λ at. refl; info = λ at other. refl }

pub alike_with : (id : Option ℕ) (k : ℕ) (ss : List Segment) → IsAlike k ss (with_id id k ss)
alike_with None k ss = alike_same ss k
alike_with (Some id) k ss = alike_set ss k id

pub whole_alike : (k : ℕ) (old new : List Segment) → IsAlike k old new → IsWhole old → IsWhole new
whole_alike k old new alike whole = record {
  some = λ j below. omega (arith, whole.some j (omega (arith, below, alike.count)), alike.hops j);
  segments = omega (arith, whole.segments, alike.count);
  hops = omega (arith, whole.hops, alike.total);
}

-- what stands at a place of another segment stays
pub path_hop_alike : (v : PathHop) (k : ℕ) (old new : List Segment) (at : Place) → IsPathHop v old at → IsAlike k old new → at.segment ≢ k → IsPathHop v new at
path_hop_alike v k old new at is alike other = record {
  place = record {
    segment = is.place.segment;
    position = is.place.position;
    hops = is.place.hops ∙ sym (alike.hops at.segment);
    number = is.place.number ∙ sym (alike.number at);
    there = omega (arith, is.place.there, alike.count);
    inside = omega (arith, is.place.inside, alike.hops at.segment);
  };
  info = is.info ∙ sym (alike.info at other);
  hop = is.hop ∙ sym (alike.hop at);
}
