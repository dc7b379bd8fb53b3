-- Links that are counted one after the other.
use Rattle.std.proofs.Common.{◌≡◌, ◌≢◌, ◌⊎◌, inl, inr, ◌+◌, ◌<◌, ◌≤◌, ℕ, List, length, sym, subst, ◌∙◌, arith, le_refl, refl, slice_index_or, slice_set}
use Rattle.std.proofs.lemmas.List.{get_or-set_other, get_or-set_same, get_or_default, length-set}
use Rattle.std.proofs.lemmas.Bool.{cases_order}
use Rattle.metrics_text.specs.declared.link_counts.LinkCounts.{LinkCounts}
use Rattle.packet_ledger.specs.Shown.{Shown}
use Rattle.counts_page.specs.CountsPage.{AreCounts, IsCountOf}

no_less : (k : ℕ) → k < 0 → ⊥
no_less k below = omega (arith, below)

not_less : (k place : ℕ) → k < place → k ≡ place → ⊥
not_less k place before same = omega (arith, before, same)

not_between : (k place : ℕ) → k < place + 1 → place < k → ⊥
not_between k place below after = omega (arith, below, after)

not_after : (k place : ℕ) → place + 1 ≤ k → k ≡ place → ⊥
not_after k place above same = omega (arith, above, same)

module _ (look : Shown) (old : List LinkCounts) where
  -- those before the place are counted, and those from there on are as they were
  pub record Counted (links : List LinkCounts) (place : ℕ) : Type 0 where
    pub long : length links ≡ length old
    pub done : (k : ℕ) (d e : LinkCounts) → k < place → IsCountOf look (slice_index_or old k d).interface k (length old) (slice_index_or links k e)
    pub left : (k : ℕ) (d : LinkCounts) → place ≤ k → slice_index_or links k d ≡ slice_index_or old k d

  pub none_yet : Counted old 0
  none_yet = record { long = refl; done = λ k d e below. absurd (no_less k below); left = λ k d above. refl }

  module _ (links : List LinkCounts) (place : ℕ) (v : LinkCounts) (within : place < length links) (so_far : Counted links place) where
    -- what is counted for the link that stands at the place is so for the link that stood there
    as_before : (d e : LinkCounts) → IsCountOf look (slice_index_or links place d).interface place (length old) v → IsCountOf look (slice_index_or old place e).interface place (length old) v
    as_before d e is =
        let same : slice_index_or links place d ≡ slice_index_or old place e = get_or_default links place d e within ∙ so_far.left place e (le_refl place) in
        subst (λ (l : LinkCounts). IsCountOf look l.interface place (length old) v) same is

    more_done : (k : ℕ) (a d e : LinkCounts) → IsCountOf look (slice_index_or links place a).interface place (length old) v → k < place + 1 → (k ≡ place) ⊎ ((k < place) ⊎ (place < k))
        → IsCountOf look (slice_index_or old k d).interface k (length old) (slice_index_or (slice_set links place v) k e)
    more_done k a d e is below (inl same) =
        let put : slice_index_or (slice_set links place v) place e ≡ v = get_or-set_same links place v e within in
        let here = subst (λ (l : LinkCounts). IsCountOf look (slice_index_or old place d).interface place (length old) l) (sym put) (as_before a d is) in
        subst (λ (j : ℕ). IsCountOf look (slice_index_or old j d).interface j (length old) (slice_index_or (slice_set links place v) j e)) (sym same) here
    more_done k a d e is below (inr (inl before)) =
        let other : k ≢ place = λ same. absurd (not_less k place before same) in
        subst (λ (l : LinkCounts). IsCountOf look (slice_index_or old k d).interface k (length old) l) (sym (get_or-set_other links place k v e other)) (so_far.done k d e before)
    more_done k a d e is below (inr (inr after)) = absurd (not_between k place below after)

    pub one_more : (a : LinkCounts) → IsCountOf look (slice_index_or links place a).interface place (length old) v → Counted (slice_set links place v) (place + 1)
    one_more a is = record {
      long = length-set links place v ∙ so_far.long;
      done = λ k d e below. more_done k a d e is below (cases_order k place);
      left = λ k d above. get_or-set_other links place k v d (λ same. not_after k place above same) ∙ so_far.left k d (omega arith);
    }

  pub all_done : (links : List LinkCounts) (place : ℕ) → length old ≤ place → Counted links place → AreCounts look old links
  all_done links place past counted = record {
    long = counted.long;
    each = λ k d e within. counted.done k d e (omega arith);
  }
