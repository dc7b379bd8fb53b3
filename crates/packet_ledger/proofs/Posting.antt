-- A post: after it a share holds nothing, or more than may stand in the book; and the rows still add up.
use Rattle.std.proofs.Common.{◌≡◌, ◌∙◌, ◌+◌, ◌^◌, ◌<◌, ℕ, List, length, slice_index, slice_set, inl, inr, ap, subst, sym, arith}
use Rattle.std.specs.List.{sum}
use Rattle.process_packet.specs.Cause.{causes}
use Rattle.process_packet.specs.declared.totals.Totals.{Totals}
use Rattle.packet_ledger.specs.Amounts.{AtMost, nothing, plus}
use Rattle.packet_ledger.specs.Share.{Held, IsDrained, IsPosted, MayPost}
use Rattle.packet_ledger.specs.Shown.{AddUp, HasBooked, Shown}
use Rattle.packet_ledger.proofs.Counting.{plus_nothing}

pub posted_drains : (old new : Held) → IsPosted old new → IsDrained new
posted_drains old new (inl is) = inl (ap (λ (s : Held). s.counts) is.1)
posted_drains old new (inr is) = inr (λ may. is.0 (subst (λ (s : Held). MayPost s) is.1 may))

-- where nothing is counted, a post leaves a share as it is
pub posted_empty : (s : Held) → length s.posted.dropped ≡ causes → AtMost (2 ^ 109) s.posted → s.counts ≡ nothing → IsPosted s s
posted_empty s long most none =
    let same : plus s.posted s.counts ≡ s.posted = ap (plus s.posted) none ∙ plus_nothing s.posted long in
    inl (subst (AtMost (2 ^ 109)) (sym same) most, λ i. record { counts = none i; posted = sym same i; place = s.place })

pub posted_place : (old new : Held) → IsPosted old new → new.place ≡ old.place
posted_place old new (inl is) = ap (λ (s : Held). s.place) is.1
posted_place old new (inr is) = ap (λ (s : Held). s.place) is.1

-- there is room for a share's counts in the sums of its row's kind
pub row_rooms : (totals counts : Totals) (inputs outputs : List ℕ) → AtMost (2 ^ 126) totals → AtMost (2 ^ 100) counts → AddUp (record { totals = totals; inputs = inputs; outputs = outputs })
    → (sum inputs + counts.received < 2 ^ 128) × (counts.sent + counts.answered < 2 ^ 128) × (sum outputs + (counts.sent + counts.answered) < 2 ^ 128)
row_rooms totals counts inputs outputs most few add =
    let r = most 0 in let s = most 1 in let a = most 2 in let x = few 0 in let y = few 1 in let z = few 2 in let i = add.0 in let o = add.1 in (omega arith, omega arith, omega arith)

-- and with them there the rows add up to the sums again
pub adds_up : (totals counts sums : Totals) (inputs outputs more_in more_out : List ℕ) → AddUp (record { totals = totals; inputs = inputs; outputs = outputs }) → sums ≡ plus totals counts
    → sum more_in ≡ sum inputs + counts.received → sum more_out ≡ sum outputs + (counts.sent + counts.answered) → AddUp (record { totals = sums; inputs = more_in; outputs = more_out })
adds_up totals counts sums inputs outputs more_in more_out add is ins outs =
    let r = ap (λ (t : Totals). t.received) is in let s = ap (λ (t : Totals). t.sent) is in let a = ap (λ (t : Totals). t.answered) is in let i = add.0 in let o = add.1 in (omega arith, omega arith)

-- what a post books, as it is seen from outside
pub books : (s now : Shown) (h held : Held) (sums : Totals) (more_in more_out : List ℕ) (place : ℕ) → s ≡ now → h ≡ held → place ≡ h.place → sums ≡ plus s.totals h.counts
    → more_in ≡ slice_set s.inputs place (slice_index s.inputs place + h.counts.received) → more_out ≡ slice_set s.outputs place (slice_index s.outputs place + (h.counts.sent + h.counts.answered))
    → HasBooked held.place held.counts now (record { totals = sums; inputs = more_in; outputs = more_out })
books s now h held sums more_in more_out place same own there is ins outs =
    let P : Shown × Held → Type 0 = λ p. HasBooked p.1.place p.1.counts p.0 (record { totals = sums; inputs = more_in; outputs = more_out }) in
    subst P (λ i. (same i, own i)) (subst (λ (k : ℕ). HasBooked k h.counts s (record { totals = sums; inputs = more_in; outputs = more_out })) there (is, ins, outs))
