use Rattle.std.proofs.Common.{◌≡◌, ◌<◌, ◌∙◌, ℕ, length, arith, get_or, set}
use Rattle.std.specs.Prelude.{bit_xor}
use Rattle.std.proofs.lemmas.List.{length-set}
use Rattle.std.proofs.lemmas.List.Edits.{fill_by_more}
use Rattle.std.proofs.lemmas.List.FromFn.{fill_by_all}
use Rattle.key_derivation.specs.Pbkdf2.{xor_digests}
use Rattle.key_derivation.proofs.pbkdf2.xor_digests.Goals as goal

pub loop-i-preserved : goal.loop-i-preserved
loop-i-preserved c =
    let f : ℕ → ℕ = λ k. bit_xor (get_or c.args.a.now k 0) (get_or c.args.b.now k 0) in
    let kept : length (set c.loop-i.sum c.loop-i.i (f c.loop-i.i)) ≡ length c.loop-i.sum = length-set {A = ℕ} c.loop-i.sum c.loop-i.i (f c.loop-i.i) in
    let here : c.loop-i.i < length c.loop-i.sum = omega arith in
    record {
      whole = kept ∙ c.loop-i.invariant.whole;
      written = fill_by_more f c.loop-i.sum c.loop-i.i 0 here c.loop-i.invariant.written;
    }

pub returns : goal.returns
unfolding xor_digests
returns c =
    let f : ℕ → ℕ = λ k. bit_xor (get_or c.args.a.now k 0) (get_or c.args.b.now k 0) in
    fill_by_all f c.loop-i.sum 32 0 c.loop-i.invariant.whole (λ k h. c.loop-i.invariant.written k (omega arith))
