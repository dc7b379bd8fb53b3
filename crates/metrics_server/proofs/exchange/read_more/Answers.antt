use Rattle.std.proofs.Common.{◌≡◌, ℕ, ◌+◌, ◌-◌, ◌≤◌, List, ◌++◌, arith, length, take, slice_range, sym, ap, ◌∙◌, subst, le_refl, drop_at, length-take-le}
use Rattle.std.proofs.lemmas.Slice.{take-put_mid_below}
use Rattle.std.specs.Io.KnownBytes.{Consumes}
use Rattle.std.proofs.KnownBytes.{Consumes-trans}
use Rattle.std.proofs.Math.Seq.{take-add, take-append-le}
use borrow.Rule.Slice.PartMut.{put_mid, post_of}
use Rattle.metrics_server.proofs.exchange.read_more.Goals as goal

take_split : (a b : ℕ) (old new : List ℕ) → a ≤ b → take a new ≡ take a old → take a old ++ slice_range new a b ≡ take b new
take_split a b old new h front =
    let same : a + (b - a) ≡ b = omega arith in
    ap (λ l. l ++ slice_range new a b) (sym front) ∙ sym (take-add a (b - a) new) ∙ ap (λ n. take n new) same

slice_range-put_mid : (a k n : ℕ) (xs ys : List ℕ) → a ≤ length xs → n ≤ length ys → slice_range (put_mid a k xs ys) a (a + n) ≡ take n ys
slice_range-put_mid a k n xs ys within fits =
    let same : (a + n) - a ≡ n = omega arith in
    let after = post_of a k xs in
    ap (take ((a + n) - a)) (drop_at (take a xs) (ys ++ after) a (length-take-le a xs within)) ∙ ap (λ m. take m (ys ++ after)) same ∙ take-append-le n ys after fits

pub returns-in-Ok-clause-bytes : goal.returns-in-Ok-clause-bytes
returns-in-Ok-clause-bytes g c = λ input before.
    let from = c.args.len in
    let room = length c.args.buffer.now - from in
    let within : from ≤ length c.args.buffer.now = omega (arith, c.requires) in
    let part = slice_range-put_mid from room c.in-Ok.count c.args.buffer.now c.read.new.buf within c.in-Ok.ensures.bound.0 in
    let joined = take_split from (from + c.in-Ok.count) c.args.buffer.now (put_mid from room c.args.buffer.now c.read.new.buf) (omega arith) (take-put_mid_below _ _ _ _ _ (le_refl _) within) in
    subst (Consumes _ _) (ap (λ l. take from c.args.buffer.now ++ l) (sym part) ∙ joined) (Consumes-trans _ _ _ _ _ before c.in-Ok.ensures.bytes.0)
