use Rattle.std.proofs.Common.{◌≡◌, ◌⊎◌, ◌≤◌, List, ℕ, take, length, sym, ap, ◌∙◌, arith}
use Rattle.worker_order.specs.Heard.{Gave}
use Rattle.worker_parts.specs.ListSource.{heard_of}
use Rattle.worker_parts.proofs.Telling.{cut_front}
use Rattle.worker_parts.proofs.list_source.give.Goals as goal

pub returns-in-Datagram-clause-given : goal.returns-in-Datagram-clause-given
returns-in-Datagram-clause-given c =
    let n = c.min-len.result in
    let xs = c.in-Datagram.bytes.items in
    let m = c.min-len.ensures in
    let l = c.len.ensures in
    let r = c.requires in
    let le : n ≤ 9217 = omega arith in
    let cut : (length xs ≤ n) ⊎ (n ≡ 9217) = grind arith in
    let front = c.copy_from_slice.ensures.after ∙ ap (λ (t : List ℕ). take n t) c.deref.ensures.value in
    let long : n ≡ length c.copy_from_slice.new.self = sym (c.copy_from_slice.ensures.len ∙ c.split_at_mut-front.ensures.front_len) in
    ap (λ (t : List ℕ). Gave c.in-Datagram.from c.in-Datagram.now t) (cut_front n 9217 xs c.copy_from_slice.new.self c.split_at_mut-front.result.1.now le cut long front) ∙ ap heard_of (sym c.in-Datagram.is)
