-- The shares of a new book.
use Rattle.std.proofs.Common.{ℕ, zero, suc, ◌+◌, List, [], ◌∷◌, All, arith}
use Rattle.packet_ledger.specs.Share.{AreNew, Held, IsNew}
use Rattle.packet_ledger.proofs.Closing.{is_new}

pub all_are_new : (place : ℕ) (xs : List Held) → AreNew place xs → All IsNew xs
all_are_new place [] new i d there = absurd (omega arith)
all_are_new place (x ∷ xs) new zero d there = is_new place x new.0
all_are_new place (x ∷ xs) new (suc i) d there = all_are_new (place + 1) xs new.1 i d (omega arith)
