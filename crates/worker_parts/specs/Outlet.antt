-- What contracts see of an end of a pipe into which a worker offers.
use Rattle.std.specs.Prelude.{◌≡◌, ◌⊎◌, Bool, true, false, List, [], ◌∷◌}
use Rattle.ruled_pipe.specs.declared.entry.Entry.{Entry}
use Rattle.ruled_pipe.specs.declared.entry.Load.{Load}
use Rattle.ruled_pipe.specs.declared.entry.Load.TheVariants.{Payload, Marked}
use Rattle.ruled_pipe.specs.declared.entry.Mark.TheVariants.{Close, End}
use Rattle.ruled_pipe.specs.Producer.{Sender, entry, offered, refused}
use Rattle.ruled_pipe.specs.Gathered.{EndsWithMark, ends_in}

-- its producer, whether its end mark was accepted, and whether it has an event, which it notifies after each accepted push
pub record Offering (T : Type 0) : Type 0 where
  pub sender : Sender T
  pub ended : Bool
  pub wakes : Bool

module _ {T : Type 0} where
  abbrev pub offering : Sender T → Bool → Bool → Offering T
  offering s ended wakes = record { sender = s; ended = ended; wakes = wakes }

  -- after an accepted offer, and after a refused one
  abbrev pub gave : Offering T → T → Offering T
  gave o x = offering (offered o.sender (entry o.sender.number (Payload x))) o.ended o.wakes

  abbrev pub kept : Offering T → T → Offering T
  kept o x = offering (refused o.sender (entry o.sender.number (Payload x))) o.ended o.wakes

  -- The end mark was tried where it was owed
  abbrev pub Tried : Offering T → Offering T → Type 0
  Tried old new =
      ((old.ended ≡ true) × (new ≡ old))
      ⊎ ((old.ended ≡ false) × (new ≡ offering (offered old.sender (entry old.sender.number (Marked End))) true old.wakes))
      ⊎ ((old.ended ≡ false) × (new ≡ offering (refused old.sender (entry old.sender.number (Marked End))) false old.wakes))

  abbrev pub is_closing : Load T → Bool
  is_closing (Payload x) = false
  is_closing (Marked Close) = true
  is_closing (Marked End) = false

  -- no closing mark was pushed
  abbrev pub NoClose : List (Entry T) → Type 0
  NoClose [] = Unit {0}
  NoClose (e ∷ es) = (is_closing e.load ≡ false) × NoClose es

-- No closing mark was pushed, and an end mark only as the last push
pub record IsMarked {T : Type 0} (s : Sender T) (ended : Bool) : Type 0 where
  pub unclosed : NoClose s.offers
  pub owed : ended ≡ false → ends_in s.offers ≡ 0
  pub there : ended ≡ true → EndsWithMark s.offers
