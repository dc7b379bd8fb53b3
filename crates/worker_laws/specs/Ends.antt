-- The ends of ruled pipes as the pipeline's laws read them.
use Rattle.std.specs.Prelude.{◌≡◌, List, ◌++◌, map}
use Rattle.std.specs.List.{flat_map}
use Rattle.ruled_pipe.specs.declared.entry.Entry.{Entry}
use Rattle.ruled_pipe.specs.declared.entry.Load.{Load as Held}
use Rattle.ruled_pipe.specs.declared.entry.Load.TheVariants as held
use Rattle.ruled_pipe.specs.declared.entry.Mark.{Mark}
use Rattle.ruled_pipe.specs.declared.entry.Mark.TheVariants as mark
use Rattle.ruled_pipe.specs.declared.entry.Refusal.{Refusal}
use Rattle.ruled_pipe.specs.Producer.{Sender}
use Rattle.order_laws.specs.Deeds.{Load, Payload, CloseMark, EndMark, Pushed, payload_of, Deed, accepted, refused, Tells}

module _ {X : Type 0} where
  abbrev pub mark_in : Mark → Load X
  mark_in mark.Close = CloseMark
  mark_in mark.End = EndMark

  abbrev pub load_in : Held X → Load X
  load_in (held.Payload x) = Payload x
  load_in (held.Marked m) = mark_in m

  abbrev pub pushed_in : Entry X → Pushed X
  pushed_in e = record { from = e.from; load = load_in e.load }

  abbrev pub pushes : List (Entry X) → List (Pushed X)
  pushes es = map pushed_in es

  -- the payload of a refused push; a mark has none
  abbrev pub turned_away : Refusal X → List X
  turned_away r = payload_of (load_in r.entry.load)

  abbrev pub refusals_in : List (Refusal X) → List X
  refusals_in rs = flat_map turned_away rs

module _ {C X Y : Type 0} where
  -- an end of a pipe tells what its holder did
  abbrev pub EndTells : (X → List Y) → List (Deed C X) → Sender Y → Type 0
  EndTells makes log s = Tells makes log (pushes s.offers) (refusals_in s.refusals)

  -- an end of a pipe gained what was made of an item
  abbrev pub IsGrown : (X → List Y) → Deed C X → Sender Y → Sender Y → Type 0
  IsGrown makes d s t =
      (more : List (Entry Y)) × (told : List (Refusal Y)) × (t.offers ≡ s.offers ++ more) × (t.refusals ≡ s.refusals ++ told)
      × (flat_map (λ (e : Entry Y). payload_of (load_in e.load)) more ≡ accepted makes d) × (refusals_in told ≡ refused makes d)
