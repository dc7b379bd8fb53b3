-- The lines of a replay one after the other: what is gathered in front, what is noted of the steps, and where the engine ends.
use Rattle.std.proofs.Common.{◌≡◌, ℕ, ◌+◌, true, List, [], ◌∷◌, ◌++◌, length, take, drop, Option, Some, None, Result, Ok, Err, refl, sym, ap, subst, ◌∙◌, append_assoc}
use Rattle.std.specs.Prelude.{IfErr, IfSome, OnOk}
use Rattle.std.specs.Io.KnownBytes.{Appends}
use Rattle.std.specs.declared.alloc.Global.{Global}
use Rattle.std.specs.declared.vec.Vec.{Vec}
use Rattle.std.proofs.lemmas.List.{append-nil, take-append-drop}
use Rattle.process_packet.specs.declared.arrival.Arrival.{Arrival as Came}
use Rattle.process_packet.specs.declared.config.Config.{Config}
use Rattle.router_rules.specs.Datagram.{Datagram}
use Rattle.replay_laws.specs.Next.{next}
use Rattle.replay_laws.specs.World.{World}
use Rattle.router_rules.specs.Rules.{kinds}
use Rattle.pipe_model.specs.Pipeline.{Pipeline, rules_in, stepped, with_world}
use Rattle.replay_steps.specs.Step.{step_in}
use Rattle.replay_steps.specs.declared.step.Step.{Step}
use Rattle.cli_replay.specs.ArriveLine.{datagram_of_line}
use Rattle.cli_replay.specs.Gathered.{starting}
use Rattle.cli_replay.specs.Report.{not_now_text, report}
use Rattle.cli_replay.specs.StepLine.{step_of_line}
use Rattle.cli_io.proofs.LinesLemmas.{Appends-nothing, Appends-then}
use Rattle.cli_io.proofs.ToldLemmas.{part_told}
use Rattle.cli_io.specs.Told.{IsCut, Told, bad_or}
use Rattle.cli_io.specs.Lines.{Both, Same, left_of, lines_in, lines_of}
use Rattle.cli_replay.specs.Replay.{Replayed, arrival_then, arrivals_in, bad_replay_line, bad_step, after_arrivals, after_then, noted, or_stays, replay_text, step_then, steps_text}
use Rattle.cli_replay.specs.ReplayParts.{Acted, AreFront, IsFront, Ran, RanOn}
use Rattle.cli_io.specs.declared.fault.LinesFault.{LinesFault}
use Rattle.cli_io.specs.declared.fault.LinesFault.TheVariants as faults

abbrev Lines : Type 0
Lines = List (List ℕ)

-- ---- in front

-- these datagrams were in front, and the rest of the lines is left
abbrev pub Gathers : Config → Option Lines → Option Lines → List Datagram → Type 0
Gathers c known left ds = Both known left (λ all later. (arrivals_in c all ≡ ds ++ arrivals_in c later) × (after_arrivals c all ≡ after_arrivals c later))

pub gathers_none : (c : Config) (known : Option Lines) → Gathers c known known []
gathers_none c None = tt
gathers_none c (Some all) = (refl, refl)

arrivals_one : (c : Config) (line : List ℕ) (lines : Lines) (d : Datagram) → datagram_of_line c line ≡ Some d → arrivals_in c (line ∷ lines) ≡ d ∷ arrivals_in c lines
unfolding arrivals_in
arrivals_one c line lines d is = ap (λ (o : Option Datagram). arrival_then o (arrivals_in c lines)) is

after_one : (c : Config) (line : List ℕ) (lines : Lines) (d : Datagram) → datagram_of_line c line ≡ Some d → after_arrivals c (line ∷ lines) ≡ after_arrivals c lines
unfolding after_arrivals
after_one c line lines d is = ap (λ (o : Option Datagram). after_then o (line ∷ lines) (after_arrivals c lines)) is

arrivals_end : (c : Config) (line : List ℕ) (lines : Lines) → datagram_of_line c line ≡ None → arrivals_in c (line ∷ lines) ≡ []
unfolding arrivals_in
arrivals_end c line lines is = ap (λ (o : Option Datagram). arrival_then o (arrivals_in c lines)) is

after_end : (c : Config) (line : List ℕ) (lines : Lines) → datagram_of_line c line ≡ None → after_arrivals c (line ∷ lines) ≡ line ∷ lines
unfolding after_arrivals
after_end c line lines is = ap (λ (o : Option Datagram). after_then o (line ∷ lines) (after_arrivals c lines)) is

nothing_after : (c : Config) → (arrivals_in c [] ≡ []) × (after_arrivals c [] ≡ [])
unfolding arrivals_in after_arrivals
nothing_after c = (refl, refl)

pub gathers_more : (c : Config) (known before after : Option Lines) (rest : Option (List ℕ)) (line : List ℕ) (ds : List Datagram) (d : Datagram) → Gathers c known before ds
    → Same before (left_of true line rest) → datagram_of_line c line ≡ Some d → after ≡ lines_in rest → Gathers c known after (ds ++ d ∷ [])
gathers_more c None before after rest line ds d so_far read is here = tt
gathers_more c (Some all) None after rest line ds d so_far read is here = absurd so_far
gathers_more c (Some all) (Some now) after None line ds d so_far read is here = absurd read
gathers_more c (Some all) (Some now) after (Some text) line ds d so_far read is here =
    let P : Option Lines → Type 0 = λ o. Gathers c (Some all) o (ds ++ d ∷ []) in
    subst P (sym here) (
      so_far.0 ∙ ap (λ (t : List Datagram). ds ++ t) (ap (arrivals_in c) read ∙ arrivals_one c line (lines_of text) d is) ∙ sym (append_assoc ds (d ∷ []) (arrivals_in c (lines_of text))),
      so_far.1 ∙ ap (after_arrivals c) read ∙ after_one c line (lines_of text) d is,
    )

pub front_ends : (c : Config) (known before : Option Lines) (rest : Option (List ℕ)) (line : List ℕ) (ds : List Datagram) → Gathers c known before ds → Same before (left_of true line rest)
    → datagram_of_line c line ≡ None → AreFront c known (left_of true line rest) ds
front_ends c None before rest line ds so_far read is = tt
front_ends c (Some all) None rest line ds so_far read is = absurd so_far
front_ends c (Some all) (Some now) None line ds so_far read is = absurd read
front_ends c (Some all) (Some now) (Some text) line ds so_far read is = (
  so_far.0 ∙ ap (λ (t : List Datagram). ds ++ t) (ap (arrivals_in c) read ∙ arrivals_end c line (lines_of text) is) ∙ append-nil ds,
  so_far.1 ∙ ap (after_arrivals c) read ∙ after_end c line (lines_of text) is,
)

pub front_is_all : (c : Config) (known before : Option Lines) (ds : List Datagram) → Gathers c known before ds → Same before (Some []) → AreFront c known (Some []) ds
front_is_all c None before ds so_far read = tt
front_is_all c (Some all) None ds so_far read = absurd so_far
front_is_all c (Some all) (Some now) ds so_far read = (
  so_far.0 ∙ ap (λ (t : List Datagram). ds ++ t) (ap (arrivals_in c) read ∙ (nothing_after c).0) ∙ append-nil ds,
  so_far.1 ∙ ap (after_arrivals c) read ∙ (nothing_after c).1,
)

-- ---- the steps

same_world : (p : Pipeline) (o : Option (World kinds)) → (or_stays p (with_world p o)).config ≡ p.config
same_world p None = refl
same_world p (Some w) = refl

pub same_config : (p : Pipeline) (s : Step) → (or_stays p (stepped p s)).config ≡ p.config
same_config p s = same_world p (next (rules_in p) p.world (step_in p.config s))

-- From line m and the pipeline p on, what was written notes the lines before line n, and the pipeline is q.
abbrev pub Goes : ℕ → Pipeline → Option Lines → ℕ → Pipeline → Option Lines → Option (List ℕ) → Option (List ℕ) → Type 0
Goes m p known n q left old now =
    (q.config ≡ p.config) × Both known left (λ all later. (done : List ℕ) × Appends old now done × (steps_text m p all ≡ done ++ steps_text n q later) × (bad_step p.config m all ≡ bad_step p.config n later))

pub goes_none : (m : ℕ) (p : Pipeline) (known : Option Lines) (old : Option (List ℕ)) → Goes m p known m p known old old
goes_none m p None old = (refl, tt)
goes_none m p (Some all) old = (refl, ([], Appends-nothing old, refl, refl))

text_one : (n : ℕ) (p : Pipeline) (line : List ℕ) (lines : Lines) (s : Step) → step_of_line p.config line ≡ Some s → steps_text n p (line ∷ lines) ≡ noted n (stepped p s) ++ steps_text (n + 1) (or_stays p (stepped p s)) lines
unfolding steps_text
text_one n p line lines s is = ap (λ (o : Option Step). step_then n p o (λ q. steps_text (n + 1) q lines)) is

bad_one : (c : Config) (n : ℕ) (line : List ℕ) (lines : Lines) (s : Step) → step_of_line c line ≡ Some s → bad_step c n (line ∷ lines) ≡ bad_step c (n + 1) lines
unfolding bad_step
bad_one c n line lines s is = ap (λ (o : Option Step). bad_or o n (bad_step c (n + 1) lines)) is

text_bad : (n : ℕ) (p : Pipeline) (line : List ℕ) (lines : Lines) → step_of_line p.config line ≡ None → steps_text n p (line ∷ lines) ≡ []
unfolding steps_text
text_bad n p line lines is = ap (λ (o : Option Step). step_then n p o (λ q. steps_text (n + 1) q lines)) is

bad_here : (c : Config) (n : ℕ) (line : List ℕ) (lines : Lines) → step_of_line c line ≡ None → bad_step c n (line ∷ lines) ≡ Some n
unfolding bad_step
bad_here c n line lines is = ap (λ (o : Option Step). bad_or o n (bad_step c (n + 1) lines)) is

ends_here : (n : ℕ) (p : Pipeline) → (steps_text n p [] ≡ report p) × (bad_step p.config n [] ≡ None)
unfolding steps_text bad_step
ends_here n p = (refl, refl)

along : (c d : Config) (line : List ℕ) (o : Option Step) → d ≡ c → step_of_line d line ≡ o → step_of_line c line ≡ o
along c d line o same is = ap (λ (e : Config). step_of_line e line) (sym same) ∙ is

-- a line's step was made or noted
pub goes_on : (m : ℕ) (p : Pipeline) (known : Option Lines) (n : ℕ) (q r : Pipeline) (line : List ℕ) (rest old mid new : Option (List ℕ)) (after : Option Lines) → Goes m p known n q (left_of true line rest) old mid
    → Acted (Ok tt) n q line r mid new → Same (lines_in rest) after → Goes m p known (n + 1) r after old new
goes_on m p None n q r line rest old mid new after so_far acted read =
    (ap (λ (x : Pipeline). x.config) acted.2 ∙ same_config q acted.0 ∙ so_far.0, tt)
goes_on m p (Some all) n q r line None old mid new after so_far acted read = absurd so_far.1
goes_on m p (Some all) n q r line (Some text) old mid new None so_far acted read = absurd read
goes_on m p (Some all) n q r line (Some text) old mid new (Some later) so_far acted read =
    let s = acted.0 in
    let done = so_far.1 in
    let notes = noted n (stepped q s) in
    let texts : steps_text n q (line ∷ lines_of text) ≡ notes ++ steps_text (n + 1) r later =
    text_one n q line (lines_of text) s acted.1 ∙ ap (λ (x : Pipeline). notes ++ steps_text (n + 1) x (lines_of text)) (sym acted.2) ∙ ap (λ (ls : Lines). notes ++ steps_text (n + 1) r ls) read in
    let bads : bad_step p.config n (line ∷ lines_of text) ≡ bad_step p.config (n + 1) later =
    bad_one p.config n line (lines_of text) s (along p.config q.config line (Some s) so_far.0 acted.1) ∙ ap (bad_step p.config (n + 1)) read in (
      ap (λ (x : Pipeline). x.config) acted.2 ∙ same_config q s ∙ so_far.0,
      (
        done.0 ++ notes,
        Appends-then old mid new done.0 notes done.1 acted.3,
        done.2 ∙ ap (λ (t : List ℕ). done.0 ++ t) texts ∙ sym (append_assoc done.0 notes (steps_text (n + 1) r later)),
        done.3 ∙ bads,
      ),
    )

-- ---- one step

pub acted_made : (n : ℕ) (p : Pipeline) (line : List ℕ) (s : Step) (q : Pipeline) (old : Option (List ℕ)) → step_of_line p.config line ≡ Some s → stepped p s ≡ Some q → Acted (Ok tt) n p line q old old
acted_made n p line s q old is made =
    let P : Option Pipeline → Type 0 = λ o. Appends old old (noted n o) in
    (s, is, ap (or_stays p) (sym made), subst P (sym made) (Appends-nothing old))

pub acted_lack : (n : ℕ) (p : Pipeline) (line : List ℕ) (s : Step) (q : Pipeline) (old : Option (List ℕ)) → step_of_line p.config line ≡ Some s → Acted (Err faults.Memory) n p line q old old
acted_lack n p line s q old is = (s, is, (0, Appends-nothing old))

noted_partly : (n : ℕ) (p : Pipeline) (s : Step) (old new : Option (List ℕ)) → stepped p s ≡ None → ((k : ℕ) × Appends old new (take k (not_now_text n))) → (k : ℕ) × Appends old new (take k (noted n (stepped p s)))
noted_partly n p s old new none part =
    let P : Option Pipeline → Type 0 = λ o. Appends old new (take part.0 (noted n o)) in
    (part.0, subst P (sym none) part.1)

pub acted_note : (n : ℕ) (p : Pipeline) (line : List ℕ) (s : Step) (q : Pipeline) (r : Result (Unit {0}) LinesFault) (old new : Option (List ℕ)) → step_of_line p.config line ≡ Some s → stepped p s ≡ None → q ≡ p
    → OnOk r (Appends old new (not_now_text n)) → ((k : ℕ) × Appends old new (take k (not_now_text n))) → IfErr r (λ e. IsCut e) → Acted r n p line q old new
acted_note n p line s q (Ok done) old new is none same wrote part cut =
    let P : Option Pipeline → Type 0 = λ o. Appends old new (noted n o) in
    (s, is, same ∙ ap (or_stays p) (sym none), subst P (sym none) wrote)
acted_note n p line s q (Err (faults.Line k)) old new is none same wrote part cut = absurd cut
acted_note n p line s q (Err faults.Input) old new is none same wrote part cut = (s, is, noted_partly n p s old new none part)
acted_note n p line s q (Err faults.Output) old new is none same wrote part cut = (s, is, noted_partly n p s old new none part)
acted_note n p line s q (Err faults.Memory) old new is none same wrote part cut = (s, is, noted_partly n p s old new none part)

-- ---- where the steps end

-- nothing is left
pub ran_out : (m : ℕ) (p : Pipeline) (known : Option Lines) (n : ℕ) (q : Pipeline) (left : Option Lines) (old now : Option (List ℕ)) → left ≡ Some [] → Goes m p known n q left old now → Ran (Ok tt) m p known q old now
ran_out m p None n q left old now none so_far = tt
ran_out m p (Some all) n q None old now none so_far = absurd so_far.1
ran_out m p (Some all) n q (Some later) old now none so_far =
    let done = so_far.1 in
    let empty : later ≡ [] = cc in (
      done.0,
      done.1,
      done.2 ∙ ap (λ (t : List ℕ). done.0 ++ t) (ap (steps_text n q) empty ∙ (ends_here n q).0),
      done.3 ∙ ap (bad_step p.config n) empty ∙ ap (λ (c : Config). bad_step c n []) (sym so_far.0) ∙ (ends_here n q).1,
    )

-- before a line was read, or before all of them were
pub ran_cut : (m : ℕ) (p : Pipeline) (known : Option Lines) (n : ℕ) (q r : Pipeline) (left : Option Lines) (old now : Option (List ℕ)) (e : LinesFault) → IsCut e → Goes m p known n q left old now → Ran (Err e) m p known r old now
ran_cut m p None n q r left old now e cut so_far = tt
ran_cut m p (Some all) n q r None old now e cut so_far = absurd so_far.1
ran_cut m p (Some all) n q r (Some later) old now e cut so_far =
    let done = so_far.1 in
    part_told (steps_text m p all) done.0 (steps_text n q later) (bad_step p.config m all) e old now cut done.2 done.1

-- after a line's step, where the next line isn't read
pub ran_and_cut : (m : ℕ) (p : Pipeline) (known : Option Lines) (n : ℕ) (q r t : Pipeline) (line : List ℕ) (rest old mid new : Option (List ℕ)) (e : LinesFault) → IsCut e → Goes m p known n q (left_of true line rest) old mid
    → Acted (Ok tt) n q line r mid new → Ran (Err e) m p known t old new
ran_and_cut m p None n q r t line rest old mid new e cut so_far acted = tt
ran_and_cut m p (Some all) n q r t line None old mid new e cut so_far acted = absurd so_far.1
ran_and_cut m p (Some all) n q r t line (Some text) old mid new e cut so_far acted =
    ran_cut m p (Some all) (n + 1) r t (Some (lines_of text)) old new e cut
    (goes_on m p (Some all) n q r line (Some text) old mid new (Some (lines_of text)) so_far acted refl)

-- what is written of a line before a fault that isn't the line's
abbrev Partly : ℕ → Pipeline → List ℕ → Option (List ℕ) → Option (List ℕ) → Type 0
Partly n q line mid new = (s : Step) × (step_of_line q.config line ≡ Some s) × ((k : ℕ) × Appends mid new (take k (noted n (stepped q s))))

ran_part : (m : ℕ) (p : Pipeline) (all : Lines) (n : ℕ) (q : Pipeline) (line text : List ℕ) (old mid new : Option (List ℕ)) (e : LinesFault) → IsCut e → Goes m p (Some all) n q (left_of true line (Some text)) old mid
    → Partly n q line mid new → Told (steps_text m p all) (bad_step p.config m all) (Err e) old new
ran_part m p all n q line text old mid new e cut so_far partly =
    let done = so_far.1 in
    let s = partly.0 in
    let k = partly.2.0 in
    let notes = noted n (stepped q s) in
    let later = steps_text (n + 1) (or_stays q (stepped q s)) (lines_of text) in
    let halves : notes ++ later ≡ take k notes ++ (drop k notes ++ later) = ap (λ (t : List ℕ). t ++ later) (sym (take-append-drop k notes)) ∙ append_assoc (take k notes) (drop k notes) later in
    let whole : steps_text m p all ≡ (done.0 ++ take k notes) ++ (drop k notes ++ later) =
    done.2 ∙ ap (λ (t : List ℕ). done.0 ++ t) (text_one n q line (lines_of text) s partly.1 ∙ halves) ∙ sym (append_assoc done.0 (take k notes) (drop k notes ++ later)) in
    part_told (steps_text m p all) (done.0 ++ take k notes) (drop k notes ++ later) (bad_step p.config m all) e old new cut whole (Appends-then old mid new done.0 (take k notes) done.1 partly.2.1)

-- in the midst of a line, or at one that is no step
pub ran_to : (m : ℕ) (p : Pipeline) (known : Option Lines) (n : ℕ) (q r : Pipeline) (line : List ℕ) (rest old mid new : Option (List ℕ)) (e : LinesFault) → Goes m p known n q (left_of true line rest) old mid
    → Acted (Err e) n q line r mid new → Ran (Err e) m p known r old new
ran_to m p None n q r line rest old mid new e so_far acted = tt
ran_to m p (Some all) n q r line None old mid new e so_far acted = absurd so_far.1
ran_to m p (Some all) n q r line (Some text) old mid new (faults.Line k) so_far acted =
    let done = so_far.1 in
    let texts : steps_text m p all ≡ done.0 = done.2 ∙ ap (λ (t : List ℕ). done.0 ++ t) (text_bad n q line (lines_of text) acted.1) ∙ append-nil done.0 in
    let bads : bad_step p.config m all ≡ Some k =
    done.3 ∙ bad_here p.config n line (lines_of text) (along p.config q.config line None so_far.0 acted.1) ∙ ap (λ (i : ℕ). Some i) (sym acted.0) in
    let P : Option (List ℕ) → Type 0 = λ o. Appends old o (steps_text m p all) in
    (subst P (sym acted.2) (rw texts done.1), bads)
ran_to m p (Some all) n q r line (Some text) old mid new faults.Input so_far acted =
    ran_part m p all n q line text old mid new faults.Input tt so_far acted
ran_to m p (Some all) n q r line (Some text) old mid new faults.Output so_far acted =
    ran_part m p all n q line text old mid new faults.Output tt so_far acted
ran_to m p (Some all) n q r line (Some text) old mid new faults.Memory so_far acted =
    ran_part m p all n q line text old mid new faults.Memory tt so_far acted

-- ---- all of it

-- before the steps
pub cut_in_front : (c : Config) (known : Option (List ℕ)) (e : LinesFault) (old : Option (List ℕ)) → IsCut e → IfSome known (λ input. Replayed c (Err e) input old old)
cut_in_front c None e old cut = tt
cut_in_front c (Some input) e old cut = part_told (replay_text c (lines_of input)) [] (replay_text c (lines_of input)) (bad_replay_line c (lines_of input)) e old old cut refl (Appends-nothing old)

-- the pipeline after the front, and its lines
started : (c : Config) (ds : List Datagram) → (starting c ds).config ≡ c
unfolding starting
started c ds = refl

texts_are : (c : Config) (all later : Lines) (ds : List Datagram) (n : ℕ) (p : Pipeline) → arrivals_in c all ≡ ds → after_arrivals c all ≡ later → n ≡ length ds + 1 → p ≡ starting c ds
    → (steps_text n p later ≡ replay_text c all) × (bad_step p.config n later ≡ bad_replay_line c all)
texts_are c all later ds n p arrivals after number begun =
    let start = starting c (arrivals_in c all) in
    let first : n ≡ length (arrivals_in c all) + 1 = number ∙ ap (λ (es : List Datagram). length es + 1) (sym arrivals) in
    let same : p ≡ start = begun ∙ ap (starting c) (sym arrivals) in
    let config : p.config ≡ c = ap (λ (x : Pipeline). x.config) same ∙ started c (arrivals_in c all) in (
      ap (λ (k : ℕ). steps_text k p later) first ∙ ap (λ (x : Pipeline). steps_text (length (arrivals_in c all) + 1) x later) same
          ∙ ap (λ (ls : Lines). steps_text (length (arrivals_in c all) + 1) start ls) (sym after),
      ap (λ (k : ℕ). bad_step p.config k later) first ∙ ap (λ (d : Config). bad_step d (length (arrivals_in c all) + 1) later) config
          ∙ ap (λ (ls : Lines). bad_step c (length (arrivals_in c all) + 1) ls) (sym after),
    )

retold : (text other : List ℕ) (bad worse : Option ℕ) (r : Result (Unit {0}) LinesFault) (old new : Option (List ℕ)) → text ≡ other → bad ≡ worse → Told text bad r old new → Told other worse r old new
retold text other bad worse r old new same alike told =
    let P : List ℕ → Type 0 = λ t. Told t bad r old new in
    let Q : Option ℕ → Type 0 = λ b. Told other b r old new in
    subst Q alike (subst P same told)

-- the report after the notes
reported : (n : ℕ) (p : Pipeline) (later : Lines) (q : Pipeline) (r : Result (Unit {0}) LinesFault) (old mid new : Option (List ℕ)) → RanOn (Ok tt) n p later q old mid
    → OnOk r (Appends mid new (report q)) → ((k : ℕ) × Appends mid new (take k (report q))) → IfErr r (λ e. IsCut e) → Told (steps_text n p later) (bad_step p.config n later) r old new
reported n p later q (Ok done) old mid new ran wrote part cut =
    let all : steps_text n p later ≡ ran.0 ++ report q = ran.2 in
    (rw all (Appends-then old mid new ran.0 (report q) ran.1 wrote), ran.3)
reported n p later q (Err e) old mid new ran wrote part cut =
    let k = part.0 in
    let whole : steps_text n p later ≡ (ran.0 ++ take k (report q)) ++ drop k (report q) =
    ran.2 ∙ ap (λ (t : List ℕ). ran.0 ++ t) (sym (take-append-drop k (report q))) ∙ sym (append_assoc ran.0 (take k (report q)) (drop k (report q))) in
    part_told (steps_text n p later) (ran.0 ++ take k (report q)) (drop k (report q)) (bad_step p.config n later) e old new cut whole (Appends-then old mid new ran.0 (take k (report q)) ran.1 part.1)

-- the steps end at a fault
pub replayed_to : (c : Config) (known : Option (List ℕ)) (left : Option Lines) (n : ℕ) (lists : List (Vec Came Global)) (p q : Pipeline) (e : LinesFault) (old new : Option (List ℕ))
    → (front : IsFront c (lines_in known) left n lists) → p ≡ starting c front.0 → Ran (Err e) n p left q old new → IfSome known (λ input. Replayed c (Err e) input old new)
replayed_to c None left n lists p q e old new front begun ran = tt
replayed_to c (Some input) None n lists p q e old new front begun ran = absurd front.3
replayed_to c (Some input) (Some later) n lists p q e old new front begun ran =
    let same = texts_are c (lines_of input) later front.0 n p front.3.0 front.3.1 front.2 begun in
    retold (steps_text n p later) (replay_text c (lines_of input)) (bad_step p.config n later) (bad_replay_line c (lines_of input)) (Err e) old new same.0 same.1 ran

-- the report is written after them
pub replayed : (c : Config) (known : Option (List ℕ)) (left : Option Lines) (n : ℕ) (lists : List (Vec Came Global)) (p q : Pipeline) (r : Result (Unit {0}) LinesFault) (old mid new : Option (List ℕ))
    → (front : IsFront c (lines_in known) left n lists) → p ≡ starting c front.0 → Ran (Ok tt) n p left q old mid
    → OnOk r (Appends mid new (report q)) → ((k : ℕ) × Appends mid new (take k (report q))) → IfErr r (λ e. IsCut e) → IfSome known (λ input. Replayed c r input old new)
replayed c None left n lists p q r old mid new front begun ran wrote part cut = tt
replayed c (Some input) None n lists p q r old mid new front begun ran wrote part cut = absurd front.3
replayed c (Some input) (Some later) n lists p q r old mid new front begun ran wrote part cut =
    let same = texts_are c (lines_of input) later front.0 n p front.3.0 front.3.1 front.2 begun in
    retold (steps_text n p later) (replay_text c (lines_of input)) (bad_step p.config n later) (bad_replay_line c (lines_of input)) r old new same.0 same.1 (reported n p later q r old mid new ran wrote part cut)
