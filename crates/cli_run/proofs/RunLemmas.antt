-- Lines that are obeyed one after the other, and what was written for them.
use Rattle.std.proofs.Common.{◌≡◌, ℕ, zero, suc, List, [], ◌∷◌, ◌++◌, length, take, Option, Some, None, Result, Ok, Err, true, refl, sym, ap, subst, ◌∙◌, append_assoc, inl, inr}
use Rattle.std.specs.Prelude.{⊤, IfErr, IfSome, OnOk}
use Rattle.std.specs.Io.KnownBytes.{Appends}
use Rattle.std.proofs.lemmas.List.{append-nil, take_at}
use Rattle.cli_io.proofs.LinesLemmas.{Appends-nothing, Appends-then}
use Rattle.cli_io.specs.Lines.{Same, left_of, lines_in, lines_of}
use Rattle.cli_io.specs.Told.{IsCut}
use Rattle.cli_io.specs.declared.fault.LinesFault.{LinesFault}
use Rattle.cli_run.specs.Closing.{closing_text, no_command_text, ready_text}
use Rattle.cli_run.specs.Command.{command_of}
use Rattle.cli_run.specs.declared.closing.Closing.{Closing}
use Rattle.cli_run.specs.declared.command.Command.{Command}
use Rattle.cli_run.specs.declared.command.Command.TheVariants as command
use Rattle.cli_run.specs.Run.{Leads, LedIn, LedReady, Obeys, ObeysAll, Ran, report_of}
use Rattle.cli_run.specs.declared.control.Figures.{Figures}

abbrev Lines : Type 0
Lines = List (List ℕ)

abbrev Known : Type 0
Known = Option (List ℕ)

-- a beginning of the second part
take_in_second : (x y : List ℕ) (k : ℕ) → (j : ℕ) × (take j (x ++ y) ≡ x ++ take k y)
take_in_second [] y k = (k, refl)
take_in_second (a ∷ x) y k = let rest = take_in_second x y k in (suc rest.0, ap (λ (t : List ℕ). a ∷ t) rest.1)

-- all of the first part
take_first : (x y : List ℕ) → take (length x) (x ++ y) ≡ x
take_first x y = take_at x y (length x) refl

take_all : (x : List ℕ) → take (length x) x ≡ x
take_all x = ap (λ (t : List ℕ). take (length x) t) (sym (append-nil x)) ∙ take_first x []

take_none : (k : ℕ) → take {A = ℕ} k [] ≡ []
take_none zero = refl
take_none (suc k) = refl

-- a beginning of the first part
take_within : (x y : List ℕ) (k : ℕ) → (j : ℕ) × (take j (x ++ y) ≡ take k x)
take_within [] y k = (0, sym (take_none k))
take_within (a ∷ x) y zero = (0, refl)
take_within (a ∷ x) y (suc k) = let rest = take_within x y k in (suc rest.0, ap (λ (t : List ℕ). a ∷ t) rest.1)

module _ {C : Type 0} (closes : C → ℕ → Closing → C → Type 0) where
  -- where no memory was left for what is to be written
  pub closed_unwritten : (told : Option Command) (link : ℕ) (c : Closing) (r s : C) → told ≡ Some (command.Close link) → closes r link c s → (whole : List ℕ) × Obeys closes told r whole s
  closed_unwritten told link c r s is closed =
      let P : Option Command → Type 0 = λ x. Obeys closes x r (closing_text c link) s in
      (closing_text c link, subst P (sym is) (c, closed, refl))

  pub no_command_unwritten : (told : Option Command) (r : C) → told ≡ None → (whole : List ℕ) × Obeys closes told r whole r
  no_command_unwritten told r is =
      let P : Option Command → Type 0 = λ x. Obeys closes x r no_command_text r in
      (no_command_text, subst P (sym is) (refl, refl))

  -- one more line
  obeys_more : (done : Lines) (line one text : List ℕ) (r s t : C) → ObeysAll closes done r text s → Obeys closes (command_of line) s one t → ObeysAll closes (done ++ line ∷ []) r (text ++ one) t
  obeys_more [] line one text r s t so_far obeys =
      let P : C → Type 0 = λ x. Obeys closes (command_of line) x one t in
      (one, [], t, subst P so_far.1 obeys, (refl, refl), ap (λ (x : List ℕ). x ++ one) so_far.0 ∙ sym (append-nil one))
  obeys_more (first ∷ done) line one text r s t so_far obeys =
      (so_far.0, so_far.1 ++ one, so_far.2, so_far.3, obeys_more done line one so_far.1 so_far.2 s t so_far.4 obeys, ap (λ (x : List ℕ). x ++ one) so_far.5 ∙ append_assoc so_far.0 so_far.1 one)

  leads_none : (lines : Lines) (r : C) → Leads closes lines lines r [] r
  leads_none lines r = record { done = []; split = refl; obeyed = (refl, refl) }

  leads_more : (lines left : Lines) (line one text : List ℕ) (r s t : C) → Leads closes lines (line ∷ left) r text s → Obeys closes (command_of line) s one t → Leads closes lines left r (text ++ one) t
  leads_more lines left line one text r s t so_far obeys =
      record {
        done = so_far.done ++ line ∷ [];
        split = so_far.split ∙ sym (append_assoc so_far.done (line ∷ []) left);
        obeyed = obeys_more so_far.done line one text r s t so_far.obeyed obeys;
      }

  -- what was written so far is what is written for the lines that are not left
  abbrev pub Goes : Option Lines → Option Lines → C → C → Known → Known → Type 0
  Goes None left r s old new = ⊤
  Goes (Some lines) None r s old new = ⊥
  Goes (Some lines) (Some left) r s old new = (text : List ℕ) × Leads closes lines left r text s × Appends old new text

  pub goes_none : (known : Option Lines) (r : C) (old : Known) → Goes known known r r old old
  goes_none None r old = tt
  goes_none (Some lines) r old = ([], leads_none lines r, Appends-nothing old)

  pub goes_on : (known left : Option Lines) (rest : Known) (line one : List ℕ) (r s t : C) (old mid new : Known) → Goes known left r s old mid → Same left (left_of true line rest)
      → Obeys closes (command_of line) s one t → Appends mid new one → Goes known (lines_in rest) r t old new
  goes_on None left rest line one r s t old mid new so_far read obeys wrote = tt
  goes_on (Some lines) None rest line one r s t old mid new so_far read obeys wrote = absurd so_far
  goes_on (Some lines) (Some left) None line one r s t old mid new so_far read obeys wrote = absurd read
  goes_on (Some lines) (Some left) (Some rest) line one r s t old mid new so_far read obeys wrote =
      let P : Lines → Type 0 = λ ls. Leads closes lines ls r so_far.0 s in
      (so_far.0 ++ one, leads_more lines (lines_of rest) line one so_far.0 r s t (subst P read so_far.1) obeys, Appends-then old mid new so_far.0 one so_far.2 wrote)

  -- where nothing is left
  pub led_out : (known left : Option Lines) (r s : C) (old new : Known) → Goes known left r s old new → Same left (Some []) → LedIn closes (Ok tt) known r s old new
  led_out None left r s old new so_far read = tt
  led_out (Some lines) None r s old new so_far read = absurd so_far
  led_out (Some lines) (Some left) r s old new so_far read =
      let P : Lines → Type 0 = λ ls. Leads closes lines ls r so_far.0 s in
      ([], so_far.0, subst P read so_far.1, tt, so_far.2)

  -- at a line that tells to end
  pub led_to_end : (known left : Option Lines) (rest : Known) (line : List ℕ) (r s t : C) (old new : Known) → Goes known left r s old new → Same left (left_of true line rest)
      → (command_of line ≡ Some command.End) × (t ≡ s) → LedIn closes (Ok tt) known r t old new
  led_to_end None left rest line r s t old new so_far read ends = tt
  led_to_end (Some lines) None rest line r s t old new so_far read ends = absurd so_far
  led_to_end (Some lines) (Some left) None line r s t old new so_far read ends = absurd read
  led_to_end (Some lines) (Some left) (Some rest) line r s t old new so_far read ends =
      let P : Lines → Type 0 = λ ls. Leads closes lines ls r so_far.0 s in
      let Q : C → Type 0 = λ x. Leads closes lines (line ∷ lines_of rest) r so_far.0 x in
      (line ∷ lines_of rest, so_far.0, subst Q (sym ends.1) (subst P read so_far.1), ends.0, so_far.2)

  -- where the reader failed
  pub led_cut : (known left : Option Lines) (r s : C) (old new : Known) (e : LinesFault) → IsCut e → Goes known left r s old new → LedIn closes (Err e) known r s old new
  led_cut None left r s old new e cut so_far = tt
  led_cut (Some lines) None r s old new e cut so_far = absurd so_far
  led_cut (Some lines) (Some left) r s old new e cut so_far =
      let P : List ℕ → Type 0 = λ t. Appends old new t in
      (cut, (left, so_far.0, length so_far.0, so_far.1, subst P (sym (take_all so_far.0)) so_far.2))

  -- where a beginning of a line's text was written
  pub led_and_cut : (known left : Option Lines) (rest : Known) (line one : List ℕ) (k : ℕ) (r s t : C) (old mid new : Known) (e : LinesFault) → IsCut e → Goes known left r s old mid
      → Same left (left_of true line rest) → Obeys closes (command_of line) s one t → Appends mid new (take k one) → LedIn closes (Err e) known r t old new
  led_and_cut None left rest line one k r s t old mid new e cut so_far read obeys wrote = tt
  led_and_cut (Some lines) None rest line one k r s t old mid new e cut so_far read obeys wrote = absurd so_far
  led_and_cut (Some lines) (Some left) None line one k r s t old mid new e cut so_far read obeys wrote = absurd read
  led_and_cut (Some lines) (Some left) (Some rest) line one k r s t old mid new e cut so_far read obeys wrote =
      let P : Lines → Type 0 = λ ls. Leads closes lines ls r so_far.0 s in
      let within = take_in_second so_far.0 one k in
      let Q : List ℕ → Type 0 = λ x. Appends old new x in (
        cut,
        (
          lines_of rest,
          so_far.0 ++ one,
          within.0,
          leads_more lines (lines_of rest) line one so_far.0 r s t (subst P read so_far.1) obeys,
          subst Q (sym within.1) (Appends-then old mid new so_far.0 (take k one) so_far.2 wrote),
        ),
      )

  -- where there was no memory for a line's text
  pub led_lack : (known left : Option Lines) (rest : Known) (line : List ℕ) (r s t : C) (old new : Known) (e : LinesFault) → IsCut e → Goes known left r s old new → Same left (left_of true line rest)
      → ((one : List ℕ) × Obeys closes (command_of line) s one t) → LedIn closes (Err e) known r t old new
  led_lack known left rest line r s t old new e cut so_far read obeys =
      led_and_cut known left rest line obeys.0 0 r s t old new new e cut so_far read obeys.1 (Appends-nothing new)

  -- ---- after `ready`

  pub ready_led : (result : Result (Unit {0}) LinesFault) (known : Option Lines) (r s : C) (old mid new : Known) → Appends old mid ready_text → LedIn closes result known r s mid new → LedReady closes result known r s old new
  ready_led result None r s old mid new ready led = tt
  ready_led (Ok done) (Some lines) r s old mid new ready led = (led.0, led.1, led.2, led.3, Appends-then old mid new ready_text led.1 ready led.4)
  ready_led (Err e) (Some lines) r s old mid new ready led =
      let within = take_in_second ready_text led.1.1 led.1.2 in
      let Q : List ℕ → Type 0 = λ x. Appends old new x in
      (led.0, (led.1.0, led.1.1, within.0, led.1.3, subst Q (sym within.1) (Appends-then old mid new ready_text (take led.1.2 led.1.1) ready led.1.4)))

  pub ready_cut : (known : Option Lines) (r : C) (old new : Known) (e : LinesFault) → IsCut e → ((k : ℕ) × Appends old new (take k ready_text)) → LedReady closes (Err e) known r r old new
  ready_cut None r old new e cut wrote = tt
  ready_cut (Some lines) r old new e cut wrote =
      let within = take_within ready_text [] wrote.0 in
      let Q : List ℕ → Type 0 = λ x. Appends old new x in
      (cut, (lines, [], within.0, leads_none lines r, subst Q (sym within.1) wrote.1))

  module _ (tells : C → Figures → Type 0) (ids : List ℕ) where
    -- the report was written, or a beginning of it
    pub ran_reported : (result : Result (Unit {0}) LinesFault) (rest : Known) (r s : C) (figures : Figures) (old mid new : Known) → LedReady closes (Ok tt) (lines_in rest) r s old mid → tells s figures
        → OnOk result (Appends mid new (report_of closes tells ids figures)) → ((k : ℕ) × Appends mid new (take k (report_of closes tells ids figures))) → IfErr result (λ e. IsCut e)
        → IfSome rest (λ input. Ran closes tells ids r result (lines_of input) old new)
    ran_reported result None r s figures old mid new led told whole begins fault = tt
    ran_reported (Ok done) (Some input) r s figures old mid new led told whole begins fault =
        let Q : List ℕ → Type 0 = λ x. Appends old new x in
        let report = report_of closes tells ids figures in
        (led.0, led.1, s, figures, led.2, led.3, told, subst Q (append_assoc ready_text led.1 report) (Appends-then old mid new (ready_text ++ led.1) report led.4 whole))
    ran_reported (Err e) (Some input) r s figures old mid new led told whole begins fault =
        let Q : List ℕ → Type 0 = λ x. Appends old new x in
        let report = report_of closes tells ids figures in
        let within = take_in_second (ready_text ++ led.1) report begins.0 in
        let same : take within.0 (ready_text ++ (led.1 ++ report)) ≡ (ready_text ++ led.1) ++ take begins.0 report = ap (λ (x : List ℕ). take within.0 x) (sym (append_assoc ready_text led.1 report)) ∙ within.1 in
        (fault, (led.0, led.1, s, report, within.0, led.2, inr (figures, told, refl), subst Q (sym same) (Appends-then old mid new (ready_text ++ led.1) (take begins.0 report) led.4 begins.1)))

    -- no report was written
    pub ran_cut : (rest : Known) (r s : C) (old new : Known) (e : LinesFault) → LedReady closes (Err e) (lines_in rest) r s old new → IfSome rest (λ input. Ran closes tells ids r (Err e) (lines_of input) old new)
    ran_cut None r s old new e led = tt
    ran_cut (Some input) r s old new e led =
        let Q : List ℕ → Type 0 = λ x. Appends old new (take led.1.2 (ready_text ++ x)) in
        (led.0, (led.1.0, led.1.1, s, [], led.1.2, led.1.3, inl refl, subst Q (sym (append-nil led.1.1)) led.1.4))
