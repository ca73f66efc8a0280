-- One line more of a file.
use Rattle.std.proofs.Common.{◌≡◌, ℕ, ◌+◌, ◌<◌, ◌≤◌, List, [], ◌∷◌, length, Ok, Err, Result, sym, refl, ap, ◌∙◌, arith}
use Rattle.std.proofs.lemmas.Bool.{cond-false, le-ltb}
use Rattle.table_file.specs.declared.fault.Fault.{Fault}
use Rattle.table_file.specs.Lines.{check_line, lines_of, head_line, after_line}
use Rattle.table_file.specs.Frames.{Form, form_of}
use Rattle.table_file.specs.Stored.{Stored}
use Rattle.table_file.specs.Progress.{Progress, bind, step, begin, finish, carried}
use Rattle.table_file.specs.Reading.{read_line, read_lines, read_file}
use Rattle.table_file.proofs.Cuts.{lines_cut}

pub read_cut : (ln : ℕ) (st : Progress) (rest : List ℕ) → 0 < length rest → read_lines ln st (lines_of rest) ≡ bind (read_line ln st (head_line rest)) (λ next. read_lines (ln + 1) next (lines_of (after_line rest)))
read_cut ln st [] h = absurd (omega arith)
read_cut ln st (b ∷ bs) h = ap (read_lines ln st) (lines_cut b bs)

module _ (ln : ℕ) (st : Progress) (rest : List ℕ) (some : 0 < length rest) where
  pub line_fault : (f : Fault) → check_line (head_line rest) ln ≡ Err f → read_lines ln st (lines_of rest) ≡ Err f
  line_fault f e = read_cut ln st rest some ∙ ap (λ r. bind (bind r (λ ds. bind (form_of ds ln) (λ form. step st form))) (λ next. read_lines (ln + 1) next (lines_of (after_line rest)))) e

  module _ (ds : List ℕ) (is_line : check_line (head_line rest) ln ≡ Ok ds) where
    past_line : read_lines ln st (lines_of rest) ≡ bind (bind (form_of ds ln) (λ form. step st form)) (λ next. read_lines (ln + 1) next (lines_of (after_line rest)))
    past_line = read_cut ln st rest some ∙ ap (λ r. bind (bind r (λ ds. bind (form_of ds ln) (λ form. step st form))) (λ next. read_lines (ln + 1) next (lines_of (after_line rest)))) is_line

    pub frame_fault : (f : Fault) → form_of ds ln ≡ Err f → read_lines ln st (lines_of rest) ≡ Err f
    frame_fault f e = past_line ∙ ap (λ r. bind (bind r (λ form. step st form)) (λ next. read_lines (ln + 1) next (lines_of (after_line rest)))) e

    module _ (form : Form) (is_form : form_of ds ln ≡ Ok form) where
      past_frame : read_lines ln st (lines_of rest) ≡ bind (step st form) (λ next. read_lines (ln + 1) next (lines_of (after_line rest)))
      past_frame = past_line ∙ ap (λ r. bind (bind r (λ form. step st form)) (λ next. read_lines (ln + 1) next (lines_of (after_line rest)))) is_form

      pub step_fault : (f : Fault) → step st form ≡ Err f → read_lines ln st (lines_of rest) ≡ Err f
      step_fault f e = past_frame ∙ ap (λ r. bind r (λ next. read_lines (ln + 1) next (lines_of (after_line rest)))) e

      pub step_goes : (next : Progress) → step st form ≡ Ok next → read_lines ln st (lines_of rest) ≡ read_lines (ln + 1) next (lines_of (after_line rest))
      step_goes next e = past_frame ∙ ap (λ r. bind r (λ next. read_lines (ln + 1) next (lines_of (after_line rest)))) e

module _ (file rest : List ℕ) (ln : ℕ) (st : Progress) (short : length file ≤ 65535) (inv : read_lines ln st (lines_of rest) ≡ read_lines 1 begin (lines_of file)) where
  -- what is left to read gives what the file gives
  pub to_file : (r : Result Stored Fault) → read_lines ln st (lines_of rest) ≡ r → read_file file ≡ r
  to_file r e = cond-false _ _ _ (le-ltb 65535 (length file) short) ∙ sym inv ∙ e

pub read_done : (ln : ℕ) (st : Progress) (rest : List ℕ) → length rest ≡ 0 → read_lines ln st (lines_of rest) ≡ bind (finish st ln) (λ _. Ok (carried st))
read_done ln st [] h = refl
read_done ln st (b ∷ bs) h = absurd (omega arith)
