-- What planning a table gives, as the answer to its file.
use Rattle.std.proofs.Common.{◌≡◌, ℕ, ◌+◌, ◌*◌, ◌≤◌, List, length, Ok, Err, Result, MatchResult, sym, ap, ◌∙◌, subst, ⊎_elim, arith}
use Rattle.std.specs.Result.{IsErrAnd}
use Rattle.interference.specs.declared.full.Full.{Full}
use Rattle.planner.specs.declared.refusal.Refusal.{Refusal}
use Rattle.planner.specs.declared.tables.fixed.FixedTable.{FixedTable}
use Rattle.planner.specs.Refusals.{number}
use Rattle.planner.specs.Tables.{Open, opened, holds}
use Rattle.planner.specs.Reading.{standing, over}
use Rattle.table_file.specs.declared.notice.Notice.{Notice}
use Rattle.table_file.specs.FileText.{file_text}
use Rattle.table_file.specs.Notices.{notice_line, WritesBytes}
use Rattle.table_file.specs.Promises.{Writes}
use Rattle.table_file.specs.Reading.{read_file}
use Rattle.table_file.specs.Stored.{Stored, stored, placed, of_fixed}
use Rattle.table_file.proofs.Back.{text_length}
use Rattle.table_file.proofs.Carried.{length_placed}
use Rattle.table_file.proofs.Distinct.{length_standing}
use Rattle.plan_file.specs.Answers.{PlanAnswer, too_many, none, planned, seek_notice, refusal_notice, FileAnswer, FilePlanned, Planned, Answered}
use Rattle.plan_file.proofs.OneAnswer.{one_answer}

module _ (m : Open) where
  -- eight tasks with their places fit
  table_fits : (t : FixedTable Full) → Planned m (Ok t) → length (file_text (of_fixed (holds t))) ≤ 1024
  table_fits t h =
      let q : List ℕ = h.1.0 in
      let lens : List ℕ = h.1.1 in
      let places : length (placed (standing q) lens) ≡ length q = length_placed (standing q) lens ∙ length_standing q in
      let size : length (file_text (of_fixed (holds t))) ≡ 5 + 15 * length m.tasks + 9 * length (placed (standing q) lens) =
      ap (λ s. length (file_text s)) h.1.4 ∙ text_length (stored m.cores m.tasks (placed (standing q) lens)) in
      omega (arith, size, places, h.0, h.1.3.order.0)

  table_answer : (t : FixedTable Full) → Planned m (Ok t) → PlanAnswer m.cores m.tasks (file_text (of_fixed (holds t)))
  table_answer t h = planned h.0 h.1.0 h.1.1 h.1.2 h.1.3 (ap file_text h.1.4)

  notice_answer : (e : Refusal) (n : Notice) → n ≡ refusal_notice (number e) → Planned m (Err e) → PlanAnswer m.cores m.tasks (notice_line n)
  notice_answer e n is h =
      let said : notice_line n ≡ seek_notice (number e) = ap notice_line is in
      ⊎_elim
      (λ many. too_many many.1 (said ∙ ap seek_notice many.0))
      (λ no. none no.1 no.2 (said ∙ ap seek_notice no.0)) h

  module _ (s : Stored) (is : m ≡ opened s.cores s.tasks) where
    of_same : (out : List ℕ) → PlanAnswer m.cores m.tasks out → PlanAnswer s.cores s.tasks out
    of_same out a = subst (λ (x : Open). PlanAnswer x.cores x.tasks out) is a

    pub by_plan : (r : Result (FixedTable Full) Refusal) (out : Result (FixedTable Full) Notice) (Says : Refusal → Notice → Type 0)
        → ((e : Refusal) (n : Notice) → Says e n → n ≡ refusal_notice (number e))
        → MatchResult r (λ t. out ≡ Ok t) (λ e. IsErrAnd out (Says e)) → Planned m r → FilePlanned (Ok s) out
    by_plan (Ok t) out Says says is h =
        let P : Result (FixedTable Full) Notice → Type 0 = FilePlanned (Ok s) in
        subst P (sym is) (table_fits t h, of_same (file_text (of_fixed (holds t))) (table_answer t h))
    by_plan (Err e) (Ok t) Says says is h = absurd is
    by_plan (Err e) (Err n) Says says is h = of_same (notice_line n) (notice_answer e n (says e n is) h)

-- bytes that were written are the answer
answered : (file old new bytes : List ℕ) (n k : ℕ) → ◌≡◌ {A = Result ℕ Refusal} (Ok k) (Ok n) → FileAnswer (read_file file) bytes → k ≡ length bytes → new ≡ over bytes old → Answered file n old new
answered file old new bytes n k is a count text =
    let same : k ≡ n = cc in
    record { bytes = bytes; answer = a; only = (λ other b. one_answer (read_file file) other bytes b a); count = sym same ∙ count; text = text }

module _ (file old new : List ℕ) where
  pub file_answered : (s : Stored) (r : Result ℕ Refusal) (n : ℕ) → Writes s r old new → r ≡ Ok n → FileAnswer (read_file file) (file_text s) → Answered file n old new
  file_answered s (Ok k) n h is a = answered file old new (file_text s) n k is a h.count h.text
  file_answered s (Err e) n h is a = absurd (cc)

  pub notice_answered : (m : Notice) (r : Result ℕ Refusal) (n : ℕ) → WritesBytes (notice_line m) r old new → r ≡ Ok n → FileAnswer (read_file file) (notice_line m) → Answered file n old new
  notice_answered m (Ok k) n h is a = answered file old new (notice_line m) n k is a h.1 h.2
  notice_answered m (Err e) n h is a = absurd (cc)
