-- Laws of text written at a place of a list.
use Rattle.std.proofs.Common.{◌≡◌, ℕ, ◌+◌, ◌≤◌, List, ◌++◌, length, take, drop, sym, ap, ◌∙◌, add_assoc, zero-add, arith, length-append, length-take-le}
use Rattle.std.proofs.lemmas.List.{append_assoc, take_at, drop_at, drop-drop}
use Rattle.planner.specs.Reading.{over}
use Rattle.table_file.specs.Puts.{put}

module _ (ys zs old : List ℕ) (at : ℕ) (h : at + length ys ≤ length old) where
  front : List ℕ
  front = take at old ++ ys

  front_length : length front ≡ at + length ys
  unfolding front
  front_length = length-append (take at old) ys ∙ ap (λ n. n + length ys) (length-take-le at old (omega arith))

  regroup : put ys at old ≡ front ++ drop (at + length ys) old
  unfolding front
  regroup = sym (append_assoc (take at old) ys (drop (at + length ys) old))

  pub put_put : put zs (at + length ys) (put ys at old) ≡ put (ys ++ zs) at old
  unfolding front
  put_put =
      let n : ℕ = at + length ys in
      let t : take n (put ys at old) ≡ front = ap (take n) regroup ∙ take_at front (drop n old) n front_length in
      let d : drop (n + length zs) (put ys at old) ≡ drop (at + length (ys ++ zs)) old =
      sym (drop-drop (length zs) n (put ys at old))
      ∙ ap (drop (length zs)) (ap (drop n) regroup ∙ drop_at front (drop n old) n front_length)
      ∙ drop-drop (length zs) n old
      ∙ ap (λ m. drop m old) (add_assoc at (length ys) (length zs) ∙ ap (λ m. at + m) (sym (length-append ys zs))) in
      (λ i. t i ++ (zs ++ d i))
      ∙ append_assoc (take at old) ys (zs ++ drop (at + length (ys ++ zs)) old)
      ∙ ap (λ l. take at old ++ l) (sym (append_assoc ys zs (drop (at + length (ys ++ zs)) old)))

pub put_start : (ys old : List ℕ) → put ys 0 old ≡ over ys old
put_start ys old = ap (λ n. ys ++ drop n old) (zero-add (length ys))

pub put_then : (ys zs old mid last : List ℕ) (at next : ℕ) → at + length ys ≤ length old → mid ≡ put ys at old → next ≡ at + length ys → last ≡ put zs next mid → last ≡ put (ys ++ zs) at old
put_then ys zs old mid last at next h m n l = l ∙ (λ i. put zs (n i) (m i)) ∙ put_put ys zs old at h
