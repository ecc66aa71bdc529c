-- A text that is written line by line: the lines so far, a line, and the rest.
use Rattle.std.proofs.Common.{◌≡◌, ◌≤◌, ◌-◌, ℕ, List, ◌++◌, length, take, drop, Option, refl, sym, ◌∙◌, ap, subst, append_assoc, length-append, arith}
use Rattle.std.proofs.lemmas.List.{take-append-drop, take_at, drop_at}
use Rattle.fsmv_outside.specs.Writing.{with_piece, WritesPrefix}
use Rattle.fsmv_outside.proofs.WrittenText.{with_piece_more, WritesPrefix_more, WritesPrefix_longer}

module _ (text tail line more : List ℕ) (left : tail ≡ drop (length text - length tail) text) (split : tail ≡ line ++ more) where
  written : List ℕ
  written = take (length text - length tail) text

  whole : (written ++ line) ++ more ≡ text
  unfolding written
  whole = append_assoc written line more ∙ ap (λ x. written ++ x) (sym split ∙ left) ∙ take-append-drop (length text - length tail) text

  after_it : length text - length more ≡ length (written ++ line)
  after_it = omega (arith, ap length whole, length-append (written ++ line) more)

  pub more_left : more ≡ drop (length text - length more) text
  more_left = sym (ap (λ n. drop n text) after_it ∙ ap (drop (length (written ++ line))) (sym whole) ∙ drop_at (written ++ line) more (length (written ++ line)) refl)

  now_written : take (length text - length more) text ≡ written ++ line
  now_written = ap (λ n. take n text) after_it ∙ ap (take (length (written ++ line))) (sym whole) ∙ take_at (written ++ line) more (length (written ++ line)) refl

  pub shorter : length more ≤ length text
  shorter = omega (arith, ap length whole, length-append (written ++ line) more)

  pub line_written : (before between after : Option (List ℕ)) → between ≡ with_piece before (take (length text - length tail) text) → after ≡ with_piece between line
      → after ≡ with_piece before (take (length text - length more) text)
  unfolding written
  line_written before between after so_far now = now ∙ ap (λ c. with_piece c line) so_far ∙ with_piece_more before written line ∙ ap (with_piece before) (sym now_written)

  pub line_refused : (before between after : Option (List ℕ)) → between ≡ with_piece before (take (length text - length tail) text) → WritesPrefix between after line → WritesPrefix before after text
  unfolding written
  line_refused before between after so_far prefix =
      subst (WritesPrefix before after) whole (WritesPrefix_longer before after (written ++ line) more (WritesPrefix_more before between after written line so_far prefix))
