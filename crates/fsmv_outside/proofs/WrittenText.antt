-- Laws of `with_piece` and `WritesPrefix`, also for several writes.
use Rattle.std.proofs.Common.{◌≡◌, ℕ, ◌+◌, ◌≤◌, min, List, [], ◌++◌, length, take, Option, Some, None, refl, ap, sym, ◌∙◌, append_assoc, arith}
use Rattle.std.proofs.lemmas.List.{append-nil, take_min, take-append-le}
use Rattle.std.proofs.Math.Seq.{take-append-add, take-length}
use Rattle.fsmv_outside.specs.Writing.{with_piece, WritesPrefix}

-- two writes are one write of both
pub with_piece_more : (before : Option (List ℕ)) (first second : List ℕ) → with_piece (with_piece before first) second ≡ with_piece before (first ++ second)
with_piece_more None first second = refl
with_piece_more (Some text) first second = ap Some (append_assoc text first second)

-- an empty write changes nothing
pub with_piece_none : (before : Option (List ℕ)) → with_piece before [] ≡ before
with_piece_none None = refl
with_piece_none (Some text) = ap Some (append-nil text)

-- nothing was written
pub WritesPrefix_none : (before after : Option (List ℕ)) (piece : List ℕ) → after ≡ before → WritesPrefix before after piece
WritesPrefix_none before after piece same =
    record { count = 0; written = same ∙ sym (with_piece_none before) }

-- all the bytes are written
pub WritesPrefix_all : (before after : Option (List ℕ)) (piece : List ℕ) → after ≡ with_piece before piece → WritesPrefix before after piece
WritesPrefix_all before after piece whole =
    record { count = length piece; written = rw take-length whole }

-- the first bytes are written, then a prefix of the second
pub WritesPrefix_more : (before between after : Option (List ℕ)) (first second : List ℕ) → between ≡ with_piece before first → WritesPrefix between after second → WritesPrefix before after (first ++ second)
WritesPrefix_more before between after first second whole prefix = record {
  count = length first + prefix.count;
  written =
      prefix.written
      ∙ ap (λ text. with_piece text (take prefix.count second)) whole
      ∙ with_piece_more before first (take prefix.count second)
      ∙ ap (with_piece before) (sym (take-append-add first second prefix.count));
}

-- a prefix of the first bytes is written, and nothing more
pub WritesPrefix_longer : (before after : Option (List ℕ)) (first second : List ℕ) → WritesPrefix before after first → WritesPrefix before after (first ++ second)
WritesPrefix_longer before after first second prefix = record {
  count = min prefix.count (length first);
  written =
      let within : min prefix.count (length first) ≤ length first = omega arith in
      prefix.written
      ∙ ap (with_piece before) (sym (take-append-le (min prefix.count (length first)) first second within ∙ take_min prefix.count first));
}
