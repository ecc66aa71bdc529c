-- The rest of a reader and the content of a writer, over several reads and writes.
use Rattle.std.proofs.Common.{◌≡◌, ℕ, ◌-◌, List, ◌++◌, length, take, drop, Option, ap, sym, ◌∙◌, arith, append_assoc}
use Rattle.std.proofs.lemmas.List.{length-drop, take_all, take-append-drop}
use Rattle.std.proofs.Math.Seq.{take-append_seam}
use Rattle.std.specs.Io.KnownBytes.{Keeps, Appends, Consumes}
use Rattle.std.proofs.KnownBytes.{Appends-kept, Appends-trans}

-- The bytes read so far follow those that were there before. The reader had `all` at the start, and
-- has `left`.
pub record HasRead (all left : Option (List ℕ)) (before now : List ℕ) : Type 0 where
  pub bytes : List ℕ
  pub appended : now ≡ before ++ bytes
  pub consumed : Consumes all left bytes

-- The bytes to write are those written so far, and the suffix. The writer had `before` at the
-- start, and has `now`.
pub record HasWritten (before now : Option (List ℕ)) (piece suffix : List ℕ) : Type 0 where
  pub bytes : List ℕ
  pub split : piece ≡ bytes ++ suffix
  pub appended : Appends before now bytes

-- the suffix is that of `&suffix[count..]`
pub HasWritten_more : (before now after : Option (List ℕ)) (piece suffix : List ℕ) (count : ℕ) → HasWritten before now piece suffix → Appends now after (take count suffix) → HasWritten before after piece (take (length suffix - count) (drop count suffix))
HasWritten_more before now after piece suffix count so_far appended =
    let left : take (length suffix - count) (drop count suffix) ≡ drop count suffix = take_all (length suffix - count) (drop count suffix) (rw length-drop (omega arith)) in
    record {
      bytes = so_far.bytes ++ take count suffix;
      split =
          so_far.split
          ∙ ap (λ text. so_far.bytes ++ text) (sym (take-append-drop count suffix))
          ∙ sym (append_assoc so_far.bytes (take count suffix) (drop count suffix))
          ∙ ap (λ text. (so_far.bytes ++ take count suffix) ++ text) (sym left);
      appended = Appends-trans before now after so_far.bytes (take count suffix) so_far.appended appended;
    }

-- a prefix of the bytes is written, also after a write of nothing
pub HasWritten_prefix : (before now after : Option (List ℕ)) (piece suffix : List ℕ) → HasWritten before now piece suffix → Keeps now after → (count : ℕ) × Appends before after (take count piece)
HasWritten_prefix before now after piece suffix so_far kept =
    let prefix : take (length so_far.bytes) piece ≡ so_far.bytes = rw so_far.split (take-append_seam so_far.bytes suffix) in
    (length so_far.bytes, rw prefix (Appends-kept before now after so_far.bytes so_far.appended kept))
