-- The search for the first file of a name, from the start of the list.
use Rattle.std.proofs.Common.{◌≡◌, ℕ, ◌+◌, ◌^◌, ◌<◌, true, false, List, [], ◌∷◌, length, drop, get_or, Some, IfSome, refl, sym, add-one, arith, drop-cons, String}
use Rattle.std.specs.Prelude.{string_bytes, if◌then◌else◌}
use Rattle.std.specs.Str.{bytes_eq}
use Rattle.std.specs.Global.{Vec}
use Rattle.std.specs.declared.alloc.Global.{Global}
use Rattle.fsmv_outside.specs.Memory.{content_of, listed}

abbrev pub File : Type 0
File = String Global × Vec ℕ

-- the files from an index on begin with the file there
suffix : (files : List File) (index : ℕ) (file : File) → index < length files → get_or files index file ≡ file → drop index files ≡ file ∷ drop (index + 1) files
suffix files index file inside is = rw (add-one, drop-cons files index file inside, is) refl

-- a file of another name is skipped
pub content_of_other : (files : List File) (index : ℕ) (file : File) (name : List ℕ) → index < length files → file ≡ get_or files index file → bytes_eq (string_bytes file.0) name ≡ false → content_of (listed (drop index files)) name ≡ content_of (listed (drop (index + 1) files)) name
content_of_other files index file name inside is other = rw (suffix files index file inside (sym is), other) refl

-- a file of the name is the one
pub content_of_same : (files : List File) (index : ℕ) (file : File) (name : List ℕ) → index < length files → file ≡ get_or files index file → bytes_eq (string_bytes file.0) name ≡ true → content_of (listed (drop index files)) name ≡ Some file.1.items
content_of_same files index file name inside is same = rw (suffix files index file inside (sym is), same) refl

-- no file is longer than a vector can be
pub content_of_short : (files : List File) (name : List ℕ) → IfSome (content_of (listed files) name) (λ content. length content < 2 ^ 63)
content_of_short [] name = tt
content_of_short (file ∷ files) name =
    elim (bytes_eq (string_bytes file.0) name) as (λ same. IfSome (if same then Some file.1.items else content_of (listed files) name) (λ content. length content < 2 ^ 63)) [
      | true ↦ let in_vector : length file.1.items < 2 ^ 63 = omega (arith, file.1.ok, file.1.small) in in_vector
      | false ↦ content_of_short files name
    ]
