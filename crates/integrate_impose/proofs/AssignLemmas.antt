-- One more assignment, in the last ASSIGN section or in a new one.
use Rattle.std.proofs.Common.{◌≡◌, ◌+◌, ℕ, Bool, true, false, ◌||◌, ◌&&◌, cond, List, [], ◌∷◌, ◌++◌, length, drop, refl, sym, ◌∙◌, ap, subst, append_assoc, length-append, arith}
use Rattle.std.specs.Prelude.{not}
use Rattle.std.specs.List.{list_any}
use Rattle.std.proofs.lemmas.List.{drop_at}
use Rattle.std.proofs.Math.Seq.{get_or-append_seam}
use Rattle.smv_ast.specs.declared.program.Assignment.{Assignment}
use Rattle.smv_ast.specs.declared.program.Section.{Section}
use Rattle.smv_ast.specs.declared.program.Section.TheVariants as section
use Rattle.integrate_impose.specs.Lists.{IsLastIndex}
use Rattle.integrate_impose.specs.Impose.{is_assigns, one_more, with_assignment}

either_step : (v b : Bool) → b ≡ true → v || b ≡ true
either_step true b e = refl
either_step false b e = e

any_at : {A : Type 0} (test : A → Bool) (prefix : List A) (item : A) (suffix : List A) → test item ≡ true → list_any test (prefix ++ item ∷ suffix) ≡ true
any_at test [] item suffix e = ap (λ b. b || list_any test suffix) e
any_at test (x ∷ prefix) item suffix e = either_step (test x) _ (any_at test prefix item suffix e)

none_step : (v : Bool) (s : Section) (more : List Section) (a : Assignment) → (list_any is_assigns more ≡ false → more ++ section.Assigns (a ∷ []) ∷ [] ≡ with_assignment more a)
    → v || list_any is_assigns more ≡ false → s ∷ more ++ section.Assigns (a ∷ []) ∷ [] ≡ cond (v && not (list_any is_assigns more)) (one_more s a ∷ more) (s ∷ with_assignment more a)
none_step true s more a tail e = cc
none_step false s more a tail e = ap (λ xs. s ∷ xs) (tail e)

pub with_assignment_none : (sections : List Section) (a : Assignment) → list_any is_assigns sections ≡ false → sections ++ section.Assigns (a ∷ []) ∷ [] ≡ with_assignment sections a
with_assignment_none [] a e = refl
with_assignment_none (s ∷ more) a e = none_step (is_assigns s) s more a (with_assignment_none more a) e

and_not : (v b : Bool) → b ≡ true → v && not b ≡ false
and_not true b e = ap not e
and_not false b e = refl

at_last : (prefix : List Section) (s : Section) (suffix : List Section) (a : Assignment) → is_assigns s ≡ true → list_any is_assigns suffix ≡ false
    → prefix ++ one_more s a ∷ suffix ≡ with_assignment (prefix ++ s ∷ suffix) a
at_last [] s suffix a e none = sym (ap (λ v. cond (v && not (list_any is_assigns suffix)) (one_more s a ∷ suffix) (s ∷ with_assignment suffix a)) e
    ∙ ap (λ b. cond (not b) (one_more s a ∷ suffix) (s ∷ with_assignment suffix a)) none)
at_last (x ∷ prefix) s suffix a e none = ap (λ xs. x ∷ xs) (at_last prefix s suffix a e none)
    ∙ sym (ap (λ b. cond b (one_more x a ∷ (prefix ++ s ∷ suffix)) (x ∷ with_assignment (prefix ++ s ∷ suffix) a)) (and_not (is_assigns x) _ (any_at is_assigns prefix s suffix e)))

passes_at_index : (prefix : List Section) (s : Section) (suffix : List Section) → IsLastIndex is_assigns (prefix ++ s ∷ suffix) (length prefix) → is_assigns s ≡ true
passes_at_index prefix s suffix last = ap is_assigns (sym (get_or-append_seam prefix s suffix s)) ∙ last.passes s

none_later_there : (prefix : List Section) (s : Section) (suffix : List Section) → IsLastIndex is_assigns (prefix ++ s ∷ suffix) (length prefix) → list_any is_assigns suffix ≡ false
none_later_there prefix s suffix last = ap (list_any is_assigns) (sym (ap (drop (length prefix + 1)) (sym (append_assoc prefix (s ∷ []) suffix)) ∙ drop_at (prefix ++ s ∷ []) suffix (length prefix + 1) (omega (arith, length-append prefix (s ∷ []))))) ∙ last.none_later

-- the sections split at the last ASSIGN section, and joined again with one more assignment in it
pub with_assignment_taken : (sections prefix suffix : List Section) (s : Section) (a : Assignment) (index : ℕ) → sections ≡ prefix ++ s ∷ suffix → length prefix ≡ index → IsLastIndex is_assigns sections index
    → (prefix ++ one_more s a ∷ []) ++ suffix ≡ with_assignment sections a
with_assignment_taken sections prefix suffix s a index split at last =
    let there : IsLastIndex is_assigns (prefix ++ s ∷ suffix) (length prefix) = subst (λ (n : ℕ). IsLastIndex is_assigns (prefix ++ s ∷ suffix) n) (sym at) (subst (λ (xs : List Section). IsLastIndex is_assigns xs index) split last) in
    append_assoc prefix (one_more s a ∷ []) suffix
    ∙ at_last prefix s suffix a (passes_at_index prefix s suffix there) (none_later_there prefix s suffix there)
    ∙ ap (λ xs. with_assignment xs a) (sym split)
