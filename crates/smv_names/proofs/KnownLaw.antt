-- A path is resolved exactly where it is known or a symbol.
use Rattle.std.proofs.Common.{◌≡◌, ℕ, zero, suc, ◌<◌, Bool, true, false, ◌||◌, List, [], ◌∷◌, length, get_or, refl, subst, arith, inl, inr}
use Rattle.std.specs.Prelude.{is_some, not, IsSome, ◌↔◌}
use Rattle.std.specs.List.{list_all, Contains}
use Rattle.std.specs.Str.{bytes_eq}
use Rattle.std.proofs.lemmas.Slice.Eq.{bytes_eq-Decides}
use Rattle.std.proofs.lemmas.Bool.{and_parts, and_from, or_cases, or_left, or_right}
use Rattle.smv_ast.specs.declared.program.Program.{Program}
use Rattle.smv_meaning.specs.Value.{Name}
use Rattle.smv_meaning.specs.Paths.{resolve}
use Rattle.smv_meaning.specs.Instances.{Instance, called_at, module_named, lookup, binding_at, instances}
use Rattle.smv_meaning.specs.Known.{IsKnown}
use Rattle.smv_names.specs.Unknown.{begins_in, resolves_if_of, is_resolved_in_each, is_known_path, is_symbol_path, is_resolved, Resolves}

-- ---- each element

at_number : {A : Type 0} (test : A → Bool) (xs : List A) → list_all test xs ≡ true → (x : A) (k : ℕ) → k < length xs → get_or xs k x ≡ x → test x ≡ true
at_number test [] h x k l e = absurd (omega arith)
at_number {A} test (y ∷ ys) h x zero l e = subst (λ (z : A). test z ≡ true) e (and_parts (test y) (list_all test ys) h).0
at_number test (y ∷ ys) h x (suc k) l e = at_number test ys (and_parts (test y) (list_all test ys) h).1 x k (omega arith) e

all_at : {A : Type 0} (test : A → Bool) (xs : List A) → list_all test xs ≡ true → (x : A) → Contains xs x → test x ≡ true
all_at test xs h x c = at_number test xs h x c.0 c.1 c.2

from_all : {A : Type 0} (test : A → Bool) (xs : List A) → ((x : A) → Contains xs x → test x ≡ true) → list_all test xs ≡ true
from_all test [] h = refl
from_all test (y ∷ ys) h =
    and_from (test y) (list_all test ys) (h y (zero, omega arith, refl)) (from_all test ys (λ x c. h x (suc c.0, (let l = c.1 in omega arith), c.2)))

-- ---- the law

resolve_of : (program : Program) (called : Name) (path : List Name) (instance : Instance) → resolves_if_of program called path instance ≡ true → called_at instance ≡ called → IsSome (resolve (binding_at program) instance path)
resolve_of program called path instance h e = at (bytes_eq (called_at instance) called) ((bytes_eq-Decides (called_at instance) called).1 e) h
  where
    at : (b : Bool) → b ≡ true → (not b || is_some (resolve (binding_at program) instance path)) ≡ true → is_some (resolve (binding_at program) instance path) ≡ true
    at true e h = h
    at false e h = cc

to_resolve : (program : Program) (called : Name) (path : List Name) (instance : Instance) → (called_at instance ≡ called → IsSome (resolve (binding_at program) instance path)) → resolves_if_of program called path instance ≡ true
to_resolve program called path instance h = at (bytes_eq (called_at instance) called) refl
  where
    at : (b : Bool) → bytes_eq (called_at instance) called ≡ b → (not b || is_some (resolve (binding_at program) instance path)) ≡ true
    at true e = h ((bytes_eq-Decides (called_at instance) called).0 e)
    at false e = refl

first_of : (program : Program) (called : Name) (path : List Name) → begins_in program called path ≡ true → (name : Name) (more : List Name) → path ≡ name ∷ more → IsSome (lookup (module_named program called) name)
first_of program called path h name more e = subst (λ (p : List Name). begins_in program called p ≡ true) e h

to_first : (program : Program) (called : Name) (path : List Name) → ((name : Name) (more : List Name) → path ≡ name ∷ more → IsSome (lookup (module_named program called) name)) → begins_in program called path ≡ true
to_first program called [] h = refl
to_first program called (name ∷ more) h = h name more refl

known_of : (program : Program) (called : Name) (path : List Name) → is_known_path program called path ≡ true → IsKnown program called path
known_of program called path h =
    let p = and_parts (begins_in program called path) (is_resolved_in_each program called path) h in
    record {
      first = first_of program called path p.0;
      each = λ instance c e. resolve_of program called path instance (all_at (resolves_if_of program called path) (instances program) p.1 instance c) e;
    }

to_known : (program : Program) (called : Name) (path : List Name) → IsKnown program called path → is_known_path program called path ≡ true
to_known program called path k =
    and_from (begins_in program called path) (is_resolved_in_each program called path) (to_first program called path k.first)
    (from_all (resolves_if_of program called path) (instances program) (λ instance c. to_resolve program called path instance (k.each instance c)))

-- a path is resolved exactly where it is known or a symbol
pub resolved_law : (program : Program) (called : Name) (path : List Name) → (is_resolved program called path ≡ true) ↔ Resolves program called path
resolved_law program called path = (there, back)
  where
    there : is_resolved program called path ≡ true → Resolves program called path
    there h = elim (or_cases (is_known_path program called path) (is_symbol_path program path) h) [ inl k ↦ inl (known_of program called path k) | inr s ↦ inr s ]

    back : Resolves program called path → is_resolved program called path ≡ true
    back m = elim m [ inl k ↦ or_left (is_known_path program called path) (is_symbol_path program path) (to_known program called path k) | inr s ↦ or_right (is_known_path program called path) (is_symbol_path program path) s ]
