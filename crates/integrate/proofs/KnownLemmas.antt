-- Known paths by their length.
use Rattle.std.proofs.Common.{◌≡◌, Bool, true, false, ◌&&◌, ◌||◌, List, [], ◌∷◌, length, get_or, Option, Some, None, refl, sym, ap, ◌∙◌, subst, arith}
use Rattle.std.specs.Prelude.{is_some, not}
use Rattle.std.specs.List.{list_all}
use Rattle.std.specs.Str.{bytes_eq}
use Rattle.std.proofs.lemmas.Slice.Eq.{bytes_eq-Decides}
use Rattle.smv_ast.specs.declared.program.Program.{Program}
use Rattle.smv_meaning.specs.Value.{Name, and_then}
use Rattle.smv_meaning.specs.Paths.{resolve}
use Rattle.smv_meaning.specs.Instances.{Instance, Entity, called_at, module_named, module_at, lookup, binding_at, binding_in, instances}
use Rattle.smv_meaning.proofs.NumberLemmas.{qualified_at}
use Rattle.smv_names.specs.Unknown.{declared_in, resolves_if_of, is_resolved_in_each, is_known_path, is_resolved}

all_pass : {A : Type 0} (test : A → Bool) → ((a : A) → test a ≡ true) → (xs : List A) → list_all test xs ≡ true
all_pass test h [] = refl
all_pass test h (x ∷ xs) = ap (λ b. b && list_all test xs) (h x) ∙ all_pass test h xs

-- a single name that a module declares resolves in each of its instances
single_resolves : (program : Program) (called name : Name) → declared_in program called name ≡ true → (instance : Instance) → resolves_if_of program called (name ∷ []) instance ≡ true
single_resolves program called name d instance = at (bytes_eq (called_at instance) called) refl
  where
    some : (o : Option Entity) → is_some o ≡ true → is_some (and_then (and_then o (λ m. Some (binding_in program instance name m))) (λ m. Some (qualified_at instance name))) ≡ true
    some None e = cc
    some (Some m) e = refl

    at : (b : Bool) → bytes_eq (called_at instance) called ≡ b → (not b || is_some (resolve (binding_at program) instance (name ∷ []))) ≡ true
    at false e = refl
    at true e =
        let same : called_at instance ≡ called = (bytes_eq-Decides (called_at instance) called).0 e in
        some (lookup (module_at program instance) name) (subst (λ (c : Name). is_some (lookup (module_named program c) name) ≡ true) (sym same) d)

declared_known : (program : Program) (called name : Name) → is_known_path program called (name ∷ []) ≡ declared_in program called name
declared_known program called name = at (declared_in program called name) refl
  where
    at : (b : Bool) → declared_in program called name ≡ b → (b && is_resolved_in_each program called (name ∷ [])) ≡ b
    at false e = refl
    at true e = all_pass (resolves_if_of program called (name ∷ [])) (single_resolves program called name e) (instances program)

-- a path of one name is known where the module declares the name
pub one_known : (program : Program) (called : Name) (path : List Name) (name : Name) → length path ≡ 1 → name ≡ get_or path 0 name → declared_in program called name ≡ is_known_path program called path
one_known program called [] name h e = absurd (omega arith)
one_known program called (n ∷ []) name h e = let s : name ≡ n = e in ap (declared_in program called) s ∙ sym (declared_known program called n)
one_known program called (n ∷ m ∷ path) name h e = absurd (omega arith)

either_false : (b : Bool) → (b || false) ≡ b
either_false true = refl
either_false false = refl

-- any other path is no symbol
pub other_known : (program : Program) (called : Name) (path : List Name) → (length path ≡ 1 → ⊥) → is_resolved program called path ≡ is_known_path program called path
other_known program called [] h = either_false _
other_known program called (n ∷ []) h = absurd (h refl)
other_known program called (n ∷ m ∷ path) h = either_false _
