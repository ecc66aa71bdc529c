-- The modules and names of a model, looked up in tables.
use Rattle.std.proofs.Common.{◌≡◌, List, [], ◌∷◌, Bool, true, false, ◌||◌, cond, map, Some, find, refl, ap, ◌∙◌}
use Rattle.std.specs.Prelude.{is_some}
use Rattle.std.specs.List.{list_any}
use Rattle.std.specs.Str.{bytes_eq}
use Rattle.std.proofs.Math.Bool.{or_assoc}
use mathlib.Core.Path.{fun_ext}
use Rattle.smv_ast.specs.declared.program.Module.{Module}
use Rattle.smv_ast.specs.declared.program.Program.{Program}
use Rattle.smv_ast.specs.declared.feature.Feature.{Feature}
use Rattle.smv_meaning.specs.Value.{Name}
use Rattle.smv_meaning.specs.NameSets.{no_name, and_name, and_names}
use Rattle.smv_meaning.specs.Values.{is_symbol}
use Rattle.smv_meaning.proofs.NameSetLemmas.{bytes_eq-swapped}
use Rattle.integrate.specs.Introductions.{symbols_of_features, is_family_symbol}
use Rattle.integrate.specs.Lookups.{has_module, among_modules}

or_false : (b : Bool) → b ≡ (b || false)
or_false true = refl
or_false false = refl

-- the names of a list are in the set exactly where one of them is the name
among : (names : List Name) (seen : Name → Bool) (name : Name) → and_names seen names name ≡ (seen name || list_any (λ n. bytes_eq n name) names)
among [] seen name = or_false (seen name)
among (n ∷ names) seen name =
    among names (and_name seen n) name ∙ (or_assoc (seen name) (bytes_eq name n) (list_any (λ n. bytes_eq n name) names)
    ∙ ap (λ b. seen name || (b || list_any (λ n. bytes_eq n name) names)) (bytes_eq-swapped name n))

any_named : (modules : List Module) (called : Name) → list_any (λ n. bytes_eq n called) (map (λ m. m.name) modules) ≡ is_some (find (λ m. bytes_eq m.name called) modules)
any_named [] called = refl
any_named (m ∷ modules) called = at (any_named modules called) (bytes_eq m.name called)
  where
    at : list_any (λ n. bytes_eq n called) (map (λ m. m.name) modules) ≡ is_some (find (λ m. bytes_eq m.name called) modules) → (b : Bool) → (b || list_any (λ n. bytes_eq n called) (map (λ m. m.name) modules)) ≡ is_some (cond b (Some m) (find (λ m. bytes_eq m.name called) modules))
    at h true = refl
    at h false = h

-- the modules of a model, as a set of their names
pub modules_are : (p : Program) → among_modules p ≡ has_module p
modules_are p = fun_ext (λ called. among (map (λ m. m.name) p.modules) no_name called ∙ any_named p.modules called)

-- the symbols of a family, as a set of names
pub family_symbols_are : (base : Program) (features : List Feature) → and_names (is_symbol base) (symbols_of_features features) ≡ is_family_symbol base features
family_symbols_are base features = fun_ext (λ name. among (symbols_of_features features) (is_symbol base) name)
