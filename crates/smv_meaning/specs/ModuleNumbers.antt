-- The modules of a program by name and by number.
use Rattle.std.specs.Prelude.{◌≡◌, ℕ, suc, if◌then◌else◌, List, [], ◌∷◌, Option, Some, None, find}
use Rattle.std.specs.Str.{bytes_eq}
use Rattle.smv_ast.specs.declared.program.Module.{Module}
use Rattle.smv_ast.specs.declared.program.Program.{Program}
use Rattle.smv_meaning.specs.Value.{Name}
use Rattle.smv_meaning.specs.Indices.{Numbers, number_held}

-- the number of the first module of a name, counted from the number of the first of these modules
abbrev pub number_from : ℕ → List Module → Name → Option ℕ
number_from k [] name = None
number_from k (m ∷ more) name = if bytes_eq m.name name then Some k else number_from (suc k) more
    name

-- the number of the first module of a name
abbrev pub number_of : Program → Name → Option ℕ
number_of program = number_from 0 program.modules

-- the first module of a name
abbrev pub the_module : Program → Name → Option Module
the_module program name = find (λ m. bytes_eq m.name name) program.modules

-- each name maps to the number of the first module of that name
abbrev pub IsNumbering : Program → Numbers → Type 0
IsNumbering program numbers = (name : Name) → number_held numbers name ≡ number_of program name
