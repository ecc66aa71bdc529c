-- Recursive modules: modules on a cycle of instance declarations.
use Rattle.std.specs.Prelude.{ℕ, suc, if◌then◌else◌, List, [], ◌∷◌, map, Option, Some, None}
use Rattle.std.specs.List.{flat_map}
use Rattle.smv_ast.specs.declared.fault.Fault.{Fault}
use Rattle.smv_ast.specs.declared.fault.Fault.TheVariants as fault
use Rattle.smv_ast.specs.declared.program.Declared.{Declared}
use Rattle.smv_ast.specs.declared.program.Declared.TheVariants.{Plain, Instance}
use Rattle.smv_ast.specs.declared.program.Module.{Module}
use Rattle.smv_ast.specs.declared.program.Program.{Program}
use Rattle.graph.specs.Graphs.{on_cycle}
use Rattle.smv_meaning.specs.Items.{Item, Declares, items}
use Rattle.smv_meaning.specs.Runs.{or_else}
use Rattle.smv_meaning.specs.ModuleNumbers.{number_of}

-- ---- the graph of modules, by number

-- a number, if there is one
abbrev pub if_any : Option ℕ → List ℕ
if_any None = []
if_any (Some k) = k ∷ []

-- the module of an instance, if the declaration is one and the program has its module
abbrev pub called_declared : Program → Declared → List ℕ
called_declared program (Plain t) = []
called_declared program (Instance called actuals) = if_any (number_of program called)

-- the module of an instance that an item declares
abbrev pub called_by : Program → Item → List ℕ
called_by program (Declares name what at) = called_declared program what
called_by program item = []

-- the modules of the instances of a module
abbrev pub called_within : Program → Module → List ℕ
called_within program m = flat_map (called_by program) (items m)

-- the successors of each module: the modules of its instances
abbrev pub graph : Program → List (List ℕ)
graph program = map (called_within program) program.modules

-- ---- the rule

-- the fault of the module of this number
abbrev pub recursive_at : List (List ℕ) → ℕ → Module → Option Fault
recursive_at graph k m = if on_cycle graph k then Some (fault.RecursiveModule (Some m.at) m.name)
    else None

-- the first of these modules that is on a cycle, counted from the number of the first
abbrev pub recursive_from : List (List ℕ) → ℕ → List Module → Option Fault
recursive_from graph k [] = None
recursive_from graph k (m ∷ more) = or_else (recursive_at graph k m)
    (recursive_from graph (suc k) more)

-- the first module that is on a cycle
abbrev pub recursion_fault : Program → Option Fault
recursion_fault program = recursive_from (graph program) 0 program.modules
