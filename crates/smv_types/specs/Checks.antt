-- The first fault of a model, by all rules in their order.
use Rattle.std.specs.Prelude.{◌≡◌, ◌≢◌, ℕ, Bool, false, nat_eq, map, Option, All, AllPairs}
use Rattle.std.specs.List.{list_any}
use Rattle.smv_ast.specs.declared.fault.Fault.{Fault}
use Rattle.smv_ast.specs.declared.program.Program.{Program}
use Rattle.smv_meaning.specs.Value.{Name}
use Rattle.smv_meaning.specs.Instances.{entries, instances, instance_text}
use Rattle.smv_meaning.specs.Runs.{or_else, path_text, variables}
use Rattle.smv_names.specs.NamesFault.{names_fault}
use Rattle.smv_shape.specs.Shape.{shape_fault}
use Rattle.smv_cycles.specs.Cycles.{cycles_fault}
use Rattle.smv_kinds.specs.Rules.{kinds_fault}
use Rattle.smv_nodes.specs.Count.{HasNodes}
use Rattle.smv_types.specs.declared.checks.Typed.{Typed}

-- the first fault of cyclic definitions and nesting, then of kinds and intervals
abbrev pub read_fault : Program → Option Fault
read_fault program = or_else (cycles_fault program) (kinds_fault program)

-- the first fault of the names of a model, then of its text alone: ranges, left sides, choices and
-- `next`
abbrev pub text_fault : Program → Option Fault
text_fault program = or_else (names_fault program) (shape_fault program)

-- the first fault of a model
abbrev pub model_fault : Program → Option Fault
model_fault program = or_else (text_fault program) (read_fault program)

-- the instances of a model are distinct
abbrev pub AreApart : Program → Type 0
AreApart program = AllPairs (λ p q. p ≢ q) (instances program)

-- whether a name contains a dot
abbrev pub has_dot : Name → Bool
has_dot name = list_any (nat_eq 46) name

-- no name that a module declares contains a dot
abbrev pub AreDotless : Program → Type 0
AreDotless program = All (λ m. All (λ e. has_dot e.name ≡ false) (entries m)) program.modules

-- the texts of the instances are pairwise different, and so are those of the paths of the variables
pub record HaveDistinctTexts (program : Program) : Type 0 where
  pub instances : AllPairs (λ s t. s ≢ t) (map instance_text (instances program))
  pub variables : AllPairs (λ s t. s ≢ t) (map (λ x. path_text x.path) (variables program))

-- the number of nodes of a model's constraints and specs, and no other number
pub record IsNodes (program : Program) (n : ℕ) : Type 0 where
  pub has : HasNodes program n
  pub only : (m : ℕ) → HasNodes program m → m ≡ n

-- the data of a checked model: the texts of its instances in order, and the number of nodes of its
-- constraints and specs
pub record IsTyped (program : Program) (typed : Typed) : Type 0 where
  pub instances : typed.instances ≡ map instance_text (instances program)
  pub nodes : IsNodes program typed.nodes
