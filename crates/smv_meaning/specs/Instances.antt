-- The entities of a module, and the instances of a program with the bindings of their names.
use Rattle.std.specs.Prelude.{ℕ, zero, suc, Bool, if◌then◌else◌, List, [], ◌∷◌, ◌++◌, length, nat_lt, Option, Some, None, codes, slice_get, find}
use Rattle.std.specs.List.{flat_map}
use Rattle.std.specs.Str.{bytes_eq}
use Rattle.smv_ast.specs.PrintedExpr.{joined}
use Rattle.smv_ast.specs.declared.syntax.Expr.{Expr}
use Rattle.smv_ast.specs.declared.syntax.SmvType.{SmvType}
use Rattle.smv_ast.specs.declared.program.Declared.{Declared}
use Rattle.smv_ast.specs.declared.program.Declared.TheVariants.{Plain, Instance as Submodule}
use Rattle.smv_ast.specs.declared.program.Module.{Module}
use Rattle.smv_ast.specs.declared.program.Program.{Program}
use Rattle.smv_meaning.specs.Value.{Name, and_then}
use Rattle.smv_meaning.specs.Items.{Item, Declares, Defines, items}
use Rattle.smv_meaning.specs.Paths.{QualifiedName, Binding, IsVariable, IsInstance, IsDefine, IsFormal, IsNothing}

-- ---- the names of a module

-- the entity of a name in a module: a variable of a type, an instance of a module with its actuals,
-- a definition with its right side, or the k-th formal
pub data Entity : Type 0 where
  Variable : SmvType → Entity
  Inner : Name → List Expr → Entity
  Defined : Expr → Entity
  Formal : ℕ → Entity

-- a name with its entity
pub record Entry : Type 0 where
  pub name : Name
  pub entity : Entity

-- the entity that a VAR declaration declares
abbrev pub entity_of : Declared → Entity
entity_of (Plain type) = Variable type
entity_of (Submodule called actuals) = Inner called actuals

-- the entry of an item, if it declares a name
abbrev pub item_entries : Item → List Entry
item_entries (Declares name what at) = record { name = name; entity = entity_of what } ∷ []
item_entries (Defines name right at) = record { name = name; entity = Defined right } ∷ []
item_entries item = []

-- the formals, numbered in their order
abbrev pub formals_from : ℕ → List Name → List Entry
formals_from k [] = []
formals_from k (name ∷ more) = record { name = name; entity = Formal k } ∷ formals_from (suc k) more

-- the names that a module declares: its formals, then the names of its items, in the order of the
-- text
abbrev pub entries : Module → List Entry
entries m = formals_from 0 m.formals ++ flat_map item_entries (items m)

-- the entity of a name in a module; of two equal names the first takes precedence
abbrev pub lookup : Module → Name → Option Entity
lookup m name = and_then (find (λ e. bytes_eq e.name name) (entries m)) (λ e. Some e.entity)

-- ---- instances

-- an instance: `main`, or the instance that an outer instance declares under a name, with the name
-- of its module
pub data Instance : Type 0 where
  Main : Instance
  Within : Instance → Name → Name → Instance

-- the name of an instance's module
abbrev pub called_at : Instance → Name
called_at Main = codes "main"
called_at (Within outer name called) = called

-- the path of an instance from `main`
abbrev pub path_of : Instance → List Name
path_of Main = []
path_of (Within outer name called) = path_of outer ++ name ∷ []

-- the text of an instance: `main`, or `main.` and its path
abbrev pub instance_text : Instance → List ℕ
instance_text instance = joined (codes ".") (codes "main" ∷ path_of instance)

-- the module, or an empty one where there is none
abbrev pub or_empty : Name → Option Module → Module
or_empty name None = record
    { name = name; formals = []; sections = []; at = record { file = 0; at = 0 } }
or_empty name (Some m) = m

-- the first module of a name
abbrev pub module_named : Program → Name → Module
module_named program name = or_empty name (find (λ m. bytes_eq m.name name) program.modules)

-- the module of an instance
abbrev pub module_at : Program → Instance → Module
module_at program instance = module_named program (called_at instance)

-- the entity of a name in an instance
abbrev pub entity_at : Program → Instance → Name → Option Entity
entity_at program instance name = lookup (module_at program instance) name

-- the number of instances that enclose an instance
abbrev pub depth_of : Instance → ℕ
depth_of Main = 0
depth_of (Within outer name called) = suc (depth_of outer)

-- whether an instance has instances below it: without recursive modules none lies deeper than the
-- number of modules
abbrev pub goes_deeper : Program → Instance → Bool
goes_deeper program instance = nat_lt (depth_of instance) (length program.modules)

-- the instance that an entry declares, if it does
abbrev pub inner_of : Program → Instance → Name → Entity → List Instance
inner_of program instance name (Inner called actuals) = if goes_deeper program instance then Within
    instance name called ∷ [] else []
inner_of program instance name m = []

-- the instances that an instance declares, in text order
abbrev pub inner_instances : Program → Instance → List Instance
inner_instances program instance = flat_map (λ e. inner_of program instance e.name e.entity)
    (entries (module_at program instance))

-- the subtree of an instance in preorder, down to a depth
abbrev pub subtree : ℕ → Program → Instance → List Instance
subtree zero program instance = instance ∷ []
subtree (suc depth) program instance = instance ∷ flat_map (subtree depth program)
    (inner_instances program instance)

-- the instances of a program, each before those that it declares
abbrev pub instances : Program → List Instance
instances program = subtree (length program.modules) program Main

-- ---- actuals

-- the actuals of an instance's declaration
abbrev pub actuals_of : Option Entity → List Expr
actuals_of (Some (Inner called actuals)) = actuals
actuals_of m = []

-- the binding of the k-th formal of an instance with this declaration: its actual, read in the
-- outer instance
abbrev pub formal_by : {P : Type 0} → P → Option Entity → ℕ → Binding P
formal_by outer m k = elim (slice_get (actuals_of m) k)
    [ None ↦ IsNothing | Some a ↦ IsFormal outer a ]

-- the binding of the k-th formal of an instance
abbrev pub formal_at : Program → Instance → ℕ → Binding Instance
formal_at program Main k = IsNothing
formal_at program (Within outer name called) k = formal_by outer (entity_at program outer name) k

-- the binding of a name by its entity; an instance only where instances go deeper
abbrev pub binding_by : {P : Type 0} → Bool → (Name → P) → (ℕ → Binding P) → Entity → Binding P
binding_by deeper inner formal (Variable t) = IsVariable
binding_by deeper inner formal (Inner called actuals) = if deeper then IsInstance (inner called)
    else IsNothing
binding_by deeper inner formal (Defined right) = IsDefine right
binding_by deeper inner formal (Formal k) = formal k

-- the binding of a name in an instance, by its entity
abbrev pub binding_in : Program → Instance → Name → Entity → Binding Instance
binding_in program instance name m = binding_by (goes_deeper program instance)
    (Within instance name) (formal_at program instance) m

-- the bindings of the names of the instances of a program
abbrev pub binding_at : Program → QualifiedName Instance → Option (Binding Instance)
binding_at program qualified = and_then (entity_at program qualified.instance qualified.name)
    (λ m. Some (binding_in program qualified.instance qualified.name m))
