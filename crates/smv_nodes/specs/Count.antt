-- The number of nodes of a program's constraints and specs: those of the items of all instances,
-- and those of each definition and formal that is read, once now and once after the step. The
-- instances may be those of a program, or their numbers in a table.
use Rattle.std.specs.Prelude.{◌≡◌, ◌≢◌, ℕ, zero, suc, Bool, true, false, List, [], ◌∷◌, ◌++◌, Option, Some, None, AllPairs}
use Rattle.std.specs.List.{flat_map, Contains}
use Rattle.std.specs.Option.{option_to_list}
use Rattle.smv_ast.specs.declared.syntax.Expr.{Expr}
use Rattle.smv_ast.specs.declared.program.Program.{Program}
use Rattle.smv_meaning.specs.Value.{Name, and_then}
use Rattle.smv_meaning.specs.Paths.{QualifiedName, Binding, IsDefine, IsFormal, resolve}
use Rattle.smv_meaning.specs.Instances.{Instance, instances, binding_at}
use Rattle.smv_meaning.specs.Items.{Item, Assigns, Constrains}
use Rattle.smv_meaning.specs.ItemIndex.{items_at}
use Rattle.smv_nodes.specs.Own.{saturating_add, nodes_of}
use Rattle.smv_nodes.specs.Mentions.{Mention, reads_of}

-- ---- names

-- the resolution of names: the qualified name that a path of an instance resolves to, and the
-- expression of a definition or formal, with the instance in which it is read
pub record Lookup (P S : Type 0) : Type 0 where
  pub resolve : P → List Name → Option S
  pub content_of : S → Option (P × Expr)

-- the expression of a binding: a definition's right side in its own instance, a formal's actual in
-- the outer one
abbrev pub content : {P : Type 0} → P → Binding P → Option (P × Expr)
content instance (IsDefine right) = Some (instance, right)
content instance (IsFormal outer actual) = Some (outer, actual)
content instance m = None

-- the names of the instances of a program
abbrev pub of_program : Program → Lookup Instance (QualifiedName Instance)
of_program program = record {
  resolve = resolve (binding_at program);
  content_of = λ qualified. and_then (binding_at program qualified) (content qualified.instance);
}

-- ---- expressions

-- an expression that is read in an instance, now or after the step, as a right side or as a value
pub record ReadExpr (P : Type 0) : Type 0 where
  pub instance : P
  pub right : Expr
  pub assigned : Bool
  pub after_step : Bool

-- an expression that is read now
abbrev pub read_now : {P : Type 0} → P → Expr → Bool → ReadExpr P
read_now instance e assigned = record
    { instance = instance; right = e; assigned = assigned; after_step = false }

-- an expression that is read as a value
abbrev pub value_expr : {P : Type 0} → P → Expr → Bool → ReadExpr P
value_expr instance e after_step = record
    { instance = instance; right = e; assigned = false; after_step = after_step }

-- the expression that an item reads: a right side, or that of a constraint or spec
abbrev pub item_exprs : {P : Type 0} → P → Item → List (ReadExpr P)
item_exprs instance (Assigns left name right at) = read_now instance right true ∷ []
item_exprs instance (Constrains r e at) = read_now instance e false ∷ []
item_exprs instance item = []

-- the expressions that the items of these instances read
abbrev pub instance_exprs : {P : Type 0} → (P → List Item) → List P → List (ReadExpr P)
instance_exprs items = flat_map (λ instance. flat_map (item_exprs instance) (items instance))

-- the nodes of an expression by itself; a right side has the node of its variable first
abbrev pub own_nodes : {P : Type 0} → ReadExpr P → ℕ
own_nodes p = elim p.assigned
    [ true ↦ saturating_add (nodes_of p.right).right 1 | false ↦ (nodes_of p.right).value ]

-- ---- shared nodes

-- a definition or formal that is read, now or after the step
abbrev pub Shared : Type 0 → Type 0
Shared S = S × Bool

-- a name that has no shared node counts one node: a variable, a symbol, or a path that resolves to
-- nothing
abbrev pub name_nodes : {S : Type 0} → Option (Shared S) → ℕ
name_nodes None = 1
name_nodes (Some s) = 0

-- over the resolution of names
module _ {P S : Type 0} (lookup : Lookup P S) where
  -- the expression of a shared node
  abbrev pub shared_expr : Shared S → Option (ReadExpr P)
  shared_expr s = and_then (lookup.content_of s.0) (λ c. Some (value_expr c.0 c.1 s.1))

  -- the shared node of a name in an instance, if the name resolves to a definition or formal
  abbrev pub shared_by : P → Mention → Option (Shared S)
  shared_by instance m = and_then (lookup.resolve instance m.names)
      (λ name. and_then (lookup.content_of name) (λ c. Some (name, m.after_step)))

  -- the shared nodes of these names
  abbrev pub shared_among : P → List Mention → List (Shared S)
  shared_among instance = flat_map (λ m. option_to_list (shared_by instance m))

  -- the shared nodes that an expression reads
  abbrev pub shared_in : ReadExpr P → List (Shared S)
  shared_in p = shared_among p.instance (reads_of p.right p.after_step)

  -- the shared nodes that the expression of a shared node reads
  abbrev pub content_reads : Shared S → List (Shared S)
  content_reads s = flat_map shared_in (option_to_list (shared_expr s))

  -- ---- numbers

  -- the nodes that these names count by themselves
  abbrev pub names_nodes : P → List Mention → ℕ
  names_nodes instance [] = 0
  names_nodes instance (m ∷ more) = saturating_add (name_nodes (shared_by instance m))
      (names_nodes instance more)

  -- the nodes of an expression, without those of the shared nodes that it reads
  abbrev pub expr_nodes : ReadExpr P → ℕ
  expr_nodes p = saturating_add (own_nodes p)
      (names_nodes p.instance (reads_of p.right p.after_step))

  -- the nodes of these expressions
  abbrev pub exprs_nodes : List (ReadExpr P) → ℕ
  exprs_nodes [] = 0
  exprs_nodes (p ∷ more) = saturating_add (expr_nodes p) (exprs_nodes more)

  -- the expressions of shared nodes
  abbrev pub exprs_of_shared : List (Shared S) → List (ReadExpr P)
  exprs_of_shared = flat_map (λ s. option_to_list (shared_expr s))

  -- ---- the whole

  -- a shared node is reachable in so many steps: an item reads it, or the expression of one that is
  -- reachable in one step less
  abbrev pub ReachedIn : List (ReadExpr P) → ℕ → Shared S → Type 0
  ReachedIn items zero s = Contains (flat_map shared_in items) s
  ReachedIn items (suc rounds) s = (t : Shared S) × ReachedIn items rounds t
      × Contains (content_reads t) s

  -- a shared node is reachable in some number of steps
  abbrev pub IsReached : List (ReadExpr P) → Shared S → Type 0
  IsReached items s = (rounds : ℕ) × ReachedIn items rounds s

  -- exactly the reachable shared nodes, each once
  pub record AreReached (items : List (ReadExpr P)) (shared : List (Shared S)) : Type 0 where
    pub once : AllPairs (λ s t. s ≢ t) shared
    pub reached : (s : Shared S) → Contains shared s → IsReached items s
    pub all : (s : Shared S) → IsReached items s → Contains shared s

  -- the number of nodes of these items and of all reachable shared nodes, each counted once
  abbrev pub IsCount : List (ReadExpr P) → ℕ → Type 0
  IsCount items n = (shared : List (Shared S)) × AreReached items shared
      × (n ≡ exprs_nodes (items ++ exprs_of_shared shared))

-- the expressions of the items of a program
abbrev pub program_exprs : Program → List (ReadExpr Instance)
program_exprs program = instance_exprs (items_at program) (instances program)

-- the number of nodes of the constraints and specs of a program
abbrev pub HasNodes : Program → ℕ → Type 0
HasNodes program n = IsCount (of_program program) (program_exprs program) n
