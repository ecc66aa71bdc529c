-- States, constraints, steps and runs, and the check of a written run.
use Rattle.std.specs.Prelude.{◌≡◌, ◌&&◌, if◌then◌else◌, ℕ, suc, Bool, true, false, List, [], ◌∷◌, ◌++◌, map, Option, Some, None, find, codes}
use Rattle.std.specs.List.{flat_map, list_all, list_any, All, Contains}
use Rattle.std.specs.Str.{bytes_eq}
use Rattle.smv_ast.specs.PrintedExpr.{joined}
use Rattle.smv_ast.specs.declared.syntax.Span.{Span}
use Rattle.smv_ast.specs.declared.syntax.Expr.{Expr}
use Rattle.smv_ast.specs.declared.syntax.SmvType.{SmvType}
use Rattle.smv_ast.specs.declared.program.Left.TheVariants as left
use Rattle.smv_ast.specs.declared.program.Program.{Program}
use Rattle.smv_meaning.specs.declared.value.Value.{Value}
use Rattle.smv_meaning.specs.declared.run.Named.{Named}
use Rattle.smv_meaning.specs.declared.run.RunState.{RunState}
use Rattle.smv_meaning.specs.declared.run.RunAnswer.{RunAnswer}
use Rattle.smv_meaning.specs.declared.run.RunAnswer.TheVariants as answer
use Rattle.smv_meaning.specs.Value.{Name, and_then, all_values, is_true}
use Rattle.smv_meaning.specs.Instances.{Entity, Variable, Instance, path_of, instance_text, module_at, entries, instances}
use Rattle.smv_meaning.specs.declared.items.Role.TheVariants as role
use Rattle.smv_meaning.specs.Items.{Item, Assigns, Constrains, at_of, items}
use Rattle.smv_meaning.specs.Values.{State, values_in, value_in, allows_in}

-- ---- states

-- whether there is a truth value, and it is TRUE
abbrev pub surely : Option Bool → Bool
surely None = false
surely (Some b) = b

-- the roles of constraints: INIT and `init(x) :=` restrict first states, INVAR and `x :=` every
-- state, TRANS and `next(x) :=` steps
module _ (program : Program) (instance : Instance) where
  -- whether a name has in one state a value that its right side allows, read in a state and the next
  abbrev pub is_assigned : State → State → State → Name → Expr → Bool
  is_assigned own s t name right = surely
      (and_then (values_in program own (record { instance = instance; name = name }))
      (allows_in program s t instance right))

  -- whether an expression is true in a state and the state after it
  abbrev pub is_true_in : State → State → Expr → Bool
  is_true_in s t e = is_true (value_in program s t instance e)

  -- whether a first state meets a constraint on first states
  abbrev pub begins : State → Item → Bool
  begins s (Constrains role.Init e at) = is_true_in s s e
  begins s (Assigns left.Init name right at) = is_assigned s s s name right
  begins s item = true

  -- whether a state meets a constraint on every state
  abbrev pub stays : State → Item → Bool
  stays s (Constrains role.Invariant e at) = is_true_in s s e
  stays s (Assigns left.Now name right at) = is_assigned s s s name right
  stays s item = true

  -- whether two states meet a constraint on steps
  abbrev pub steps : State → State → Item → Bool
  steps s t (Constrains role.Transition e at) = is_true_in s t e
  steps s t (Assigns left.Next name right at) = is_assigned t s t name right
  steps s t item = true

-- whether each item of each instance passes
abbrev pub each_item : Program → (Instance → Item → Bool) → Bool
each_item program test = list_all
    (λ instance. list_all (test instance) (items (module_at program instance))) (instances program)

-- the state meets the constraints on first states
abbrev pub IsInit : Program → State → Type 0
IsInit program s = each_item program (λ instance. begins program instance s) ≡ true

-- the state meets the constraints on every state
abbrev pub IsInside : Program → State → Type 0
IsInside program s = each_item program (λ instance. stays program instance s) ≡ true

-- the two states meet the constraints on steps
abbrev pub IsStep : Program → State → State → Type 0
IsStep program s t = each_item program (λ instance. steps program instance s t) ≡ true

-- a variable of an instance, by its path
pub record VariableAt : Type 0 where
  pub path : List Name
  pub type : SmvType

-- the variable that an entry declares, if it does
abbrev pub variable_of : Instance → Name → Entity → List VariableAt
variable_of instance name (Variable t) = record
    { path = path_of instance ++ name ∷ []; type = t } ∷ []
variable_of instance name m = []

-- the variables of all instances, in the order of the instances
abbrev pub variables : Program → List VariableAt
variables program = flat_map
    (λ instance. flat_map (λ e. variable_of instance e.name e.entity)
    (entries (module_at program instance))) (instances program)

-- whether two paths are the same
abbrev pub same_path : List Name → List Name → Bool
same_path [] [] = true
same_path (name ∷ more) (other ∷ rest) = bytes_eq name other && same_path more rest
same_path path other = false

-- whether a path is a variable's
abbrev pub is_variable : Program → List Name → Bool
is_variable program path = list_any (λ x. same_path x.path path) (variables program)

-- each variable has one value of its type
abbrev pub IsState : Program → State → Type 0
IsState program s = All (λ x. (v : Value) × (s x.path ≡ Some v) × Contains (all_values x.type) v)
    (variables program)

-- a state of the program: it gives each variable one value of its type, and no other path a value
pub record IsExactState (program : Program) (s : State) : Type 0 where
  pub values : IsState program s
  pub only : (path : List Name) → is_variable program path ≡ false → s path ≡ None

-- the suffix of a run: each state is one, meets the invariants, and follows the state before it by
-- a step
abbrev pub GoesOn : Program → State → List State → Type 0
GoesOn program s [] = Unit {0}
GoesOn program s (t ∷ more) = IsExactState program t × IsInside program t × IsStep program s t
    × GoesOn program t more

-- a run: the first state is initial, each state meets the invariants, and each pair is a step
abbrev pub IsRun : Program → List State → Type 0
IsRun program [] = ⊥
IsRun program (s ∷ more) = IsExactState program s × IsInit program s × IsInside program s
    × GoesOn program s more

-- the last of these states
abbrev pub last_of : State → List State → State
last_of s [] = s
last_of s (t ∷ more) = last_of t more

-- a state is reachable where it is the last of a run
abbrev pub IsReachable : Program → State → Type 0
IsReachable program s = (first : State) × (more : List State) × IsRun program (first ∷ more)
    × (last_of first more ≡ s)

-- ---- states as they are written down

-- the text of a path
abbrev pub path_text : List Name → List ℕ
path_text = joined (codes ".")

-- the value that a written state has for the text of a path; of two the first takes precedence
abbrev pub written_value : List Named → List ℕ → Option Value
written_value values text = and_then (find (λ n. bytes_eq n.path text) values) (λ n. Some n.value)

-- the values of a written state, by the texts of their paths
abbrev pub written_state : RunState → State
written_state written path = written_value written.values (path_text path)

-- the state that a written state describes: the values of the variables; other paths are ignored
abbrev pub state_of : Program → RunState → State
state_of program written path = if is_variable program path then written_state written path else
    None

-- ---- the first broken item

-- whether a constraint is met in a state, given the state before it, if any
abbrev pub meets : Program → Option State → State → Instance → Item → Bool
meets program None s instance item = begins program instance s item && stays program instance s item
meets program (Some before) s instance item = stays program instance s item
    && steps program instance before s item

-- the span of an item that is not met
abbrev pub unless_met : Bool → Span → Option Span
unless_met true at = None
unless_met false at = Some at

-- the first, if it is defined, else the second
abbrev pub or_else : {B : Type 0} → Option B → Option B → Option B
or_else None other = other
or_else (Some b) other = Some b

-- the first fault of a list
abbrev pub first_fault : {A B : Type 0} → (A → Option B) → List A → Option B
first_fault transfer [] = None
first_fault transfer (a ∷ more) = or_else (transfer a) (first_fault transfer more)

-- the span of an item that is not met in a state
abbrev pub broken_at : Program → Option State → State → Instance → Item → Option Span
broken_at program before s instance item = unless_met
    (meets program before s instance item) (at_of item)

-- the first item that is not met, in the order of the instances and of the text
abbrev pub first_broken : Program → Option State → State → Option Span
first_broken program before s =
    first_fault (λ instance. first_fault (broken_at program before s instance)
    (items (module_at program instance))) (instances program)

-- the answer on a suffix of the states, given the number of its first state and the state before it
abbrev pub answer_from : Program → ℕ → Option State → List State → RunAnswer
answer_from program step before [] = answer.Run
answer_from program step before (s ∷ more) =
    elim (first_broken program before s)
    [ Some at ↦ answer.Breaks step at | None ↦ answer_from program (suc step) (Some s) more ]

-- the answer on a written run
abbrev pub answer_of : Program → List RunState → RunAnswer
answer_of program written = answer_from program 0 None (map (state_of program) written)

-- ---- one expression

-- the text is that of an instance of the program
abbrev pub HasInstance : Program → List ℕ → Type 0
HasInstance program text = Contains (map instance_text (instances program)) text

-- the first instance of this text, if there is one
abbrev pub instance_named : Program → List ℕ → Option Instance
instance_named program text = find (λ instance. bytes_eq (instance_text instance) text)
    (instances program)

-- whether an expression is true in a state and the instance of this text, if there is one
abbrev pub holds_at : Program → List ℕ → Expr → State → Option Bool
holds_at program text e s = and_then (instance_named program text)
    (λ instance. Some (is_true (value_in program s s instance e)))
