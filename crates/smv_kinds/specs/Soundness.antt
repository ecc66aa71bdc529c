-- Soundness of the rules: an expression that keeps them has a value of its kind, within its
-- interval and the limit of magnitude.
use Rattle.std.specs.Prelude.{◌≡◌, Bool, true, false, not, ◌&&◌, ◌⊎◌, List, filter, ℤ, int_le, ◌≤ℤ◌, Option, Some, None}
use Rattle.std.specs.List.{list_all, Contains}
use Rattle.smv_ast.specs.declared.syntax.Expr.{Expr, fold-Expr, Expr-F}
use Rattle.smv_ast.specs.declared.syntax.Choice.{Choice, fold-Choice, Choice-F}
use Rattle.smv_ast.specs.declared.syntax.Branch.{Branch, fold-Branch, Branch-F}
use Rattle.smv_meaning.specs.declared.value.Value.{Value}
use Rattle.smv_meaning.specs.declared.value.Value.TheVariants.{Number as Whole, Symbol as Word}
use Rattle.smv_meaning.specs.Value.{Name, and_then, truth, same}
use Rattle.smv_ast.specs.declared.program.Program.{Program}
use Rattle.smv_meaning.specs.Instances.{Instance, instances}
use Rattle.smv_meaning.specs.Values.{State, value_in, allows_in}
use Rattle.smv_meaning.specs.Items.{Item, Declares, Assigns, Defines, Constrains, declared_exprs, exprs_of}
use Rattle.smv_meaning.specs.ItemIndex.{items_at}
use Rattle.smv_meaning.specs.Runs.{IsState, each_item}
use Rattle.smv_kinds.specs.declared.intervals.Interval.{Interval}
use Rattle.smv_kinds.specs.declared.sorts.Sort.{Sort}
use Rattle.smv_kinds.specs.declared.sorts.Sort.TheVariants.{Boolean, Number, Symbol, Alias, Nothing}
use Rattle.smv_kinds.specs.declared.facts.Facts.{Facts}
use Rattle.smv_kinds.specs.Intervals.{is_within}
use Rattle.smv_kinds.specs.Parts.{IsPart}
use Rattle.smv_kinds.specs.SortsOfNames.{facts_in, is_instance}

-- a value that may be used as a truth value
abbrev pub IsTruth : Value → Type 0
IsTruth v = (b : Bool) × (truth v ≡ Some b)

-- a number of an interval, within the limit of magnitude
pub record IsCount (i : Interval) (v : Value) : Type 0 where
  pub number : ℤ
  pub is : v ≡ Whole number
  pub above : i.low ≤ℤ number
  pub below : number ≤ℤ i.high
  pub within : is_within number ≡ true

-- a value of a sort
abbrev pub Fits : Sort → Value → Type 0
Fits Boolean v = IsTruth v
Fits (Number i) v = IsCount i v
Fits Symbol v = (name : Name) × (v ≡ Word name)
Fits Alias v = ⊥
Fits Nothing v = ⊥

-- a value of a sort, if the sort is known
abbrev pub FitsKnown : Option Sort → Value → Type 0
FitsKnown None v = ⊥
FitsKnown (Some s) v = Fits s v

-- a value that agrees with the facts
pub record IsOf (a : Facts) (v : Value) : Type 0 where
  pub sort : FitsKnown a.sort v
  pub serves : a.fits ≡ true → IsTruth v

-- the value is defined, and agrees with the facts
abbrev pub Meets : Facts → Option Value → Type 0
Meets a o = (v : Value) × (o ≡ Some v) × IsOf a v

-- the facts of an expression that keeps all rules
pub record IsKept (a : Facts) : Type 0 where
  pub kinds : a.kinds ≡ true
  pub small : a.small ≡ true
  pub mods : a.mods ≡ true

-- ---- positions of choices

-- whether an expression has choices only after `in`, and whether it has others only where a right
-- side may; an empty interval is no choice of a right side
pub record Shape : Type 0 where
  pub plain : Bool
  pub free : Bool

-- the shapes of a branch
pub record BranchShape : Type 0 where
  pub cond : Shape
  pub value : Shape

-- the shape of an expression that is no choice, given whether its parts are plain
abbrev pub single_shape : Bool → Shape
single_shape plain = record { plain = plain; free = plain }

-- the shape of a choice, given those of its parts
abbrev pub choice_shape_layer : Choice-F Shape Shape BranchShape → Shape
choice_shape_layer (Choice-F.Each parts) = record
    { plain = list_all (λ p. p.plain) parts; free = list_all (λ p. p.free) parts }
choice_shape_layer (Choice-F.Between low high) = record { plain = true; free = int_le low high }

-- the shape of an expression, given those of its parts
abbrev pub expr_shape_layer : Expr-F Shape Shape BranchShape → Shape
expr_shape_layer Expr-F.True = single_shape true
expr_shape_layer Expr-F.False = single_shape true
expr_shape_layer (Expr-F.Number n) = single_shape true
expr_shape_layer (Expr-F.Name path) = single_shape true
expr_shape_layer (Expr-F.Neg a) = single_shape a.plain
expr_shape_layer (Expr-F.Not a) = single_shape a.plain
expr_shape_layer (Expr-F.Binary op a b) = single_shape (a.plain && b.plain)
expr_shape_layer (Expr-F.Within a choice) = single_shape (a.plain && choice.plain)
expr_shape_layer (Expr-F.Cases branches) = record {
  plain = list_all (λ b. b.cond.plain && b.value.plain) branches;
  free = list_all (λ b. b.cond.plain && b.value.free) branches;
}
expr_shape_layer (Expr-F.Next a) = single_shape a.plain
expr_shape_layer (Expr-F.Pick choice) = record { plain = false; free = choice.free }

-- the shapes of a branch, given those of its parts
abbrev pub branch_shape_layer : Branch-F Shape Shape BranchShape → BranchShape
branch_shape_layer branch = record { cond = branch.cond; value = branch.value }

-- the shape of an expression, by recursion on its parts
abbrev pub shape_of : Expr → Shape
shape_of = fold-Expr Shape Shape BranchShape choice_shape_layer expr_shape_layer branch_shape_layer

-- the shape of a choice
abbrev pub choice_shape : Choice → Shape
choice_shape = fold-Choice Shape Shape BranchShape choice_shape_layer expr_shape_layer
    branch_shape_layer

-- the shapes of a branch
abbrev pub branch_shape : Branch → BranchShape
branch_shape = fold-Branch Shape Shape BranchShape choice_shape_layer expr_shape_layer
    branch_shape_layer

-- ---- programs

-- whether the choices of an item are where they may be: on top of the right side of an assignment,
-- in the values of a case there, and after `in`
abbrev pub is_shaped : Item → Bool
is_shaped (Assigns left name right at) = (shape_of right).free
is_shaped item = list_all (λ e. (shape_of e).plain) (exprs_of item)

-- the choices of all items of all instances are where they may be
abbrev pub AreShaped : Program → Type 0
AreShaped program = each_item program (λ instance item. is_shaped item) ≡ true

-- an expression that keeps the rules in an instance
abbrev pub IsKeptIn : Program → Instance → Expr → Type 0
IsKeptIn program instance e = IsKept (facts_in program instance e)

-- the values that a right side allows: whether it allows a value is always defined; it allows some
-- value that agrees with its facts; each value that it allows equals one that does
pub record Allows (f : Facts) (allows : Value → Option Bool) : Type 0 where
  pub total : (v : Value) → (b : Bool) × (allows v ≡ Some b)
  pub some : (v : Value) × IsOf f v × (allows v ≡ Some true)
  pub each : (v : Value) → allows v ≡ Some true → (w : Value) × (same v w ≡ true) × IsOf f w

-- the values of an item in an instance and two states: a constraint has a truth value, the right
-- side of an assignment allows values, a definition has a value of its sort, and so has each actual
-- that denotes no instance
abbrev pub HasValues : Program → Instance → State → State → Item → Type 0
HasValues program instance s t (Declares name what at) = (e : Expr)
    → Contains (declared_exprs what) e → (is_instance program instance e ≡ true)
    ⊎ Meets (facts_in program instance e) (value_in program s t instance e)
HasValues program instance s t (Assigns left name right at) =
    Allows (facts_in program instance right) (allows_in program s t instance right)
HasValues program instance s t (Defines name right at) = Meets (facts_in program instance right)
    (value_in program s t instance right)
HasValues program instance s t (Constrains r e at) = (b : Bool)
    × (and_then (value_in program s t instance e) truth ≡ Some b)

-- the expressions of an item that have values: all but the actuals that denote instances
abbrev pub value_expressions : (Expr → Bool) → Item → List Expr
value_expressions is_instance (Declares name what at) =
    filter (λ e. not (is_instance e)) (declared_exprs what)
value_expressions is_instance item = exprs_of item

-- an expression that is defined in an instance and two states: it keeps the rules, has a value of
-- its sort if it has no choice but after `in`, and as a right side allows some values, each equal
-- to one of its sort
pub record IsDefined (program : Program) (instance : Instance) (s t : State) (e : Expr) : Type 0 where
  pub kept : IsKeptIn program instance e
  pub value : (shape_of e).plain ≡ true
      → Meets (facts_in program instance e) (value_in program s t instance e)
  pub allows : Allows (facts_in program instance e) (allows_in program s t instance e)

-- in each instance and each two states of a program: each item has its values, each subexpression
-- of an item is defined, and any other expression that keeps the rules has a value of its sort if
-- it has no choice but after `in`, and as a right side allows such values if its choices are where
-- they may be
pub record IsSound (program : Program) : Type 0 where
  pub items : (instance : Instance) (item : Item) (s t : State)
      → Contains (instances program) instance
      → Contains (items_at program instance) item → IsState program s
      → IsState program t → HasValues program instance s t item
  pub parts : (instance : Instance) (item : Item) (e part : Expr) (s t : State)
      → Contains (instances program) instance
      → Contains (items_at program instance) item →
      Contains (value_expressions (is_instance program instance) item) e → IsPart e part
      → IsState program s → IsState program t → IsDefined program instance s t part
  pub value : (instance : Instance) (e : Expr) (s t : State) → Contains (instances program) instance
      → IsState program s → IsState program t → IsKeptIn program instance e → (shape_of e).plain
      ≡ true →
      Meets (facts_in program instance e) (value_in program s t instance e)
  pub allows : (instance : Instance) (e : Expr) (s t : State)
      → Contains (instances program) instance → IsState program s → IsState program t
      → IsKeptIn program instance e → (shape_of e).free ≡ true →
      Allows (facts_in program instance e) (allows_in program s t instance e)
