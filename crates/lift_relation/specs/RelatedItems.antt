-- Related items: each constraint and each assignment of the text has one in the lift, and those of
-- the lift that have none in the text hold by themselves at the product.
use Rattle.std.specs.Prelude.{◌≡◌, ◌⊎◌, Bool, true, false, List, [], ◌∷◌, Option, Some, None, IsSome}
use Rattle.std.specs.List.{Contains}
use Rattle.smv_ast.specs.declared.syntax.Span.{Span}
use Rattle.smv_ast.specs.declared.syntax.Path.{Path}
use Rattle.smv_ast.specs.declared.syntax.Expr.{Expr}
use Rattle.smv_ast.specs.declared.program.Left.{Left}
use Rattle.smv_ast.specs.declared.program.Program.{Program}
use Rattle.smv_meaning.specs.declared.value.Value.{Value}
use Rattle.smv_meaning.specs.declared.items.Role.{Role}
use Rattle.smv_meaning.specs.declared.items.Role.TheVariants as role
use Rattle.smv_meaning.specs.Value.{Name}
use Rattle.smv_meaning.specs.Paths.{IsVariable}
use Rattle.smv_meaning.specs.Instances.{Instance, instances, binding_at}
use Rattle.smv_meaning.specs.Items.{Item, Declares, Assigns, Defines, Constrains}
use Rattle.smv_meaning.specs.ItemIndex.{items_at}
use Rattle.smv_meaning.specs.Values.{State, value_in, allows_in}
use Rattle.smv_meaning.specs.Runs.{begins, stays, steps, IsState}
use Rattle.lift_relation.specs.RelatedExpr.{guarded_constraint, IsVariableOf}
use Rattle.lift_relation.specs.Weaving.{Weaving, IsOfText}
use Rattle.lift_relation.specs.RelatedNames.{ReadAlike, AreRelatedStates}

-- whether an item restricts states or steps: declarations, definitions and specs do not
abbrev pub restricts : Item → Bool
restricts (Declares name what at) = false
restricts (Defines name right at) = false
restricts (Assigns left name right at) = true
restricts (Constrains role.Spec e at) = false
restricts (Constrains r e at) = true

-- ---- values

-- an item has a value in an instance and two states: a constraint a value, a right side for each
-- value whether it allows it
abbrev pub HasValue : Program → Instance → State → State → Item → Type 0
HasValue program instance s t (Assigns left name right at) = (v : Value)
    → IsSome (allows_in program s t instance right v)
HasValue program instance s t (Constrains r e at) = IsSome (value_in program s t instance e)
HasValue program instance s t item = Unit {0}

-- the items of a program have values in each two of its states
abbrev pub AreDefined : Program → Type 0
AreDefined program = (instance : Instance) → Contains (instances program) instance → (item : Item)
    → Contains (items_at program instance) item → (s t : State) → IsState program s
    → IsState program t → HasValue program instance s t item

module _ (w : Weaving) where
  -- an item of an instance of the lift, and one of the text
  pub data RelatedItem (instance : Instance) : Item → Item → Type 0 where
    BothConstrain : (r : Role) (l t : Expr) (at at' : Span) → ReadAlike w instance l t
        → RelatedItem instance (Constrains r l at) (Constrains r t at')
    -- a constraint of a feature that the product has: it stays without the variable
    IntroducedConstraint : (r : Role) (variable : Path) (feature : Name) (l t : Expr) (at at' : Span)
        → IsVariableOf w.features w.has variable feature → w.has feature ≡ true
        → ReadAlike w instance l t
        → RelatedItem instance (Constrains r (guarded_constraint variable l) at) (Constrains r t at')
    BothAssign : (left : Left) (name : Name) (l t : Expr) (at at' : Span) → ReadAlike w instance l t
        → binding_at w.text (record { instance = instance; name = name }) ≡ Some IsVariable
        → RelatedItem instance (Assigns left name l at) (Assigns left name t at')

  -- the item of the lift for an item of the text
  pub record IsFromLift (instance : Instance) (t : Item) : Type 0 where
    pub item : Item
    pub among : Contains (items_at w.lift instance) item
    pub related : RelatedItem instance item t

  -- the item of the text for an item of the lift
  pub record IsInText (instance : Instance) (l : Item) : Type 0 where
    pub there : IsOfText w instance
    pub item : Item
    pub among : Contains (items_at w.text instance) item
    pub related : RelatedItem instance l item

  -- an item of the lift that holds by itself, whatever states of the lift at the product are asked;
  -- At: the states of the lift at the product
  pub record HoldsAtProduct (At : State → Type 0) (instance : Instance) (l : Item) : Type 0 where
    pub first : (s : State) → At s → begins w.lift instance s l ≡ true
    pub each : (s : State) → At s → stays w.lift instance s l ≡ true
    pub step : (s t : State) → At s → At t → steps w.lift instance s t l ≡ true

  -- the items of the text and of the lift
  pub record AreRelatedItems (At : State → Type 0) : Type 0 where
    pub text : (instance : Instance) → IsOfText w instance → (t : Item)
        → Contains (items_at w.text instance) t → restricts t ≡ true → IsFromLift instance t
    pub lift : (instance : Instance) → Contains (instances w.lift) instance → (l : Item)
        → Contains (items_at w.lift instance) l → restricts l ≡ true
        → IsInText instance l ⊎ HoldsAtProduct At instance l
    pub defined : AreDefined w.lift
