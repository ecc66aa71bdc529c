-- The definitions of the lift, evaluated on small families. Expected values are worked out by hand.
use Rattle.std.proofs.Common.{◌≡◌, ℕ, Bool, true, false, List, [], ◌∷◌, ◌++◌, Option, Some, None, refl, ap, ◌∙◌, codes, pos, negsuc, map}
use Rattle.smv_ast.specs.IgnoringSpans.{no_span}
use Rattle.smv_ast.specs.declared.syntax.Span.{Span}
use Rattle.smv_ast.specs.declared.syntax.Path.{Path}
use Rattle.smv_ast.specs.declared.syntax.SmvType.{SmvType}
use Rattle.smv_ast.specs.declared.syntax.SmvType.TheVariants as type
use Rattle.smv_ast.specs.declared.syntax.Op.TheVariants as op
use Rattle.smv_ast.specs.declared.syntax.Expr.{Expr, Expr-F, roll-Expr, fold-roll-Expr}
use Rattle.smv_ast.specs.declared.syntax.Expr.TheVariants as expr
use Rattle.smv_ast.specs.declared.syntax.Choice.{Choice, roll-Choice}
use Rattle.smv_ast.specs.declared.syntax.Branch.{Branch, roll-Branch}
use Rattle.smv_ast.specs.declared.program.Declared.{Declared}
use Rattle.smv_ast.specs.declared.program.Declared.TheVariants.{Plain, Instance}
use Rattle.smv_ast.specs.declared.program.Declaration.{Declaration}
use Rattle.smv_ast.specs.declared.program.Left.{Left}
use Rattle.smv_ast.specs.declared.program.Left.TheVariants as left
use Rattle.smv_ast.specs.declared.program.Assignment.{Assignment}
use Rattle.smv_ast.specs.declared.program.Section.{Section}
use Rattle.smv_ast.specs.declared.program.Section.TheVariants as section
use Rattle.smv_ast.specs.declared.program.Module.{Module}
use Rattle.smv_ast.specs.declared.program.Program.{Program}
use Rattle.smv_ast.specs.declared.feature.Action.TheVariants.{Impose}
use Rattle.smv_ast.specs.declared.feature.Change.{Change}
use Rattle.smv_ast.specs.declared.feature.Joined.{Joined}
use Rattle.smv_ast.specs.declared.feature.Feature.{Feature}
use Rattle.smv_ast.specs.declared.feature.Family.{Family}
use Rattle.smv_ast.specs.declared.feature.OwnedVar.{OwnedVar}
use Rattle.smv_ast.specs.declared.feature.OwnedSpec.{OwnedSpec}
use Rattle.smv_ast.specs.declared.model.FeatureModel.{FeatureModel}
use Rattle.smv_ast.specs.declared.model.Product.{Product}
use Rattle.smv_meaning.specs.declared.value.Value.{Value}
use Rattle.smv_meaning.specs.declared.value.Value.TheVariants.{Boolean}
use Rattle.feature_model.specs.Formula.{formula_of}
use Rattle.integrate_impose.specs.Impose.{same_left}
use Rattle.fsmv_lift.specs.FirstValues.{first_of}
use Rattle.fsmv_lift.specs.Lift.{lift_of, lift_program, lifted_layer, lifted_constraint, owned_specs, owned_variables}
use Rattle.fsmv_lift.specs.LiftedBase.{lifted_base}
use Rattle.fsmv_lift.specs.Projection.{projected}
use Rattle.fsmv_lift.specs.FeatureJudgements.{stages_of, text_so_far}

-- ---- trees

-- of the family's own text
abbrev here : Span
here = no_span

-- of what the lift adds
abbrev added : Span
added = record { file = 1; at = 0 }

abbrev path : Span → List (List ℕ) → Expr
path at names = expr.Name (record { names = names; at = at })

abbrev name : List ℕ → Expr
name n = path here (n ∷ [])

abbrev declare : Span → List ℕ → Declared → Declaration
declare at n what = record { name = n; what = what; at = at }

abbrev variable : Span → List ℕ → Declaration
variable at n = declare at n (Plain type.Boolean)

abbrev assign : Span → Left → List ℕ → Expr → Assignment
assign at of n right = record { left = of; name = n; right = right; at = at }

-- `case cond : value; TRUE : old; esac`
abbrev cases : Expr → Expr → Expr → Expr
cases cond value old = expr.Cases (roll-Branch (record { cond = cond; value = value })
    ∷ roll-Branch (record { cond = expr.True; value = old }) ∷ [])

-- ---- first values

firsts : map first_of (type.Boolean ∷ type.Range (negsuc 2) (pos 4) ∷ type.Range (pos 3) (pos 4) ∷ type.Numbers (pos 7 ∷ pos 2 ∷ []) ∷ type.Symbols (codes "up" ∷ codes "down" ∷ []) ∷ [])
    ≡ expr.False ∷ expr.Neg (expr.Number 3) ∷ expr.Number 3 ∷ expr.Number 7 ∷ path added (codes "up" ∷ []) ∷ []
firsts = refl

-- ---- a lift with an overload feature

-- `MODULE main VAR cabin : lift(call); call : boolean;`
-- `MODULE lift(call) VAR open : boolean; ASSIGN init(open) := FALSE; next(open) := call;`
abbrev base : Program
base = record {
  modules = record {
    name = codes "main";
    formals = [];
    sections = section.Vars (declare here (codes "cabin") (Instance (codes "lift") (name (codes "call") ∷ [])) ∷ variable here (codes "call") ∷ []) ∷ [];
    at = here;
  } ∷ record {
    name = codes "lift";
    formals = codes "call" ∷ [];
    sections = section.Vars (variable here (codes "open") ∷ []) ∷ section.Assigns (assign here left.Init (codes "open") expr.False ∷ assign here left.Next (codes "open") (name (codes "call")) ∷ []) ∷ [];
    at = here;
  } ∷ [];
}

-- `INTRODUCE MODULE lift VAR heavy : boolean; ASSIGN init(heavy) := FALSE; INVARSPEC open`
-- `CHANGE MODULE lift IF heavy THEN IMPOSE next(open) := TRUE;`
abbrev overload : Feature
overload = record {
  name = codes "Overload";
  needs = [];
  joins = record {
    «module» = codes "lift";
    sections = section.Vars (variable here (codes "heavy") ∷ []) ∷ section.Assigns (assign here left.Init (codes "heavy") expr.False ∷ []) ∷ section.InvarSpec (name (codes "open")) here ∷ [];
    at = here;
  } ∷ [];
  changes = record { «module» = codes "lift"; cond = name (codes "heavy"); action = Impose left.Next (codes "open") expr.True; at = here } ∷ [];
  at = here;
}

abbrev model : FeatureModel
model = record { names = codes "Lift" ∷ codes "Overload" ∷ []; lines = [] }

abbrev family : Family
family = record { base = base; model = model; features = overload ∷ [] }

-- `fsmv_fm.Overload`
abbrev on : Expr
on = path added (codes "fsmv_fm" ∷ codes "Overload" ∷ [])

-- the text of the lift, but for the formula
abbrev lifted_text : Program
lifted_text = record {
  modules = record {
    name = codes "main";
    formals = [];
    sections = section.Vars (declare added (codes "fsmv_fm") (Instance (codes "fsmv_features") []) ∷ [])
        ∷ section.Vars (declare here (codes "cabin") (Instance (codes "lift") (path added (codes "fsmv_fm" ∷ []) ∷ name (codes "call") ∷ [])) ∷ variable here (codes "call") ∷ [])
        ∷ section.Init (lifted_constraint (formula_of model)) added ∷ [];
    at = here;
  } ∷ record {
    name = codes "lift";
    formals = codes "fsmv_fm" ∷ codes "call" ∷ [];
    sections = section.Vars (variable here (codes "open") ∷ [])
        ∷ section.Assigns (assign here left.Init (codes "open") expr.False ∷ assign here left.Next (codes "open") (cases (expr.Binary op.And on (name (codes "heavy"))) expr.True (name (codes "call"))) ∷ [])
        ∷ section.Vars (variable here (codes "heavy") ∷ [])
        ∷ section.Assigns (assign here left.Init (codes "heavy") (cases on expr.False expr.False) ∷ [])
        ∷ section.InvarSpec (expr.Binary op.Implies on (name (codes "open"))) here
        ∷ section.Invar (expr.Binary op.Or on (expr.Binary op.Eq (path added (codes "heavy" ∷ [])) expr.False)) added ∷ [];
    at = here;
  } ∷ record {
    name = codes "fsmv_features";
    formals = [];
    sections = section.Vars (variable added (codes "Lift") ∷ variable added (codes "Overload") ∷ [])
        ∷ section.Assigns (assign added left.Next (codes "Lift") (path added (codes "Lift" ∷ [])) ∷ assign added left.Next (codes "Overload") (path added (codes "Overload" ∷ [])) ∷ []) ∷ [];
    at = added;
  } ∷ [];
}

whole_lift : lift_program family ≡ lifted_text
unfolding same_left
whole_lift = refl

introduced_variable : owned_variables model.names (overload ∷ []) ≡ record { «module» = codes "lift"; name = codes "heavy"; feature = 1 } ∷ []
introduced_variable = refl

-- the spec is the fifth section of its module
introduced_spec : owned_specs model.names (lifted_base base) (overload ∷ []) ≡ record { «module» = codes "lift"; «section» = 4; feature = 1 } ∷ []
introduced_spec = refl

-- ---- the formula

-- a feature's name is the path of its variable
feature_in_formula : lifted_constraint (roll-Expr (Expr-F.Not (roll-Expr (Expr-F.Name (record { names = codes "Overload" ∷ []; at = here })))))
    ≡ roll-Expr (Expr-F.Not (path here (codes "fsmv_fm" ∷ codes "Overload" ∷ [])))
feature_in_formula =
    fold-roll-Expr Choice Expr Branch roll-Choice lifted_layer roll-Branch (Expr-F.Not (roll-Expr (Expr-F.Name (record { names = codes "Overload" ∷ []; at = here }))))
    ∙ ap (λ (a : Expr). roll-Expr (Expr-F.Not a)) (fold-roll-Expr Choice Expr Branch roll-Choice lifted_layer roll-Branch (Expr-F.Name (record { names = codes "Overload" ∷ []; at = here })))

-- ---- an IMPOSE that adds a section, and a spec behind it

-- `CHANGE MODULE main IMPOSE init(call) := TRUE;`: there is no ASSIGN section
abbrev calls : Feature
calls = record {
  name = codes "Calls";
  needs = [];
  joins = [];
  changes = record { «module» = codes "main"; cond = expr.True; action = Impose left.Init (codes "call") expr.True; at = here } ∷ [];
  at = here;
}

-- `INTRODUCE MODULE main INVARSPEC call INVARSPEC TRUE`
abbrev specs : Feature
specs = record {
  name = codes "Specs";
  needs = [];
  joins = record { «module» = codes "main"; sections = section.InvarSpec (name (codes "call")) here ∷ section.InvarSpec expr.True here ∷ []; at = here } ∷ [];
  changes = [];
  at = here;
}

-- the instance, the base's own section, the added one, and then the specs
specs_behind_an_added_section : owned_specs (codes "Lift" ∷ codes "Specs" ∷ codes "Calls" ∷ []) (lifted_base base) (calls ∷ specs ∷ [])
    ≡ record { «module» = codes "main"; «section» = 3; feature = 1 } ∷ record { «module» = codes "main"; «section» = 4; feature = 1 } ∷ []
unfolding same_left
specs_behind_an_added_section = refl

-- ---- projection

-- a state in which every path is TRUE
abbrev state : List (List ℕ) → Option Value
state p = Some (Boolean true)

abbrev seen : Product → List (List ℕ) → Option Value
seen p = projected model.names (record { program = lifted_text; vars = owned_variables model.names (overload ∷ []); specs = [] }) p state

-- `Lift` alone does not have the variable of Overload
without_overload : map (seen (record { bits = 1 })) ((codes "fsmv_fm" ∷ codes "Lift" ∷ []) ∷ (codes "cabin" ∷ codes "heavy" ∷ []) ∷ (codes "cabin" ∷ codes "open" ∷ []) ∷ (codes "heavy" ∷ []) ∷ [])
    ≡ None ∷ None ∷ Some (Boolean true) ∷ Some (Boolean true) ∷ []
without_overload = refl

-- with Overload it is there; the features' own variables are not
with_overload : map (seen (record { bits = 3 })) ((codes "fsmv_fm" ∷ codes "Overload" ∷ []) ∷ (codes "cabin" ∷ codes "heavy" ∷ []) ∷ [])
    ≡ None ∷ Some (Boolean true) ∷ []
with_overload = refl

-- ---- items

-- the parts up to each item: a declaration, another of the same section, and a spec
part_by_items : map (λ stage. stage.part.sections) (stages_of (record { «module» = codes "main"; sections = section.Vars (variable here (codes "a") ∷ variable here (codes "b") ∷ []) ∷ section.InvarSpec expr.True here ∷ []; at = here }))
    ≡ (section.Vars (variable here (codes "a") ∷ []) ∷ [])
    ∷ (section.Vars (variable here (codes "a") ∷ variable here (codes "b") ∷ []) ∷ [])
    ∷ (section.Vars (variable here (codes "a") ∷ variable here (codes "b") ∷ []) ∷ section.InvarSpec expr.True here ∷ []) ∷ []
part_by_items = refl

-- of the features before, a product's text has its own alone
text_without : text_so_far family (overload ∷ []) (record { bits = 1 }) ≡ base
text_without = refl
