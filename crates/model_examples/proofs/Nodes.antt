-- The nodes of expressions by themselves, names aside, layer by layer: as a value, and as the right side of an assignment.
use Rattle.std.proofs.Common.{◌≡◌, ℕ, List, [], ◌∷◌, refl}
use Rattle.std.specs.Prelude.{pos, codes}
use Rattle.smv_ast.specs.declared.syntax.Op.{Op}
use Rattle.smv_ast.specs.declared.syntax.Op.TheVariants as op
use Rattle.smv_ast.specs.declared.syntax.Expr.{Expr-F}
use Rattle.smv_ast.specs.declared.syntax.Choice.{Choice-F}
use Rattle.smv_ast.specs.IgnoringSpans.{no_span}
use Rattle.smv_nodes.specs.declared.own.Nodes.{Nodes}
use Rattle.smv_nodes.specs.Own.{expr_layer, choice_layer}

abbrev x : Nodes
x = expr_layer (Expr-F.Name (record { names = codes "x" ∷ []; at = no_span }))

abbrev numeral : ℕ → Nodes
numeral k = expr_layer (Expr-F.Number k)

abbrev binary : Op → Nodes → Nodes → Nodes
binary o a b = expr_layer (Expr-F.Binary o a b)

abbrev either : List Nodes → Nodes
either parts = choice_layer (Choice-F.Each parts)

-- an operator between two names
one_node : (binary op.And x x).value ≡ 1
one_node = refl

greater : (binary op.Gt x x).value ≡ 1
greater = refl

-- `!=` is the Not of an Eq, `->` the Or of a Not, `<->` and `xnor` the Not of a Xor
unequal : (binary op.Ne x x).value ≡ 2
unequal = refl

implies : (binary op.Implies x x).value ≡ 2
implies = refl

iff : (binary op.Iff x x).value ≡ 2
iff = refl

xnor : (binary op.Xnor x x).value ≡ 2
xnor = refl

-- `x + 1` has a constant and a sum; as a right side the Eq with the variable too
sum : (binary op.Add x (numeral 1)).value ≡ 2
sum = refl

sum_assigned : (binary op.Add x (numeral 1)).right ≡ 3
sum_assigned = refl

-- `-x` is `0 - x`
opposite : (expr_layer (Expr-F.Neg x)).value ≡ 2
opposite = refl

-- `x in {1, 2, 3}`: three constants, three Eq, two Or; `x in 1..3`: two constants, two Le, an And
set : (expr_layer (Expr-F.Within x (either (numeral 1 ∷ numeral 2 ∷ numeral 3 ∷ [])))).value ≡ 8
set = refl

interval : (expr_layer (Expr-F.Within x (choice_layer (Choice-F.Between (pos 1) (pos 3))))).value ≡ 5
interval = refl

-- `case x : 1; !x : 2; esac`: two constants and one Choose; the last condition is not read
case_of_two : (expr_layer (Expr-F.Cases ((x, numeral 1) ∷ (expr_layer (Expr-F.Not x), numeral 2) ∷ []))).value ≡ 3
case_of_two = refl

case_assigned : (expr_layer (Expr-F.Cases ((x, numeral 1) ∷ (expr_layer (Expr-F.Not x), numeral 2) ∷ []))).right ≡ 4
case_assigned = refl

-- `case x : {1, 2}; TRUE : 3; esac` as a right side: of the set two constants, two Eq and an Or, of `3` a constant and an Eq, and one Choose
case_with_choice : (expr_layer (Expr-F.Cases ((x, expr_layer (Expr-F.Pick (either (numeral 1 ∷ numeral 2 ∷ [])))) ∷ (expr_layer Expr-F.True, numeral 3) ∷ []))).right ≡ 8
case_with_choice = refl
