-- The definition of one TREAT, evaluated on small examples.
use Rattle.std.proofs.Common.{◌≡◌, List, [], ◌∷◌, refl, codes, ℕ, ap, ◌∙◌}
use Rattle.smv_ast.specs.IgnoringSpans.{no_span}
use Rattle.smv_ast.specs.declared.syntax.Path.{Path}
use Rattle.smv_ast.specs.declared.syntax.Expr.{Expr, Expr-F, roll-Expr, fold-roll-Expr}
use Rattle.smv_ast.specs.declared.syntax.Expr.TheVariants as expr
use Rattle.smv_ast.specs.declared.syntax.Choice.{Choice, roll-Choice}
use Rattle.smv_ast.specs.declared.syntax.Branch.{Branch, roll-Branch}
use Rattle.smv_ast.specs.declared.program.Left.TheVariants as left
use Rattle.smv_ast.specs.declared.program.Declared.TheVariants.{Instance}
use Rattle.smv_ast.specs.declared.program.Section.TheVariants as section
use Rattle.integrate_impose.specs.Guard.{guarded}
use Rattle.integrate_treat.specs.declared.expressions.Treatment.{Treatment}
use Rattle.integrate_treat.specs.TreatedExpr.{treatment, treated_layer, treated}
use Rattle.integrate_treat.specs.TreatedModel.{treated_declared, treated_section}

abbrev path : List (List ℕ) → Path
path names = record { names = names; at = no_span }

abbrev x : Path
x = path (codes "x" ∷ [])

-- `IF TRUE THEN TREAT x = x`
abbrev t : Treatment
t = treatment expr.True (codes "x" ∷ []) (expr.Name x)

-- the path itself is guarded; the `x` that is put in stays
itself : treated_layer t (Expr-F.Name x) ≡ guarded expr.True (expr.Name x) (expr.Name x)
itself = refl

-- a longer path, a shorter one and another name stay
longer_path : treated_layer t (Expr-F.Name (path (codes "x" ∷ codes "y" ∷ []))) ≡ expr.Name (path (codes "x" ∷ codes "y" ∷ []))
longer_path = refl

shorter_path : treated_layer (treatment expr.True (codes "x" ∷ codes "y" ∷ []) (expr.Name x)) (Expr-F.Name x) ≡ expr.Name x
shorter_path = refl

other_name : treated_layer t (Expr-F.Name (path (codes "y" ∷ []))) ≡ expr.Name (path (codes "y" ∷ []))
other_name = refl

-- `next(x)`: inside `next( )` too
inside_next : treated t (roll-Expr (Expr-F.Next (roll-Expr (Expr-F.Name x)))) ≡ roll-Expr (Expr-F.Next (guarded expr.True (expr.Name x) (expr.Name x)))
inside_next =
    fold-roll-Expr Choice Expr Branch roll-Choice (treated_layer t) roll-Branch (Expr-F.Next (roll-Expr (Expr-F.Name x)))
    ∙ ap (λ (a : Expr). roll-Expr (Expr-F.Next a)) (fold-roll-Expr Choice Expr Branch roll-Choice (treated_layer t) roll-Branch (Expr-F.Name x))

-- an INVARSPEC stays, and so do left sides
spec_stays : treated_section t (section.InvarSpec (expr.Name x) no_span) ≡ section.InvarSpec (expr.Name x) no_span
spec_stays = refl

left_stays : (e : Expr) → treated_section t (section.Assigns (record { left = left.Next; name = codes "x"; right = e; at = no_span } ∷ []))
    ≡ section.Assigns (record { left = left.Next; name = codes "x"; right = treated t e; at = no_span } ∷ [])
left_stays e = refl

-- actuals, definitions, INIT, INVAR and TRANS are treated
in_actuals : (e : Expr) → treated_declared t (Instance (codes "cell") (e ∷ [])) ≡ Instance (codes "cell") (treated t e ∷ [])
in_actuals e = refl

in_definitions : (e : Expr) → treated_section t (section.Defines (record { name = codes "d"; right = e; at = no_span } ∷ [])) ≡ section.Defines (record { name = codes "d"; right = treated t e; at = no_span } ∷ [])
in_definitions e = refl

in_init : (e : Expr) → treated_section t (section.Init e no_span) ≡ section.Init (treated t e) no_span
in_init e = refl

in_invar : (e : Expr) → treated_section t (section.Invar e no_span) ≡ section.Invar (treated t e) no_span
in_invar e = refl

in_trans : (e : Expr) → treated_section t (section.Trans e no_span) ≡ section.Trans (treated t e) no_span
in_trans e = refl
