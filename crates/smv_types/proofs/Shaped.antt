-- Where the rules of the text are kept, choices are where the rules of kinds need them.
use Rattle.std.proofs.Common.{◌≡◌, Bool, true, false, ◌&&◌, ◌||◌, List, [], ◌∷◌, map, refl, sym, subst, arith}
use Rattle.std.proofs.lemmas.Bool.{or_parts, and_parts}
use Rattle.std.specs.Prelude.{ℤ, int_lt, int_le}
use Rattle.std.specs.List.{list_all, list_any}
use Rattle.std.proofs.lemmas.Int.{ints}
use Rattle.smv_ast.specs.declared.syntax.Expr.{Expr, Expr-F, roll-Expr, fold-roll-Expr, map-Expr, ind-Expr}
use Rattle.smv_ast.specs.declared.syntax.Choice.{Choice, Choice-F, roll-Choice, fold-roll-Choice, map-Choice}
use Rattle.smv_ast.specs.declared.syntax.Branch.{Branch, Branch-F, roll-Branch, fold-roll-Branch}
use Rattle.smv_shape.specs.Ranges as ranges
use Rattle.smv_shape.specs.Choices as choices
use Rattle.smv_kinds.specs.Soundness.{Shape, BranchShape, single_shape, choice_shape_layer, expr_shape_layer, branch_shape_layer, shape_of, choice_shape, branch_shape}

-- ---- truth values

pub together : (v w : Bool) → v ≡ true → w ≡ true → v && w ≡ true
together true w e f = f
together false w e f = cc

up_to : (low high : ℤ) → int_lt high low ≡ false → int_le low high ≡ true
up_to low high e = grind (arith, ints)

-- ---- expressions

-- An expression without an empty interval, by its shape: plain where it may contain no choice, free
-- where it may be one.
record Tame (empty : Bool) (stray : Bool → Bool) (shape : Shape) : Type 0 where
  plain : empty ≡ false → stray false ≡ false → shape.plain ≡ true
  free : empty ≡ false → stray true ≡ false → shape.free ≡ true
  loose : shape.plain ≡ true → shape.free ≡ true

-- a choice, whose parts contain no choice
record TameChoice (empty stray : Bool) (shape : Shape) : Type 0 where
  plain : empty ≡ false → stray ≡ false → shape.plain ≡ true
  free : empty ≡ false → stray ≡ false → shape.free ≡ true

-- a branch without an empty interval, by its shapes
record TameBranch (empty : Bool) (stray : Bool → Bool) (shape : BranchShape) : Type 0 where
  plain : empty ≡ false → stray false ≡ false → shape.cond.plain && shape.value.plain ≡ true
  free : empty ≡ false → stray true ≡ false → shape.cond.plain && shape.value.free ≡ true
  loose : shape.cond.plain && shape.value.plain ≡ true → shape.cond.plain && shape.value.free ≡ true

abbrev TameExpr : Expr → Type 0
TameExpr e = Tame (ranges.has_empty e) (choices.has_stray_choice e) (shape_of e)

abbrev TameOf : Choice → Type 0
TameOf c = TameChoice (ranges.choice_has_empty c) (choices.choice_has_stray c) (choice_shape c)

abbrev TameArm : Branch → Type 0
TameArm b = TameBranch (ranges.branch_has_empty b) (choices.branch_has_stray b) (branch_shape b)

abbrev Exprs : Type 0
Exprs = (e : Expr) × TameExpr e

abbrev Choices : Type 0
Choices = (c : Choice) × TameOf c

abbrev Branches : Type 0
Branches = (b : Branch) × TameArm b

-- ---- lists

abbrev exprs_of : List Exprs → List Expr
exprs_of = map (λ x. x.0)

parts_plain : (xs : List Exprs) → list_any (λ p. p) (map ranges.has_empty (exprs_of xs)) ≡ false → list_any (λ p. p false) (map choices.has_stray_choice (exprs_of xs)) ≡ false
    → list_all (λ p. p.plain) (map shape_of (exprs_of xs)) ≡ true
parts_plain [] e s = refl
parts_plain (x ∷ xs) e s =
    let f = or_parts _ _ e in
    let t = or_parts _ _ s in
    together _ _ (x.1.plain f.0 t.0) (parts_plain xs f.1 t.1)

parts_loose : (xs : List Exprs) → list_all (λ p. p.plain) (map shape_of (exprs_of xs)) ≡ true → list_all (λ p. p.free) (map shape_of (exprs_of xs)) ≡ true
parts_loose [] h = refl
parts_loose (x ∷ xs) h = let b = and_parts _ _ h in together _ _ (x.1.loose b.0) (parts_loose xs b.1)

abbrev branches_of : List Branches → List Branch
branches_of = map (λ x. x.0)

arms_plain : (xs : List Branches) → list_any (λ b. b) (map ranges.branch_has_empty (branches_of xs)) ≡ false → list_any (λ b. b false) (map choices.branch_has_stray (branches_of xs)) ≡ false
    → list_all (λ b. b.cond.plain && b.value.plain) (map branch_shape (branches_of xs)) ≡ true
arms_plain [] e s = refl
arms_plain (x ∷ xs) e s =
    let f = or_parts _ _ e in
    let t = or_parts _ _ s in
    together _ _ (x.1.plain f.0 t.0) (arms_plain xs f.1 t.1)

arms_free : (xs : List Branches) → list_any (λ b. b) (map ranges.branch_has_empty (branches_of xs)) ≡ false → list_any (λ b. b true) (map choices.branch_has_stray (branches_of xs)) ≡ false
    → list_all (λ b. b.cond.plain && b.value.free) (map branch_shape (branches_of xs)) ≡ true
arms_free [] e s = refl
arms_free (x ∷ xs) e s =
    let f = or_parts _ _ e in
    let t = or_parts _ _ s in
    together _ _ (x.1.free f.0 t.0) (arms_free xs f.1 t.1)

arms_loose : (xs : List Branches) → list_all (λ b. b.cond.plain && b.value.plain) (map branch_shape (branches_of xs)) ≡ true → list_all (λ b. b.cond.plain && b.value.free) (map branch_shape (branches_of xs)) ≡ true
arms_loose [] h = refl
arms_loose (x ∷ xs) h = let b = and_parts _ _ h in together _ _ (x.1.loose b.0) (arms_loose xs b.1)

-- ---- layer by layer

abbrev choice_from : Choice-F Choices Exprs Branches → Choice-F Choice Expr Branch
choice_from = map-Choice Choices Exprs Branches Choice Expr Branch (λ c. c.0) (λ e. e.0) (λ b. b.0)

abbrev expr_from : Expr-F Choices Exprs Branches → Expr-F Choice Expr Branch
expr_from = map-Expr Choices Exprs Branches Choice Expr Branch (λ c. c.0) (λ e. e.0) (λ b. b.0)

-- the result of each definition on a layer, given its results on the parts
abbrev choice_empty : Choice-F Choice Expr Branch → Bool
choice_empty d = ranges.choice_layer (map-Choice Choice Expr Branch Bool Bool Bool ranges.choice_has_empty ranges.has_empty ranges.branch_has_empty d)

abbrev choice_stray : Choice-F Choice Expr Branch → Bool
choice_stray d = choices.choice_layer (map-Choice Choice Expr Branch Bool choices.Placed choices.Placed choices.choice_has_stray choices.has_stray_choice choices.branch_has_stray d)

abbrev choice_shaped : Choice-F Choice Expr Branch → Shape
choice_shaped d = choice_shape_layer (map-Choice Choice Expr Branch Shape Shape BranchShape choice_shape shape_of branch_shape d)

abbrev expr_empty : Expr-F Choice Expr Branch → Bool
expr_empty d = ranges.expr_layer (map-Expr Choice Expr Branch Bool Bool Bool ranges.choice_has_empty ranges.has_empty ranges.branch_has_empty d)

abbrev expr_stray : Expr-F Choice Expr Branch → Bool → Bool
expr_stray d = choices.expr_layer (map-Expr Choice Expr Branch Bool choices.Placed choices.Placed choices.choice_has_stray choices.has_stray_choice choices.branch_has_stray d)

abbrev expr_shaped : Expr-F Choice Expr Branch → Shape
expr_shaped d = expr_shape_layer (map-Expr Choice Expr Branch Shape Shape BranchShape choice_shape shape_of branch_shape d)

choice_tame : (y : Choice-F Choices Exprs Branches) → TameChoice (choice_empty (choice_from y)) (choice_stray (choice_from y)) (choice_shaped (choice_from y))
choice_tame (Choice-F.Each parts) = record { plain = parts_plain parts; free = λ e s. parts_loose parts (parts_plain parts e s) }
choice_tame (Choice-F.Between low high) = record { plain = λ e s. refl; free = λ e s. up_to low high e }

-- an expression other than a choice is as plain as its parts, whatever is allowed
single_tame : (empty : Bool) (stray : Bool → Bool) (plain : Bool) → ((allowed : Bool) → empty ≡ false → stray allowed ≡ false → plain ≡ true) → Tame empty stray (single_shape plain)
single_tame empty stray plain h = record { plain = h false; free = h true; loose = λ e. e }

expr_tame : (y : Expr-F Choices Exprs Branches) → Tame (expr_empty (expr_from y)) (expr_stray (expr_from y)) (expr_shaped (expr_from y))
expr_tame Expr-F.True = single_tame _ _ _ (λ allowed e s. refl)
expr_tame Expr-F.False = single_tame _ _ _ (λ allowed e s. refl)
expr_tame (Expr-F.Number n) = single_tame _ _ _ (λ allowed e s. refl)
expr_tame (Expr-F.Name path) = single_tame _ _ _ (λ allowed e s. refl)
expr_tame (Expr-F.Neg a) = single_tame _ _ _ (λ allowed e s. a.1.plain e s)
expr_tame (Expr-F.Not a) = single_tame _ _ _ (λ allowed e s. a.1.plain e s)
expr_tame (Expr-F.Binary op a b) = single_tame _ _ _ (λ allowed e s. let f = or_parts _ _ e in let t = or_parts _ _ s in together _ _ (a.1.plain f.0 t.0) (b.1.plain f.1 t.1))
expr_tame (Expr-F.Within a c) = single_tame _ _ _ (λ allowed e s. let f = or_parts _ _ e in let t = or_parts _ _ s in together _ _ (a.1.plain f.0 t.0) (c.1.plain f.1 t.1))
expr_tame (Expr-F.Cases branches) = record { plain = arms_plain branches; free = arms_free branches; loose = arms_loose branches }
expr_tame (Expr-F.Next a) = single_tame _ _ _ (λ allowed e s. a.1.plain e s)
expr_tame (Expr-F.Pick c) = record { plain = λ e s. cc; free = λ e s. c.1.free e s; loose = λ h. cc }

choice_step : (d : Choice-F Choice Expr Branch) → TameChoice (choice_empty d) (choice_stray d) (choice_shaped d) → TameOf (roll-Choice d)
choice_step d h =
    subst (λ (v : Bool). TameChoice v (choices.choice_has_stray (roll-Choice d)) (choice_shape (roll-Choice d))) (sym (fold-roll-Choice Bool Bool Bool ranges.choice_layer ranges.expr_layer ranges.branch_layer d))
    (subst (λ (v : Bool). TameChoice (choice_empty d) v (choice_shape (roll-Choice d))) (sym (fold-roll-Choice Bool choices.Placed choices.Placed choices.choice_layer choices.expr_layer choices.branch_layer d))
    (subst (λ (s : Shape). TameChoice (choice_empty d) (choice_stray d) s) (sym (fold-roll-Choice Shape Shape BranchShape choice_shape_layer expr_shape_layer branch_shape_layer d)) h))

expr_step : (d : Expr-F Choice Expr Branch) → Tame (expr_empty d) (expr_stray d) (expr_shaped d) → TameExpr (roll-Expr d)
expr_step d h =
    subst (λ (v : Bool). Tame v (choices.has_stray_choice (roll-Expr d)) (shape_of (roll-Expr d))) (sym (fold-roll-Expr Bool Bool Bool ranges.choice_layer ranges.expr_layer ranges.branch_layer d))
    (subst (λ (v : Bool → Bool). Tame (expr_empty d) v (shape_of (roll-Expr d))) (sym (fold-roll-Expr Bool choices.Placed choices.Placed choices.choice_layer choices.expr_layer choices.branch_layer d))
    (subst (λ (s : Shape). Tame (expr_empty d) (expr_stray d) s) (sym (fold-roll-Expr Shape Shape BranchShape choice_shape_layer expr_shape_layer branch_shape_layer d)) h))

-- whether the branch of these parts has a misplaced choice
abbrev arm_stray : Expr → Expr → Bool → Bool
arm_stray cond value allowed = choices.has_stray_choice cond false || choices.has_stray_choice value allowed

-- a branch of tame parts
arm_tame : (x y : Exprs) → TameBranch (ranges.has_empty x.0 || ranges.has_empty y.0) (arm_stray x.0 y.0) (record { cond = shape_of x.0; value = shape_of y.0 })
arm_tame x y = record {
  plain = λ e s. let f = or_parts _ _ e in let t = or_parts _ _ s in together _ _ (x.1.plain f.0 t.0) (y.1.plain f.1 t.1);
  free = λ e s. let f = or_parts _ _ e in let t = or_parts _ _ s in together _ _ (x.1.plain f.0 t.0) (y.1.free f.1 t.1);
  loose = λ h. let b = and_parts _ _ h in together _ _ b.0 (y.1.loose b.1);
}

branch_step : (x y : Exprs) → TameArm (roll-Branch (record { cond = x.0; value = y.0 }))
branch_step x y =
    let d : Branch-F Choice Expr Branch = record { cond = x.0; value = y.0 } in
    subst (λ (v : Bool). TameBranch v (choices.branch_has_stray (roll-Branch d)) (branch_shape (roll-Branch d))) (sym (fold-roll-Branch Bool Bool Bool ranges.choice_layer ranges.expr_layer ranges.branch_layer d))
    (subst (λ (v : Bool → Bool). TameBranch (ranges.has_empty x.0 || ranges.has_empty y.0) v (branch_shape (roll-Branch d))) (sym (fold-roll-Branch Bool choices.Placed choices.Placed choices.choice_layer choices.expr_layer choices.branch_layer d))
    (subst (λ (s : BranchShape). TameBranch (ranges.has_empty x.0 || ranges.has_empty y.0) (arm_stray x.0 y.0) s) (sym (fold-roll-Branch Shape Shape BranchShape choice_shape_layer expr_shape_layer branch_shape_layer d)) (arm_tame x y)))

tame : (e : Expr) → TameExpr e
tame = ind-Expr TameOf TameExpr TameArm
    (λ x y e. subst (λ (d : Choice-F Choice Expr Branch). TameOf (roll-Choice d)) e (choice_step (choice_from y) (choice_tame y)))
    (λ x y e. subst (λ (d : Expr-F Choice Expr Branch). TameExpr (roll-Expr d)) e (expr_step (expr_from y) (expr_tame y)))
    (λ x y e. subst (λ (d : Branch-F Choice Expr Branch). TameArm (roll-Branch d)) e (branch_step y.cond y.value))

-- an expression without an empty interval, and without a misplaced choice where none may be
pub plain_of : (e : Expr) → ranges.has_empty e ≡ false → choices.has_stray_choice e false ≡ false → (shape_of e).plain ≡ true
plain_of e = (tame e).plain

-- an expression without an empty interval, and without a misplaced choice where it may be one
-- itself
pub free_of : (e : Expr) → ranges.has_empty e ≡ false → choices.has_stray_choice e true ≡ false → (shape_of e).free ≡ true
free_of e = (tame e).free
