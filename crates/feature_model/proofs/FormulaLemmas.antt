-- The formula of a feature model is true of just its valid products.
use Rattle.std.proofs.Common.{◌≡◌, ◌≢◌, ℕ, ◌^◌, ◌<◌, Bool, true, false, not, ◌&&◌, ◌||◌, cond, ltb, List, [], ◌∷◌, ◌++◌, length, get_or, fold, Some, None, zero, suc, refl, sym, ap, ◌∙◌, subst, arith}
use Rattle.fsmv_base.specs.declared.no_memory.NoMemory.{NoMemory}
use Rattle.std.specs.Prelude.{◌↔◌, Result, Ok, Err, IfOk, IsTrue, All, AllPairs}
use Rattle.std.specs.Bool.{beq}
use Rattle.std.specs.List.{flat_map, position_or_len, list_any}
use Rattle.std.specs.Str.{bytes_eq}
use Rattle.std.proofs.lemmas.Bool.Decides.{nat_tests}
use Rattle.std.proofs.lemmas.List.Elements.{All-nil, All-cons, All-head, All-tail}
use Rattle.std.proofs.lemmas.List.Folds.{list_any-from_Any, Any-from_list_any}
use Rattle.std.proofs.lemmas.List.Sums.{position_or_len_is}
use Rattle.std.proofs.lemmas.Slice.Eq.{bytes_eq-Decides}
use Rattle.smv_ast.specs.declared.syntax.Op.{Op}
use Rattle.smv_ast.specs.declared.syntax.Op.TheVariants as op
use Rattle.smv_ast.specs.declared.syntax.Expr.{Expr}
use Rattle.smv_ast.specs.declared.syntax.Expr.TheVariants as e
use Rattle.smv_ast.specs.declared.model.GroupKind.{GroupKind}
use Rattle.smv_ast.specs.declared.model.GroupKind.TheVariants.{Mandatory, Optional, Or, Alternative}
use Rattle.smv_ast.specs.declared.model.ModelLine.{ModelLine}
use Rattle.smv_ast.specs.declared.model.ModelLine.TheVariants.{Group, Constraint}
use Rattle.smv_ast.specs.declared.model.FeatureModel.{FeatureModel}
use Rattle.smv_ast.specs.declared.model.Product.{Product}
use Rattle.feature_model.specs.Products.{has, Has}
use Rattle.feature_model.specs.Constraints.{Name, feature_of, has_some, op_value, value}
use Rattle.feature_model.specs.Validity.{AskForParent, AtLeastOne, AtMostOne, KeepsKind, KeepsLine, IsValid}
use Rattle.feature_model.specs.WellFormed.{IsFeatureModel, IsBelow}
use Rattle.feature_model.specs.Formula.{named, any_of, excluded, exclusions, with_parent, one_asked, group_conjuncts, conjuncts, all_of, formula_of, formula_place}
use Rattle.feature_model.proofs.ConstraintLemmas.{value_false, value_name, value_not, value_binary}
use Rattle.feature_model.proofs.WellFormedLemmas.{all_declared, root_there}

-- ---- names

pub differ : (a b : Name) → a ≢ b → bytes_eq a b ≡ false
differ a b h = test (bytes_eq a b) (bytes_eq-Decides a b).0 where
  test : (t : Bool) → (t ≡ true → a ≡ b) → t ≡ false
  test true k = absurd (h (k refl))
  test false k = refl

-- the number of a feature by its name
feature_at : (names : List Name) (f : ℕ) → AllPairs ◌≢◌ names → f < length names → feature_of names (get_or names f []) ≡ Some f
feature_at names f distinct small =
    let place : position_or_len (λ n. bytes_eq n (get_or names f [])) names ≡ f = position_or_len_is (λ n. bytes_eq n (get_or names f [])) names f [] (omega arith)
    (λ k before. differ (get_or names k []) (get_or names f []) (distinct k f [] before small)) (λ _. (bytes_eq-Decides (get_or names f []) (get_or names f [])).1 refl) in
    place_found (position_or_len (λ n. bytes_eq n (get_or names f [])) names) place where
      first_at : (i n : ℕ) → i < n → cond (ltb i n) (Some i) None ≡ Some i
      first_at i n h = let yes : ltb i n ≡ true = grind (arith, nat_tests) in ap (λ t. cond t (Some i) None) yes

      place_found : (i : ℕ) → i ≡ f → cond (ltb i (length names)) (Some i) None ≡ Some f
      place_found i e = subst (λ n. cond (ltb n (length names)) (Some n) None ≡ Some f) (sym e) (first_at f (length names) small)

-- ---- truth values

both_true : (a b : Bool) → (a && b) ≡ true → (a ≡ true) × (b ≡ true)
both_true true b h = (refl, h)
both_true false b h = let bad : false ≡ true = h in cc

true_both : (a b : Bool) → a ≡ true → b ≡ true → (a && b) ≡ true
true_both a b h k = ap (λ x. x && b) h ∙ k

-- the value of `a -> b`
implied : (a b : Bool) → (a ≡ true → b ≡ true) → (not a || b) ≡ true
implied true b h = h refl
implied false b h = refl

implies : (a b : Bool) → (not a || b) ≡ true → a ≡ true → b ≡ true
implies true b h k = h
implies false b h k = let bad : false ≡ true = k in cc

-- the value of `a <-> b`
same_implies : (a b : Bool) → beq a b ≡ true → (a ≡ true → b ≡ true) × (b ≡ true → a ≡ true)
same_implies true true h = (λ k. k, λ k. k)
same_implies true false h = let bad : false ≡ true = h in cc
same_implies false true h = let bad : false ≡ true = h in cc
same_implies false false h = (λ k. k, λ k. k)

same_of : (a b : Bool) → (a ≡ true → b ≡ true) → (b ≡ true → a ≡ true) → beq a b ≡ true
same_of true true h k = refl
same_of true false h k = h refl
same_of false true h k = k refl
same_of false false h k = refl

-- the value of `!(a & b)`
excludes : (a b : Bool) → not (a && b) ≡ true → a ≡ true → b ≡ true → ⊥
excludes true true h k l = let bad : false ≡ true = h in cc
excludes true false h k l = let bad : false ≡ true = l in cc
excludes false b h k l = let bad : false ≡ true = k in cc

excluded_by : (a b : Bool) → (a ≡ true → b ≡ true → ⊥) → not (a && b) ≡ true
excluded_by true true h = absurd (h refl refl)
excluded_by true false h = refl
excluded_by false b h = refl

or_false : (a : Bool) → a ≡ (a || false)
or_false true = refl
or_false false = refl

any_step : (a b c : Bool) → ((a || b) || c) ≡ (a || (b || c))
any_step true b c = refl
any_step false b c = refl

-- ---- pairs

pairs_head : {X : Type 0} (R : X → X → Type 0) (x : X) (xs : List X) → AllPairs R (x ∷ xs) → All (R x) xs
pairs_head R x xs h k d small = h 0 (suc k) d (omega arith) (omega arith)

pairs_tail : {X : Type 0} (R : X → X → Type 0) (x : X) (xs : List X) → AllPairs R (x ∷ xs) → AllPairs R xs
pairs_tail R x xs h i j d before small = h (suc i) (suc j) d (omega arith) (omega arith)

pairs_cons : {X : Type 0} (R : X → X → Type 0) (x : X) (xs : List X) → All (R x) xs → AllPairs R xs → AllPairs R (x ∷ xs)
pairs_cons R x xs h k i zero d before small = absurd (omega arith)
pairs_cons R x xs h k zero (suc j) d before small = h j d (omega arith)
pairs_cons R x xs h k (suc i) (suc j) d before small = k i j d (omega arith) (omega arith)

pairs_nil : {X : Type 0} (R : X → X → Type 0) → AllPairs R []
pairs_nil R i j d before small = absurd (omega arith)

-- ---- values

module _ (names : List Name) (p : Product) where
  -- all of the expressions are true
  abbrev AllTrue : List Expr → Type 0
  AllTrue [] = Unit {0}
  AllTrue (x ∷ xs) = IsTrue (value names p x) × AllTrue xs

  true_append : (xs ys : List Expr) → AllTrue xs → AllTrue ys → AllTrue (xs ++ ys)
  true_append [] ys h k = k
  true_append (x ∷ xs) ys h k = (h.0, true_append xs ys h.1 k)

  append_true : (xs ys : List Expr) → AllTrue (xs ++ ys) → AllTrue xs × AllTrue ys
  append_true [] ys h = (tt, h)
  append_true (x ∷ xs) ys h = let rest = append_true xs ys h.1 in ((h.0, rest.0), rest.1)

  -- a conjunction is true where all its parts are
  all_true : (start : Expr) (xs : List Expr) → IsTrue (value names p start) → AllTrue xs → IsTrue (value names p (all_of start xs))
  all_true start [] h k = h
  all_true start (x ∷ xs) h k = all_true (e.Binary op.And start x) xs (value_binary names p op.And start x ∙ true_both _ _ h k.0) k.1

  true_all : (start : Expr) (xs : List Expr) → IsTrue (value names p (all_of start xs)) → IsTrue (value names p start) × AllTrue xs
  true_all start [] h = (h, tt)
  true_all start (x ∷ xs) h =
      let rest = true_all (e.Binary op.And start x) xs h in
      let both = both_true _ _ (sym (value_binary names p op.And start x) ∙ rest.0) in
      (both.0, (both.1, rest.1))

  module _ (distinct : AllPairs ◌≢◌ names) where
    value_named : (f : ℕ) → f < length names → value names p (named names f) ≡ has p.bits f
    value_named f small = value_name names p (record { names = get_or names f [] ∷ []; at = formula_place }) ∙ ap (has_some p) (feature_at names f distinct small)

    value_of_two : (o : Op) (f g : ℕ) → f < length names → g < length names → value names p (e.Binary o (named names f) (named names g)) ≡ op_value o (has p.bits f) (has p.bits g)
    value_of_two o f g small small' = value_binary names p o (named names f) (named names g) ∙ (ap (λ a. op_value o a (value names p (named names g))) (value_named f small) ∙ ap (λ b. op_value o (has p.bits f) b) (value_named g small'))

    abbrev Below : ℕ → Type 0
    Below child = child < length names

    abbrev Asks : ℕ → ℕ → Type 0
    Asks parent child = Has p child → Has p parent

    -- a row of implications
    ask_true : (parent : ℕ) (children : List ℕ) → parent < length names → All Below children → AskForParent p parent children → AllTrue (with_parent names op.Implies parent children)
    ask_true parent [] small below h = tt
    ask_true parent (child ∷ more) small below h = (
      value_of_two op.Implies child parent (All-head Below child more below) small ∙ implied (has p.bits child) (has p.bits parent) (All-head (Asks parent) child more h),
      ask_true parent more small (All-tail Below child more below) (All-tail (Asks parent) child more h),
    )

    true_ask : (parent : ℕ) (children : List ℕ) → parent < length names → All Below children → AllTrue (with_parent names op.Implies parent children) → AskForParent p parent children
    true_ask parent [] small below h = All-nil (Asks parent)
    true_ask parent (child ∷ more) small below h =
        All-cons (Asks parent) child more (implies (has p.bits child) (has p.bits parent) (sym (value_of_two op.Implies child parent (All-head Below child more below) small) ∙ h.0))
        (true_ask parent more small (All-tail Below child more below) h.1)

    -- a row of equivalences
    same_true : (parent : ℕ) (children : List ℕ) → parent < length names → All Below children → AskForParent p parent children → (Has p parent → All (Has p) children) → AllTrue (with_parent names op.Iff parent children)
    same_true parent [] small below h k = tt
    same_true parent (child ∷ more) small below h k = (
      value_of_two op.Iff child parent (All-head Below child more below) small ∙ same_of (has p.bits child) (has p.bits parent) (All-head (Asks parent) child more h) (λ there. All-head (Has p) child more (k there)),
      same_true parent more small (All-tail Below child more below) (All-tail (Asks parent) child more h) (λ there. All-tail (Has p) child more (k there)),
    )

    true_same : (parent : ℕ) (children : List ℕ) → parent < length names → All Below children → AllTrue (with_parent names op.Iff parent children) → AskForParent p parent children × (Has p parent → All (Has p) children)
    true_same parent [] small below h = (All-nil (Asks parent), λ there. All-nil (Has p))
    true_same parent (child ∷ more) small below h =
        let one = same_implies (has p.bits child) (has p.bits parent) (sym (value_of_two op.Iff child parent (All-head Below child more below) small) ∙ h.0) in
        let rest = true_same parent more small (All-tail Below child more below) h.1 in
        (All-cons (Asks parent) child more one.0 rest.0, λ there. All-cons (Has p) child more (one.1 there) (rest.1 there))

    -- one of the children
    value_any_from : (start : Expr) (children : List ℕ) → All Below children → value names p (fold (λ all one. e.Binary op.Or all (named names one)) start children) ≡ (value names p start || list_any (has p.bits) children)
    value_any_from start [] below = or_false (value names p start)
    value_any_from start (child ∷ more) below =
        value_any_from (e.Binary op.Or start (named names child)) more (All-tail Below child more below)
        ∙ (ap (λ b. b || list_any (has p.bits) more) (value_binary names p op.Or start (named names child) ∙ ap (λ b. value names p start || b) (value_named child (All-head Below child more below)))
        ∙ (any_step (value names p start) (has p.bits child) (list_any (has p.bits) more)))

    value_any : (children : List ℕ) → All Below children → value names p (any_of names children) ≡ list_any (has p.bits) children
    value_any [] below = value_false names p
    value_any (child ∷ more) below =
        value_any_from (named names child) more (All-tail Below child more below)
        ∙ (ap (λ b. b || list_any (has p.bits) more) (value_named child (All-head Below child more below)))

    one_asked_value : (parent : ℕ) (children : List ℕ) → parent < length names → All Below children → value names p (one_asked names parent children) ≡ (not (has p.bits parent) || list_any (has p.bits) children)
    one_asked_value parent children small below =
        value_binary names p op.Implies (named names parent) (any_of names children)
        ∙ (ap (λ a. not a || value names p (any_of names children)) (value_named parent small) ∙ ap (λ b. not (has p.bits parent) || b) (value_any children below))

    one_true : (parent : ℕ) (children : List ℕ) → parent < length names → All Below children → AtLeastOne p parent children → IsTrue (value names p (one_asked names parent children))
    one_true parent children small below h =
        one_asked_value parent children small below ∙ implied (has p.bits parent) (list_any (has p.bits) children) (λ there. list_any-from_Any (has p.bits) children (h there))

    true_one : (parent : ℕ) (children : List ℕ) → parent < length names → All Below children → IsTrue (value names p (one_asked names parent children)) → AtLeastOne p parent children
    true_one parent children small below h there =
        Any-from_list_any (has p.bits) children (implies (has p.bits parent) (list_any (has p.bits) children) (sym (one_asked_value parent children small below) ∙ h) there)

    -- no two of the children
    abbrev Apart : ℕ → ℕ → Type 0
    Apart one other = Has p one → Has p other → ⊥

    excluded_value : (f g : ℕ) → f < length names → g < length names → value names p (e.Not (e.Binary op.And (named names f) (named names g))) ≡ not (has p.bits f && has p.bits g)
    excluded_value f g small small' = value_not names p (e.Binary op.And (named names f) (named names g)) ∙ ap not (value_of_two op.And f g small small')

    excluded_true : (child : ℕ) (others : List ℕ) → child < length names → All Below others → All (Apart child) others → AllTrue (excluded names child others)
    excluded_true child [] small below h = tt
    excluded_true child (other ∷ more) small below h = (
      excluded_value child other small (All-head Below other more below) ∙ excluded_by (has p.bits child) (has p.bits other) (All-head (Apart child) other more h),
      excluded_true child more small (All-tail Below other more below) (All-tail (Apart child) other more h),
    )

    true_excluded : (child : ℕ) (others : List ℕ) → child < length names → All Below others → AllTrue (excluded names child others) → All (Apart child) others
    true_excluded child [] small below h = All-nil (Apart child)
    true_excluded child (other ∷ more) small below h =
        All-cons (Apart child) other more (excludes (has p.bits child) (has p.bits other) (sym (excluded_value child other small (All-head Below other more below)) ∙ h.0))
        (true_excluded child more small (All-tail Below other more below) h.1)

    apart_true : (children : List ℕ) → All Below children → AtMostOne p children → AllTrue (exclusions names children)
    apart_true [] below h = tt
    apart_true (child ∷ more) below h =
        true_append (excluded names child more) (exclusions names more)
        (excluded_true child more (All-head Below child more below) (All-tail Below child more below) (pairs_head Apart child more h))
        (apart_true more (All-tail Below child more below) (pairs_tail Apart child more h))

    true_apart : (children : List ℕ) → All Below children → AllTrue (exclusions names children) → AtMostOne p children
    true_apart [] below h = pairs_nil Apart
    true_apart (child ∷ more) below h =
        let parts = append_true (excluded names child more) (exclusions names more) h in
        pairs_cons Apart child more (true_excluded child more (All-head Below child more below) (All-tail Below child more below) parts.0)
        (true_apart more (All-tail Below child more below) parts.1)

    -- ---- lines

    group_true : (kind : GroupKind) (parent : ℕ) (children : List ℕ) → parent < length names → All Below children → AskForParent p parent children × KeepsKind p kind parent children → AllTrue (group_conjuncts names kind parent children)
    group_true Mandatory parent children small below h = same_true parent children small below h.0 h.1
    group_true Optional parent children small below h = ask_true parent children small below h.0
    group_true Or parent children small below h =
        true_append (with_parent names op.Implies parent children) (one_asked names parent children ∷ []) (ask_true parent children small below h.0) (one_true parent children small below h.1, tt)
    group_true Alternative parent children small below h =
        true_append (with_parent names op.Implies parent children) (one_asked names parent children ∷ exclusions names children) (ask_true parent children small below h.0)
        (one_true parent children small below h.1.0, apart_true children below h.1.1)

    true_group : (kind : GroupKind) (parent : ℕ) (children : List ℕ) → parent < length names → All Below children → AllTrue (group_conjuncts names kind parent children) → AskForParent p parent children × KeepsKind p kind parent children
    true_group Mandatory parent children small below h = true_same parent children small below h
    true_group Optional parent children small below h = (true_ask parent children small below h, tt)
    true_group Or parent children small below h =
        let parts = append_true (with_parent names op.Implies parent children) (one_asked names parent children ∷ []) h in
        (true_ask parent children small below parts.0, true_one parent children small below parts.1.0)
    true_group Alternative parent children small below h =
        let parts = append_true (with_parent names op.Implies parent children) (one_asked names parent children ∷ exclusions names children) h in
        (true_ask parent children small below parts.0, (true_one parent children small below parts.1.0, true_apart children below parts.1.1))

    line_true : (line : ModelLine) → IsBelow (length names) line → KeepsLine names p line → AllTrue (conjuncts names line)
    line_true (Group kind parent children) below h = group_true kind parent children below.0 below.1 h
    line_true (Constraint constraint) below h = (h, tt)

    true_line : (line : ModelLine) → IsBelow (length names) line → AllTrue (conjuncts names line) → KeepsLine names p line
    true_line (Group kind parent children) below h = true_group kind parent children below.0 below.1 h
    true_line (Constraint constraint) below h = h.0

    abbrev BelowLine : ModelLine → Type 0
    BelowLine = IsBelow (length names)

    abbrev Keeps : ModelLine → Type 0
    Keeps = KeepsLine names p

    lines_true : (lines : List ModelLine) → All BelowLine lines → All Keeps lines → AllTrue (flat_map (conjuncts names) lines)
    lines_true [] below h = tt
    lines_true (line ∷ more) below h =
        true_append (conjuncts names line) (flat_map (conjuncts names) more) (line_true line (All-head BelowLine line more below) (All-head Keeps line more h))
        (lines_true more (All-tail BelowLine line more below) (All-tail Keeps line more h))

    true_lines : (lines : List ModelLine) → All BelowLine lines → AllTrue (flat_map (conjuncts names) lines) → All Keeps lines
    true_lines [] below h = All-nil Keeps
    true_lines (line ∷ more) below h =
        let parts = append_true (conjuncts names line) (flat_map (conjuncts names) more) h in
        All-cons Keeps line more (true_line line (All-head BelowLine line more below) parts.0) (true_lines more (All-tail BelowLine line more below) parts.1)

-- ---- whole models

-- in the products without a feature beyond the last the formula is true just where they are valid
pub formula_valid : (model : FeatureModel) (p : Product) → IsFeatureModel model → p.bits < 2 ^ length model.names → IsTrue (value model.names p (formula_of model)) ↔ IsValid model p
formula_valid model p h within = (there, back) where
  below : All (IsBelow (length model.names)) model.lines
  below = all_declared model.names 1 model.lines h.lines

  root : value model.names p (named model.names 0) ≡ has p.bits 0
  root = value_named model.names p h.distinct 0 (root_there model model.names refl h)

  there : IsTrue (value model.names p (formula_of model)) → IsValid model p
  there e = let parts = true_all model.names p (named model.names 0) (flat_map (conjuncts model.names) model.lines) e in record {
    root = sym root ∙ parts.0;
    lines = true_lines model.names p h.distinct model.lines below parts.1;
    within = within;
  }

  back : IsValid model p → IsTrue (value model.names p (formula_of model))
  back valid = all_true model.names p (named model.names 0) (flat_map (conjuncts model.names) model.lines) (root ∙ valid.root) (lines_true model.names p h.distinct model.lines below valid.lines)

-- the same of a formula that was made
pub made_valid : (model : FeatureModel) (r : Result Expr NoMemory) → IsFeatureModel model → IfOk r (λ made. made ≡ formula_of model) →
    IfOk r (λ made. (p : Product) → p.bits < 2 ^ length model.names → (IsTrue (value model.names p made) ↔ IsValid model p))
made_valid model (Ok made) h e = λ p within. subst (λ x. IsTrue (value model.names p x) ↔ IsValid model p) (sym e) (formula_valid model p h within)
made_valid model (Err none) h e = tt
