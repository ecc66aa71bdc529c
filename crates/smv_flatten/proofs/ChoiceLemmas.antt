-- The node that tests a value against a choice is true exactly where the choice allows the value.
use Rattle.std.proofs.Common.{◌≡◌, ℕ, ◌||◌, Bool, true, false, List, [], ◌∷◌, map, ℤ, pos, Option, Some, None, refl, sym, ap, ◌∙◌, subst}
use Rattle.smv_ast.specs.declared.syntax.Op.TheVariants as op
use Rattle.smv_ast.specs.declared.syntax.Expr.{Expr}
use Rattle.smv_ast.specs.declared.syntax.Choice.{Choice, Choice-F, map-Choice}
use Rattle.smv_ast.specs.declared.syntax.Branch.{Branch}
use Rattle.smv_meaning.specs.declared.value.Value.{Value}
use Rattle.smv_meaning.specs.declared.value.Value.TheVariants.{Boolean, Number}
use Rattle.smv_meaning.specs.Value.{and_then, of_both, same, operate, in_range}
use Rattle.smv_meaning.specs.Denotations.{Environment, Allowed, Denotation, BranchDenotation, parts_allow, denotation_of, choice_allows, branch_denotation_of, choice_denotation}
use Rattle.smv_meaning.specs.Values.{Valuation}
use Rattle.flat_model.specs.declared.nodes.FlatNode.TheVariants as node
use Rattle.smv_flatten.specs.declared.store.Store.{Store}
use Rattle.smv_flatten.specs.declared.names.NameTables.{NameTables}
use Rattle.smv_flatten.specs.Names.{SymbolSet}
use Rattle.smv_flatten.specs.Making.{Made, Maker, pushed, joined, test_made, more_parts_made, parts_made, range_tested, choice_made}
use Rattle.smv_flatten.specs.Meaning.{code, tested, IsWhole, environment, TestReady, PartsReady, ChoiceReady, Property}
use Rattle.smv_flatten.proofs.KeptLemmas.{extends-refl, has-extended, behind_right, weaken_right}
use Rattle.smv_flatten.proofs.OperatorLemmas.{same_value, or_value}
use Rattle.smv_flatten.proofs.ValueLemmas.{numbering, Has, Makes, IsGood, push, at, joined_right, on, MakesValues}

-- ---- what is allowed, as values

-- one thing, or the other
abbrev pub either : Option Bool → Option Bool → Option Bool
either = of_both (λ b c. Some (b || c))

tested_same : (o : Option Value) (f g : Value → Option Bool) → ((v : Value) → f v ≡ g v) → tested o f ≡ tested o g
tested_same None f g h = refl
tested_same (Some v) f g h = ap (λ (p : Option Bool). and_then p (λ b. Some (Boolean b))) (h v)

eq_tested : (o q : Option Value) → tested o (λ v. and_then q (λ w. Some (same v w))) ≡ of_both (operate op.Eq) o q
eq_tested None q = refl
eq_tested (Some v) None = refl
eq_tested (Some v) (Some w) = refl

or_values : (p q : Option Bool) → and_then (either p q) (λ b. Some (Boolean b)) ≡ of_both (operate op.Or) (and_then p (λ b. Some (Boolean b))) (and_then q (λ b. Some (Boolean b)))
or_values None q = refl
or_values (Some b) None = refl
or_values (Some b) (Some c) = refl

or_tested : (o : Option Value) (f g : Value → Option Bool) → tested o (λ v. either (f v) (g v)) ≡ of_both (operate op.Or) (tested o f) (tested o g)
or_tested None f g = refl
or_tested (Some v) f g = or_values (f v) (g v)

or_assoc : (b c d : Bool) → (b || c) || d ≡ b || (c || d)
or_assoc true c d = refl
or_assoc false c d = refl

or_none : (b : Bool) → b || false ≡ b
or_none true = refl
or_none false = refl

either_assoc : (p q r : Option Bool) → either p (either q r) ≡ either (either p q) r
either_assoc None q r = refl
either_assoc (Some b) None r = refl
either_assoc (Some b) (Some c) None = refl
either_assoc (Some b) (Some c) (Some d) = ap (λ (x : Bool). Some x) (sym (or_assoc b c d))

either_none : (p : Option Bool) → either p (Some false) ≡ p
either_none None = refl
either_none (Some b) = ap (λ (x : Bool). Some x) (or_none b)

-- a number of a span
spanned : (low high : ℤ) (o : Option Value) → IsWhole o → (u : Value) → tested o (λ v. Some (in_range low high v)) ≡ Some u → of_both (operate op.And) (of_both (operate op.Le) (Some (Number low)) o) (of_both (operate op.Le) o (Some (Number high))) ≡ Some u
spanned low high None h u e = cc
spanned low high (Some v) h u e = let n = h v refl in subst (λ (w : Value). Some (Boolean (in_range low high w)) ≡ Some u → of_both (operate op.And) (operate op.Le (Number low) w) (operate op.Le w (Number high)) ≡ Some u) (sym n.1) (λ f. f) e

nothing_allowed : (numbering : SymbolSet) (o : Option Value) (u : Value) → tested o (λ v. Some false) ≡ Some u → pos 0 ≡ code numbering u
nothing_allowed numbering None u e = cc
nothing_allowed numbering (Some v) u e = let f : Some (Boolean false) ≡ Some u = e in let g : Boolean false ≡ u = cc in ap (code numbering) g

module _ (names : NameTables) (symbols : Environment) (states : Bool → Valuation ℕ) (numbers : Bool → ℕ → ℤ) (ready : Property) (make : Maker) (makes : MakesValues names symbols states numbers ready make) (x : ℕ) (o : Option Value) (row : ℕ) (after_step : Bool) where
  abbrev Made' : Store → Made → Option Value → Type 0
  Made' = Makes names symbols states numbers

  abbrev now : Environment
  now = environment names symbols states after_step row

  abbrev after : Environment
  after = environment names symbols states true row

  -- one test
  pub tested_right : (a : Expr) (st : Store) → TestReady names symbols states ready row after_step o a → Has names symbols states numbers st x o → IsGood names symbols states numbers st → Made' st (test_made make x row after_step a st) (tested o ((denotation_of a).allows now after))
  tested_right a st r h good =
      let m = make row after_step a st in
      let p = on names symbols states numbers after_step row a in
      let q = makes row after_step a st r.0 good in
      let there = has-extended names symbols states numbers st m.0 x o q.extends h in
      let is : tested o ((denotation_of a).allows now after) ≡ of_both (operate op.Eq) o p = tested_same o ((denotation_of a).allows now after) (λ v. and_then p (λ w. Some (same v w))) r.1 ∙ eq_tested o p in
      behind_right names symbols states numbers st m (test_made make x row after_step a st) p (tested o ((denotation_of a).allows now after)) q
      (push names symbols states numbers m.0 (node.Eq x m.1) (tested o ((denotation_of a).allows now after)) q.good
      (λ u e. same_value (numbering names symbols states numbers) (at names symbols states numbers m.0 x) (at names symbols states numbers m.0 m.1) o p there.is q.has.is r.2 u (sym is ∙ e)))

  -- an Or with further tests
  behind_tests : (parts : List Expr) (found : ℕ) (allows : Value → Option Bool) (st : Store) → PartsReady names symbols states ready row after_step o parts → Has names symbols states numbers st x o → Has names symbols states numbers st found (tested o allows) → IsGood names symbols states numbers st
      → Made' st (more_parts_made make x row after_step found parts st) (tested o (λ v. either (allows v) (parts_allow now after v (map denotation_of parts))))
  behind_tests [] found allows st r h f good = record {
    extends = extends-refl names symbols states numbers st;
    good = good;
    has = record { made = f.made; is = λ u e. f.is u (sym (tested_same o (λ v. either (allows v) (Some false)) allows (λ v. either_none (allows v))) ∙ e) };
  }
  behind_tests (a ∷ more) found allows st r h f good =
      let part : Value → Option Bool = (denotation_of a).allows now after in
      let t = test_made make x row after_step a st in
      let rt = tested_right a st r.0 h good in
      let f' = has-extended names symbols states numbers st t.0 found (tested o allows) rt.extends f in
      let both : Value → Option Bool = λ v. either (allows v) (part v) in
      let m = pushed (node.Or found t.1) t.0 in
      let rm : Made' t.0 m (tested o both) =
      push names symbols states numbers t.0 (node.Or found t.1) (tested o both) rt.good
      (λ u e. or_value (numbering names symbols states numbers) (at names symbols states numbers t.0 found) (at names symbols states numbers t.0 t.1) (tested o allows) (tested o part) f'.is rt.has.is u (sym (or_tested o allows part) ∙ e)) in
      let first = behind_right names symbols states numbers st t m (tested o part) (tested o both) rt rm in
      let h' = has-extended names symbols states numbers st m.0 x o first.extends h in
      let rest = behind_tests more m.1 both m.0 r.1 h' first.has first.good in
      let n = more_parts_made make x row after_step m.1 more m.0 in
      let others : Value → Option Bool = λ v. parts_allow now after v (map denotation_of more) in
      behind_right names symbols states numbers st m n (tested o both) (tested o (λ v. either (allows v) (either (part v) (others v)))) first
      (weaken_right names symbols states numbers m.0 n (tested o (λ v. either (both v) (others v))) (tested o (λ v. either (allows v) (either (part v) (others v))))
      (λ u e. sym (tested_same o (λ v. either (allows v) (either (part v) (others v))) (λ v. either (both v) (others v)) (λ v. either_assoc (allows v) (part v) (others v))) ∙ e) rest)

  -- the tests of a set
  parts_right : (parts : List Expr) (st : Store) → PartsReady names symbols states ready row after_step o parts → Has names symbols states numbers st x o → IsGood names symbols states numbers st → Made' st (parts_made make x row after_step parts st) (tested o (λ v. parts_allow now after v (map denotation_of parts)))
  parts_right [] st r h good = push names symbols states numbers st (node.Const (pos 0)) (tested o (λ v. Some false)) good (nothing_allowed (numbering names symbols states numbers) o)
  parts_right (a ∷ more) st r h good =
      let part : Value → Option Bool = (denotation_of a).allows now after in
      let t = test_made make x row after_step a st in
      let rt = tested_right a st r.0 h good in
      let h' = has-extended names symbols states numbers st t.0 x o rt.extends h in
      behind_right names symbols states numbers st t (parts_made make x row after_step (a ∷ more) st) (tested o part) (tested o (λ v. parts_allow now after v (map denotation_of (a ∷ more)))) rt
      (behind_tests more t.1 part t.0 r.1 h' rt.has rt.good)

  -- the test of a span
  span_right : (low high : ℤ) (st : Store) → IsWhole o → Has names symbols states numbers st x o → IsGood names symbols states numbers st → Made' st (range_tested x low high st) (tested o (λ v. Some (in_range low high v)))
  span_right low high st w h good =
      let a0 = pushed (node.Const low) st in
      let lowest : Option Value = Some (Number low) in
      let highest : Option Value = Some (Number high) in
      let r0 = constant st low good in
      let h0 = has-extended names symbols states numbers st a0.0 x o r0.extends h in
      let a = joined op.Le a0.1 x a0.0 in
      let p : Option Value = of_both (operate op.Le) lowest o in
      let ra = behind_right names symbols states numbers st a0 a lowest p r0 (joined_right names symbols states numbers a0.0 op.Le a0.1 x lowest o r0.good r0.has h0 (λ c. absurd c)) in
      let b0 = pushed (node.Const high) a.0 in
      let s0 = constant a.0 high ra.good in
      let h1 = has-extended names symbols states numbers a.0 b0.0 x o s0.extends (has-extended names symbols states numbers st a.0 x o ra.extends h) in
      let b = joined op.Le x b0.1 b0.0 in
      let q : Option Value = of_both (operate op.Le) o highest in
      let rb = behind_right names symbols states numbers a.0 b0 b highest q s0 (joined_right names symbols states numbers b0.0 op.Le x b0.1 o highest s0.good h1 s0.has (λ c. absurd c)) in
      let ha = has-extended names symbols states numbers a.0 b.0 a.1 p rb.extends ra.has in
      let both : Option Value = of_both (operate op.And) p q in
      let n = joined op.And a.1 b.1 b.0 in
      let rn = behind_right names symbols states numbers a.0 b n q both rb (joined_right names symbols states numbers b.0 op.And a.1 b.1 p q rb.good ha rb.has (λ c. absurd c)) in
      weaken_right names symbols states numbers st n both (tested o (λ v. Some (in_range low high v))) (spanned low high o w) (behind_right names symbols states numbers st a n p both ra rn)
    where
      constant : (st : Store) (z : ℤ) → IsGood names symbols states numbers st → Made' st (pushed (node.Const z) st) (Some (Number z))
      constant st z good = push names symbols states numbers st (node.Const z) (Some (Number z)) good (λ v e. let f : Number z ≡ v = cc in ap (code (numbering names symbols states numbers)) f)

  -- the tests of a choice
  pub choice_right : (d : Choice-F Choice Expr Branch) (st : Store) → ChoiceReady names symbols states ready row after_step o d → Has names symbols states numbers st x o → IsGood names symbols states numbers st
      → Made' st (choice_made make x row after_step d st) (tested o (choice_denotation (map-Choice Choice Expr Branch Allowed Denotation BranchDenotation choice_allows denotation_of branch_denotation_of d) now after))
  choice_right (Choice-F.Each parts) st r h good = parts_right parts st r h good
  choice_right (Choice-F.Between low high) st r h good = span_right low high st r h good
