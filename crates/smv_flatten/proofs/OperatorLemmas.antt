-- Operators on numbers are operators on values.
use Rattle.std.proofs.Common.{◌≡◌, zero, suc, ◌&&◌, ◌||◌, Bool, true, false, not, if◌then◌else◌, ℤ, pos, negsuc, ◌+ℤ◌, ◌-ℤ◌, ◌*ℤ◌, Option, Some, None, refl, ap, ◌∙◌, arith}
use Rattle.std.proofs.lemmas.Int.{ints}
use Rattle.std.specs.Prelude.{int_lt, int_le, int_rem, neg_ℤ}
use Rattle.std.specs.Ordering.{int_eq}
use Rattle.smv_ast.specs.declared.syntax.Op.{Op}
use Rattle.smv_ast.specs.declared.syntax.Op.TheVariants as op
use Rattle.smv_meaning.specs.declared.value.Value.{Value}
use Rattle.smv_meaning.specs.declared.value.Value.TheVariants.{Boolean, Number, Symbol}
use Rattle.smv_meaning.specs.Value.{and_then, of_both, truth, same, bool_eq, fits, remainder, of_numbers, of_truths, on_numbers, on_truths, operate, negated, logical_not}
use Rattle.flat_model.specs.Numbers.{truth_of, number_of, either}
use Rattle.smv_flatten.specs.Names.{SymbolSet}
use Rattle.smv_flatten.specs.Meaning.{code, DoAgree}

pub record Both {A B C : Type 0} (f : A → B → Option C) (p : Option A) (q : Option B) (u : C) : Type 0 where
  pub left : A
  pub right : B
  pub left_is : p ≡ Some left
  pub right_is : q ≡ Some right
  pub made : f left right ≡ Some u

-- what is made of two things is made of things that are there
pub both_some : {A B C : Type 0} (f : A → B → Option C) (p : Option A) (q : Option B) (u : C) → of_both f p q ≡ Some u → Both f p q u
both_some f None q u e = cc
both_some f (Some a) None u e = cc
both_some f (Some a) (Some b) u e = record { left = a; right = b; left_is = refl; right_is = refl; made = e }

pub record Then {A B : Type 0} (p : Option A) (f : A → Option B) (u : B) : Type 0 where
  pub thing : A
  pub is : p ≡ Some thing
  pub made : f thing ≡ Some u

pub then_some : {A B : Type 0} (p : Option A) (f : A → Option B) (u : B) → and_then p f ≡ Some u → Then p f u
then_some None f u e = cc
then_some (Some a) f u e = record { thing = a; is = refl; made = e }

pub one_number : (b : Bool) → truth_of (number_of b) ≡ b
one_number true = refl
one_number false = refl

either_is : (b c : Bool) → either b c ≡ not (bool_eq b c)
either_is true true = refl
either_is true false = refl
either_is false true = refl
either_is false false = refl

module _ (symbols : SymbolSet) where
  -- a truth value by its number
  pub truth_code : (v : Value) (b : Bool) → truth v ≡ Some b → truth_of (code symbols v) ≡ b
  truth_code (Boolean true) b e = let h : Some true ≡ Some b = e in cc
  truth_code (Boolean false) b e = let h : Some false ≡ Some b = e in cc
  truth_code (Number (pos zero)) b e = let h : Some false ≡ Some b = e in cc
  truth_code (Number (pos (suc zero))) b e = let h : Some true ≡ Some b = e in cc
  truth_code (Number (pos (suc (suc n)))) b e = cc
  truth_code (Number (negsuc n)) b e = cc
  truth_code (Symbol name) b e = cc

  -- a number that stands for a value, if there is one
  abbrev pub Is : ℤ → Option Value → Type 0
  Is x p = (v : Value) → p ≡ Some v → x ≡ code symbols v

  pub record TwoNumbers (o : Op) (v w u : Value) : Type 0 where
    pub left : ℤ
    pub right : ℤ
    pub left_is : v ≡ Number left
    pub right_is : w ≡ Number right
    pub made : of_numbers o left right ≡ Some u

  two_numbers : (o : Op) (v w u : Value) → on_numbers o v w ≡ Some u → TwoNumbers o v w u
  two_numbers o (Number m) (Number n) u e = record { left = m; right = n; left_is = refl; right_is = refl; made = e }
  two_numbers o (Number m) (Boolean b) u e = cc
  two_numbers o (Number m) (Symbol s) u e = cc
  two_numbers o (Boolean b) w u e = cc
  two_numbers o (Symbol s) w u e = cc

  numbers_value : (o : Op) (f : ℤ → ℤ → ℤ) → ((m n : ℤ) (u : Value) → of_numbers o m n ≡ Some u → f m n ≡ code symbols u) → (x y : ℤ) (p q : Option Value) → Is x p → Is y q → (u : Value) → of_both (on_numbers o) p q ≡ Some u → f x y ≡ code symbols u
  numbers_value o f law x y p q hx hy u e =
      let b = both_some (on_numbers o) p q u e in
      let t = two_numbers o b.left b.right u b.made in
      let i : x ≡ t.left = hx b.left b.left_is ∙ ap (code symbols) t.left_is in
      let j : y ≡ t.right = hy b.right b.right_is ∙ ap (code symbols) t.right_is in
      rw (i, j) (law t.left t.right u t.made)

  truths_value : (o : Op) (f : Bool → Bool → Bool) → ((b c : Bool) (u : Value) → of_truths o b c ≡ Some u → number_of (f b c) ≡ code symbols u) → (x y : ℤ) (p q : Option Value) → Is x p → Is y q → (u : Value) → of_both (on_truths o) p q ≡ Some u
      → number_of (f (truth_of x) (truth_of y)) ≡ code symbols u
  truths_value o f law x y p q hx hy u e =
      let b = both_some (on_truths o) p q u e in
      let t = both_some (of_truths o) (truth b.left) (truth b.right) u b.made in
      let i : truth_of x ≡ t.left = ap truth_of (hx b.left b.left_is) ∙ truth_code b.left t.left t.left_is in
      let j : truth_of y ≡ t.right = ap truth_of (hy b.right b.right_is) ∙ truth_code b.right t.right t.right_is in
      rw (i, j) (law t.left t.right u t.made)

  pub same_value : (x y : ℤ) (p q : Option Value) → Is x p → Is y q → DoAgree symbols p q → (u : Value) → of_both (operate op.Eq) p q ≡ Some u → number_of (int_eq x y) ≡ code symbols u
  same_value x y p q hx hy alike u e =
      let b = both_some (operate op.Eq) p q u e in
      let made : Some (Boolean (same b.left b.right)) ≡ Some u = b.made in
      let is : Boolean (same b.left b.right) ≡ u = cc in
      rw (hx b.left b.left_is, hy b.right b.right_is) (ap number_of (alike b.left b.right b.left_is b.right_is) ∙ ap (code symbols) is)

  whole_by : (b : Bool) (z : ℤ) (u : Value) → (if b then Some (Number z) else None) ≡ Some u → z ≡ code symbols u
  whole_by true z u e = let h : Some (Number z) ≡ Some u = e in let i : Number z ≡ u = cc in ap (code symbols) i
  whole_by false z u e = cc

  known_number : (z : ℤ) (u : Value) → Some (Number z) ≡ Some u → z ≡ code symbols u
  known_number z u e = let i : Number z ≡ u = cc in ap (code symbols) i

  known_truth : (b : Bool) (u : Value) → Some (Boolean b) ≡ Some u → number_of b ≡ code symbols u
  known_truth b u e = let i : Boolean b ≡ u = cc in ap (code symbols) i

  rest_value : (m n : ℤ) (u : Value) → remainder m n ≡ Some u → int_rem m n ≡ code symbols u
  rest_value (pos m) (pos (suc n)) u e = known_number _ u e
  rest_value (pos m) (pos zero) u e = cc
  rest_value (pos m) (negsuc n) u e = cc
  rest_value (negsuc m) n u e = cc

  module _ (x y : ℤ) (p q : Option Value) (hx : Is x p) (hy : Is y q) (u : Value) where
    pub add_value : of_both (operate op.Add) p q ≡ Some u → x +ℤ y ≡ code symbols u
    add_value = numbers_value op.Add (λ m n. m +ℤ n) (λ m n u e. whole_by (fits (m +ℤ n)) (m +ℤ n) u e) x y p q hx hy u

    pub sub_value : of_both (operate op.Sub) p q ≡ Some u → x -ℤ y ≡ code symbols u
    sub_value = numbers_value op.Sub (λ m n. m -ℤ n) (λ m n u e. whole_by (fits (m -ℤ n)) (m -ℤ n) u e) x y p q hx hy u

    pub mul_value : of_both (operate op.Mul) p q ≡ Some u → x *ℤ y ≡ code symbols u
    mul_value = numbers_value op.Mul (λ m n. m *ℤ n) (λ m n u e. whole_by (fits (m *ℤ n)) (m *ℤ n) u e) x y p q hx hy u

    pub mod_value : of_both (operate op.Mod) p q ≡ Some u → int_rem x y ≡ code symbols u
    mod_value = numbers_value op.Mod int_rem rest_value x y p q hx hy u

    pub lt_value : of_both (operate op.Lt) p q ≡ Some u → number_of (int_lt x y) ≡ code symbols u
    lt_value = numbers_value op.Lt (λ m n. number_of (int_lt m n)) (λ m n u e. known_truth (int_lt m n) u e) x y p q hx hy u

    pub gt_value : of_both (operate op.Gt) p q ≡ Some u → number_of (int_lt y x) ≡ code symbols u
    gt_value = numbers_value op.Gt (λ m n. number_of (int_lt n m)) (λ m n u e. known_truth (int_lt n m) u e) x y p q hx hy u

    pub le_value : of_both (operate op.Le) p q ≡ Some u → number_of (int_le x y) ≡ code symbols u
    le_value = numbers_value op.Le (λ m n. number_of (int_le m n)) (λ m n u e. known_truth (int_le m n) u e) x y p q hx hy u

    pub ge_value : of_both (operate op.Ge) p q ≡ Some u → number_of (int_le y x) ≡ code symbols u
    ge_value = numbers_value op.Ge (λ m n. number_of (int_le n m)) (λ m n u e. known_truth (int_le n m) u e) x y p q hx hy u

    pub and_value : of_both (operate op.And) p q ≡ Some u → number_of (truth_of x && truth_of y) ≡ code symbols u
    and_value = truths_value op.And (λ b c. b && c) (λ b c u e. known_truth (b && c) u e) x y p q hx hy u

    pub or_value : of_both (operate op.Or) p q ≡ Some u → number_of (truth_of x || truth_of y) ≡ code symbols u
    or_value = truths_value op.Or (λ b c. b || c) (λ b c u e. known_truth (b || c) u e) x y p q hx hy u

    pub xor_value : of_both (operate op.Xor) p q ≡ Some u → number_of (either (truth_of x) (truth_of y)) ≡ code symbols u
    xor_value = truths_value op.Xor either (λ b c u e. ap number_of (either_is b c) ∙ known_truth (not (bool_eq b c)) u e) x y p q hx hy u

    pub xnor_value : of_both (operate op.Xnor) p q ≡ Some u → number_of (bool_eq (truth_of x) (truth_of y)) ≡ code symbols u
    xnor_value = truths_value op.Xnor bool_eq (λ b c u e. known_truth (bool_eq b c) u e) x y p q hx hy u

    pub iff_value : of_both (operate op.Iff) p q ≡ Some u → number_of (bool_eq (truth_of x) (truth_of y)) ≡ code symbols u
    iff_value = truths_value op.Iff bool_eq (λ b c u e. known_truth (bool_eq b c) u e) x y p q hx hy u

    pub ne_value : DoAgree symbols p q → of_both (operate op.Ne) p q ≡ Some u → number_of (not (int_eq x y)) ≡ code symbols u
    ne_value alike e =
        let b = both_some (operate op.Ne) p q u e in
        rw (hx b.left b.left_is, hy b.right b.right_is) (ap (λ (b : Bool). number_of (not b)) (alike b.left b.right b.left_is b.right_is) ∙ known_truth (not (same b.left b.right)) u b.made)

  -- the other truth value, and the number with its sign turned
  pub logical_not_value : (x : ℤ) (p : Option Value) → Is x p → (u : Value) → and_then p logical_not ≡ Some u → number_of (not (truth_of x)) ≡ code symbols u
  logical_not_value x p hx u e =
      let t = then_some p logical_not u e in
      let s = then_some (truth t.thing) (λ b. Some (Boolean (not b))) u t.made in
      let i : truth_of x ≡ s.thing = ap truth_of (hx t.thing t.is) ∙ truth_code t.thing s.thing s.is in
      rw i (known_truth (not s.thing) u s.made)

  zero_less : (z : ℤ) → pos 0 -ℤ z ≡ neg_ℤ z
  zero_less z = omega (arith, ints)

  neg_code : (v u : Value) → negated v ≡ Some u → pos 0 -ℤ code symbols v ≡ code symbols u
  neg_code (Number n) u e = zero_less n ∙ whole_by (fits (neg_ℤ n)) (neg_ℤ n) u e
  neg_code (Boolean b) u e = cc
  neg_code (Symbol s) u e = cc

  pub negated_value : (x : ℤ) (p : Option Value) → Is x p → (u : Value) → and_then p negated ≡ Some u → pos 0 -ℤ x ≡ code symbols u
  negated_value x p hx u e =
      let t = then_some p negated u e in
      ap (λ (z : ℤ). pos 0 -ℤ z) (hx t.thing t.is) ∙ neg_code t.thing u t.made

  -- the second operand of `->`, or the Not of the first
  pub implies_value : (x y : ℤ) (p q : Option Value) → Is x (and_then p logical_not) → Is y q → (u : Value) → of_both (operate op.Implies) p q ≡ Some u → number_of (truth_of x || truth_of y) ≡ code symbols u
  implies_value x y p q hx hy u e =
      let b = both_some (on_truths op.Implies) p q u e in
      let t = both_some (of_truths op.Implies) (truth b.left) (truth b.right) u b.made in
      let not_left : and_then p logical_not ≡ Some (Boolean (not t.left)) = ap (λ (o : Option Value). and_then o logical_not) b.left_is ∙ ap (λ (o : Option Bool). and_then o (λ c. Some (Boolean (not c)))) t.left_is in
      let i : truth_of x ≡ not t.left = ap truth_of (hx (Boolean (not t.left)) not_left) ∙ one_number (not t.left) in
      let j : truth_of y ≡ t.right = ap truth_of (hy b.right b.right_is) ∙ truth_code b.right t.right t.right_is in
      rw (i, j) (known_truth (not t.left || t.right) u t.made)
