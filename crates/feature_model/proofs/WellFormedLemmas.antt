-- The features of a feature model's lines are among its features.
use Rattle.std.proofs.Common.{◌≡◌, ℕ, ◌+◌, ◌<◌, ◌≤◌, List, [], ◌∷◌, length, get_or, sym, subst, arith}
use Rattle.std.specs.Prelude.{All}
use Rattle.std.specs.List.{range_with_len}
use Rattle.std.proofs.lemmas.List.Elements.{All-nil, All-cons, All-weaker}
use Rattle.std.proofs.lemmas.List.FromFn.{length-range_with_len, get_or-range_with_len}
use Rattle.smv_ast.specs.declared.model.ModelLine.{ModelLine}
use Rattle.smv_ast.specs.declared.model.ModelLine.TheVariants.{Group, Constraint}
use Rattle.smv_ast.specs.declared.model.FeatureModel.{FeatureModel}
use Rattle.feature_model.specs.Constraints.{Name}
use Rattle.feature_model.specs.WellFormed.{DeclareRest, IsFeatureModel, IsBelow, FitsSet}

in_range : (count n : ℕ) → All (λ i. i < count + n) (range_with_len count n)
in_range count n k d small = let small' : k < n = omega (arith, length-range_with_len count n) in rw (get_or-range_with_len count n k d small') (omega arith)

pub declared_last : (names : List Name) (count : ℕ) (lines : List ModelLine) → DeclareRest names count lines → count ≤ length names
declared_last names count [] h = omega arith
declared_last names count (Group kind parent children ∷ more) h = let e = declared_last names (count + length children) more h.3 in omega (arith, e)
declared_last names count (Constraint e ∷ more) h = declared_last names count more h.1

pub all_declared : (names : List Name) (count : ℕ) (lines : List ModelLine) → DeclareRest names count lines → All (IsBelow (length names)) lines
all_declared names count [] h = All-nil (IsBelow (length names))
all_declared names count (Group kind parent children ∷ more) h =
    let last = declared_last names (count + length children) more h.3 in
    All-cons (IsBelow (length names)) (Group kind parent children) more (
      (let below : parent < length names = omega (arith, h.0, last) in below),
      All-weaker (λ i. i < count + length children) (λ i. i < length names) (λ i small. omega (arith, last)) children (subst (All (λ i. i < count + length children)) (sym h.2) (in_range count (length children))),
    )
    (all_declared names (count + length children) more h.3)
all_declared names count (Constraint e ∷ more) h = All-cons (IsBelow (length names)) (Constraint e) more tt (all_declared names count more h.1)

below_more : (few : ℕ) (many : ℕ) → few ≤ many → (line : ModelLine) → IsBelow few line → IsBelow many line
below_more few many more (Group kind parent children) h = (omega (arith, h.0), All-weaker (λ i. i < few) (λ i. i < many) (λ i small. omega arith) children h.1)
below_more few many more (Constraint e) h = tt

pub model_fits : (model : FeatureModel) → IsFeatureModel model → FitsSet model
model_fits model h = record {
  few = h.few;
  lines = All-weaker (IsBelow (length model.names)) (IsBelow 64) (below_more (length model.names) 64 h.few) model.lines (all_declared model.names 1 model.lines h.lines);
}

-- the root is a feature
pub root_there : (model : FeatureModel) (names : List Name) → names ≡ model.names → IsFeatureModel model → 0 < length names
root_there model names e h = subst (λ ns. 0 < length ns) (sym e) (declared_last model.names 1 model.lines h.lines)

-- the features of the line at an index are features of the model
pub line_below : (model : FeatureModel) (names : List Name) (items : List ModelLine) → names ≡ model.names → items ≡ model.lines → IsFeatureModel model → (i : ℕ) (line : ModelLine) → i < length items → line ≡ get_or items i line → IsBelow (length names) line
line_below model names items e e' h i line small is =
    let all : All (IsBelow (length names)) items = subst (λ ns. All (IsBelow (length ns)) items) (sym e) (subst (All (IsBelow (length model.names))) (sym e') (all_declared model.names 1 model.lines h.lines)) in
    subst (IsBelow (length names)) (sym is) (all i line small)
