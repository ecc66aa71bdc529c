-- The feature model of a text without faults is well formed.
use Rattle.std.proofs.Common.{◌≡◌, ◌≢◌, ℕ, suc, ◌+◌, ◌<◌, ◌≤◌, Bool, true, false, ◌||◌, cond, List, [], ◌∷◌, ◌++◌, length, length-append, append_assoc, append-nil, get_or, take, Some, None, is_some, refl, sym, ◌∙◌, ap, subst, arith}
use Rattle.std.specs.Prelude.{AllPairs, nat_lt}
use Rattle.std.specs.List.{flat_map, list_all, list_any, range_with_len}
use Rattle.std.specs.Str.{bytes_eq}
use Rattle.std.proofs.Math.Seq.{take-append_seam}
use Rattle.std.proofs.lemmas.Bool.Decides.{nat_tests}
use Rattle.std.proofs.lemmas.List.Folds.{list_any_at}
use Rattle.std.proofs.lemmas.List.FromFn.{length-range_with_len}
use Rattle.std.proofs.lemmas.List.Quantifiers.{all_pairs_push}
use Rattle.std.proofs.lemmas.List.Sums.{fold-append}
use Rattle.std.proofs.lemmas.Slice.Eq.{bytes_eq-Decides}
use Rattle.smv_ast.specs.declared.syntax.Expr.{Expr}
use Rattle.smv_ast.specs.declared.fault.Fault.TheVariants as fault
use Rattle.feature_model.specs.Constraints.{Name, feature_of}
use Rattle.feature_model.specs.WellFormed.{is_constraint, DeclareRest, IsFeatureModel}
use Rattle.feature_model.specs.Propositional.{is_propositional}
use Rattle.feature_model.specs.NameSets.{no_name, and_name, and_names}
use Rattle.feature_model.specs.NameFaults.{names_of, declared_by, declared_names, is_reserved, use_fault, declaration_fault, declarations_fault, formula_fault, line_fault, lines_fault, names_fault, count_fault, text_fault}
use Rattle.feature_model.specs.ModelOfText.{or_root, numbered, model_of}
use Rattle.feature_model.specs.declared.text.FeatureName.{FeatureName}
use Rattle.feature_model.specs.declared.text.TextLine.{TextLine}
use Rattle.feature_model.specs.declared.text.TextLine.TheVariants.{Group, Constraint}
use Rattle.feature_model.specs.declared.text.ModelText.{ModelText}
use Rattle.feature_model.proofs.FormulaNames.{both_true, no_first, is_known, formula_known}
use Rattle.feature_model.proofs.NameSetLemmas.{bytes_eq-swapped}
use Rattle.feature_model.proofs.NumberingLemmas.{number_known, number_kept}

-- ---- what a line may be: a constraint is propositional, and a group has a child

abbrev pub has_some : {A : Type 0} → List A → Bool
has_some [] = false
has_some (a ∷ more) = true

abbrev pub is_sound_line : TextLine → Bool
is_sound_line (Group kind parent children) = has_some children
is_sound_line (Constraint e) = is_propositional e

some_names : (children : List FeatureName) → has_some children ≡ true → 0 < length (names_of children)
some_names [] h = let bad : false ≡ true = h in cc
some_names (f ∷ more) h = omega arith

same_count : (children : List FeatureName) → length (names_of children) ≡ length children
same_count [] = refl
same_count (f ∷ more) = ap suc (same_count more)

-- ---- names that are declared

any_or : (a b c : Bool) → ((a || b) || c) ≡ (a || (b || c))
any_or true b c = refl
any_or false b c = refl

or_false : (a : Bool) → a ≡ (a || false)
or_false true = refl
or_false false = refl

among : (declared : Name → Bool) (names : List Name) (name : Name) → and_names declared names name ≡ (declared name || list_any (λ n. bytes_eq n name) names)
among declared [] name = or_false (declared name)
among declared (n ∷ names) name = among (and_name declared n) names name
    ∙ ap (λ v. (declared name || v) || list_any (λ n. bytes_eq n name) names) (bytes_eq-swapped name n)
    ∙ any_or (declared name) (bytes_eq n name) (list_any (λ n. bytes_eq n name) names)

-- the names that stand in the list
abbrev Seen : List Name → Name → Bool
Seen names = and_names no_name names

seen_more : (names more : List Name) → and_names (Seen names) more ≡ Seen (names ++ more)
seen_more names more = sym (fold-append and_name no_name names more)

-- ---- no name is declared twice

not_declared : (declared : Name → Bool) (f : FeatureName) → declaration_fault declared f ≡ None → declared f.name ≡ false
not_declared declared f h = by_tests (is_reserved f.name) (declared f.name) h where
  by_tests : (v w : Bool) → cond v (Some (fault.ReservedName (Some f.at) f.name)) (cond w (Some (fault.DuplicateFeature (Some f.at) f.name)) None) ≡ None → w ≡ false
  by_tests true w e = cc
  by_tests false true e = cc
  by_tests false false e = refl

other_name : (names : List Name) (name : Name) → Seen names name ≡ false → (k : ℕ) (d : Name) → k < length names → get_or names k d ≢ name
other_name names name h k d small e =
    let there : list_any (λ n. bytes_eq n name) names ≡ true = list_any_at (λ n. bytes_eq n name) names k d small ((bytes_eq-Decides (get_or names k d) name).1 e) in
    let both : true ≡ false = sym there ∙ sym (among no_name names name) ∙ h in cc

distinct_children : (names : List Name) (children : List FeatureName) → declarations_fault (Seen names) children ≡ None → AllPairs ◌≢◌ names → AllPairs ◌≢◌ (names ++ names_of children)
distinct_children names [] h k = subst (λ (ns : List Name). AllPairs ◌≢◌ ns) (sym (append-nil names)) k
distinct_children names (f ∷ more) h k =
    let parts = no_first (declaration_fault (Seen names) f) (declarations_fault (and_name (Seen names) f.name) more) h in
    let pushed : AllPairs ◌≢◌ (names ++ f.name ∷ []) = all_pairs_push ◌≢◌ names f.name k (other_name names f.name (not_declared (Seen names) f parts.0)) in
    let rest : declarations_fault (Seen (names ++ f.name ∷ [])) more ≡ None = subst (λ (d : Name → Bool). declarations_fault d more ≡ None) (seen_more names (f.name ∷ [])) parts.1 in
    subst (λ (ns : List Name). AllPairs ◌≢◌ ns) (append_assoc names (f.name ∷ []) (names_of more)) (distinct_children (names ++ f.name ∷ []) more rest pushed)

distinct_line : (names : List Name) (line : TextLine) → line_fault (Seen names) line ≡ None → AllPairs ◌≢◌ names → AllPairs ◌≢◌ (names ++ declared_by line)
distinct_line names (Group kind parent children) h k = distinct_children names children (no_first (use_fault (Seen names) parent.name parent.at) (declarations_fault (Seen names) children) h).1 k
distinct_line names (Constraint e) h k = subst (λ (ns : List Name). AllPairs ◌≢◌ ns) (sym (append-nil names)) k

-- the lines behind the first, with the features that it declares
lines_rest : (names : List Name) (line : TextLine) (more : List TextLine) → lines_fault (and_names (Seen names) (declared_by line)) more ≡ None → lines_fault (Seen (names ++ declared_by line)) more ≡ None
lines_rest names line more h = subst (λ (d : Name → Bool). lines_fault d more ≡ None) (seen_more names (declared_by line)) h

distinct_lines : (names : List Name) (lines : List TextLine) → lines_fault (Seen names) lines ≡ None → AllPairs ◌≢◌ names → AllPairs ◌≢◌ (names ++ flat_map declared_by lines)
distinct_lines names [] h k = subst (λ (ns : List Name). AllPairs ◌≢◌ ns) (sym (append-nil names)) k
distinct_lines names (line ∷ more) h k =
    let parts = no_first (line_fault (Seen names) line) (lines_fault (and_names (Seen names) (declared_by line)) more) h in
    subst (λ (ns : List Name). AllPairs ◌≢◌ ns) (append_assoc names (declared_by line) (flat_map declared_by more))
    (distinct_lines (names ++ declared_by line) more (lines_rest names line more parts.1) (distinct_line names line parts.0 k))

-- ---- the lines declare the features, in order

seen_known : (names : List Name) (name : Name) → Seen names name ≡ true → is_some (feature_of names name) ≡ true
seen_known names name h = number_known names name (sym (among no_name names name) ∙ h)

constraint_of : (seen more : List Name) (e : Expr) → is_propositional e ≡ true → formula_fault (Seen seen) e ≡ None → is_constraint (take (length seen) (seen ++ more)) e ≡ true
constraint_of seen more e h k = subst (λ (ns : List Name). is_constraint ns e ≡ true) (sym (take-append_seam seen more)) (formula_known seen (Seen seen) (seen_known seen) e h k)

declare_rest : (all seen : List Name) (count : ℕ) (lines : List TextLine) → count ≡ length seen → all ≡ seen ++ flat_map declared_by lines → list_all is_sound_line lines ≡ true → lines_fault (Seen seen) lines ≡ None
    → DeclareRest all count (numbered all count lines)
declare_rest all seen count [] c e s h = c ∙ ap length (sym (e ∙ append-nil seen))
declare_rest all seen count (Group kind parent children ∷ more) c e s h =
    let sound = both_true (has_some children) (list_all is_sound_line more) s in
    let parts = no_first (line_fault (Seen seen) (Group kind parent children)) (lines_fault (and_names (Seen seen) (names_of children)) more) h in
    let used = is_known (Seen seen parent.name) (fault.UnknownFeature (Some parent.at) parent.name) (no_first (use_fault (Seen seen) parent.name parent.at) (declarations_fault (Seen seen) children) parts.0).0 in
    let small : or_root (feature_of all parent.name) < count = subst (λ (ns : List Name). or_root (feature_of ns parent.name) < count) (sym e)
    (omega (arith, c, number_kept seen (names_of children ++ flat_map declared_by more) parent.name (sym (among no_name seen parent.name) ∙ used))) in
    let len = length-range_with_len count (length children) in
    let some : 0 < length (range_with_len count (length children)) = omega (arith, len, same_count children, some_names children sound.0) in
    let next : DeclareRest all (count + length (names_of children)) (numbered all (count + length (names_of children)) more) = declare_rest all (seen ++ names_of children) (count + length (names_of children)) more
    (omega (arith, c, length-append seen (names_of children))) (e ∙ sym (append_assoc seen (names_of children) (flat_map declared_by more))) sound.1 (lines_rest seen (Group kind parent children) more parts.1) in
    let shifted : DeclareRest all (count + length (range_with_len count (length children))) (numbered all (count + length (names_of children)) more) =
    subst (λ n. DeclareRest all (count + n) (numbered all (count + length (names_of children)) more)) (same_count children ∙ sym len) next in
    (small, some, ap (λ n. range_with_len count n) (sym len), shifted)
declare_rest all seen count (Constraint x ∷ more) c e s h =
    let sound = both_true (is_propositional x) (list_all is_sound_line more) s in
    let parts = no_first (formula_fault (Seen seen) x) (lines_fault (Seen seen) more) h in
    let here : is_constraint (take count all) x ≡ true = subst (λ n. is_constraint (take n all) x ≡ true) (sym c) (subst (λ (ns : List Name). is_constraint (take (length seen) ns) x ≡ true) (sym e) (constraint_of seen (flat_map declared_by more) x sound.0 parts.0)) in
    let same : count + 0 ≡ count = omega arith in
    (here, subst (λ n. DeclareRest all count (numbered all n more)) (sym same) (declare_rest all seen count more c e sound.1 parts.1))

-- ---- whole texts

few : (n : ℕ) → count_fault n ≡ None → n ≤ 64
few n h = by_test (nat_lt 64 n) refl h where
  by_test : (v : Bool) → nat_lt 64 n ≡ v → cond v (Some (fault.TooManyFeatures None n)) None ≡ None → n ≤ 64
  by_test true e k = cc
  by_test false e k = grind (arith, nat_tests)

pub well_formed : (t : ModelText) → list_all is_sound_line t.lines ≡ true → text_fault t ≡ None → IsFeatureModel (model_of t)
well_formed t sound h =
    let parts = no_first (names_fault t) (count_fault (length (declared_names t))) h in
    let names = no_first (declaration_fault no_name t.root) (lines_fault (and_name no_name t.root.name) t.lines) parts.0 in
    record {
      few = few (length (declared_names t)) parts.1;
      distinct = distinct_lines (t.root.name ∷ []) t.lines names.1 (all_pairs_push ◌≢◌ [] t.root.name (λ i j d before small. absurd (omega arith)) (λ k d small. absurd (omega arith)));
      lines = declare_rest (declared_names t) (t.root.name ∷ []) 1 t.lines refl refl sound names.1;
    }
