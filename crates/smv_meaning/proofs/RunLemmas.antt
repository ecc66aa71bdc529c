-- The check of runs by number is the check of runs of the program.
use Rattle.std.proofs.Common.{◌≡◌, ℕ, zero, suc, ◌+◌, ◌<◌, Bool, true, false, List, [], ◌∷◌, ◌++◌, length, map, drop, get_or, Option, Some, None, refl, sym, ap, ◌∙◌, subst, arith, codes, inl, inr, append_assoc, cond}
use Rattle.std.proofs.lemmas.Option.{slice_get_within}
use Rattle.std.specs.Prelude.{slice_get, find, All}
use Rattle.std.specs.Str.{bytes_eq}
use Rattle.smv_ast.specs.declared.program.Program.{Program}
use Rattle.smv_meaning.specs.declared.table.InstanceTable.{InstanceTable}
use Rattle.smv_meaning.specs.declared.table.Row.{Row}
use Rattle.smv_meaning.specs.declared.table.Link.{Link}
use Rattle.smv_meaning.specs.Value.{Name}
use Rattle.std.specs.Option.{option_map}
use Rattle.smv_ast.specs.declared.syntax.Span.{Span}
use Rattle.smv_meaning.specs.declared.valuation.RunContext.{RunContext}
use Rattle.smv_meaning.specs.declared.met_items.ValuedState.{ValuedState}
use Rattle.smv_meaning.specs.Runs.{path_text, first_fault, or_else, broken_at, first_broken, answer_from, written_state}
use Rattle.smv_meaning.specs.Items.{items}
use Rattle.smv_meaning.specs.MetItems.{state_in, IsValued, true_in}
use Rattle.smv_meaning.specs.Value.{is_true}
use Rattle.smv_meaning.specs.Values.{value_in}
use Rattle.smv_ast.specs.declared.syntax.Expr.{Expr}
use Rattle.smv_meaning.specs.Instances.{Instance, module_at, instances, instance_text, path_of}
use Rattle.smv_meaning.specs.InstanceTable.{instance_of_link, nth_instance, row_instances}
use Rattle.smv_meaning.specs.Valuation.{AreLinked, ArePathTexts}
use Rattle.smv_ast.specs.PrintedExpr.{joined, each_after}
use Rattle.std.proofs.lemmas.List.{append-nil}
use Rattle.smv_meaning.specs.Checking.{AreRows, instance_at, IsValuationOf}
use Rattle.smv_meaning.specs.RunCheck.{broken_in_order, AreTables, text_of_instance, named_in, context_holds}
use Rattle.smv_meaning.proofs.ValuationLemmas.{get_item}
use Rattle.smv_meaning.proofs.InstanceTableLemmas.{get_append, get_last, below_or}
use Rattle.smv_meaning.proofs.NumberLemmas.{get_at}
use Rattle.smv_meaning.specs.declared.run.RunAnswer.{RunAnswer}
use Rattle.smv_meaning.specs.declared.run.RunAnswer.TheVariants as answer
use Rattle.smv_meaning.specs.declared.value.Value.{Value}
use Rattle.smv_meaning.specs.declared.run.RunState.{RunState}

-- ---- the first broken item

pub first_mapped : {A B C : Type 0} (f : B → Option C) (g : A → B) (xs : List A) → first_fault f (map g xs) ≡ first_fault (λ x. f (g x)) xs
first_mapped f g [] = refl
first_mapped f g (x ∷ xs) = ap (or_else (f (g x))) (first_mapped f g xs)

-- the first broken item by number is that of the program
pub broken_is : (context : RunContext) (before : Option ValuedState) (now : ValuedState) (order : List ℕ) → map (instance_at context.table) order ≡ instances context.program.now →
    broken_in_order context before now order ≡ first_broken context.program.now (option_map state_in before) (state_in now)
broken_is context before now order e =
    let f : Instance → Option Span = λ instance. first_fault (broken_at context.program.now (option_map state_in before) (state_in now) instance) (items (module_at context.program.now instance)) in
    sym (first_mapped f (instance_at context.table) order) ∙ ap (first_fault f) e

-- ---- tables

-- the valuations of the first so many states
abbrev pub FirstTables : RunContext → List RunState → List (List (Option Value)) → ℕ → Type 0
FirstTables context states tables n = (k : ℕ) (state : RunState) → k < n → slice_get states k ≡ Some state → (solution : List (Option Value)) × (slice_get tables k ≡ Some solution) × IsValuationOf context state solution

pub tables_more : (context : RunContext) (states : List RunState) (tables tables' : List (List (Option Value))) (n : ℕ) (state : RunState) (solution : List (Option Value)) → slice_get states n ≡ Some state → length tables ≡ n → tables' ≡ tables ++ solution ∷ [] → IsValuationOf context state solution →
    FirstTables context states tables n → FirstTables context states tables' (n + 1)
tables_more context states tables tables' n state solution e l p is_of first k state' below g = elim (below_or k n below) [ inl h ↦ old h | inr h ↦ new h ]
  where
    old : k < n → (t : List (Option Value)) × (slice_get tables' k ≡ Some t) × IsValuationOf context state' t
    old h = let f = first k state' h g in (f.0, ap (λ (xs : List (List (Option Value))). slice_get xs k) p ∙ get_append tables (solution ∷ []) k f.0 f.1, f.2)

    new : k ≡ n → (t : List (Option Value)) × (slice_get tables' k ≡ Some t) × IsValuationOf context state' t
    new h =
        let same : state ≡ state' = cc (subst (λ (x : ℕ). slice_get states x ≡ Some state') h g) in
        (solution, ap (λ (xs : List (List (Option Value))). slice_get xs k) p ∙ get_last tables solution k (h ∙ sym l), subst (λ (x : RunState). IsValuationOf context x solution) same is_of)

-- ---- the answer

abbrev pub Tail : Program → ℕ → Option ValuedState → List RunState → ℕ → RunAnswer
Tail program step before states k = answer_from program step (option_map state_in before) (map written_state (drop k states))

pub drop_get : {A : Type 0} (xs : List A) (k : ℕ) (x : A) → slice_get xs k ≡ Some x → drop k xs ≡ x ∷ drop (k + 1) xs
drop_get [] k x e = cc
drop_get (y ∷ ys) zero x e = let s : y ≡ x = cc in ap (λ z. z ∷ ys) s
drop_get (y ∷ ys) (suc k) x e = let s : suc k + 1 ≡ suc (k + 1) = omega arith in rw s (drop_get ys k x e)

next_answer : (program : Program) (step : ℕ) (before : Option ValuedState) (states : List RunState) (k : ℕ) (state : RunState) → slice_get states k ≡ Some state →
    Tail program step before states k ≡ elim (first_broken program (option_map state_in before) (written_state state)) as (λ o. RunAnswer) [ Some at ↦ answer.Breaks step at | None ↦ answer_from program (suc step) (Some (written_state state)) (map written_state (drop (k + 1) states)) ]
next_answer program step before states k state e = ap (λ xs. answer_from program step (option_map state_in before) (map written_state xs)) (drop_get states k state e)

pub answer_breaks : (program : Program) (step : ℕ) (before : Option ValuedState) (now : ValuedState) (states : List RunState) (k : ℕ) (at : Span) → slice_get states k ≡ Some now.written.now →
    Some at ≡ first_broken program (option_map state_in before) (state_in now) → answer.Breaks step at ≡ Tail program step before states k
answer_breaks program step before now states k at e b =
    sym (next_answer program step before states k now.written.now e
    ∙ ap (λ (o : Option Span). elim o as (λ o. RunAnswer) [ Some at ↦ answer.Breaks step at | None ↦ answer_from program (suc step) (Some (state_in now)) (map written_state (drop (k + 1) states)) ]) (sym b))

pub answer_goes : (program : Program) (step : ℕ) (before : Option ValuedState) (now : ValuedState) (states : List RunState) (k : ℕ) → slice_get states k ≡ Some now.written.now →
    None ≡ first_broken program (option_map state_in before) (state_in now) → Tail program (step + 1) (Some now) states (k + 1) ≡ Tail program step before states k
answer_goes program step before now states k e b =
    let s : step + 1 ≡ suc step = omega arith in
    ap (λ (n : ℕ). answer_from program n (Some (state_in now)) (map written_state (drop (k + 1) states))) s
    ∙ sym (next_answer program step before states k now.written.now e
    ∙ ap (λ (o : Option Span). elim o as (λ o. RunAnswer) [ Some at ↦ answer.Breaks step at | None ↦ answer_from program (suc step) (Some (state_in now)) (map written_state (drop (k + 1) states)) ]) (sym b))

pub is_valued : (context : RunContext) (valued : ValuedState) (states : List RunState) (tables : List (List (Option Value))) (k : ℕ) → AreTables context states tables → slice_get states k ≡ Some valued.written.now → slice_get tables k ≡ Some valued.solution.now → IsValued context valued
is_valued context valued states tables k are e f =
    let t = are k valued.written.now e in
    let same : t.0 ≡ valued.solution.now = cc (t.1, f) in
    subst (λ (solution : List (Option Value)). IsValuationOf context valued.written.now solution) same t.2

pub table_within : (context : RunContext) (states : List RunState) (tables : List (List (Option Value))) (k : ℕ) → AreTables context states tables → k < length states → k < length tables
table_within context states tables k are h = let s = get_at states k h in let t = are k s.0 s.1 in slice_get_within tables k t.0 t.1

-- ---- instances by their texts

instance_text_below : (ps : List Instance) (link : Option Link) → instance_text (instance_of_link ps link) ≡ text_of_instance link (path_text (path_of (instance_of_link ps link)))
instance_text_below ps None = append-nil (codes "main")
instance_text_below ps (Some link) = at (path_of (nth_instance ps link.outer))
  where
    at : (xs : List Name) → joined (codes ".") (codes "main" ∷ (xs ++ link.name.now ∷ [])) ≡ codes "main" ++ codes "." ++ path_text (xs ++ link.name.now ∷ [])
    at [] = sym (append_assoc (codes "main") (codes ".") (link.name.now ++ []))
    at (x ∷ xs) = sym (append_assoc (codes "main") (codes ".") (x ++ each_after (codes ".") (xs ++ link.name.now ∷ [])))

pub instance_text_is : (table : InstanceTable) (texts : List (List ℕ)) (k : ℕ) (row : Row) → AreLinked table.rows → slice_get table.rows k ≡ Some row → instance_text (instance_at table k) ≡ text_of_instance row.link (path_text (path_of (instance_at table k)))
instance_text_is table texts k row linked e =
    let s = (linked k row e).instance_at in
    subst (λ (p : Instance). instance_text p ≡ text_of_instance row.link (path_text (path_of p))) (sym s) (instance_text_below (row_instances table.rows) row.link)

-- the text of the instance of a row
pub row_text_is : (table : InstanceTable) (texts : List (List ℕ)) (k : ℕ) (row : Row) (text : List ℕ) → AreLinked table.rows → ArePathTexts table.rows texts → k < length table.rows → row ≡ get_or table.rows k row → text ≡ get_or texts k text
    → text_of_instance row.link text ≡ instance_text (instance_at table k)
row_text_is table texts k row text linked is_of h e f =
    let at = get_item table.rows k row h e in
    let reported = is_of k row at in
    let here = get_item texts k text (slice_get_within texts k _ reported) f in
    let same : text ≡ path_text (path_of (instance_at table k)) = cc (here, reported) in
    ap (text_of_instance row.link) same ∙ sym (instance_text_is table texts k row linked at)

find_mapped : (p : Instance → Bool) (f : ℕ → Instance) (xs : List ℕ) → find p (map f xs) ≡ option_map f (find (λ x. p (f x)) xs)
find_mapped p f [] = refl
find_mapped p f (x ∷ xs) = at (find_mapped p f xs) (p (f x))
  where
    at : find p (map f xs) ≡ option_map f (find (λ x. p (f x)) xs) → (b : Bool) → cond b (Some (f x)) (find p (map f xs)) ≡ option_map f (cond b (Some x) (find (λ x. p (f x)) xs))
    at h true = refl
    at h false = h

found_below : (q : ℕ → Bool) (xs : List ℕ) (n r : ℕ) → All (λ row. row < n) xs → find q xs ≡ Some r → r < n
found_below q [] n r all e = cc
found_below q (x ∷ xs) n r all e = at (found_below q xs n r (λ k d h. all (suc k) d (omega arith))) (q x) e
  where
    at : (find q xs ≡ Some r → r < n) → (b : Bool) → cond b (Some x) (find q xs) ≡ Some r → r < n
    at more true e = let s : x ≡ r = cc in subst (λ (y : ℕ). y < n) s (all 0 0 (omega arith))
    at more false e = more e

pub row_below : (table : InstanceTable) (order : List ℕ) (text : List ℕ) (row : ℕ) → AreRows table order → named_in table text order ≡ Some row → row < length table.rows
row_below table order text row rows e = found_below (λ row. bytes_eq (instance_text (instance_at table row)) text) order (length table.rows) row rows e

holds_is : (context : RunContext) (valued : ValuedState) (e : Expr) (text : List ℕ) (order : List ℕ) (o : Option ℕ) → map (instance_at context.table) order ≡ instances context.program.now → named_in context.table text order ≡ o →
    elim (option_map (instance_at context.table) o) as (λ q. Bool) [ None ↦ false | Some instance ↦ is_true (value_in context.program.now (state_in valued) (state_in valued) instance e) ] ≡ context_holds context valued e text
holds_is context valued e text order o same named =
    ap (λ (q : Option Instance). elim q as (λ q. Bool) [ None ↦ false | Some instance ↦ is_true (value_in context.program.now (state_in valued) (state_in valued) instance e) ])
    (ap (option_map (instance_at context.table)) (sym named) ∙ (sym (find_mapped (λ instance. bytes_eq (instance_text instance) text) (instance_at context.table) order) ∙ ap (find (λ instance. bytes_eq (instance_text instance) text)) same))

pub holds_some : (context : RunContext) (valued : ValuedState) (e : Expr) (text : List ℕ) (order : List ℕ) (row : ℕ) → map (instance_at context.table) order ≡ instances context.program.now → named_in context.table text order ≡ Some row → true_in context row valued valued e ≡ context_holds context valued e text
holds_some context valued e text order row = holds_is context valued e text order (Some row)

pub holds_none : (context : RunContext) (valued : ValuedState) (e : Expr) (text : List ℕ) (order : List ℕ) → map (instance_at context.table) order ≡ instances context.program.now → named_in context.table text order ≡ None → false ≡ context_holds context valued e text
holds_none context valued e text order = holds_is context valued e text order None
