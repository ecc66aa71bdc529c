-- The instances of a program, grouped by module.
use Rattle.std.proofs.Common.{◌≡◌, ℕ, ◌+◌, ◌<◌, ◌≤◌, Bool, true, false, ◌&&◌, ◌||◌, List, [], ◌∷◌, ◌++◌, length, get_or, take, map, cond, refl, sym, ap, ◌∙◌}
use Rattle.std.specs.Prelude.{not, filter}
use Rattle.std.specs.List.{list_all}
use Rattle.std.specs.Str.{bytes_eq}
use Rattle.std.proofs.lemmas.List.{take_all}
use Rattle.std.proofs.lemmas.List.Elements.{All-get_or, All-same, All-filter, filter_more}
use Rattle.smv_ast.specs.declared.program.Program.{Program}
use Rattle.smv_meaning.specs.declared.table.InstanceTable.{InstanceTable}
use Rattle.smv_meaning.specs.declared.table.Row.{Row}
use Rattle.smv_meaning.specs.Value.{Name}
use Rattle.smv_meaning.specs.Instances.{instances}
use Rattle.smv_meaning.specs.Checking.{IsTableOfProgram, AreRows, instance_at}
use Rattle.smv_meaning.proofs.ItemIndexLemmas.{called_is}
use Rattle.smv_names.specs.Rows.{RowMap, is_of, rows_under, rows_of, AreRowsByModule}
use Rattle.smv_meaning.specs.InstanceTable.{called_of}
use Rattle.smv_names.specs.declared.rows.RowsByModule.{RowsByModule}
use Rattle.smv_meaning.proofs.NameSetLemmas.{bytes_eq-swapped}

-- each element fails the first test or passes the second exactly where all that pass the first pass
-- the second
pub all_of : {A : Type 0} (p q : A → Bool) (xs : List A) → list_all (λ x. not (p x) || q x) xs ≡ list_all q (filter p xs)
all_of p q [] = refl
all_of {A} p q (x ∷ xs) = at (p x) (all_of p q xs)
  where
    at : (b : Bool) → list_all (λ x. not (p x) || q x) xs ≡ list_all q (filter p xs) → ((not b || q x) && list_all (λ x. not (p x) || q x) xs) ≡ list_all q (cond b (x ∷ filter p xs) (filter p xs))
    at true e = ap (λ b. q x && b) e
    at false e = e

-- a filter before a map and after it
pub filter_mapped : {A B : Type 0} (f : A → B) (p : B → Bool) (xs : List A) → map f (filter (λ x. p (f x)) xs) ≡ filter p (map f xs)
filter_mapped f p [] = refl
filter_mapped {A} {B} f p (x ∷ xs) = at (p (f x)) (filter_mapped f p xs)
  where
    at : (b : Bool) → map f (filter (λ x. p (f x)) xs) ≡ filter p (map f xs) → map f (cond b (x ∷ filter (λ x. p (f x)) xs) (filter (λ x. p (f x)) xs)) ≡ cond b (f x ∷ filter p (map f xs)) (filter p (map f xs))
    at true e = ap (λ (ys : List B). f x ∷ ys) e
    at false e = e

-- ---- modules of instances

-- the numbers of the instances of the module of a name, among these
abbrev pub rows_among : InstanceTable → Name → List ℕ → List ℕ
rows_among table name = filter (λ row. is_of name (instance_at table row))

-- an instance appended to those of its module is one more of those visited
pub one_more : (program : Program) (table : InstanceTable) (order : List ℕ) (k : ℕ) (row : Row) (called : Name) (old new : RowMap) → IsTableOfProgram program table → AreRows table order → k < length order →
    row ≡ get_or table.rows (get_or order k 0) row → called ≡ called_of row.link →
    ((name : Name) → rows_under new name ≡ rows_under old name ++ cond (bytes_eq name called) (get_or order k 0 ∷ []) []) →
    ((name : Name) → rows_under old name ≡ rows_among table name (take k order)) → (name : Name) → rows_under new name ≡ rows_among table name (take (k + 1) order)
one_more program table order k row called old new right within h e c put before name =
    let one : ℕ = get_or order k 0 in
    let here : bytes_eq name called ≡ is_of name (instance_at table one) =
    bytes_eq-swapped name called ∙ ap (λ n. bytes_eq n name) (c ∙ sym (called_is program table one row right (All-get_or (λ row. row < length table.rows) order k 0 h within) e)) in
    put name
    ∙ (ap (λ (rows : List ℕ). rows ++ cond (bytes_eq name called) (one ∷ []) []) (before name)
    ∙ (ap (λ (b : Bool). rows_among table name (take k order) ++ cond b (one ∷ []) []) here
    ∙ sym (filter_more (λ row. is_of name (instance_at table row)) order k 0 h)))

-- once all instances are visited, each module has its instances
pub all_listed : (program : Program) (table : InstanceTable) (order : List ℕ) (k : ℕ) (held : RowsByModule) → AreRows table order → map (instance_at table) order ≡ instances program → length order ≤ k →
    ((name : Name) → rows_of held name ≡ rows_among table name (take k order)) → AreRowsByModule program table held
all_listed program table order k held within exact h before =
    record {
      of_each = λ name. record {
        within = All-same (λ row. row < length table.rows) (rows_of held name) (rows_among table name order) (all name) (All-filter (λ row. is_of name (instance_at table row)) (λ row. row < length table.rows) order within);
        exact = ap (map (instance_at table)) (all name) ∙ (filter_mapped (instance_at table) (is_of name) order ∙ ap (filter (is_of name)) exact);
      };
    }
  where
    all : (name : Name) → rows_of held name ≡ rows_among table name order
    all name = before name ∙ ap (rows_among table name) (take_all k order h)
