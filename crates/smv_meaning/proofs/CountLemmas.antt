-- The number of instances of a program, while the instance table is filled.
use Rattle.std.proofs.Common.{◌≡◌, ℕ, zero, suc, ◌+◌, ◌-◌, ◌<◌, ◌≤◌, Bool, true, false, List, [], ◌∷◌, ◌++◌, length, drop, Option, Some, None, refl, sym, ap, ◌∙◌, arith, length-append, append_assoc, nat_lt}
use Rattle.std.specs.Prelude.{slice_get, if◌then◌else◌}
use Rattle.std.specs.List.{flat_map}
use Rattle.std.proofs.lemmas.List.{append-nil, drop-append-le}
use Rattle.std.proofs.lemmas.List.Sums.{fold_push}
use Rattle.std.proofs.lemmas.Bool.{le-ltb}
use Rattle.smv_ast.specs.declared.program.Program.{Program}
use Rattle.smv_meaning.specs.declared.table.Row.{Row}
use Rattle.smv_meaning.specs.declared.table.Link.{Link}
use Rattle.smv_meaning.specs.Value.{Name}
use Rattle.smv_meaning.specs.Instances.{Entity, Variable, Inner, Defined, Formal, Entry, Instance, Main, Within, entries, module_at, depth_of, goes_deeper, inner_of, inner_instances, subtree, instances}
use Rattle.smv_meaning.specs.InstanceTable.{instance_of_link, nth_instance, row_instances, called_by, Extends, AddsInner}
use Rattle.smv_meaning.proofs.InstanceTableLemmas.{length-row_instances, kept_instance}
use Rattle.smv_meaning.proofs.OrderLemmas.{flat_next, drop_past}

-- ---- appended rows

pub instances_push : (rows : List Row) (row : Row) → row_instances (rows ++ row ∷ []) ≡ row_instances rows ++ instance_of_link (row_instances rows) row.link ∷ []
instances_push rows row = fold_push (λ ps row. ps ++ instance_of_link ps row.link ∷ []) [] rows row

-- the instance that an entry declares, by the name of its module
abbrev inner_instances_of : Instance → Name → Option Name → List Instance
inner_instances_of p name None = []
inner_instances_of p name (Some called) = Within p name called ∷ []

inner_called : (program : Program) (p : Instance) (name : Name) (m : Entity) (deeper : Bool) → goes_deeper program p ≡ deeper → inner_of program p name m ≡ inner_instances_of p name (called_by deeper m)
inner_called program p name (Variable t) deeper e = refl
inner_called program p name (Inner called actuals) true e = ap (λ (b : Bool). if b then Within p name called ∷ [] else []) e
inner_called program p name (Inner called actuals) false e = ap (λ (b : Bool). if b then Within p name called ∷ [] else []) e
inner_called program p name (Defined right) deeper e = refl
inner_called program p name (Formal k) deeper e = refl

-- an entity that declares no instance adds no row
pub inner_none : (program : Program) (rows : List Row) (r : ℕ) (e : Entry) (deeper : Bool) → goes_deeper program (nth_instance (row_instances rows) r) ≡ deeper → called_by deeper e.entity ≡ None → AddsInner program r (e ∷ []) rows rows
inner_none program rows r e deeper d c =
    sym (append-nil (row_instances rows)) ∙ ap (λ (ps : List Instance). row_instances rows ++ (ps ++ [])) (sym (inner_called program (nth_instance (row_instances rows) r) e.name e.entity deeper d ∙ ap (inner_instances_of (nth_instance (row_instances rows) r) e.name) c))

-- an entity that declares an instance adds its row
pub inner_one : (program : Program) (rows : List Row) (r : ℕ) (e : Entry) (deeper : Bool) (child : Row) (link : Link) → goes_deeper program (nth_instance (row_instances rows) r) ≡ deeper → child.link ≡ Some link → link.outer ≡ r → link.name.now ≡ e.name →
    called_by deeper e.entity ≡ Some link.called.now → AddsInner program r (e ∷ []) rows (rows ++ child ∷ [])
inner_one program rows r e deeper child link d l o n c =
    instances_push rows child ∙ ap (λ (ps : List Instance). row_instances rows ++ ps)
    (ap (λ (x : Option Link). instance_of_link (row_instances rows) x ∷ []) l
    ∙ (ap (λ (k : ℕ). Within (nth_instance (row_instances rows) k) link.name.now link.called.now ∷ []) o
    ∙ (ap (λ (x : Name). Within (nth_instance (row_instances rows) r) x link.called.now ∷ []) n
    ∙ sym (append-nil _ ∙ (inner_called program (nth_instance (row_instances rows) r) e.name e.entity deeper d ∙ ap (inner_instances_of (nth_instance (row_instances rows) r) e.name) c)))))

-- the rows that each name adds are the rows that the names add together
pub inner_more : (program : Program) (old rows rows' : List Row) (r k : ℕ) (es : List Entry) (e : Entry) → Extends old rows → r < length old → slice_get es k ≡ Some e → AddsInner program r (e ∷ []) rows rows' →
    row_instances rows ++ flat_map (λ e. inner_of program (nth_instance (row_instances old) r) e.name e.entity) (drop k es) ≡ row_instances old ++ flat_map (λ e. inner_of program (nth_instance (row_instances old) r) e.name e.entity) es →
    row_instances rows' ++ flat_map (λ e. inner_of program (nth_instance (row_instances old) r) e.name e.entity) (drop (k + 1) es) ≡ row_instances old ++ flat_map (λ e. inner_of program (nth_instance (row_instances old) r) e.name e.entity) es
inner_more program old rows rows' r k es e x h at added before =
    ap (λ (ps : List Instance). ps ++ flat_map inner (drop (k + 1) es)) (added ∙ ap (λ (p : Instance). row_instances rows ++ flat_map (λ e. inner_of program p e.name e.entity) (e ∷ [])) same)
    ∙ (append_assoc (row_instances rows) (flat_map inner (e ∷ [])) (flat_map inner (drop (k + 1) es))
    ∙ (ap (λ (ps : List Instance). row_instances rows ++ (ps ++ flat_map inner (drop (k + 1) es))) (append-nil (inner e))
    ∙ (ap (λ (ps : List Instance). row_instances rows ++ ps) (sym (flat_next inner es k e at)) ∙ before)))
  where
    inner : Entry → List Instance
    inner e = inner_of program (nth_instance (row_instances old) r) e.name e.entity

    same : nth_instance (row_instances rows) r ≡ nth_instance (row_instances old) r
    same = ap (λ (rs : List Row). nth_instance (row_instances rs) r) x.1 ∙ kept_instance old x.0 r h

-- ---- the number of instances

-- the number of instances in a subtree
abbrev pub below : Program → Instance → ℕ
below program p = length (subtree (length program.modules - depth_of p) program p)

-- the number of instances in these subtrees
abbrev pub weight : Program → List Instance → ℕ
weight program [] = 0
weight program (p ∷ ps) = below program p + weight program ps

weight_append : (program : Program) (ps qs : List Instance) → weight program (ps ++ qs) ≡ weight program ps + weight program qs
weight_append program [] qs = omega arith
weight_append program (p ∷ ps) qs = omega (arith, weight_append program ps qs)

not_deeper : (a b : ℕ) → b - a ≡ 0 → nat_lt a b ≡ false
not_deeper a b e = le-ltb a b (omega arith)

-- an instance with nothing below it declares no instance
none_inner : (program : Program) (p : Instance) → goes_deeper program p ≡ false → (es : List Entry) → flat_map (λ e. inner_of program p e.name e.entity) es ≡ []
none_inner program p d [] = refl
none_inner program p d (e ∷ es) =
    ap (λ (ps : List Instance). ps ++ flat_map (λ e. inner_of program p e.name e.entity) es) (inner_called program p e.name e.entity false d ∙ none e.entity) ∙ none_inner program p d es
  where
    none : (m : Entity) → inner_instances_of p e.name (called_by false m) ≡ []
    none (Variable t) = refl
    none (Inner called actuals) = refl
    none (Defined right) = refl
    none (Formal k) = refl

-- the weight of the instance that a name declares is the size of its subtree
one_inner : (program : Program) (p : Instance) (d : ℕ) (name : Name) (m : Entity) → length program.modules - depth_of p ≡ suc d → length (flat_map (subtree d program) (inner_of program p name m)) ≡ weight program (inner_of program p name m)
one_inner program p d name m e = at (goes_deeper program p) m refl
  where
    less : length program.modules - suc (depth_of p) ≡ d
    less = omega arith

    one : (called : Name) → length (subtree d program (Within p name called) ++ []) ≡ below program (Within p name called) + 0
    one called =
        ap length (append-nil (subtree d program (Within p name called))) ∙ (ap (λ (n : ℕ). length (subtree n program (Within p name called))) (sym less) ∙ omega arith)

    at : (b : Bool) (m : Entity) → goes_deeper program p ≡ b → length (flat_map (subtree d program) (inner_of program p name m)) ≡ weight program (inner_of program p name m)
    at b (Variable t) g = refl
    at true (Inner called actuals) g =
        let s : inner_of program p name (Inner called actuals) ≡ Within p name called ∷ [] = inner_called program p name (Inner called actuals) true g in
        ap (λ (ps : List Instance). length (flat_map (subtree d program) ps)) s ∙ (one called ∙ ap (weight program) (sym s))
    at false (Inner called actuals) g =
        let s : inner_of program p name (Inner called actuals) ≡ [] = inner_called program p name (Inner called actuals) false g in
        ap (λ (ps : List Instance). length (flat_map (subtree d program) ps)) s ∙ ap (weight program) (sym s)
    at b (Defined right) g = refl
    at b (Formal k) g = refl

flat_length : {A B : Type 0} (f : A → List B) (xs ys : List A) → length (flat_map f (xs ++ ys)) ≡ length (flat_map f xs) + length (flat_map f ys)
flat_length f [] ys = omega arith
flat_length f (x ∷ xs) ys = omega (arith, length-append (f x) (flat_map f (xs ++ ys)), length-append (f x) (flat_map f xs), flat_length f xs ys)

all_inner : (program : Program) (p : Instance) (d : ℕ) → length program.modules - depth_of p ≡ suc d → (es : List Entry) →
    length (flat_map (subtree d program) (flat_map (λ e. inner_of program p e.name e.entity) es)) ≡ weight program (flat_map (λ e. inner_of program p e.name e.entity) es)
all_inner program p d h [] = refl
all_inner program p d h (e ∷ es) =
    let tail : List Instance = flat_map (λ e. inner_of program p e.name e.entity) es in
    omega (arith, flat_length (subtree d program) (inner_of program p e.name e.entity) tail, weight_append program (inner_of program p e.name e.entity) tail, one_inner program p d e.name e.entity h, all_inner program p d h es)

-- the size of a subtree is one more than the weight of the instances that its root declares
below_is : (program : Program) (p : Instance) → below program p ≡ suc (weight program (inner_instances program p))
below_is program p = at (length program.modules - depth_of p) refl
  where
    at : (d : ℕ) → length program.modules - depth_of p ≡ d → below program p ≡ suc (weight program (inner_instances program p))
    at zero e =
        ap (λ (n : ℕ). length (subtree n program p)) e
        ∙ ap (λ (ps : List Instance). suc (weight program ps)) (sym (none_inner program p (not_deeper (depth_of p) (length program.modules) e) (entries (module_at program p))))
    at (suc d) e = ap (λ (n : ℕ). length (subtree n program p)) e ∙ ap suc (all_inner program p d e (entries (module_at program p)))

drop_next : (ps : List Instance) (k : ℕ) → k < length ps → drop k ps ≡ nth_instance ps k ∷ drop (k + 1) ps
drop_next [] k h = absurd (omega arith)
drop_next (p ∷ ps) zero h = refl
drop_next (p ∷ ps) (suc k) h = let s : suc k + 1 ≡ suc (k + 1) = omega arith in rw s (drop_next ps k (omega arith))

-- before a row is expanded, the weight is that of `main`: the number of instances
pub weight_main : (program : Program) (rows : List Row) → row_instances rows ≡ Main ∷ [] → 0 + weight program (drop 0 (row_instances rows)) ≡ length (instances program)
weight_main program rows e = zero_add (weight program (row_instances rows)) ∙ (ap (λ (ps : List Instance). weight program ps) e ∙ main (length program.modules - 0) (omega arith))
  where
    zero_add : (n : ℕ) → 0 + n ≡ n
    zero_add n = omega arith

    main : (n : ℕ) → n ≡ length program.modules → length (subtree n program Main) + 0 ≡ length (instances program)
    main n e = omega (arith, ap (λ (n : ℕ). length (subtree n program Main)) e)

-- expanding a row keeps the number of expanded rows plus the weight of the others
pub weight_more : (program : Program) (rows rows' : List Row) (r : ℕ) (es : List Entry) → r < length rows → es ≡ entries (module_at program (nth_instance (row_instances rows) r)) → AddsInner program r es rows rows' → r + weight program (drop r (row_instances rows)) ≡ length (instances program) →
    (r + 1) + weight program (drop (r + 1) (row_instances rows')) ≡ length (instances program)
weight_more program rows rows' r es h names added before =
    let p : Instance = nth_instance (row_instances rows) r in
    let new : drop (r + 1) (row_instances rows') ≡ drop (r + 1) (row_instances rows) ++ inner_instances program p =
    ap (drop (r + 1)) added ∙ (drop-append-le (r + 1) (row_instances rows) (flat_map (λ e. inner_of program p e.name e.entity) es) (omega (arith, length-row_instances rows))
    ∙ ap (λ (xs : List Entry). drop (r + 1) (row_instances rows) ++ flat_map (λ e. inner_of program p e.name e.entity) xs) names) in
    omega (arith, ap (weight program) new, weight_append program (drop (r + 1) (row_instances rows)) (inner_instances program p), ap (weight program) (drop_next (row_instances rows) r (omega (arith, length-row_instances rows))), below_is program p, before)

-- once each row is expanded, there are as many rows as instances
pub weight_none : (program : Program) (rows : List Row) (r : ℕ) → length rows ≤ r → r ≤ length rows → r + weight program (drop r (row_instances rows)) ≡ length (instances program) → length rows ≡ length (instances program)
weight_none program rows r h g before = omega (arith, ap (weight program) (drop_past (row_instances rows) r (omega (arith, length-row_instances rows))), before)
