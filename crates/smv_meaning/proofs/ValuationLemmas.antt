-- Values of names by number and by instance.
use Rattle.std.proofs.Common.{◌≡◌, ℕ, zero, suc, ◌+◌, ◌<◌, ◌≤◌, List, [], ◌∷◌, ◌++◌, length, get_or, Option, Some, None, refl, sym, ap, ◌∙◌, subst, arith, append_assoc, inl, inr, codes}
use Rattle.std.proofs.lemmas.Option.{slice_get_within}
use Rattle.std.specs.Prelude.{slice_get, slice_index_or, IfSome}
use Rattle.std.specs.Option.{option_map}
use Rattle.std.proofs.lemmas.List.{append-nil}
use Rattle.smv_ast.specs.PrintedExpr.{each_after}
use Rattle.smv_meaning.specs.declared.table.Row.{Row}
use Rattle.smv_meaning.specs.declared.table.Link.{Link}
use Rattle.smv_meaning.specs.Value.{Name, and_then}
use Rattle.smv_meaning.specs.Instances.{Instance, path_of}
use Rattle.smv_meaning.specs.Runs.{path_text}
use Rattle.smv_meaning.specs.InstanceTable.{nth_instance, instance_of_link, row_instances}
use Rattle.smv_meaning.specs.Valuation.{AreLinked, text_below, link_of, row_text, ArePathTexts, SpellsNames, name_text}
use Rattle.smv_meaning.specs.declared.table.InstanceTable.{InstanceTable}
use Rattle.smv_meaning.proofs.InstanceTableLemmas.{below_or, get_append, get_last, row_at}

-- ---- texts of paths

each_push : (xs : List Name) (m : Name) → each_after (codes ".") (xs ++ m ∷ []) ≡ each_after (codes ".") xs ++ codes "." ++ m
each_push [] m = append-nil (codes "." ++ m)
each_push (x ∷ xs) m = ap (λ t. codes "." ++ x ++ t) (each_push xs m) ∙ regroup x (each_after (codes ".") xs) m
  where
    regroup : (x t m : List ℕ) → codes "." ++ x ++ (t ++ codes "." ++ m) ≡ (codes "." ++ x ++ t) ++ codes "." ++ m
    regroup x t m = simp append_assoc

-- the text of a path with one more name
path_push : (xs : List Name) (n m : Name) → path_text ((xs ++ n ∷ []) ++ m ∷ []) ≡ path_text (xs ++ n ∷ []) ++ codes "." ++ m
path_push [] n m = ap (λ t. n ++ t) (append-nil (codes "." ++ m)) ∙ (sym (append_assoc n (codes ".") m) ∙ ap (λ t. t ++ codes "." ++ m) (sym (append-nil n)))
path_push (x ∷ xs) n m = ap (λ t. x ++ t) (each_push (xs ++ n ∷ []) m) ∙ regroup x (each_after (codes ".") (xs ++ n ∷ [])) m
  where
    regroup : (x t m : List ℕ) → x ++ (t ++ codes "." ++ m) ≡ (x ++ t) ++ codes "." ++ m
    regroup x t m = simp append_assoc

below_next : (ps : List Instance) (link : Option Link) (name : Name) → path_text (path_of (instance_of_link ps link) ++ name ∷ []) ≡ text_below link (path_text (path_of (instance_of_link ps link))) name
below_next ps None name = append-nil name
below_next ps (Some link) name = path_push (path_of (nth_instance ps link.outer)) link.name.now name

-- the text of a name of an instance
pub below_is : (rows : List Row) (k : ℕ) (row : Row) (name : Name) → AreLinked rows → slice_get rows k ≡ Some row → path_text (path_of (nth_instance (row_instances rows) k) ++ name ∷ []) ≡ text_below row.link (path_text (path_of (nth_instance (row_instances rows) k))) name
below_is rows k row name linked e =
    let s = (linked k row e).instance_at in
    subst (λ (p : Instance). path_text (path_of p ++ name ∷ []) ≡ text_below row.link (path_text (path_of p)) name) (sym s) (below_next (row_instances rows) row.link name)

index_get : (xs : List (List ℕ)) (k : ℕ) (x : List ℕ) → slice_get xs k ≡ Some x → slice_index_or xs k [] ≡ x
index_get [] k x e = cc
index_get (y ∷ ys) zero x e = cc
index_get (y ∷ ys) (suc k) x e = index_get ys k x e

-- the texts of the first so many instances
abbrev pub FirstTexts : List Row → List (List ℕ) → ℕ → Type 0
FirstTexts rows texts n = (k : ℕ) (row : Row) → k < n → slice_get rows k ≡ Some row → slice_get texts k ≡ Some (path_text (path_of (nth_instance (row_instances rows) k)))

text_is : (rows : List Row) (texts : List (List ℕ)) (n : ℕ) (link : Option Link) → AreLinked rows → n ≤ length rows → IfSome link (λ l. l.outer < n) → FirstTexts rows texts n → row_text rows texts link ≡ path_text (path_of (instance_of_link (row_instances rows) link))
text_is rows texts n None linked w h known_of = refl
text_is rows texts n (Some link) linked w h known_of =
    let r = row_at rows link.outer (omega arith) in
    ap (λ (t : List ℕ). text_below (link_of (slice_get rows link.outer)) t link.name.now) (index_get texts link.outer _ (known_of link.outer r.0 h r.1))
    ∙ (ap (λ (o : Option Row). text_below (link_of o) (path_text (path_of (nth_instance (row_instances rows) link.outer))) link.name.now) r.1
    ∙ sym (below_is rows link.outer r.0 link.name.now linked r.1))

-- one more text
pub reports_more : (rows : List Row) (texts texts' : List (List ℕ)) (n : ℕ) (row : Row) (text : List ℕ) → AreLinked rows → slice_get rows n ≡ Some row → length texts ≡ n → text ≡ row_text rows texts row.link → texts' ≡ texts ++ text ∷ [] → FirstTexts rows texts n → FirstTexts rows texts' (n + 1)
reports_more rows texts texts' n row text linked e l t p known_of k r below g = elim (below_or k n below) [ inl h ↦ old h | inr h ↦ new h ]
  where
    old : k < n → slice_get texts' k ≡ Some (path_text (path_of (nth_instance (row_instances rows) k)))
    old h = ap (λ (xs : List (List ℕ)). slice_get xs k) p ∙ get_append texts (text ∷ []) k _ (known_of k r h g)

    is : text ≡ path_text (path_of (nth_instance (row_instances rows) n))
    is = t ∙ (text_is rows texts n row.link linked (omega (arith, slice_get_within rows n row e)) (linked n row e).outer known_of ∙ ap (λ p. path_text (path_of p)) (sym (linked n row e).instance_at))

    new : k ≡ n → slice_get texts' k ≡ Some (path_text (path_of (nth_instance (row_instances rows) k)))
    new h = subst (λ (x : ℕ). slice_get texts' x ≡ Some (path_text (path_of (nth_instance (row_instances rows) x)))) (sym h) (ap (λ (xs : List (List ℕ)). slice_get xs n) p ∙ (get_last texts text n (sym l) ∙ ap Some is))

pub within_rows : (rows : List Row) (n m : ℕ) (row : Row) → AreLinked rows → slice_get rows n ≡ Some row → n ≤ m → IfSome row.link (λ l. l.outer < m)
within_rows rows n m row linked e h = further row.link (linked n row e).outer
  where
    further : (link : Option Link) → IfSome link (λ l. l.outer < n) → IfSome link (λ l. l.outer < m)
    further None g = tt
    further (Some l) g = omega arith

pub get_item : {A : Type 0} (xs : List A) (k : ℕ) (x : A) → k < length xs → x ≡ get_or xs k x → slice_get xs k ≡ Some x
get_item [] k x h e = absurd (omega arith)
get_item (y ∷ ys) zero x h e = ap Some (sym e)
get_item (y ∷ ys) (suc k) x h e = get_item ys k x (omega arith) e

pub spells : (rows : List Row) (texts : List (List ℕ)) → AreLinked rows → ArePathTexts rows texts → SpellsNames rows texts
spells rows texts linked is_of k row name e =
    ap (option_map (λ text. text_below row.link text name)) (is_of k row e) ∙ ap Some (sym (below_is rows k row name linked e))

pub name_text_is : (table : InstanceTable) (texts : List (List ℕ)) (k : ℕ) (row : Row) (name : Name) → SpellsNames table.rows texts → slice_get table.rows k ≡ Some row →
    option_map (λ text. text_below row.link text name) (slice_get texts k) ≡ name_text table (record { instance = k; name = name })
name_text_is table texts k row name spells e =
    spells k row name e ∙ sym (ap (λ (o : Option Row). and_then o (λ row. Some (path_text (path_of (nth_instance (row_instances table.rows) k) ++ name ∷ [])))) e)
