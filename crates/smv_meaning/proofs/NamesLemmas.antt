-- The index of the first entry of each name, after an insertion.
use Rattle.std.proofs.Common.{◌≡◌, ℕ, zero, suc, ◌+◌, ◌<◌, List, [], ◌∷◌, Bool, true, false, cond, find, length, drop, get_or, Option, Some, None, refl, sym, ap, ◌∙◌, arith}
use Rattle.std.specs.Prelude.{slice_get}
use Rattle.std.specs.Option.{option_map}
use Rattle.std.specs.Str.{bytes_eq}
use Rattle.std.specs.HashMap.{Updates}
use denote.Ref.{Bor}
use Rattle.smv_meaning.specs.declared.entries.Entry.{Entry as Held}
use Rattle.smv_meaning.specs.Entries.{entry_view, entries_view, entity_view, entity_among, first_index}
use Rattle.smv_meaning.specs.Indices.{Numbers, number_held}
use Rattle.smv_meaning.specs.Value.{Name, and_then}

pub length_view : (es : List Held) → length (entries_view es) ≡ length es
length_view [] = refl
length_view (e ∷ es) = ap suc (length_view es)

-- the index of the first entry of a name, from an index on
abbrev pub first_from : List Held → ℕ → Name → Option ℕ
first_from es k name = option_map (λ i. k + i) (first_index name (entries_view (drop k es)))

pub first_from_start : (es : List Held) (name : Name) → first_from es 0 name ≡ first_index name (entries_view es)
first_from_start es name = same (first_index name (entries_view es))
  where
    same : (o : Option ℕ) → option_map (λ i. 0 + i) o ≡ o
    same None = refl
    same (Some i) = ap (λ (n : ℕ). Some n) (omega arith)

-- no entry follows the last
pub first_from_end : (es : List Held) (k : ℕ) (name : Name) → k ≡ length es → first_from es k name ≡ None
first_from_end es k name e = rw e (ap (λ (tail : List Held). option_map (λ i. length es + i) (first_index name (entries_view tail))) (gone es))
  where
    gone : (es : List Held) → drop (length es) es ≡ []
    gone [] = refl
    gone (x ∷ es) = gone es

-- an entry put before the others takes precedence
first_next : (es : List Held) (k : ℕ) (e : Held) (name : Name) → k < length es → e ≡ get_or es k e → first_from es k name ≡ cond (bytes_eq e.name.now name) (Some k) (first_from es (suc k) name)
first_next es k e name h g = ap (λ (tail : List Held). option_map (λ i. k + i) (first_index name (entries_view tail))) (tail es k h g) ∙ at (bytes_eq e.name.now name) (first_index name (entries_view (drop (suc k) es)))
  where
    tail : (es : List Held) (k : ℕ) → k < length es → e ≡ get_or es k e → drop k es ≡ e ∷ drop (suc k) es
    tail [] k h g = absurd (omega arith)
    tail (x ∷ es) zero h g = ap (λ (y : Held). y ∷ es) (sym g)
    tail (x ∷ es) (suc k) h g = tail es k (omega arith) g

    at : (b : Bool) (o : Option ℕ) → option_map (λ i. k + i) (cond b (Some 0) (option_map suc o)) ≡ cond b (Some k) (option_map (λ i. suc k + i) o)
    at true o = ap (λ (n : ℕ). Some n) (omega arith)
    at false None = refl
    at false (Some i) = ap (λ (n : ℕ). Some n) (omega arith)

-- the entry of an index is inserted after all later ones
pub position_put : (es : List Held) (m n : Numbers) (key : Bor Name) (k : ℕ) (e : Held) → k < length es → e ≡ get_or es k e → key.now ≡ e.name.now → Updates (λ x y. bytes_eq x.now y.now) m n key (Some k)
    → ((name : Name) → number_held m name ≡ first_from es (suc k) name) → (name : Name) → number_held n name ≡ first_from es k name
position_put es m n key k e h g same u held name =
    u.0 (record { ref_ptr = (0, 0); now = name })
    ∙ (ap (λ (x : Name). cond (bytes_eq x name) (Some k) (number_held m name)) same
    ∙ (ap (λ (o : Option ℕ). cond (bytes_eq e.name.now name) (Some k) o) (held name)
    ∙ sym (first_next es k e name h g)))

-- the entity of a name is that of the entry at its index
pub entity_renumbered : (es : List Held) (name : Name) → entity_among (entries_view es) name ≡ and_then (first_index name (entries_view es)) (λ k. and_then (slice_get es k) (λ e. Some (entity_view e.entity)))
entity_renumbered [] name = refl
entity_renumbered (e ∷ es) name = at (entity_renumbered es name) (bytes_eq e.name.now name)
  where
    shifted : (o : Option ℕ) → and_then (option_map suc o) (λ k. and_then (slice_get (e ∷ es) k) (λ e. Some (entity_view e.entity))) ≡ and_then o (λ k. and_then (slice_get es k) (λ e. Some (entity_view e.entity)))
    shifted None = refl
    shifted (Some k) = refl

    at : entity_among (entries_view es) name ≡ and_then (first_index name (entries_view es)) (λ k. and_then (slice_get es k) (λ e. Some (entity_view e.entity)))
        → (b : Bool) → and_then (cond b (Some (entry_view e)) (find (λ e. bytes_eq e.name name) (entries_view es))) (λ e. Some e.entity)
        ≡ and_then (cond b (Some 0) (option_map suc (first_index name (entries_view es)))) (λ k. and_then (slice_get (e ∷ es) k) (λ e. Some (entity_view e.entity)))
    at m true = refl
    at m false = m ∙ sym (shifted (first_index name (entries_view es)))
