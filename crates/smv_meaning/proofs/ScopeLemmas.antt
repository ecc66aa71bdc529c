-- Modules by name, after an insertion.
use Rattle.std.proofs.Common.{◌≡◌, ℕ, List, [], ◌∷◌, Bool, true, false, cond, map, find, Option, Some, refl, ap, ◌∙◌}
use Rattle.std.specs.Prelude.{slice_get}
use Rattle.std.specs.Str.{bytes_eq}
use Rattle.std.specs.HashMap.{Updates}
use denote.Ref.{Bor}
use Rattle.smv_meaning.specs.declared.scope.Scope.{Scope as HeldScope}
use Rattle.smv_meaning.specs.Entries.{entries_view}
use Rattle.smv_meaning.specs.Indices.{Numbers}
use Rattle.smv_meaning.specs.Scopes.{scope_view, entries_in, entries_found, scope_found, names_numbered, names_by}
use Rattle.smv_meaning.specs.Value.{Name}

chosen : (scopes : List HeldScope) (s : HeldScope) (k : ℕ) → slice_get scopes k ≡ Some s → (b : Bool) (o : Option ℕ) → names_numbered scopes (cond b (Some k) o) ≡ cond b (entries_view s.names.entries) (names_numbered scopes o)
chosen scopes s k at true o = ap scope_found at
chosen scopes s k at false o = refl

pub after_insert : (scopes : List HeldScope) (m n : Numbers) (name : Bor Name) (s : HeldScope) (k : ℕ) → slice_get scopes k ≡ Some s → Updates (λ x y. bytes_eq x.now y.now) m n name (Some k)
    → (other : Name) → names_by scopes n other ≡ cond (bytes_eq name.now other) (entries_view s.names.entries) (names_by scopes m other)
after_insert scopes m n name s k at h other = ap (names_numbered scopes) (h.0 (record { ref_ptr = (0, 0); now = other })) ∙ chosen scopes s k at (bytes_eq name.now other) _

pub found_view : (scopes : List HeldScope) (name : Name) → scope_found (find (λ s. bytes_eq s.name.now name) scopes) ≡ entries_in (map scope_view scopes) name
found_view [] name = refl
found_view (s ∷ scopes) name = at (found_view scopes name) (bytes_eq s.name.now name)
  where
    at : scope_found (find (λ s. bytes_eq s.name.now name) scopes) ≡ entries_in (map scope_view scopes) name
        → (b : Bool) → scope_found (cond b (Some s) (find (λ s. bytes_eq s.name.now name) scopes)) ≡ entries_found (cond b (Some (scope_view s)) (find (λ s. bytes_eq s.name name) (map scope_view scopes)))
    at e true = refl
    at e false = e
