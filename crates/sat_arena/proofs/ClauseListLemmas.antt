-- Clauses whose literals stand one after the other in one list.
use Rattle.std.proofs.Common.{◌≡◌, ℕ, suc, zero, ◌<◌, ◌≤◌, ◌+◌, ◌-◌, List, [], ◌∷◌, ◌++◌, length, get_or, take, drop, arith, refl, sym, ◌∙◌, ap, subst}
use Rattle.std.specs.Prelude.{map, All}
use Rattle.std.specs.List.{between}
use Rattle.std.proofs.lemmas.List.{length-map, length-append, length-drop, get_or-map, map_push, take-append-le, drop-append-le, take_all}
use Rattle.std.proofs.lemmas.List.Elements.{All-push}
use Rattle.std.proofs.lemmas.List.Quantifiers.{all_pairs_push}
use Rattle.std.proofs.Math.Seq.{drop-append_seam}
use Rattle.fsmv_base.specs.declared.citation.Id.{Id}
use Rattle.sat_lits.specs.Clauses.{HasRisingVariables}
use Rattle.sat_arena.specs.declared.clause_list.Header.{Header}
use Rattle.sat_arena.specs.Stored.{Stored}
use Rattle.sat_arena.specs.ArenaState.{clauses_of}
use Rattle.sat_arena.specs.ClauseLists.{stored_in, all_stored_in, IsHeader, AreHeaders}
use Rattle.sat_arena.proofs.DeducedLemmas.{clause_at}

-- ---- Reading

pub header_within : (lits : List ℕ) (headers : List Header) (at : ℕ) → at < length (all_stored_in lits headers) → at < length headers
header_within lits headers at within = omega (arith, within, length-map headers (stored_in lits))

pub stored_at_header : (lits : List ℕ) (headers : List Header) (at : ℕ) (h : Header) (d : Stored) → at < length headers → h ≡ get_or headers at h → get_or (all_stored_in lits headers) at d ≡ stored_in lits h
stored_at_header lits headers at h d within read = get_or-map (stored_in lits) headers at h d within ∙ ap (stored_in lits) (sym read)

pub clause_at_header : (lits : List ℕ) (headers : List Header) (at : ℕ) (h : Header) → at < length headers → h ≡ get_or headers at h → between h.start h.stop lits ≡ get_or (clauses_of (all_stored_in lits headers)) at []
clause_at_header lits headers at h within read =
    sym (clause_at (all_stored_in lits headers) at (stored_in lits h) (omega (arith, within, length-map headers (stored_in lits)))
    ∙ ap (λ (s : Stored). s.clause) (stored_at_header lits headers at h (stored_in lits h) within read))

pub header_at : (lits : List ℕ) (headers : List Header) (at : ℕ) (h : Header) → at < length headers → h ≡ get_or headers at h → AreHeaders lits headers → IsHeader lits h
header_at lits headers at h within read are = subst (IsHeader lits) (sym read) (are.each at h within)

pub id_at_header : (lits : List ℕ) (headers : List Header) (at : ℕ) (h : Header) (d : Id) → at < length headers → h ≡ get_or headers at h → h.id ≡ get_or (map (λ (s : Stored). s.id) (all_stored_in lits headers)) at d
id_at_header lits headers at h d within read =
    sym (get_or-map (λ (s : Stored). s.id) (all_stored_in lits headers) at (stored_in lits h) d (omega (arith, within, length-map headers (stored_in lits)))
    ∙ ap (λ (s : Stored). s.id) (stored_at_header lits headers at h (stored_in lits h) within read))

-- ---- Literals behind the last clause

-- maps of functions that agree on each element
pub map_alike : (f g : Header → Stored) (headers : List Header) → All (λ h. f h ≡ g h) headers → map f headers ≡ map g headers
map_alike f g [] same = refl
map_alike f g (h ∷ hs) same =
    ap (λ (s : Stored). s ∷ map f hs) (same 0 h (omega arith)) ∙ ap (λ (ss : List Stored). g h ∷ ss) (map_alike f g hs (λ k d within. same (suc k) d (omega arith)))

pub between-append : (lits more : List ℕ) (start stop : ℕ) → start ≤ stop → stop ≤ length lits → between start stop (lits ++ more) ≡ between start stop lits
between-append lits more start stop before within =
    ap (take (stop - start)) (drop-append-le start lits more (omega arith)) ∙ take-append-le (stop - start) (drop start lits) more (omega (arith, length-drop start lits))

pub IsHeader-append : (lits more : List ℕ) (h : Header) → IsHeader lits h → IsHeader (lits ++ more) h
IsHeader-append lits more h is = record {
  before = is.before;
  within = omega (arith, is.within, length-append lits more);
  rising = subst HasRisingVariables (sym (between-append lits more h.start h.stop is.before is.within)) is.rising;
}

-- the literals behind the others
pub between_behind : (lits more : List ℕ) (h : Header) → h.start ≡ length lits → h.stop ≡ length (lits ++ more) → between h.start h.stop (lits ++ more) ≡ more
between_behind lits more h start stop =
    ap (λ (k : ℕ). take (h.stop - h.start) (drop k (lits ++ more))) start ∙ ap (take (h.stop - h.start)) (drop-append_seam lits more)
    ∙ take_all (h.stop - h.start) more (omega (arith, start, stop, length-append lits more))

module _ (lits more : List ℕ) (headers : List Header) (h : Header) (start : h.start ≡ length lits) (stop : h.stop ≡ length (lits ++ more)) (are : AreHeaders lits headers) where
  pub all_stored-push : all_stored_in (lits ++ more) (headers ++ h ∷ []) ≡ all_stored_in lits headers ++ record { clause = more; id = h.id } ∷ []
  all_stored-push =
      map_push (stored_in (lits ++ more)) headers h
      ∙ ap (λ (ss : List Stored). ss ++ stored_in (lits ++ more) h ∷ []) (map_alike (stored_in (lits ++ more)) (stored_in lits) headers (λ k d within. let is = are.each k d within in ap (λ (c : List ℕ). record { clause = c; id = (get_or headers k d).id }) (between-append lits more (get_or headers k d).start (get_or headers k d).stop is.before is.within)))
      ∙ ap (λ (c : List ℕ). all_stored_in lits headers ++ record { clause = c; id = h.id } ∷ []) (between_behind lits more h start stop)

  pub AreHeaders-push : HasRisingVariables more → AreHeaders (lits ++ more) (headers ++ h ∷ [])
  AreHeaders-push rising = record {
    each = All-push (IsHeader (lits ++ more)) headers h (λ k d within. IsHeader-append lits more (get_or headers k d) (are.each k d within)) (record {
      before = omega (arith, start, stop, length-append lits more);
      within = omega (arith, stop);
      rising = subst HasRisingVariables (sym (between_behind lits more h start stop)) rising;
    });
    apart = all_pairs_push (λ h k. h.stop ≤ k.start) headers h are.apart (λ k d within. omega (arith, start, (are.each k d within).within));
  }
