use Rattle.std.proofs.Common.{◌≡◌, ℕ, List, [], ◌∷◌, ◌++◌, length, ap, sym, subst, ◌∙◌, arith, refl}
use Rattle.std.proofs.lemmas.Slice.{pushed}
use Rattle.sat_arena.specs.declared.clause_list.Header.{Header}
use Rattle.sat_arena.specs.Stored.{Stored}
use Rattle.sat_arena.specs.ClauseLists.{all_stored_in, AreHeaders}
use Rattle.sat_arena.proofs.ClauseListLemmas.{all_stored-push, AreHeaders-push}
use Rattle.sat_arena.proofs.clause_list.ClauseList.push.Goals as goal

pub invariant_of-self-2 : goal.invariant_of-self-2
invariant_of-self-2 c =
    let lits = c.self.inside.lits in
    let headers = c.self.inside.headers in
    let h : Header = record { start = c.len-start.result; stop = c.len.result; id = c.args.id } in
    let longer : c.extend_from_slice.new.self.items ≡ lits.items ++ c.args.lits.now = pushed c.args.lits.now refl c.in_ok-extend_from_slice.was c.extend_from_slice.ensures.items in
    let more : c.push_reserved.new.self.items ≡ headers.items ++ h ∷ [] = c.push_reserved.ensures.items ∙ ap (λ (hs : List Header). hs ++ h ∷ []) c.reserve.ensures.items in
    let start : h.start ≡ length lits.items = c.len-start.ensures ∙ lits.ok.0 in
    let stop : h.stop ≡ length (lits.items ++ c.args.lits.now) = c.len.ensures ∙ c.extend_from_slice.new.self.ok.0 ∙ ap length longer in
    subst (λ (xs : List ℕ). AreHeaders xs c.push_reserved.new.self.items) (sym longer)
    (subst (λ (hs : List Header). AreHeaders (lits.items ++ c.args.lits.now) hs) (sym more)
    (AreHeaders-push lits.items c.args.lits.now headers.items h start stop c.self.invariant c.requires))

pub returns-clause-ok : goal.returns-clause-ok
returns-clause-ok c =
    let lits = c.self.inside.lits in
    let headers = c.self.inside.headers in
    let h : Header = record { start = c.len-start.result; stop = c.len.result; id = c.args.id } in
    let longer : c.extend_from_slice.new.self.items ≡ lits.items ++ c.args.lits.now = pushed c.args.lits.now refl c.in_ok-extend_from_slice.was c.extend_from_slice.ensures.items in
    let more : c.push_reserved.new.self.items ≡ headers.items ++ h ∷ [] = c.push_reserved.ensures.items ∙ ap (λ (hs : List Header). hs ++ h ∷ []) c.reserve.ensures.items in
    let start : h.start ≡ length lits.items = c.len-start.ensures ∙ lits.ok.0 in
    let stop : h.stop ≡ length (lits.items ++ c.args.lits.now) = c.len.ensures ∙ c.extend_from_slice.new.self.ok.0 ∙ ap length longer in
    ap (λ (xs : List ℕ). all_stored_in xs c.push_reserved.new.self.items) longer
    ∙ ap (all_stored_in (lits.items ++ c.args.lits.now)) more
    ∙ all_stored-push lits.items c.args.lits.now headers.items h start stop c.self.invariant
    ∙ ap (λ (ss : List Stored). ss ++ record { clause = c.args.lits.now; id = c.args.id } ∷ []) c.self.view_is
