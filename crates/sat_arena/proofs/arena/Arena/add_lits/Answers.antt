use Rattle.std.proofs.Common.{◌≡◌, ◌≤◌, ◌<◌, ◌+◌, ◌++◌, ◌∷◌, [], length, get_or, set, List, ℕ, subst, sym, ap, ◌∙◌, arith, refl}
use Rattle.std.specs.Prelude.{All}
use Rattle.sat_arena.specs.Trails.{IsGrown}
use Rattle.sat_arena.specs.ArenaState.{ArenaState}
use Rattle.std.proofs.lemmas.List.{with_items_is}
use Rattle.sat_arena.specs.Stored.{Stored}
use Rattle.sat_arena.specs.Watches.{IsArena}
use Rattle.sat_arena.proofs.ArenaLemmas.{IsArena-lengthened, IsArena-appended, any_within}
use Rattle.sat_arena.proofs.arena.Arena.add_lits.Goals as goal

pub invariant_of-self-in_err-lengthen : goal.invariant_of-self-in_err-lengthen
invariant_of-self-in_err-lengthen c =
    let a = c.self.inside in
    let made = IsArena-lengthened a.clauses a.watched.items a.links.items a.heads.items c.lengthen.new.heads.items a.vars a.vars c.self.invariant c.lengthen.ensures.lengthened (omega arith) (λ up. absurd (omega arith)) in
    subst (λ (xs : List ℕ). IsArena a.clauses xs c.reserve-2.new.self.items c.lengthen.new.heads.items a.vars) (sym c.reserve.ensures.items)
    (subst (λ (xs : List ℕ). IsArena a.clauses a.watched.items xs c.lengthen.new.heads.items a.vars) (sym c.reserve-2.ensures.items) made)

pub invariant_of-self-in_err-push : goal.invariant_of-self-in_err-push
invariant_of-self-in_err-push c =
    let a = c.self.inside in
    let made = IsArena-lengthened a.clauses a.watched.items a.links.items a.heads.items c.lengthen.new.heads.items a.vars a.vars c.self.invariant c.lengthen.ensures.lengthened (omega arith) (λ up. absurd (omega arith)) in
    subst (λ (ss : List Stored). IsArena ss c.reserve.new.self.items c.reserve-2.new.self.items c.lengthen.new.heads.items a.vars) (sym c.in_err-push.ensures.err)
    (subst (λ (xs : List ℕ). IsArena a.clauses xs c.reserve-2.new.self.items c.lengthen.new.heads.items a.vars) (sym c.reserve.ensures.items)
    (subst (λ (xs : List ℕ). IsArena a.clauses a.watched.items xs c.lengthen.new.heads.items a.vars) (sym c.reserve-2.ensures.items) made))

pub invariant_of-self-2 : goal.invariant_of-self-2
invariant_of-self-2 c =
    let a = c.self.inside in
    let s : Stored = record { clause = c.args.lits.now; id = c.args.id } in
    let heads = c.lengthen.new.heads in
    let lent : c.as_mut_slice-heads.result.now ≡ heads.items = c.as_mut_slice-heads.ensures.value in
    let stored : c.push.new.self ≡ a.clauses ++ s ∷ [] = c.in_ok-push.ensures.ok in
    let watched : c.append.new.watched.items ≡ a.watched.items ++ c.args.first ∷ [] = c.append.ensures.watched ∙ ap (λ (xs : List ℕ). xs ++ c.args.first ∷ []) c.reserve.ensures.items in
    let links : c.append.new.links.items ≡ a.links.items ++ get_or heads.items c.args.first 0 ∷ [] = c.append.ensures.links ∙ ap (λ (xs : List ℕ). xs ++ get_or c.as_mut_slice-heads.result.now c.args.first 0 ∷ []) c.reserve-2.ensures.items ∙ ap (λ (hs : List ℕ). a.links.items ++ get_or hs c.args.first 0 ∷ []) lent in
    let heads1 : c.append.new.heads ≡ set heads.items c.args.first (length a.links.items + 1) = c.append.ensures.heads ∙ ap (λ (hs : List ℕ). set hs c.args.first (length c.reserve-2.new.self.items + 1)) lent ∙ ap (λ (xs : List ℕ). set heads.items c.args.first (length xs + 1)) c.reserve-2.ensures.items in
    let long : length c.append-2.new.heads ≡ length heads.items = c.append-2.auto.heads ∙ c.append.auto.heads ∙ ap length lent in
    subst (λ (hs : List ℕ). IsArena c.push.new.self c.append-2.new.watched.items c.append-2.new.links.items hs a.vars) (sym (with_items_is heads c.append-2.new.heads (long ∙ sym heads.ok.0)))
    (IsArena-appended a.clauses c.push.new.self s a.watched.items c.append.new.watched.items c.append-2.new.watched.items a.links.items c.append.new.links.items c.append-2.new.links.items a.heads.items heads.items c.append.new.heads c.append-2.new.heads a.vars c.args.first c.args.second
    c.self.invariant c.lengthen.ensures.lengthened c.in_ok-lengthen.ensures.long (omega (arith, c.if-position.false, c.len-position.ensures))
    (subst (λ (n : ℕ). All (IsGrown n) c.args.lits.now) (sym (ap (λ (x : ArenaState). x.vars) c.self.view_is)) c.requires.grown) c.requires.first c.requires.second c.requires.two
    stored watched links heads1 c.append-2.ensures.watched c.append-2.ensures.links c.append-2.ensures.heads)
