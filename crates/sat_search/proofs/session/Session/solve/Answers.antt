use Rattle.std.proofs.Common.{◌≡◌, ◌∙◌, ℕ, List, Option, None, Result, Ok, refl, sym, ap, subst}
use Rattle.fsmv_base.specs.contracts.no_memory.NoMemory.{the_row}
use Rattle.proof_log.specs.Logged.{Logged}
use Rattle.sat_search.specs.Sessions.{AddsLines, core_of}
use Rattle.sat_search.specs.Founds.{named_by}
use Rattle.sat_search.specs.Retirements.{RetiresSome}
use Rattle.sat_search.specs.declared.answer.Answer.{Answer}
use Rattle.sat_search.specs.declared.answer.Answer.TheVariants.{Model, Core, Spent}
use Rattle.sat_search.proofs.RunLemmas.{ContinuesTo-refl}
use Rattle.sat_search.proofs.FoundLemmas.{AddsLines-continues}
use Rattle.sat_search.proofs.RetireLemmas.{AddsLines-retired}
use Rattle.sat_search.proofs.session.Session.solve.Goals as goal

nothing : (assumptions : List ℕ) (old new : Logged) (most : ℕ) → new ≡ old → AddsLines assumptions old new most None
nothing assumptions old new most same = subst (λ (log : Logged). AddsLines assumptions old log most None) (sym same) (AddsLines-continues assumptions old old most None (ContinuesTo-refl old most))

-- the id of a Core, by either name
same_core : (E : Type 0) (answer : Answer) → named_by answer ≡ core_of {E = E} (Ok answer)
same_core E Model = refl
same_core E (Core id) = refl
same_core E Spent = refl

pub returns-then-self-clause-lines : goal.returns-then-self-clause-lines
returns-then-self-clause-lines c =
    nothing c.args.assumptions.now c.args.self.now.log c.self.inside.solver.log c.args.most (ap (λ s. s.log) c.self.view_is)

pub returns-in-Err-clause-lines : goal.returns-in-Err-clause-lines
returns-in-Err-clause-lines c =
    nothing c.args.assumptions.now c.args.self.now.log c.retire.new.self.log c.args.most (ap (λ s. s.log) c.in-Err.ensures.err ∙ ap (λ s. s.log) c.self.view_is)

-- lines that were retired before the search
retired : (old inside new mid : Logged) → inside ≡ old → mid ≡ new → RetiresSome inside new → RetiresSome old mid
retired old inside new mid old_is new_is some = subst (λ (log : Logged). RetiresSome log mid) old_is (subst (λ (log : Logged). RetiresSome inside log) (sym new_is) some)

pub returns-in-Err-fill-clause-lines : goal.returns-in-Err-fill-clause-lines
returns-in-Err-fill-clause-lines c =
    AddsLines-retired c.args.assumptions.now c.args.self.now.log c.self-2.inside.solver.log c.self-2.inside.solver.log c.args.most None (retired c.args.self.now.log c.self.inside.solver.log c.retire.new.self.log c.self-2.inside.solver.log (ap (λ s. s.log) c.self.view_is) (ap (λ s. s.log) c.self-2.view_is) c.in_default.ensures.retired)
    (nothing c.args.assumptions.now c.self-2.inside.solver.log c.self-2.inside.solver.log c.args.most refl)

pub returns-in-Ok-clause-lines : goal.returns-in-Ok-clause-lines
returns-in-Ok-clause-lines c =
    AddsLines-retired c.args.assumptions.now c.args.self.now.log c.self-2.inside.solver.log c.find.new.self.log c.args.most _ (retired c.args.self.now.log c.self.inside.solver.log c.retire.new.self.log c.self-2.inside.solver.log (ap (λ s. s.log) c.self.view_is) (ap (λ s. s.log) c.self-2.view_is) c.in_default.ensures.retired)
    (subst (λ (core : Option _). AddsLines c.args.assumptions.now c.self-2.inside.solver.log c.find.new.self.log c.args.most core) (same_core the_row.Denot c.in-Ok.found.answer) c.in-Ok.ensures.ok.adds)

pub returns-in-Err-find-clause-lines : goal.returns-in-Err-find-clause-lines
returns-in-Err-find-clause-lines c =
    AddsLines-retired c.args.assumptions.now c.args.self.now.log c.self-2.inside.solver.log c.find.new.self.log c.args.most None (retired c.args.self.now.log c.self.inside.solver.log c.retire.new.self.log c.self-2.inside.solver.log (ap (λ s. s.log) c.self.view_is) (ap (λ s. s.log) c.self-2.view_is) c.in_default.ensures.retired) c.in-Err-find.ensures.err
