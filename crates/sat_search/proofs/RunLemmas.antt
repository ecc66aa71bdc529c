-- The turns of a search.
use Rattle.std.proofs.Common.{◌≡◌, ◌<◌, ◌+◌, ℕ, List, Bool, true, arith, subst, sym, ◌∙◌, inl, inr, length, take}
use Rattle.std.specs.Prelude.{Contains}
use Rattle.std.proofs.lemmas.Bool.{cases_Bool}
use Rattle.std.proofs.lemmas.List.{length_push}
use Rattle.std.proofs.lemmas.List.Elements.{All-contains}
use Rattle.sat_lits.specs.Literals.{negation}
use Rattle.proof_log.specs.Logged.{Logged}
use Rattle.sat_arena.specs.declared.trail.Assigned.{Assigned}
use Rattle.sat_arena.specs.Trails.{true_in, IsOrderly, marked}
use Rattle.sat_arena.proofs.TrailLemmas.{consistent}
use Rattle.sat_search.specs.Clashes.{HasClash}
use Rattle.sat_search.specs.Assumed.{assumed, AssumesFirst}
use Rattle.sat_search.specs.Additions.{HasVariables}
use Rattle.sat_search.specs.Endings.{IsRefused, ContinuesTo, AddsNewLine}
use Rattle.sat_search.proofs.ClashLemmas.{Contains-from_search, search_finds}
use Rattle.sat_arena.proofs.TrueInLemmas.{true_in_from_take}
use Rattle.sat_search.proofs.KeepsLemmas.{with_line, line_of, slice_get_within, Appends-refl, Appends-record, AreNewFrom-record}

pub IsRefused-loop_ended : (literal_set : List Bool) (assumptions : List ℕ) (entries : List Assigned) (vars lit : ℕ) → IsOrderly entries vars → ((l : ℕ) → marked literal_set l ≡ assumed assumptions l) → (HasClash assumptions → ⊥) → AssumesFirst assumptions entries → Contains assumptions lit × (true_in entries (negation lit) ≡ true) → IsRefused (marked literal_set) entries lit
IsRefused-loop_ended literal_set assumptions entries vars lit orderly same no_clash assumes (holds, false_there) = record {
  assumes = same lit ∙ search_finds assumptions lit holds;
  false_there = false_there;
  undecided = elim (cases_Bool (marked literal_set (negation lit))) [
    | inl also ↦ absurd (no_clash (lit, holds, Contains-from_search assumptions (negation lit) (sym (same (negation lit)) ∙ also)))
    | inr never ↦ never
  ];
  decided = λ entry stands none. elim (assumes.first stands.0 entry (stands.1, stands.2) none) [
    | inl one ↦ same entry.lit ∙ search_finds assumptions entry.lit one
    | inr all ↦ absurd (consistent entries vars orderly lit (true_in_from_take stands.0 entries lit (All-contains (λ (a : ℕ). true_in (take stands.0 entries) a ≡ true) assumptions lit all holds)) false_there)
  ];
}

pub ContinuesTo-refl : (log : Logged) (most : ℕ) → ContinuesTo log log most
ContinuesTo-refl log most = record {
  appends = Appends-refl log;
  news = λ i line from is. absurd (let inside : i < length log.lines = slice_get_within log.lines i line is in omega arith);
  within = λ more. absurd (omega arith);
  variables = λ before. before;
}

pub ContinuesTo-step : (old mid new : Logged) (most : ℕ) → ContinuesTo old mid most → AddsNewLine mid new most → ContinuesTo old new most
ContinuesTo-step old mid new most before adds =
    let long : length (with_line mid adds.clause adds.hints).lines ≡ length mid.lines + 1 = length_push mid.lines (line_of adds.clause adds.hints) in
    let room : length mid.lines < most = adds.room in
    subst (λ (log : Logged). ContinuesTo old log most) (sym adds.is) (record {
      appends = Appends-record old mid adds.clause adds.hints before.appends;
      news = AreNewFrom-record (length old.lines) mid adds.clause adds.hints before.news adds.is_new;
      within = λ _. omega arith;
      variables = λ first. subst HasVariables adds.is (adds.variables (before.variables first));
    })
