use Rattle.std.proofs.Common.{◌≡◌, Bool, List, None, Err, sym, ◌∙◌, ap, subst}
use Rattle.std.specs.Prelude.{Option}
use Rattle.smv_ast.specs.declared.fault.Fault.{Fault}
use Rattle.feature_model.specs.Constraints.{Name}
use Rattle.feature_model.specs.NameSets.{in_set, no_name, and_name}
use Rattle.feature_model.specs.NameFaults.{or_else, declaration_fault, lines_fault, names_fault, ReportsFirst}
use Rattle.feature_model.specs.declared.text.TextLine.{TextLine}
use Rattle.feature_model.proofs.Reports.{handed_on, first_reported}
use Rattle.feature_model.proofs.names.check_names.Goals as goal

pub returns-in_err-check_declaration : goal.returns-in_err-check_declaration
returns-in_err-check_declaration c =
    let text = c.args.text.now in
    let f = c.in_err-check_declaration.field-0.0 in
    let here = subst (λ r. ReportsFirst (declaration_fault (in_set c.no_names-declared.result) text.root) r) c.in_err-check_declaration.was c.check_declaration.ensures in
    let first = subst (λ (d : Name → Bool). ReportsFirst (declaration_fault d text.root) (Err f)) c.no_names-declared.ensures here in
    handed_on c.from_residual.result f (ReportsFirst (names_fault text)) c.from_residual.ensures.1 (first_reported (declaration_fault no_name text.root) (lines_fault (and_name no_name text.root.name) text.lines) f first)

pub returns : goal.returns
returns c =
    let text = c.args.text.now in
    let none : declaration_fault no_name text.root ≡ None = ap (λ (d : Name → Bool). declaration_fault d text.root) (sym c.no_names-declared.ensures) ∙ c.in_ok-check_declaration.ensures in
    let declared : in_set c.insert_name.new.declared ≡ and_name no_name text.root.name = c.in_ok-insert_name.ensures ∙ ap (λ (d : Name → Bool). and_name d text.root.name) c.no_names-declared.ensures in
    let lines : lines_fault (in_set c.insert_name.new.declared) c.as_slice.result.now ≡ lines_fault (and_name no_name text.root.name) text.lines =
    ap (λ (d : Name → Bool). lines_fault d c.as_slice.result.now) declared ∙ ap (λ (ls : List TextLine). lines_fault (and_name no_name text.root.name) ls) c.as_slice.ensures in
    let all : lines_fault (in_set c.insert_name.new.declared) c.as_slice.result.now ≡ names_fault text = lines ∙ sym (ap (λ (v : Option Fault). or_else v (lines_fault (and_name no_name text.root.name) text.lines)) none) in
    subst (λ (v : Option Fault). ReportsFirst v c.check_lines.result) all c.check_lines.ensures
