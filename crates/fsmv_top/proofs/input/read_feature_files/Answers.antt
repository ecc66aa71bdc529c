use Rattle.std.proofs.Common.{◌≡◌, ◌+◌, ℕ, Bool, List, Option, map, length, get_or, string_bytes, sym, ◌∙◌, ap, subst, arith}
use Rattle.std.specs.Prelude.{IsTrue}
use Rattle.std.proofs.lemmas.List.{length-map}
use Rattle.std.proofs.Math.ListN.{get_or-map}
use Rattle.feature_parse.specs.Answer.{RefusesFeatures}
use Rattle.fsmv_top.specs.Input.{Holds, AreFeatures}
use Rattle.fsmv_top.specs.InputErrors.{FailsFile, fails_at}
use Rattle.fsmv_top.proofs.InputLemmas.{fails_earlier, next_read, ends_here}
use Rattle.fsmv_top.proofs.input.read_feature_files.Goals as goal

pub add_feature_file-requires : goal.add_feature_file-requires
add_feature_file-requires g c =
    let names = map string_bytes c.args.names.now in
    let i = c.loop-index.index in
    let item = string_bytes c.index-names-index.result in
    let count : length names ≡ length c.args.names.now = length-map _ _ in
    let here : get_or names i item ≡ c.as_str.result.now = get_or-map string_bytes c.args.names.now i c.index-names-index.result ∙ ap string_bytes (sym c.index-names-index.is) ∙ sym c.as_str.ensures.value in
    let allowed : IsTrue (g.F.Files.may_read c.args.files.now (get_or names i item)) = c.requires i item (omega (arith, count, c.loop-index-test.true)) in
    subst (λ (f : List ℕ → Bool). IsTrue (f c.as_str.result.now)) (sym c.loop-index.invariant.may_read)
    (subst (λ (n : List ℕ). IsTrue (g.F.Files.may_read c.args.files.now n)) here allowed)

pub returns-in-Err-clause-failed : goal.returns-in-Err-clause-failed
returns-in-Err-clause-failed g c =
    let given = g.F.Files in
    let names = map string_bytes c.args.names.now in
    let i = c.loop-index.index in
    let name = c.as_str.result.now in
    let count : length names ≡ length c.args.names.now = length-map _ _ in
    let item : get_or names i name ≡ name =
    ap (get_or names i) c.as_str.ensures.value ∙ get_or-map string_bytes c.args.names.now i c.index-names-index.result ∙ ap string_bytes (sym c.index-names-index.is) ∙ sym c.as_str.ensures.value in
    let fails = subst (λ (h : List ℕ → Option (List ℕ)). FailsFile RefusesFeatures (2 + i) (h name) (given.faults c.loop-index.files) (given.faults c.add_feature_file.new.files) c.in-Err.error)
    c.loop-index.invariant.held c.in-Err.ensures.failed in
    ends_here (given.held c.args.files.now) names i name (omega (arith, count, c.loop-index-test.true)) item c.loop-index.features c.loop-index.invariant.features
    (fails_at (given.held c.args.files.now) (given.faults c.args.files.now) (given.faults c.add_feature_file.new.files) c.in-Err.error)
    (fails_earlier RefusesFeatures (2 + i) (given.held c.args.files.now name) (given.faults c.args.files.now) (given.faults c.loop-index.files) (given.faults c.add_feature_file.new.files)
    c.loop-index.invariant.faults c.in-Err.error fails)

pub loop-index-preserved : goal.loop-index-preserved
loop-index-preserved g c =
    let given = g.F.Files in
    let names = map string_bytes c.args.names.now in
    let i = c.loop-index.index in
    let name = c.as_str.result.now in
    let count : length names ≡ length c.args.names.now = length-map _ _ in
    let item : get_or names i name ≡ name =
    ap (get_or names i) c.as_str.ensures.value ∙ get_or-map string_bytes c.args.names.now i c.index-names-index.result ∙ ap string_bytes (sym c.index-names-index.is) ∙ sym c.as_str.ensures.value in
    let more = c.in-Ok.ensures.ok in
    let holds = subst (λ (h : List ℕ → Option (List ℕ)). Holds AreFeatures (2 + i) (h name) more.0) c.loop-index.invariant.held more.1 in
    let read = next_read (given.held c.args.files.now) names i name (omega (arith, count, c.loop-index-test.true)) item c.loop-index.features c.loop-index.invariant.features more.0 holds in
    record {
      held = c.add_feature_file.ensures.held_stays ∙ c.loop-index.invariant.held;
      may_read = c.add_feature_file.ensures.may_read_stays ∙ c.loop-index.invariant.may_read;
      faults = omega (arith, c.loop-index.invariant.faults, c.add_feature_file.ensures.faults_never_fall);
      features = rw more.2 read;
    }
