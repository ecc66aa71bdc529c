use Rattle.std.proofs.Common.{◌≤◌, ℕ, List, Option, map, string_bytes, subst, ◌∙◌, arith}
use Rattle.fsmv_top.specs.Input.{RefusesModel, Holds, IsModel, EndsReading, EndsAmong}
use Rattle.fsmv_top.specs.InputErrors.{FailsFile, fails_at}
use Rattle.fsmv_top.proofs.InputLemmas.{fails_earlier, ends_earlier}
use Rattle.fsmv_top.proofs.input.read_family.Goals as goal

pub returns-in-Err-clause-failed : goal.returns-in-Err-clause-failed
returns-in-Err-clause-failed g c =
    let given = g.F.Files in
    let words = c.args.words in
    let old = c.args.files.now in
    let mid = c.read_base.new.files in
    let new = c.read_feature_model.new.files in
    let fails = subst (λ (h : List ℕ → Option (List ℕ)). FailsFile RefusesModel 1 (h words.model.now) (given.faults mid) (given.faults new) c.in-Err.error) c.read_base.ensures.held_stays c.in-Err.ensures.failed in
    EndsReading.at_model c.in_ok-base.base c.in_ok-base.ensures.ok
    (fails_earlier RefusesModel 1 (given.held old words.model.now) (given.faults old) (given.faults mid) (given.faults new) c.read_base.ensures.faults_never_fall c.in-Err.error fails)

pub returns-in-Err-read_feature_files-clause-failed : goal.returns-in-Err-read_feature_files-clause-failed
returns-in-Err-read_feature_files-clause-failed g c =
    let given = g.F.Files in
    let words = c.args.words in
    let old = c.args.files.now in
    let mid = c.read_feature_model.new.files in
    let new = c.read_feature_files.new.files in
    let names = map string_bytes words.features.now in
    let same = c.read_feature_model.ensures.held_stays ∙ c.read_base.ensures.held_stays in
    let rose : given.faults old ≤ given.faults mid = omega (arith, c.read_base.ensures.faults_never_fall, c.read_feature_model.ensures.faults_never_fall) in
    let model = subst (λ (h : List ℕ → Option (List ℕ)). Holds IsModel 1 (h words.model.now) c.in-Ok.model) c.read_base.ensures.held_stays c.in-Ok.ensures.ok in
    let e = c.in-Err-read_feature_files.error in
    let fails = subst (λ (h : List ℕ → Option (List ℕ)). EndsAmong h 2 names (fails_at h (given.faults mid) (given.faults new) e)) same c.in-Err-read_feature_files.ensures.failed in
    EndsReading.at_features c.in_ok-base.base c.in_ok-base.ensures.ok c.in-Ok.model model
    (ends_earlier (given.held old) names (given.faults old) (given.faults mid) (given.faults new) rose e fails)
