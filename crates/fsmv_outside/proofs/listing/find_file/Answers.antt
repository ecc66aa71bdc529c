use Rattle.std.proofs.Common.{◌∙◌, sym, arith, ◌≡◌, ◌<◌, true, false, length}
use Rattle.std.proofs.Math.ListN.{drop_of_length-le}
use Rattle.std.specs.Prelude.{string_bytes}
use Rattle.std.specs.Str.{bytes_eq}
use Rattle.fsmv_outside.proofs.FileLookup.{content_of_other, content_of_same, content_of_short}
use Rattle.fsmv_outside.proofs.listing.find_file.Goals as goal

pub loop-held-preserved : goal.loop-held-preserved
loop-held-preserved c =
    let inside : c.loop-held.held-index < length c.args.files.now = omega arith in
    let other : bytes_eq (string_bytes c.loop-held-item.result.0) c.args.name.now ≡ false = cc in
    sym (content_of_other c.args.files.now c.loop-held.held-index c.loop-held-item.result c.args.name.now inside c.loop-held-item.is other)
    ∙ c.loop-held.invariant

pub returns-then-eq-clause-first : goal.returns-then-eq-clause-first
returns-then-eq-clause-first c =
    let inside : c.loop-held.held-index < length c.args.files.now = omega arith in
    let same : bytes_eq (string_bytes c.loop-held-item.result.0) c.args.name.now ≡ true = cc in
    let found = content_of_same c.args.files.now c.loop-held.held-index c.loop-held-item.result c.args.name.now inside c.loop-held-item.is same in
    rw c.as_slice.ensures.value (sym found ∙ c.loop-held.invariant)

pub returns-clause-first : goal.returns-clause-first
returns-clause-first c =
    rw (drop_of_length-le c.args.files.now c.loop-held-test.false) at c.loop-held.invariant

pub returns-then-eq-clause-short : goal.returns-then-eq-clause-short
returns-then-eq-clause-short c = content_of_short c.args.files.now c.args.name.now

pub returns-clause-short : goal.returns-clause-short
returns-clause-short c = content_of_short c.args.files.now c.args.name.now
