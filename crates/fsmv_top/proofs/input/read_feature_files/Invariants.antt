use Rattle.std.proofs.Common.{◌≡◌, ◌≤◌, map, take, string_bytes}
use Rattle.fsmv_top.specs.Input.{HoldFeatures}
use Rattle.fsmv_top.proofs.input.read_feature_files.Given as goal

abbrev pub invariant-loop-index : goal.invariant-loop-index
invariant-loop-index g l =
    let given = g.F.Files in
    record {
      held : given.held l.files ≡ given.held l.fn.files;
      may_read : given.may_read l.files ≡ given.may_read l.fn.files;
      faults : given.faults l.fn.files ≤ given.faults l.files;
      features : HoldFeatures (given.held l.fn.files) 2 (take l.index (map string_bytes l.names)) l.features;
    }
