use Rattle.smv_cycles.proofs.check.cycle_fault.Goals as goal

pub path_texts-requires : goal.path_texts-requires
path_texts-requires c = rw c.as_slice.ensures (c.requires.linked)
