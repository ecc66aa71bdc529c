use Rattle.fsmv_top.proofs.OneAnswer as laws
use Rattle.fsmv_top.proofs.command.run.Goals as goal

pub returns-in-Err-clause-never_both : goal.returns-in-Err-clause-never_both
returns-in-Err-clause-never_both g c = laws.never_both

pub returns-in-Err-clause-one_text : goal.returns-in-Err-clause-one_text
returns-in-Err-clause-one_text g c = laws.one_text

pub returns-in-Ok-put_lines-clause-never_both : goal.returns-in-Ok-put_lines-clause-never_both
returns-in-Ok-put_lines-clause-never_both g c = laws.never_both

pub returns-in-Ok-put_lines-clause-one_text : goal.returns-in-Ok-put_lines-clause-one_text
returns-in-Ok-put_lines-clause-one_text g c = laws.one_text

pub returns-in-Err-Failed-clause-never_both : goal.returns-in-Err-Failed-clause-never_both
returns-in-Err-Failed-clause-never_both g c = laws.never_both

pub returns-in-Err-Failed-clause-one_text : goal.returns-in-Err-Failed-clause-one_text
returns-in-Err-Failed-clause-one_text g c = laws.one_text

pub returns-clause-never_both : goal.returns-clause-never_both
returns-clause-never_both g c = laws.never_both

pub returns-clause-one_text : goal.returns-clause-one_text
returns-clause-one_text g c = laws.one_text
