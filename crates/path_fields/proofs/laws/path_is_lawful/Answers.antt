use Rattle.path_fields.proofs.SegmentLemmas as lemmas
use Rattle.path_fields.proofs.laws.path_is_lawful.Goals as goal

pub returns-clause-path : goal.returns-clause-path
returns-clause-path c = lemmas.lawful

pub returns-clause-len : goal.returns-clause-len
returns-clause-len c = lemmas.text_len
