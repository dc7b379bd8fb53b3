use Rattle.path_fields.proofs.in_place.set_cursor.Goals as goal

pub returns-clause-byte : goal.returns-clause-byte
returns-clause-byte c = c.put_u8.ensures
