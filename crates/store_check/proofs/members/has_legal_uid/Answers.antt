use Rattle.store_check.proofs.members.has_legal_uid.Goals as goal

pub returns : goal.returns
returns c = rw c.text_at.ensures at c.is_uid_text.ensures
