use Rattle.book_laws.proofs.DeviceLemmas.{consistent_tokens_are_accepted, consistent_tokens_expire}
use Rattle.book_laws.proofs.devices.consistent_tokens_are_accepted.Goals as goal

pub returns-clause-known : goal.returns-clause-known
returns-clause-known c = consistent_tokens_are_accepted

pub returns-clause-old : goal.returns-clause-old
returns-clause-old c = consistent_tokens_expire
