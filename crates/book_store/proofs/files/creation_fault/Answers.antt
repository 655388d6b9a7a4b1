use Rattle.std.proofs.Common.{inl, inr, subst, sym, ◌∙◌, true≢false}
use Rattle.sqlite.specs.declared.error.Error.TheVariants.{SqliteFailure}
use Rattle.sqlite.specs.declared.error.ErrorCode.TheVariants.{NotADatabase}
use Rattle.store_schema.specs.FileFaults.{HasNoStore, IsLeftOf}
use Rattle.book_store.proofs.RefusalLemmas.{empty_creation, full_creation, load_creation}
use Rattle.book_store.proofs.RefusalLemmas.{unopened_creation}
use Rattle.book_store.proofs.files.creation_fault.Goals as goal

pub returns-in-Files-clause-fault : goal.returns-in-Files-clause-fault
returns-in-Files-clause-fault g c files is =
    unopened_creation files c.args.left.now (elim c.in-Files.is [
      | inl e ↦ subst HasNoStore (sym e.1) tt
      | inr e ↦ subst HasNoStore (sym e.1) tt
    ]) is

pub returns-in-Files-2-clause-fault : goal.returns-in-Files-2-clause-fault
returns-in-Files-2-clause-fault g c files is =
    unopened_creation files c.args.left.now (elim c.in-Files.is [
      | inl e ↦
          subst HasNoStore (sym e.1) tt
      | inr e ↦ subst HasNoStore (sym e.1) tt
    ]) is

pub returns-then-is_schema_empty-clause-fault : goal.returns-then-is_schema_empty-clause-fault
returns-then-is_schema_empty-clause-fault g c files is =
    empty_creation files c.in-Store.store c.load_schema.new.store c.load_schema.ensures.quiet
    (subst (IsLeftOf files (SqliteFailure NotADatabase)) c.in-Store.is is) c.in-Ok.schema
    c.in-Ok.ensures.loads (c.is_schema_empty.ensures.0 c.if-is_schema_empty.true)

pub returns-in-Ok-clause-fault : goal.returns-in-Ok-clause-fault
returns-in-Ok-clause-fault g c files is =
    full_creation files c.in-Store.store c.load_schema.new.store c.load_schema.ensures.quiet
    (subst (IsLeftOf files (SqliteFailure NotADatabase)) c.in-Store.is is) c.in-Ok.schema
    c.in-Ok.ensures.loads (λ empty. true≢false (sym (c.is_schema_empty.ensures.1 empty)
    ∙ c.if-is_schema_empty.false))

pub returns-clause-fault : goal.returns-clause-fault
returns-clause-fault g c files is =
    load_creation files c.in-Store.store c.load_schema.new.store c.load_schema.ensures.quiet
    (subst (IsLeftOf files (SqliteFailure NotADatabase)) c.in-Store.is is) c.in-Err.fault
    c.in-Err.ensures.fault c.in-Err.ensures.loads
