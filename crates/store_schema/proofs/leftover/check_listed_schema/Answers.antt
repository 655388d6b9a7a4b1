use Rattle.std.proofs.Common.{rules, map}
use Rattle.std.proofs.lemmas.List.Sorted.{IsPermutation-refl}
use Rattle.store_tables.specs.Meta.{meta_listed}
use Rattle.store_schema.specs.FoundTables.{database_of}
use Rattle.store_schema.specs.StoredSchema.{IsStoreSchema}
use Rattle.store_schema.proofs.AnswerLemmas.{verified}
use Rattle.store_schema.proofs.leftover.check_listed_schema.Goals as goal

pub returns-in-Ok-clause-answers : goal.returns-in-Ok-clause-answers
returns-in-Ok-clause-answers g c clean =
    let db = database_of c.args.schema.now (g.S.Store.view c.args.store.now).trees in
    let store : IsStoreSchema c.args.schema.now = search rules in
    verified db (map meta_listed (db.trees 0)) c.is_book_schema-keeps.result store
    c.is_book_schema-keeps.ensures (IsPermutation-refl (map meta_listed (db.trees 0)))
    c.in-Ok.stated c.verify.result (c.in-Ok.ensures.number clean) c.verify.ensures
