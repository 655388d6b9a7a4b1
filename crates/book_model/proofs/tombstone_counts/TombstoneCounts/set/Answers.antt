use Rattle.std.proofs.Common.{rules, ◌≡◌, OnOk, None, inr, subst, ◌∙◌}
use Rattle.std.specs.FinMap as finite
use Rattle.book_model.proofs.EntryLemmas.{absent_removed, inserted}
use Rattle.book_model.proofs.tombstone_counts.TombstoneCounts.set.Goals as goal

pub returns-in-Ok : goal.returns-in-Ok
returns-in-Ok c =
    let absent : finite.get c.args.self.now c.args.name.now ≡ None = search rules in
    let same : c.replace.new.self ≡ c.args.self.now = search rules in
    let put : OnOk c.insert.result (c.insert.new.self ≡ finite.insert c.replace.new.self
    c.args.name.now c.args.number) =
    subst (λ k. OnOk c.insert.result (c.insert.new.self ≡ finite.insert c.replace.new.self k
    c.args.number)) c.in-Ok.ensures.ok c.insert.ensures.ok in
    inserted c.insert.result c.args.self.now c.replace.new.self c.insert.new.self c.args.name.now
    c.args.number same absent put c.insert.ensures.err

pub returns-in_default : goal.returns-in_default
returns-in_default c =
    let absent : finite.get c.args.self.now c.args.name.now ≡ None = search rules in
    let same : c.replace.new.self ≡ c.args.self.now = search rules in
    inr (same ∙ absent_removed c.args.self.now c.args.name.now absent)
