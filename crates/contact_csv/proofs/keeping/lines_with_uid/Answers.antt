use Rattle.std.proofs.Common.{◌∷◌, ◌++◌, [], ◌∙◌, ap, sym, subst, string_bytes}
use Rattle.contact_csv.specs.internal.Keeping.{BeginsWithUid}
use Rattle.contact_csv.proofs.KeepLemmas.{begins_more}
use Rattle.contact_csv.proofs.keeping.lines_with_uid.Goals as goal

pub loop-line-preserved : goal.loop-line-preserved
loop-line-preserved c =
    subst (BeginsWithUid (string_bytes c.args.uid)) (sym (c.in_ok-push-2.ensures.ok
    ∙ ap (λ l. c.loop-line.made ++ l ∷ []) c.with_upper_name.ensures))
    (begins_more (string_bytes c.args.uid) c.loop-line.made c.in-Some.line c.loop-line.invariant)
