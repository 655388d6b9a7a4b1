use Rattle.std.proofs.Common.{◌≡◌, ◌∙◌, true, false, codes, eqb, drop, ap, sym, subst, refl}
use Rattle.std.specs.List.{starts_with}
use Rattle.std.specs.Str.{IsCharBoundary}
use Rattle.std.proofs.lemmas.Str.Pattern.{starts_text}
use Rattle.cli_convert.proofs.names.bare_uid.Goals as goal

pub returns-in-Some : goal.returns-in-Some
returns-in-Some c =
    let uid = c.args.uid.now in
    let strips = c.in-Some.ensures.cases in
    let starts : true ≡ starts_with eqb uid (codes "urn:uuid:") =
    starts_text true (codes "urn:uuid:") uid (
      strips.0,
      strips.1,
      subst (IsCharBoundary uid) (sym strips.1.0) strips.1.2,
    ) in
    rw (sym starts) (strips.2 ∙ ap (λ n. drop n uid) strips.1.0)

pub returns-in-None : goal.returns-in-None
returns-in-None c =
    let starts : false ≡ starts_with eqb c.args.uid.now (codes "urn:uuid:") =
    starts_text false (codes "urn:uuid:") c.args.uid.now c.in-None.ensures.cases in
    rw (sym starts) refl
