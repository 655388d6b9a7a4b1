use Rattle.std.proofs.Common.{◌≡◌, ◌∷◌, ◌++◌, ◌∙◌, [], ℕ, List, Option, IfSome, ap, get_or, length, map}
use Rattle.std.proofs.Common.{refl, rules, subst, suc, sym, take, ◌+◌, ◌<◌, arith}
use Rattle.std.proofs.Math.Seq.{take-suc}
use Rattle.std.proofs.lemmas.List.{get_or_default, map-append, take_all}
use Rattle.card_conversion.specs.Courses.{uids_of_all}
use Rattle.cli_convert.proofs.EndLemmas.{all_done, begun, one_more}
use Rattle.cli_convert.proofs.TextLemmas.{parts_more}
use Rattle.cli_convert.specs.Endings.{Converts}
use Rattle.cli_convert.specs.FileTexts.{ArePartsOf, IsPartOf, known_text, more_texts}
use Rattle.cli_convert.proofs.several.convert_all.Goals as goal

pub loop-file-init : goal.loop-file-init
loop-file-init g c whole gives =
    let first = c.in_ok-convert_content.ensures whole gives [] c.new-course.ensures.uids in (
      first.part ∷ [],
      (first.is, tt),
      one_more g.O.CardSink.writes [] first.part c.new-course.result c.convert_content.new.course
          c.args.sink.now c.args.sink.now c.convert_content.new.sink
          (begun g.O.CardSink.writes c.new-course.result c.args.sink.now c.new-course.ensures.uids
          c.new-course.ensures.counts) first.converts,
    )

pub loop-file-preserved : goal.loop-file-preserved
loop-file-preserved g c whole gives =
    let text : List ℕ → Option (List ℕ) = λ path. known_text c.args.wanted.charset
    (g.F.FileSystem.octets c.args.files.now path) in
    let sofar = c.loop-file.invariant whole gives in
    let more = c.in_ok-convert_next.ensures (uids_of_all sofar.0) sofar.2.known in
    let now : List (List ℕ) = c.args.wanted.more.now in
    let next = c.of_file-next.result in
    let path : next.file.now ≡ get_or now c.loop-file.file-index [] = search (rules, get_or_default) in
    let is : IfSome (text (get_or now c.loop-file.file-index [])) (λ known. IsPartOf known more.part) =
    subst (λ charset. IfSome (known_text charset (g.F.FileSystem.octets c.args.files.now
    (get_or now c.loop-file.file-index []))) (λ known. IsPartOf known more.part))
    c.of_file-next.ensures.charset
    (subst (λ at. IfSome (known_text next.charset (g.F.FileSystem.octets c.args.files.now at))
    (λ known. IsPartOf known more.part)) path more.is) in
    let i : ℕ = c.loop-file.file-index in
    let inside : i < length now = search rules in
    let step : i + 1 ≡ suc i = omega arith in
    let one : map text (take (i + 1) now) ≡ map text (take i now)
    ++ text (get_or now i []) ∷ [] =
    ap (map text) (ap (λ n. take n now) step ∙ take-suc now i [] inside)
    ∙ map-append text (take i now) (get_or now i [] ∷ []) in (
      sofar.0 ++ more.part ∷ [],
      subst (λ texts. ArePartsOf (whole ∷ texts) (sofar.0 ++ more.part ∷ [])) (sym one)
          (parts_more (whole ∷ map text (take i now)) sofar.0 (text (get_or now i []))
          more.part sofar.1 is),
      one_more g.O.CardSink.writes sofar.0 more.part c.loop-file.course c.convert_next.new.course
          c.args.sink.now c.loop-file.sink c.convert_next.new.sink sofar.2 more.converts,
    )

pub returns : goal.returns
returns g c whole gives =
    let text : List ℕ → Option (List ℕ) = λ path. known_text c.args.wanted.charset
    (g.F.FileSystem.octets c.args.files.now path) in
    let sofar = c.loop-file.invariant whole gives in
    let all : c.loop-file.file-index ≡ length c.args.wanted.more.now = search rules in
    let same : map text (take c.loop-file.file-index c.args.wanted.more.now)
    ≡ more_texts (g.F.FileSystem.octets c.args.files.now) c.args.wanted =
    ap (map text) (ap (λ n. take n c.args.wanted.more.now) all
    ∙ take_all (length c.args.wanted.more.now) c.args.wanted.more.now (omega arith)) in
    subst (Converts g.O.CardSink.writes
    (whole ∷ more_texts (g.F.FileSystem.octets c.args.files.now) c.args.wanted) c.args.sink.now
    c.loop-file.sink) (sym c.summary.ensures)
    (all_done g.O.CardSink.writes sofar.0
    (whole ∷ more_texts (g.F.FileSystem.octets c.args.files.now) c.args.wanted)
    c.loop-file.course c.args.sink.now c.loop-file.sink
    (subst (λ texts. ArePartsOf (whole ∷ texts) sofar.0) same sofar.1) sofar.2)
