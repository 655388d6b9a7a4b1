use Rattle.std.proofs.Common.{IsTrue}
use Rattle.std.specs.Prelude.{is_some}
use Rattle.std.proofs.lemmas.Result.{IfOk-weaker}
use Rattle.cli_convert.specs.CardFolders.{FillsFolder}
use Rattle.cli_convert.specs.Endings.{is_for_cards}
use Rattle.cli_convert.specs.FileTexts.{texts_of}
use Rattle.cli_convert.proofs.StatusLemmas.{ends, ends_so}
use Rattle.cli_convert.proofs.run.run_convert.Goals as goal

pub returns-clause-printed : goal.returns-clause-printed
returns-clause-printed g c less wants =
    ends c.convert-done.result c.is_some.result (is_some c.args.wanted.photos)
    c.has_lost_media-lost.result c.end.result _ c.is_some.ensures c.end.ensures.ended
    (IfOk-weaker c.convert-done.result _ _ (λ summary does. does.prints wants)
    c.convert-done.ensures) less

pub returns-clause-filled : goal.returns-clause-filled
returns-clause-filled g c less =
    ends_so c.convert-done.result c.is_some.result (is_some c.args.wanted.photos)
    c.has_lost_media-lost.result c.end.result c.args.wanted.folder
    (IsTrue (is_for_cards c.args.wanted))
    (λ folder. FillsFolder (g.F.FileSystem.place c.args.files.now)
    (g.F.FileSystem.written c.args.files.now) folder.now
    (texts_of (g.F.FileSystem.octets c.args.files.now) c.args.wanted))
    c.is_some.ensures c.end.ensures.ended
    (IfOk-weaker c.convert-done.result _ _ (λ summary does. does.fills) c.convert-done.ensures)
    less
