use Rattle.cli_convert.proofs.FolderLemmas.{made_of}
use Rattle.cli_convert.specs.CardFolders.{IsCardFile}
use Rattle.cli_convert.proofs.run.convert_to_card_files.Goals as goal

pub returns : goal.returns
returns g c whole gives =
    let does = c.in_ok-summary.ensures whole gives in record {
      parts = does.parts;
      are = does.are;
      fates = does.fates;
      counts = does.counts;
      made = made_of (λ sink card. IsCardFile (g.F.FileSystem.place sink.files.now)
          (g.F.FileSystem.written sink.files.now) sink.folder.now card) _ _ _ _ does;
    }
