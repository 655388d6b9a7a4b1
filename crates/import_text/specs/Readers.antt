-- What a reader of text has left.
use Rattle.std.specs.Prelude.{ℕ, List, Option}
use Rattle.import_text.specs.internal.Unread.{source_left}
use Rattle.import_text.specs.declared.reader.TextReader.{TextReader}

-- the octets that the reader will give, where those of the file are known
abbrev pub text_left : {R : Type 0} → (R → Option (List ℕ)) → TextReader R → Option (List ℕ)
text_left remaining text = source_left remaining text.source
