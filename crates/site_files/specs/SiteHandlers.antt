-- A handler with the files of a site beside it.
use Rattle.std.specs.Prelude.{◌≡◌, ℕ, List, Option, Some, None}
use Rattle.http_requests.specs.HandlerRuns.{HandlerRelation}
use Rattle.http_requests.specs.declared.head.Head.{Head}
use Rattle.site_files.specs.SiteReplies.{site_reply}
use Rattle.site_files.specs.Sites.{SiteFile}

-- a request of the site's gets the site's own reply, and the handler is left as it is; for any other
-- one the step is the handler's
abbrev pub AnswersBeside :
    {State : Type 0} → HandlerRelation State → Option (List ℕ) → State → Head → List ℕ
    → List ℕ → State → Type 0
AnswersBeside does (Some own) old head body reply new = (reply ≡ own) × (new ≡ old)
AnswersBeside does None old head body reply new = does.step old head body reply new

-- The files of a site, and a handler. The handler gets the requests that aren't the site's. No step
-- changes the files, and the site refuses no head.
abbrev pub with_site :
    {State : Type 0} → HandlerRelation State → HandlerRelation (List SiteFile × State)
with_site does = record {
  step = λ old head body reply new.
      (new.0 ≡ old.0)
      × AnswersBeside does (site_reply old.0 head) old.1 head body reply new.1;
  screens = λ now method fields. does.screens now.1 method fields;
}
